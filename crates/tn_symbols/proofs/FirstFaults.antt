-- What is wrong first with the names of modules.
use Rattle.std.proofs.Common.{◌≡◌, ℕ, ◌+◌, ◌<◌, ◌≤◌, inl, inr, Bool, true, false, List, [], length, get_or, take, Option, Some, None}
use Rattle.std.proofs.Common.{is_some, refl, sym, ap, ◌∙◌, subst, arith, if◌then◌else◌}
use Rattle.std.specs.Prelude.{slice_get, option_and_then}
use Rattle.std.proofs.lemmas.Bool.{cases_lt}
use Rattle.std.proofs.lemmas.List.{get_or_past, get_or_read}
use Rattle.std.proofs.lemmas.Option.{none-some, slice_get_read, slice_get_past}
use Rattle.tn_module.specs.declared.modules.Import.{Import}
use Rattle.tn_module.specs.Modules.{Parts}
use Rattle.tn_module.specs.Names.{is_among}
use Rattle.tn_symbols.specs.declared.choices.Definition.{Definition}
use Rattle.tn_symbols.specs.declared.choices.ChooseFault.{ChooseFault}
use Rattle.tn_symbols.specs.declared.choices.ChooseFault.TheVariants.{Undefined, Duplicate, WrongKind, NoMemory}
use Rattle.tn_symbols.specs.Choices.{exported, module_at}
use Rattle.tn_symbols.specs.Definitions.{definition_of, same_kind, IsDefined, AreDefined}
use Rattle.tn_symbols.specs.Faults.{Site, ExportAt, ImportAt, import_fault, fault_at, IsBefore, IsWrong, AreSound, IsFirstFault, IfFault}
use Rattle.tn_symbols.specs.Inner.Searches.{IsFirstIn, NoneAt, AllNone, IsFound}
use Rattle.tn_symbols.proofs.Exporting.{defined-some}

abbrev none : Parts
none = record { name = []; imports = []; exports = []; items = []; cells = [] }

-- ---- one list

module _ {X : Type 0} (f : X → Option ChooseFault) (xs : List X) where
  pub at-read : (i : ℕ) (x : X) → i < length xs → x ≡ get_or xs i x → option_and_then f (slice_get xs i) ≡ f x
  at-read i x h is = ap (option_and_then f) (slice_get_read xs (length xs) i x refl h is)

  pub at-past : (i : ℕ) → length xs ≤ i → option_and_then f (slice_get xs i) ≡ None
  at-past i h = ap (option_and_then f) (slice_get_past xs i h)

-- nothing is wrong below a place, nor from there on
pub none-at : (at : ℕ → Option ChooseFault) (n : ℕ) → ((i : ℕ) → i < n → at i ≡ None) → ((i : ℕ) → n ≤ i → at i ≡ None) → NoneAt at
none-at at n below past i = elim (cases_lt i n) [ inl l ↦ below i l | inr h ↦ past i h ]

pub found-same : (at these : ℕ → Option ChooseFault) → ((i : ℕ) → at i ≡ these i) → (r : Option ChooseFault) → IsFound at r
    → IsFound these r
found-same at these same None h = λ i. sym (same i) ∙ h i
found-same at these same (Some fault) h =
    record { index = h.index; here = sym (same h.index) ∙ h.here; before = λ i l. sym (same i) ∙ h.before i l }

-- ---- all lists

module _ (at : ℕ → ℕ → Option ChooseFault) (m : ℕ) (below : (k i : ℕ) → k < m → at k i ≡ None) where
  pub first-in : (r : Option ChooseFault) (fault : ChooseFault) → r ≡ Some fault → IsFound (at m) r → IsFirstIn at fault
  first-in r fault is h = record { place = m; first = subst (IsFound (at m)) is h; before = below }

  pub none-more : (r : Option ChooseFault) → r ≡ None → IsFound (at m) r → (k i : ℕ) → k < m + 1 → at k i ≡ None
  none-more r is h k i l = elim (cases_lt k m) [
    | inl b ↦ below k i b
    | inr over ↦ (let same : m ≡ k = omega arith in let all : NoneAt (at m) = subst (IsFound (at m)) is h in ap (λ j. at j i) (sym same)
        ∙ all i)
  ]

  pub none-in : ((k i : ℕ) → m ≤ k → at k i ≡ None) → AllNone at
  none-in past k i = elim (cases_lt k m) [ inl l ↦ below k i l | inr h ↦ past k i h ]

module _ (modules : List Parts) where
  -- behind the modules nothing is wrong
  pub exports-past : (m i : ℕ) → length modules ≤ m → fault_at modules (ExportAt m i) ≡ None
  exports-past m i h = at-past _ (module_at modules m).exports i
      (subst (λ x. length x.exports ≤ i) (sym (get_or_past modules m none h)) (omega arith))

  pub imports-past : (m i : ℕ) → length modules ≤ m → fault_at modules (ImportAt m i) ≡ None
  imports-past m i h = at-past _ (module_at modules m).imports i
      (subst (λ x. length x.imports ≤ i) (sym (get_or_past modules m none h)) (omega arith))

  -- exports and imports by what the code knows of names
  pub exports-same : (m : ℕ) (exports : List (List ℕ)) (known : List ℕ → Option Definition) → exports ≡ (module_at modules m).exports
      → ((name : List ℕ) → known name ≡ definition_of (take m modules) name) → (i : ℕ)
      → option_and_then (λ name. if is_some (known name) then Some (Duplicate m i) else None) (slice_get exports i)
      ≡ fault_at modules (ExportAt m i)
  exports-same m exports known is knows i =
      ap (λ l. option_and_then (λ name. if is_some (known name) then Some (Duplicate m i) else None) (slice_get l i)) is
      ∙ by (slice_get (module_at modules m).exports i)
    where
      by : (o : Option (List ℕ)) → option_and_then (λ name. if is_some (known name) then Some (Duplicate m i) else None) o
          ≡ option_and_then (λ name. if is_among (exported (take m modules)) name then Some (Duplicate m i) else None) o
      by None = refl
      by (Some name) =
          ap (λ b. if b then Some (Duplicate m i) else None) (ap is_some (knows name) ∙ defined-some (take m modules) name)

  pub imports-same : (m : ℕ) (imports : List Import) (known : List ℕ → Option Definition) → imports ≡ (module_at modules m).imports
      → ((name : List ℕ) → known name ≡ definition_of modules name) → (i : ℕ)
      → option_and_then (λ import. import_fault m i import.kind (known import.name)) (slice_get imports i) ≡ fault_at modules (ImportAt m i)
  imports-same m imports known is knows i =
      ap (λ l. option_and_then (λ import. import_fault m i import.kind (known import.name)) (slice_get l i)) is
      ∙ by (slice_get (module_at modules m).imports i)
    where
      by : (o : Option Import) → option_and_then (λ import. import_fault m i import.kind (known import.name)) o
          ≡ option_and_then (λ import. import_fault m i import.kind (definition_of modules import.name)) o
      by None = refl
      by (Some import) = ap (import_fault m i import.kind) (knows import.name)

  -- the first fault of exports is the first, and where there is none the first of imports is
  pub first-export : (fault : ChooseFault) → IsFirstIn (λ m i. fault_at modules (ExportAt m i)) fault → IsFirstFault modules fault
  first-export fault f = record { site = ExportAt f.place f.first.index; first = record { wrong = f.first.here; before = before } }
    where
      before : (p : Site) (c : ChooseFault) → IsBefore p (ExportAt f.place f.first.index) → IsWrong modules p c → ⊥
      before (ExportAt m i) c (inl h) w = omega arith
      before (ExportAt m i) c (inr (e, inl h)) w = none-some c (sym (f.before m i h) ∙ w)
      before (ExportAt m i) c (inr (e, inr (same, h))) w =
          none-some c (sym (ap (λ m. fault_at modules (ExportAt m i)) same ∙ f.first.before i h) ∙ w)
      before (ImportAt m i) c (inl h) w = omega arith
      before (ImportAt m i) c (inr (e, h)) w = omega arith

  module _ (exports : AllNone (λ m i. fault_at modules (ExportAt m i))) where
    pub first-import : (fault : ChooseFault) → IsFirstIn (λ m i. fault_at modules (ImportAt m i)) fault → IsFirstFault modules fault
    first-import fault f = record { site = ImportAt f.place f.first.index; first = record { wrong = f.first.here; before = before } }
      where
        before : (p : Site) (c : ChooseFault) → IsBefore p (ImportAt f.place f.first.index) → IsWrong modules p c → ⊥
        before (ExportAt m i) c h w = none-some c (sym (exports m i) ∙ w)
        before (ImportAt m i) c (inl h) w = omega arith
        before (ImportAt m i) c (inr (e, inl h)) w = none-some c (sym (f.before m i h) ∙ w)
        before (ImportAt m i) c (inr (e, inr (same, h))) w =
            none-some c (sym (ap (λ m. fault_at modules (ImportAt m i)) same ∙ f.first.before i h) ∙ w)

    pub all-sound : AllNone (λ m i. fault_at modules (ImportAt m i)) → AreSound modules
    all-sound imports (ExportAt m i) c w = none-some c (sym (exports m i) ∙ w)
    all-sound imports (ImportAt m i) c w = none-some c (sym (imports m i) ∙ w)

  pub all-defined : AllNone (λ m i. fault_at modules (ImportAt m i)) → AreDefined modules
  all-defined imports m i import h at = by (definition_of modules import.name) refl
      (sym (ap (option_and_then (λ import. import_fault m i import.kind (definition_of modules import.name))) at) ∙ imports m i)
    where
      right : (d : Definition) (b : Bool) → (if b then None else Some (WrongKind m i)) ≡ None → b ≡ true
      right d true e = refl
      right d false e = absurd (none-some (WrongKind m i) (sym e))

      by : (o : Option Definition) → definition_of modules import.name ≡ o → import_fault m i import.kind o ≡ None
          → IsDefined modules import
      by None is e = absurd (none-some (Undefined m i) (sym e))
      by (Some d) is e = record { definition = d; found = is; kind = right d (same_kind d.kind import.kind) e }

pub if-fault : {P Q : ChooseFault → Type 0} (fault : ChooseFault) → ((f : ChooseFault) → P f → Q f) → IfFault fault P → IfFault fault Q
if-fault (Undefined m i) h p = h (Undefined m i) p
if-fault (Duplicate m i) h p = h (Duplicate m i) p
if-fault (WrongKind m i) h p = h (WrongKind m i) p
if-fault NoMemory h p = tt

pub fault-if : (P : ChooseFault → Type 0) (fault : ChooseFault) → P fault → IfFault fault P
fault-if P (Undefined m i) p = p
fault-if P (Duplicate m i) p = p
fault-if P (WrongKind m i) p = p
fault-if P NoMemory p = tt

-- the part of the module at a place of the list
pub part-at : {X : Type 0} (f : Parts → X) (modules : List Parts) (m : ℕ) (y x : Parts) → m < length modules → x ≡ get_or modules m x → y
    ≡ x
    → f y ≡ f (module_at modules m)
part-at f modules m y x h is same = ap f (same ∙ get_or_read modules m x h is none)
