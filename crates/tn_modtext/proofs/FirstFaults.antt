-- The first fault of a module, found along its places.
use Rattle.std.proofs.Common.{◌≡◌, ℕ, zero, suc, ◌+◌, ◌<◌, ◌≤◌, ◌⊎◌, inl, inr, length, Option, Some, None, refl, sym, ap, ◌∙◌}
use Rattle.std.proofs.Common.{subst, arith}
use Rattle.std.specs.Prelude.{option_map}
use Rattle.std.specs.Option.{option_or}
use Rattle.std.proofs.lemmas.Bool.{cases_lt}
use Rattle.std.proofs.lemmas.Option.{none-some, same_Some}
use Rattle.tn_text.specs.declared.faults.Cause.{Cause}
use Rattle.tn_module.specs.declared.faults.Place.{Place}
use Rattle.tn_module.specs.declared.faults.Place.TheVariants as place
use Rattle.tn_module.specs.declared.faults.ModuleFault.{ModuleFault}
use Rattle.tn_module.specs.Modules.{Parts}
use Rattle.tn_module.specs.Faults.{cause_at, IsFirstFault}
use Rattle.tn_module.specs.Validity.{IsValid}
use Rattle.tn_module.specs.Inner.Sets.{IsSound, AreSound, IsFirstIn}
use Rattle.tn_module.proofs.Places.{imports_sound, exports_sound, items_sound, cells_sound}
use Rattle.tn_module.proofs.Order.{first_import, first_export, first_item, first_cell, all_sound}
use Rattle.tn_module.proofs.OneFirst.{one_first_fault}
use Rattle.tn_module.proofs.Laws.{valid_from_sound, invalid_at_fault}
use Rattle.tn_modtext.specs.ModuleReading.{first_from, fault_at_place, first_among, first_fault}

module _ (cause : ℕ → Option Cause) where
  none_from : (i n : ℕ) → first_from cause i n ≡ None → (k : ℕ) → i ≤ k → k < i + n → cause k ≡ None
  unfolding first_from
  none_from i zero e k low high = absurd (omega (arith, low, high))
  none_from i (suc n) e k low high = at (none_from (i + 1) n) (cause i) refl e (cases_lt i k)
    where
      at : (first_from cause (i + 1) n ≡ None → (k : ℕ) → i + 1 ≤ k → k < (i + 1) + n → cause k ≡ None)
          → (o : Option Cause) → cause i ≡ o → option_or (option_map (λ c. (i, c)) o) (first_from cause (i + 1) n) ≡ None
          → (i < k) ⊎ (k ≤ i) → cause k ≡ None
      at rest (Some c) is q s = absurd cc
      at rest None is q (inl later) = rest q k (omega (arith, later)) (omega (arith, high))
      at rest None is q (inr here) = let same : i ≡ k = omega (arith, low, here) in ap cause (sym same) ∙ is

  record IsFirstFrom (i k : ℕ) (c : Cause) : Type 0 where
    low : i ≤ k
    here : cause k ≡ Some c
    before : (j : ℕ) → i ≤ j → j < k → cause j ≡ None

  some_from : (i n : ℕ) (k : ℕ) (c : Cause) → first_from cause i n ≡ Some (k, c) → IsFirstFrom i k c
  unfolding first_from
  some_from i zero k c e = absurd cc
  some_from i (suc n) k c e = at (some_from (i + 1) n k c) (cause i) refl e
    where
      at : (first_from cause (i + 1) n ≡ Some (k, c) → IsFirstFrom (i + 1) k c) → (o : Option Cause) → cause i ≡ o
          → option_or (option_map (λ c. (i, c)) o) (first_from cause (i + 1) n) ≡ Some (k, c) → IsFirstFrom i k c
      at later (Some d) is q =
          let both : (i, d) ≡ (k, c) = same_Some (i, d) (k, c) q in
          let number : i ≡ k = ap (λ (p : ℕ × Cause). p.0) both in
          let same : d ≡ c = ap (λ (p : ℕ × Cause). p.1) both in
          record {
            low = omega (arith, number);
            here = ap cause (sym number) ∙ (is ∙ ap Some same);
            before = λ j low high. absurd (omega (arith, number, low, high));
          }
      at later None is q =
          let rest = later q in
          record {
            low = omega (arith, rest.low);
            here = rest.here;
            before = λ j low high. elim (cases_lt i j) [
              | inl above ↦ rest.before j (omega (arith, above)) high
              | inr here ↦ let same : i ≡ j = omega (arith, low, here) in ap cause (sym same) ∙ is
            ];
          }

-- ---- in one list of a module

module _ (m : Parts) (at : ℕ → Place) where
  abbrev cause_in : ℕ → Option Cause
  cause_in i = cause_at m (at i)

  abbrev fault_of : ℕ × Cause → ModuleFault
  fault_of f = fault_at_place (at f.0) f.1

  none_among : (n : ℕ) → first_among m at n ≡ None → (k : ℕ) → k < n → cause_at m (at k) ≡ None
  none_among n e k within = none_from cause_in 0 n (nothing (first_from cause_in 0 n) e) k (omega arith) (omega (arith, within))
    where
      nothing : (o : Option (ℕ × Cause)) → option_map fault_of o ≡ None → o ≡ None
      nothing None q = refl
      nothing (Some x) q = absurd cc

  some_among : (n : ℕ) (f : ModuleFault) → first_among m at n ≡ Some f → IsFirstIn at m f
  some_among n f e = by (first_from cause_in 0 n) refl e
    where
      by : (o : Option (ℕ × Cause)) → first_from cause_in 0 n ≡ o → option_map fault_of o ≡ Some f → IsFirstIn at m f
      by None is q = absurd cc
      by (Some (k, c)) is q =
          let first = some_from cause_in 0 n k c is in
          let same : fault_at_place (at k) c ≡ f = same_Some (fault_at_place (at k) c) f q in
          record {
            index = k;
            placed = sym (ap (λ (g : ModuleFault). g.place) same);
            here = first.here ∙ ap (λ (g : ModuleFault). Some (record { code = g.code; detail = g.detail })) same;
            before = λ i below. first.before i (omega arith) below;
          }

-- ---- in a module

-- the fault that was found is the module's first, or nothing is wrong in it
abbrev IsFound : Parts → Option ModuleFault → Type 0
IsFound m None = IsSound m
IsFound m (Some f) = IsFirstFault m f

module _ (m : Parts) where
  abbrev exported : Option ModuleFault
  exported = first_among m place.Export (length m.exports)

  abbrev coded : Option ModuleFault
  coded = first_among m place.Item (length m.items)

  abbrev celled : Option ModuleFault
  celled = first_among m place.Cell (length m.cells)

pub first_found : (m : Parts) → IsFound m (first_fault m)
unfolding first_fault
first_found m = imports (first_among m place.Import (length m.imports)) refl
  where
    cells : AreSound place.Import m → AreSound place.Export m → AreSound place.Item m → (o : Option ModuleFault) → (celled m) ≡ o
        → IsFound m o
    cells a b c (Some f) is = first_cell m a b c f (some_among m place.Cell (length m.cells) f is)
    cells a b c None is = all_sound m a b c (cells_sound m (length m.cells) (omega arith) (none_among m place.Cell (length m.cells) is))

    items : AreSound place.Import m → AreSound place.Export m → (o : Option ModuleFault) → (coded m) ≡ o → IsFound m
        (option_or o (celled m))
    items a b (Some f) is = first_item m a b f (some_among m place.Item (length m.items) f is)
    items a b None is = cells a b (items_sound m (length m.items) (omega arith) (none_among m place.Item (length m.items) is))
        (celled m) refl

    exports : AreSound place.Import m → (o : Option ModuleFault) → (exported m) ≡ o → IsFound m
        (option_or o (option_or (coded m) (celled m)))
    exports a (Some f) is = first_export m a f (some_among m place.Export (length m.exports) f is)
    exports a None is = items a (exports_sound m (length m.exports) (omega arith) (none_among m place.Export (length m.exports) is))
        (coded m) refl

    imports : (o : Option ModuleFault) → first_among m place.Import (length m.imports) ≡ o
        → IsFound m (option_or o (option_or (exported m) (option_or (coded m) (celled m))))
    imports (Some f) is = first_import m f (some_among m place.Import (length m.imports) f is)
    imports None is = exports (imports_sound m (length m.imports) (omega arith) (none_among m place.Import (length m.imports) is))
        (exported m) refl

-- a valid module has no fault, and the fault of another is found
pub none-valid : (m : Parts) → IsValid m → first_fault m ≡ None
none-valid m v = at (first_fault m) refl (first_found m)
  where
    at : (o : Option ModuleFault) → first_fault m ≡ o → IsFound m o → first_fault m ≡ None
    at None is f = is
    at (Some g) is f = absurd (invalid_at_fault m g f v)

pub valid-none : (m : Parts) → first_fault m ≡ None → IsValid m
valid-none m e = valid_from_sound m (subst (IsFound m) e (first_found m))

pub some-first : (m : Parts) (f : ModuleFault) → IsFirstFault m f → first_fault m ≡ Some f
some-first m f first = at (first_fault m) refl (first_found m)
  where
    at : (o : Option ModuleFault) → first_fault m ≡ o → IsFound m o → first_fault m ≡ Some f
    at None is sound = absurd (none-some (record { code = f.code; detail = f.detail }) (sym (sound f.place) ∙ first.wrong))
    at (Some g) is h = is ∙ ap Some (one_first_fault m g f h first)

pub first-some : (m : Parts) (f : ModuleFault) → first_fault m ≡ Some f → IsFirstFault m f
first-some m f e = subst (IsFound m) e (first_found m)
