-- What is wrong at the places of a list, one after the other.
use Rattle.std.proofs.Common.{◌≡◌, ℕ, ◌+◌, ◌<◌, ◌≤◌, inl, inr, Bool, true, false, not, List, [], ◌∷◌, ◌++◌, length, get_or, take, take_all, Option, None}
use Rattle.std.proofs.Common.{Some, refl, sym, ap, ◌∙◌, subst, append_assoc, arith}
use Rattle.std.specs.Prelude.{slice_get, option_and_then}
use Rattle.std.proofs.lemmas.List.{take_more, map-append}
use Rattle.std.specs.List.{All}
use Rattle.std.proofs.lemmas.List.Elements.{filter_map-append, All-more}
use Rattle.std.proofs.lemmas.Bool.{cases_lt}
use Rattle.std.proofs.lemmas.Option.{slice_get_read, slice_get_past, none-some}
use Rattle.tn_text.specs.declared.faults.Cause.{Cause}
use Rattle.tn_text.specs.declared.faults.FaultCode.TheVariants.{DuplicateName, NoSuchName, Misaligned}
use Rattle.tn_module.specs.declared.faults.Place.{Place}
use Rattle.tn_module.specs.declared.faults.Place.TheVariants as place
use Rattle.tn_module.specs.declared.faults.CheckFault.{CheckFault}
use Rattle.tn_module.specs.declared.faults.CheckFault.TheVariants as check
use Rattle.tn_module.specs.declared.modules.Import.{Import}
use Rattle.tn_module.specs.declared.modules.Item.{Item}
use Rattle.tn_module.specs.declared.modules.Item.TheVariants as item
use Rattle.tn_module.specs.declared.modules.Cell.{Cell}
use Rattle.tn_module.specs.declared.modules.Cell.TheVariants as cell
use Rattle.tn_module.specs.Modules.{Parts}
use Rattle.tn_module.specs.Names.{import_names, code_label, code_labels, cell_label, cell_labels}
use Rattle.tn_text.specs.Firsts.{first_cause}
use Rattle.tn_module.specs.Faults.{Known, known, named, again, import_causes, export_causes, item_causes, cell_causes, cause_at, IfFault}
use Rattle.tn_module.specs.Inner.Sets.{HaveSameNames, AreSound, IsFirstIn}
use Rattle.tn_module.proofs.NameLists.{same-then}

-- ---- the names that are seen

grown : {X : Type 0} (h : List X → List (List ℕ)) → ((xs ys : List X) → h (xs ++ ys) ≡ h xs ++ h ys)
    → (outer seen new : List (List ℕ)) (xs : List X) (i : ℕ) (x : X) → i < length xs → x ≡ get_or xs i x
    → HaveSameNames seen (outer ++ h (take i xs)) → HaveSameNames new (seen ++ h (x ∷ []))
    → HaveSameNames new (outer ++ h (take (i + 1) xs))
grown h splits outer seen new xs i x l is a b =
    subst (HaveSameNames new)
    (append_assoc outer (h (take i xs)) (h (x ∷ []))
    ∙ ap (λ ns. outer ++ ns) (sym (splits (take i xs) (x ∷ [])) ∙ ap (λ y. h (take i xs ++ y ∷ [])) is ∙ ap h (sym (take_more xs i x l))))
    (same-then seen (outer ++ h (take i xs)) new (h (x ∷ [])) a b)

pub names_grown : (outer seen new xs : List (List ℕ)) (i : ℕ) (x : List ℕ) → i < length xs → x ≡ get_or xs i x
    → HaveSameNames seen (outer ++ take i xs) → HaveSameNames new (seen ++ x ∷ []) → HaveSameNames new (outer ++ take (i + 1) xs)
names_grown outer seen new xs i x l is a b = grown (λ xs. xs) (λ xs ys. refl) outer seen new xs i x l is a b

pub imports_grown : (seen new : List (List ℕ)) (xs : List Import) (i : ℕ) (x : Import) → i < length xs → x ≡ get_or xs i x
    → HaveSameNames seen (import_names (take i xs)) → HaveSameNames new (seen ++ x.name ∷ [])
    → HaveSameNames new (import_names (take (i + 1) xs))
imports_grown seen new xs i x l is a b =
    grown import_names (λ xs ys. map-append (λ (import : Import). import.name) xs ys) [] seen new xs i x l is a b

pub exports_grown : (seen new xs : List (List ℕ)) (i : ℕ) (x : List ℕ) → i < length xs → x ≡ get_or xs i x
    → HaveSameNames seen (take i xs) → HaveSameNames new (seen ++ x ∷ []) → HaveSameNames new (take (i + 1) xs)
exports_grown seen new xs i x l is a b = grown (λ xs. xs) (λ xs ys. refl) [] seen new xs i x l is a b

pub items_grown : (outer seen new : List (List ℕ)) (xs : List Item) (i : ℕ) (x : Item) → i < length xs → x ≡ get_or xs i x
    → HaveSameNames seen (outer ++ code_labels (take i xs)) → HaveSameNames new (seen ++ code_labels (x ∷ []))
    → HaveSameNames new (outer ++ code_labels (take (i + 1) xs))
items_grown outer seen new xs i x l is a b = grown code_labels (filter_map-append code_label) outer seen new xs i x l is a b

pub cells_grown : (outer seen new : List (List ℕ)) (xs : List Cell) (i : ℕ) (x : Cell) → i < length xs → x ≡ get_or xs i x
    → HaveSameNames seen (outer ++ cell_labels (take i xs)) → HaveSameNames new (seen ++ cell_labels (x ∷ []))
    → HaveSameNames new (outer ++ cell_labels (take (i + 1) xs))
cells_grown outer seen new xs i x l is a b = grown cell_labels (filter_map-append cell_label) outer seen new xs i x l is a b

-- ---- what is wrong at a place

here : {X : Type 0} (f : X → Option Cause) (xs : List X) (i : ℕ) (x : X) → i < length xs → x ≡ get_or xs i x
    → option_and_then f (slice_get xs i) ≡ f x
here f xs i x l is = ap (option_and_then f) (slice_get_read xs (length xs) i x refl l is)

again-same : (seen before : List (List ℕ)) (n : List ℕ) (others : List (Bool × Cause)) → HaveSameNames seen before
    → first_cause (again seen n ∷ others) ≡ first_cause (again before n ∷ others)
again-same seen before n others h = ap (λ b. first_cause ((b, named DuplicateName n) ∷ others)) (h.same n)

item-same : (k : Known) (seen before : List (List ℕ)) (x : Item) → HaveSameNames seen before
    → first_cause (item_causes k seen x) ≡ first_cause (item_causes k before x)
item-same k seen before (item.Direct f o) h = refl
item-same k seen before (item.Plain op) h = refl
item-same k seen before (item.Byte b) h = refl
item-same k seen before (item.Label n) h = again-same seen before n [] h

cell-same : (k : Known) (seen before : List (List ℕ)) (x : Cell) → HaveSameNames seen before
    → first_cause (cell_causes k seen x) ≡ first_cause (cell_causes k before x)
cell-same k seen before (cell.Word w) h = refl
cell-same k seen before (cell.Address n) h = refl
cell-same k seen before (cell.Byte b) h = refl
cell-same k seen before (cell.Space n) h = refl
cell-same k seen before cell.Align h = refl
cell-same k seen before (cell.Label n) h = again-same seen before n [] h

-- behind a test that gives nothing the others stand first
pub behind_none : (test : Bool) (cause : Cause) (found : Option Cause) (others : List (Bool × Cause))
    → found ≡ first_cause ((test, cause) ∷ []) → found ≡ None → first_cause others ≡ first_cause ((test, cause) ∷ others)
behind_none true cause found others is none = absurd (none-some cause (sym none ∙ is))
behind_none false cause found others is none = refl

module _ (m : Parts) (seen : List (List ℕ)) (i : ℕ) (found : Option Cause) where
  pub at_import : (x : Import) → i < length m.imports → x ≡ get_or m.imports i x → HaveSameNames seen (import_names (take i m.imports))
      → found ≡ first_cause (again seen x.name ∷ []) → cause_at m (place.Import i) ≡ found
  unfolding cause_at
  at_import x l is same e =
      here (λ x. first_cause (import_causes (import_names (take i m.imports)) x)) m.imports i x l is
      ∙ sym (again-same seen (import_names (take i m.imports)) x.name [] same) ∙ sym e

  module _ (k : Known) (knows : k ≡ known m) where
    pub at_export : (x : List ℕ) → i < length m.exports → x ≡ get_or m.exports i x → HaveSameNames seen (take i m.exports)
        → found ≡ first_cause (export_causes k seen x) → cause_at m (place.Export i) ≡ found
    unfolding cause_at
    at_export x l is same e =
        here (λ x. first_cause (export_causes (known m) (take i m.exports) x)) m.exports i x l is
        ∙ sym (again-same seen (take i m.exports) x
        ((not ((known m).label x), named NoSuchName x) ∷ ((known m).misaligned x, named Misaligned x) ∷ []) same)
        ∙ ap (λ k. first_cause (export_causes k seen x)) (sym knows)
        ∙ sym e

    pub at_item : (x : Item) → i < length m.items → x ≡ get_or m.items i x
        → HaveSameNames seen (import_names m.imports ++ code_labels (take i m.items)) → found ≡ first_cause (item_causes k seen x)
        → cause_at m (place.Item i) ≡ found
    unfolding cause_at
    at_item x l is same e =
        here (λ x. first_cause (item_causes (known m) (import_names m.imports ++ code_labels (take i m.items)) x)) m.items i x l is
        ∙ sym (item-same (known m) seen (import_names m.imports ++ code_labels (take i m.items)) x same)
        ∙ ap (λ k. first_cause (item_causes k seen x)) (sym knows)
        ∙ sym e

    pub at_cell : (x : Cell) → i < length m.cells → x ≡ get_or m.cells i x
        → HaveSameNames seen ((import_names m.imports ++ code_labels m.items) ++ cell_labels (take i m.cells))
        → found ≡ first_cause (cell_causes k seen x) → cause_at m (place.Cell i) ≡ found
    unfolding cause_at
    at_cell x l is same e =
        here (λ x. first_cause (cell_causes (known m)
        ((import_names m.imports ++ code_labels m.items) ++ cell_labels (take i m.cells)) x)) m.cells i x l is
        ∙ sym (cell-same (known m) seen ((import_names m.imports ++ code_labels m.items) ++ cell_labels (take i m.cells)) x same)
        ∙ ap (λ k. first_cause (cell_causes k seen x)) (sym knows)
        ∙ sym e

-- ---- behind a list, and at its first fault

module _ (m : Parts) (n : ℕ) where
  pub imports_sound : length m.imports ≤ n → ((k : ℕ) → k < n → cause_at m (place.Import k) ≡ None) → AreSound place.Import m
  unfolding cause_at
  imports_sound l h i =
      elim (cases_lt i n) [
        | inl in' ↦ h i in'
        | inr out ↦ ap (option_and_then
            (λ x. first_cause (import_causes (import_names (take i m.imports)) x))) (slice_get_past m.imports i (omega arith))
      ]

  pub exports_sound : length m.exports ≤ n → ((k : ℕ) → k < n → cause_at m (place.Export k) ≡ None) → AreSound place.Export m
  unfolding cause_at
  exports_sound l h i =
      elim (cases_lt i n) [
        | inl in' ↦ h i in'
        | inr out ↦ ap (option_and_then
            (λ x. first_cause (export_causes (known m) (take i m.exports) x))) (slice_get_past m.exports i (omega arith))
      ]

  pub items_sound : length m.items ≤ n → ((k : ℕ) → k < n → cause_at m (place.Item k) ≡ None) → AreSound place.Item m
  unfolding cause_at
  items_sound l h i =
      elim (cases_lt i n) [
        | inl in' ↦ h i in'
        | inr out ↦ ap (option_and_then
            (λ x. first_cause (item_causes (known m) (import_names m.imports ++ code_labels (take i m.items)) x)))
            (slice_get_past m.items i (omega arith))
      ]

  pub cells_sound : length m.cells ≤ n → ((k : ℕ) → k < n → cause_at m (place.Cell k) ≡ None) → AreSound place.Cell m
  unfolding cause_at
  cells_sound l h i =
      elim (cases_lt i n) [
        | inl in' ↦ h i in'
        | inr out ↦ ap (option_and_then
            (λ x. first_cause (cell_causes (known m) ((import_names m.imports ++ code_labels m.items) ++ cell_labels (take i m.cells)) x)))
            (slice_get_past m.cells i (omega arith))
      ]

pub first_in : (at : ℕ → Place) (m : Parts) (i : ℕ) (cause : Cause) (fault : CheckFault)
    → fault ≡ check.Fault (record { code = cause.code; place = at i; detail = cause.detail }) → cause_at m (at i) ≡ Some cause
    → ((k : ℕ) → k < i → cause_at m (at k) ≡ None) → IfFault fault (IsFirstIn at m)
first_in at m i cause fault e wrong before =
    subst (λ f. IfFault f (IsFirstIn at m)) (sym e) (record { index = i; placed = refl; here = wrong; before = before })

-- ---- what stands before is in its range

module _ {X : Type 0} (P : X → Type 0) (xs : List X) (i : ℕ) where
  pub all-grown : (x : X) → i < length xs → x ≡ get_or xs i x → All P (take i xs) → P x → All P (take (i + 1) xs)
  all-grown x l is all here = All-more P xs i x l all (subst P is here)

  pub all-seen : length xs ≤ i → All P (take i xs) → All P xs
  all-seen past all = subst (All P) (take_all i xs past) all
