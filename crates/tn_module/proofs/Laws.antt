-- A module is valid exactly where nothing is wrong at any of its places.
use Rattle.std.proofs.Common.{◌≡◌, ℕ, Bool, true, false, not, List, [], ◌∷◌, ◌++◌, take, Option, None, Some, refl, sym, ap, ◌∙◌, subst}
use Rattle.std.specs.Prelude.{slice_get, option_and_then}
use Rattle.std.specs.List.{AllByRecursion, All, IsDistinct, flat_map}
use Rattle.std.proofs.lemmas.List.Elements.{All-from_recursion, recursion_from_All}
use Rattle.std.proofs.lemmas.Option.{none-some, same_Some}
use Rattle.tn_text.specs.declared.faults.Cause.{Cause}
use Rattle.tn_text.specs.declared.faults.FaultCode.TheVariants.{DuplicateName, NoSuchName, WrongOperand, WrongKind, Misaligned}
use Rattle.tn_text.specs.Faults.{bare}
use Rattle.tn_isa.specs.declared.functions.Fun.{Fun}
use Rattle.tn_module.specs.declared.faults.Place.TheVariants as place
use Rattle.tn_module.specs.declared.faults.ModuleFault.{ModuleFault}
use Rattle.tn_module.specs.declared.modules.Import.{Import}
use Rattle.tn_module.specs.declared.modules.Operand.{Operand}
use Rattle.tn_module.specs.declared.modules.Item.{Item}
use Rattle.tn_module.specs.declared.modules.Item.TheVariants as item
use Rattle.tn_module.specs.declared.modules.Cell.{Cell}
use Rattle.tn_module.specs.declared.modules.Cell.TheVariants as cell
use Rattle.tn_module.specs.Modules.{Parts}
use Rattle.tn_module.specs.Names.{same_name, is_among, import_names, code_label, code_labels, cell_label, cell_labels, defined_names}
use Rattle.tn_module.specs.Names.{code_names, cell_names, labels, misaligned, code_uses, cell_uses, item_uses, address_uses, takes}
use Rattle.tn_module.specs.Names.{has_its_operand}
use Rattle.tn_module.specs.Inner.Sets.{IsSound}
use Rattle.tn_module.specs.Validity.{IsValid}
use Rattle.tn_text.specs.Firsts.{first_cause}
use Rattle.tn_module.specs.Faults.{Known, known, named, each, import_causes, export_causes, operand_causes, item_causes, cell_causes}
use Rattle.tn_module.specs.Faults.{cause_at, IsFirstFault}
use Rattle.tn_module.proofs.Recursion.{rec-append, rec-split, rec-from, rec-at, rec-flat, rec-at_flat, rec-map}
use Rattle.tn_module.proofs.Distinct.{distinct-none, distinct-front, distinct-grown, distinct-at}
use Rattle.tn_module.proofs.FirstCauses.{not-false, none-head, none-cons, none-append, none-split, none-each, each-none}

-- ---- items and cells with nothing wrong but a label that stands again

record ItemFits (k : Known) (x : Item) : Type 0 where
  pub code_defined : AllByRecursion (λ n. k.defined n ≡ true) (item_uses code_uses x)
  pub cells_defined : AllByRecursion (λ n. k.defined n ≡ true) (item_uses cell_uses x)
  pub code : AllByRecursion (λ n. k.code n ≡ true) (item_uses code_uses x)
  pub cells : AllByRecursion (λ n. k.cell n ≡ true) (item_uses cell_uses x)
  pub operand : has_its_operand x ≡ true
  pub aligned : AllByRecursion (λ n. k.misaligned n ≡ false) (item_uses cell_uses x)

module _ (k : Known) where
  yes : (test : List ℕ → Bool) (names : List (List ℕ)) → AllByRecursion (λ n. not (test n) ≡ false) names
      → AllByRecursion (λ n. test n ≡ true) names
  yes test = rec-map (λ n. not (test n) ≡ false) (λ n. test n ≡ true) (λ n. not-false (test n))

  no : (test : List ℕ → Bool) (names : List (List ℕ)) → AllByRecursion (λ n. test n ≡ true) names
      → AllByRecursion (λ n. not (test n) ≡ false) names
  no test = rec-map (λ n. test n ≡ true) (λ n. not (test n) ≡ false) (λ n. ap not)

  module _ (f : Fun) (o : Operand) where
    abbrev undefined : List (Bool × Cause)
    undefined = each NoSuchName (λ n. not (k.defined n)) (code_uses o ++ cell_uses o)

    abbrev unfit : List (Bool × Cause)
    unfit = (not (takes f o), bare WrongOperand) ∷ []

    abbrev uncoded : List (Bool × Cause)
    uncoded = each WrongKind (λ n. not (k.code n)) (code_uses o)

    abbrev uncelled : List (Bool × Cause)
    uncelled = each WrongKind (λ n. not (k.cell n)) (cell_uses o)

    abbrev misplaced : List (Bool × Cause)
    misplaced = each Misaligned k.misaligned (cell_uses o)

    operand-fits : first_cause (operand_causes k f o) ≡ None → ItemFits k (item.Direct f o)
    operand-fits h =
        let a = none-split (undefined ++ unfit ++ uncoded ++ uncelled) misplaced h in
        let b = none-split (undefined ++ unfit ++ uncoded) uncelled a.0 in
        let c = none-split (undefined ++ unfit) uncoded b.0 in
        let d = none-split undefined unfit c.0 in
        let u = rec-split (λ n. k.defined n ≡ true) (code_uses o) (cell_uses o)
        (yes k.defined (code_uses o ++ cell_uses o) (none-each NoSuchName (λ n. not (k.defined n)) (code_uses o ++ cell_uses o) d.0)) in
        record {
          code_defined = u.0;
          cells_defined = u.1;
          code = yes k.code (code_uses o) (none-each WrongKind (λ n. not (k.code n)) (code_uses o) c.1);
          cells = yes k.cell (cell_uses o) (none-each WrongKind (λ n. not (k.cell n)) (cell_uses o) b.1);
          operand = not-false (takes f o) (none-head (not (takes f o)) (bare WrongOperand) [] d.1).0;
          aligned = none-each Misaligned k.misaligned (cell_uses o) a.1;
        }

    fits-operand : ItemFits k (item.Direct f o) → first_cause (operand_causes k f o) ≡ None
    fits-operand h =
        none-append (undefined ++ unfit ++ uncoded ++ uncelled) misplaced
        (none-append (undefined ++ unfit ++ uncoded) uncelled
        (none-append (undefined ++ unfit) uncoded
        (none-append undefined unfit
        (each-none NoSuchName (λ n. not (k.defined n)) (code_uses o ++ cell_uses o)
        (no k.defined (code_uses o ++ cell_uses o)
        (rec-append (λ n. k.defined n ≡ true) (code_uses o) (cell_uses o) h.code_defined h.cells_defined)))
        (none-cons (not (takes f o)) (bare WrongOperand) [] (ap not h.operand) refl))
        (each-none WrongKind (λ n. not (k.code n)) (code_uses o) (no k.code (code_uses o) h.code)))
        (each-none WrongKind (λ n. not (k.cell n)) (cell_uses o) (no k.cell (cell_uses o) h.cells)))
        (each-none Misaligned k.misaligned (cell_uses o) h.aligned)

  module _ (before : List (List ℕ)) where
    item-fits : (x : Item) → first_cause (item_causes k before x) ≡ None → ItemFits k x
    item-fits (item.Direct f o) h = operand-fits f o h
    item-fits (item.Plain op) h = record { code_defined = tt; cells_defined = tt; code = tt; cells = tt; operand = refl; aligned = tt }
    item-fits (item.Byte b) h = record { code_defined = tt; cells_defined = tt; code = tt; cells = tt; operand = refl; aligned = tt }
    item-fits (item.Label n) h = record { code_defined = tt; cells_defined = tt; code = tt; cells = tt; operand = refl; aligned = tt }

    item-new : (x : Item) (n : List ℕ) → code_label x ≡ Some n → first_cause (item_causes k before x) ≡ None → is_among before n ≡ false
    item-new (item.Direct f o) n e h = absurd (none-some n e)
    item-new (item.Plain op) n e h = absurd (none-some n e)
    item-new (item.Byte b) n e h = absurd (none-some n e)
    item-new (item.Label l) n e h =
        subst (λ n. is_among before n ≡ false) (same_Some l n e) (none-head (is_among before l) (named DuplicateName l) [] h).0

    item-none : (x : Item) → ItemFits k x → ((n : List ℕ) → code_label x ≡ Some n → is_among before n ≡ false)
        → first_cause (item_causes k before x) ≡ None
    item-none (item.Direct f o) h new = fits-operand f o h
    item-none (item.Plain op) h new = refl
    item-none (item.Byte b) h new = refl
    item-none (item.Label n) h new = none-cons (is_among before n) (named DuplicateName n) [] (new n refl) refl

    cell-fits : (x : Cell) → first_cause (cell_causes k before x) ≡ None → AllByRecursion (λ n. k.defined n ≡ true) (address_uses x)
    cell-fits (cell.Word w) h = tt
    cell-fits (cell.Address n) h = (not-false (k.defined n) (none-head (not (k.defined n)) (named NoSuchName n) [] h).0, tt)
    cell-fits (cell.Byte b) h = tt
    cell-fits (cell.Space n) h = tt
    cell-fits cell.Align h = tt
    cell-fits (cell.Label n) h = tt

    cell-new : (x : Cell) (n : List ℕ) → cell_label x ≡ Some n → first_cause (cell_causes k before x) ≡ None → is_among before n ≡ false
    cell-new (cell.Word w) n e h = absurd (none-some n e)
    cell-new (cell.Address l) n e h = absurd (none-some n e)
    cell-new (cell.Byte b) n e h = absurd (none-some n e)
    cell-new (cell.Space w) n e h = absurd (none-some n e)
    cell-new cell.Align n e h = absurd (none-some n e)
    cell-new (cell.Label l) n e h =
        subst (λ n. is_among before n ≡ false) (same_Some l n e) (none-head (is_among before l) (named DuplicateName l) [] h).0

    cell-none : (x : Cell) → AllByRecursion (λ n. k.defined n ≡ true) (address_uses x)
        → ((n : List ℕ) → cell_label x ≡ Some n → is_among before n ≡ false) → first_cause (cell_causes k before x) ≡ None
    cell-none (cell.Word w) h new = refl
    cell-none (cell.Address n) h new = none-cons (not (k.defined n)) (named NoSuchName n) [] (ap not h.0) refl
    cell-none (cell.Byte b) h new = refl
    cell-none (cell.Space n) h new = refl
    cell-none cell.Align h new = refl
    cell-none (cell.Label n) h new = none-cons (is_among before n) (named DuplicateName n) [] (new n refl) refl

nothing : {X : Type 0} (f : X → Option Cause) (o : Option X) → ((x : X) → o ≡ Some x → f x ≡ None) → option_and_then f o ≡ None
nothing f None h = refl
nothing f (Some x) h = h x refl

module _ (m : Parts) where
  abbrev outer : List (List ℕ)
  outer = import_names m.imports ++ code_labels m.items

  module _ (sound : IsSound m) where
    at_import : (i : ℕ) (x : Import) → slice_get m.imports i ≡ Some x
        → first_cause (import_causes (import_names (take i m.imports)) x) ≡ None
    unfolding cause_at
    at_import i x g =
        sym (ap (option_and_then (λ x. first_cause (import_causes (import_names (take i m.imports)) x))) g) ∙ sound (place.Import i)

    at_export : (i : ℕ) (x : List ℕ) → slice_get m.exports i ≡ Some x → first_cause (export_causes (known m) (take i m.exports) x) ≡ None
    unfolding cause_at
    at_export i x g =
        sym (ap (option_and_then (λ x. first_cause (export_causes (known m) (take i m.exports) x))) g) ∙ sound (place.Export i)

    at_item : (i : ℕ) (x : Item) → slice_get m.items i ≡ Some x
        → first_cause (item_causes (known m) (import_names m.imports ++ code_labels (take i m.items)) x) ≡ None
    unfolding cause_at
    at_item i x g =
        sym (ap (option_and_then (λ x. first_cause (item_causes (known m) (import_names m.imports ++ code_labels (take i m.items)) x))) g)
        ∙ sound (place.Item i)

    at_cell : (i : ℕ) (x : Cell) → slice_get m.cells i ≡ Some x
        → first_cause (cell_causes (known m) (outer ++ cell_labels (take i m.cells)) x) ≡ None
    unfolding cause_at
    at_cell i x g =
        sym (ap (option_and_then (λ x. first_cause (cell_causes (known m) (outer ++ cell_labels (take i m.cells)) x))) g)
        ∙ sound (place.Cell i)

    export-fits : (i : ℕ) (x : List ℕ) → slice_get m.exports i ≡ Some x
        → (is_among (take i m.exports) x ≡ false) × (is_among (labels m) x ≡ true) × (is_among (misaligned m) x ≡ false)
    export-fits i x g =
        let a = none-head (is_among (take i m.exports) x) (named DuplicateName x)
        ((not (is_among (labels m) x), named NoSuchName x) ∷ (is_among (misaligned m) x, named Misaligned x) ∷ []) (at_export i x g) in
        let b = none-head (not (is_among (labels m) x)) (named NoSuchName x) ((is_among (misaligned m) x, named Misaligned x) ∷ []) a.1 in
        let c = none-head (is_among (misaligned m) x) (named Misaligned x) [] b.1 in
        (a.0, not-false (is_among (labels m) x) b.0, c.0)

    fits : (i : ℕ) (x : Item) → slice_get m.items i ≡ Some x → ItemFits (known m) x
    fits i x g = item-fits (known m) (import_names m.imports ++ code_labels (take i m.items)) x (at_item i x g)

    distinct-imports : IsDistinct same_name (import_names m.imports)
    distinct-imports =
        distinct-grown (λ (x : Import). Some x.name) import_names refl (λ x xs. refl) [] m.imports distinct-none
        (λ i x n g e. subst (λ n. is_among (import_names (take i m.imports)) n ≡ false) (same_Some x.name n e)
        (none-head (is_among (import_names (take i m.imports)) x.name) (named DuplicateName x.name) [] (at_import i x g)).0)

    distinct-outer : IsDistinct same_name outer
    distinct-outer =
        distinct-grown code_label code_labels refl (λ x xs. refl) (import_names m.imports) m.items distinct-imports
        (λ i x n g e. item-new (known m) (import_names m.imports ++ code_labels (take i m.items)) x n e (at_item i x g))

    items-fit : (P : List ℕ → Type 0) (uses : Operand → List (List ℕ))
        → ((x : Item) → ItemFits (known m) x → AllByRecursion P (item_uses uses x)) → All P (flat_map (item_uses uses) m.items)
    items-fit P uses h =
        All-from_recursion P (flat_map (item_uses uses) m.items) (rec-flat P (item_uses uses) m.items (λ i x g. h x (fits i x g)))

    pub valid_from_sound : IsValid m
    valid_from_sound = record {
      distinct =
          distinct-grown cell_label cell_labels refl (λ x xs. refl) outer m.cells distinct-outer
          (λ i x n g e. cell-new (known m) (outer ++ cell_labels (take i m.cells)) x n e (at_cell i x g));
      distinct_exports =
          distinct-grown Some (λ xs. xs) refl (λ x xs. refl) [] m.exports distinct-none
          (λ i x n g e. subst (λ n. is_among (take i m.exports) n ≡ false) (same_Some x n e) (export-fits i x g).0);
      exported =
          All-from_recursion (λ n. is_among (labels m) n ≡ true) m.exports
          (rec-from (λ n. is_among (labels m) n ≡ true) m.exports (λ i x g. (export-fits i x g).1));
      code_defined = items-fit (λ n. is_among (defined_names m) n ≡ true) code_uses (λ x h. h.code_defined);
      cells_defined = items-fit (λ n. is_among (defined_names m) n ≡ true) cell_uses (λ x h. h.cells_defined);
      addresses_defined =
          All-from_recursion (λ n. is_among (defined_names m) n ≡ true) (flat_map address_uses m.cells)
          (rec-flat (λ n. is_among (defined_names m) n ≡ true) address_uses m.cells
          (λ i x g. cell-fits (known m) (outer ++ cell_labels (take i m.cells)) x (at_cell i x g)));
      code = items-fit (λ n. is_among (code_names m) n ≡ true) code_uses (λ x h. h.code);
      cells = items-fit (λ n. is_among (cell_names m) n ≡ true) cell_uses (λ x h. h.cells);
      operands =
          All-from_recursion (λ x. has_its_operand x ≡ true) m.items
          (rec-from (λ x. has_its_operand x ≡ true) m.items (λ i x g. (fits i x g).operand));
      aligned_exports =
          All-from_recursion (λ n. is_among (misaligned m) n ≡ false) m.exports
          (rec-from (λ n. is_among (misaligned m) n ≡ false) m.exports (λ i x g. (export-fits i x g).2));
      aligned_cells = items-fit (λ n. is_among (misaligned m) n ≡ false) cell_uses (λ x h. h.aligned);
    }

  module _ (v : IsValid m) where
    item-use : (P : List ℕ → Type 0) (uses : Operand → List (List ℕ)) → All P (flat_map (item_uses uses) m.items) → (i : ℕ) (x : Item)
        → slice_get m.items i ≡ Some x → AllByRecursion P (item_uses uses x)
    item-use P uses h = rec-at_flat P (item_uses uses) m.items (recursion_from_All P (flat_map (item_uses uses) m.items) h)

    of-export : (P : List ℕ → Type 0) → All P m.exports → (i : ℕ) (x : List ℕ) → slice_get m.exports i ≡ Some x → P x
    of-export P h = rec-at P m.exports (recursion_from_All P m.exports h)

    fitting : (i : ℕ) (x : Item) → slice_get m.items i ≡ Some x → ItemFits (known m) x
    fitting i x g = record {
      code_defined = item-use (λ n. is_among (defined_names m) n ≡ true) code_uses v.code_defined i x g;
      cells_defined = item-use (λ n. is_among (defined_names m) n ≡ true) cell_uses v.cells_defined i x g;
      code = item-use (λ n. is_among (code_names m) n ≡ true) code_uses v.code i x g;
      cells = item-use (λ n. is_among (cell_names m) n ≡ true) cell_uses v.cells i x g;
      operand =
          rec-at (λ x. has_its_operand x ≡ true) m.items (recursion_from_All (λ x. has_its_operand x ≡ true) m.items v.operands) i x g;
      aligned = item-use (λ n. is_among (misaligned m) n ≡ false) cell_uses v.aligned_cells i x g;
    }

    outer-distinct : IsDistinct same_name outer
    outer-distinct = distinct-front outer (cell_labels m.cells) v.distinct

    pub sound_from_valid : IsSound m
    unfolding cause_at
    sound_from_valid (place.Import i) =
        nothing (λ x. first_cause (import_causes (import_names (take i m.imports)) x)) (slice_get m.imports i)
        (λ x g. none-cons (is_among (import_names (take i m.imports)) x.name) (named DuplicateName x.name) []
        (distinct-at (λ (x : Import). Some x.name) import_names refl (λ x xs. refl) [] m.imports i x x.name
        (distinct-front (import_names m.imports) (code_labels m.items) outer-distinct) g refl) refl)
    sound_from_valid (place.Export i) =
        nothing (λ x. first_cause (export_causes (known m) (take i m.exports) x)) (slice_get m.exports i)
        (λ x g. none-cons (is_among (take i m.exports) x) (named DuplicateName x)
        ((not (is_among (labels m) x), named NoSuchName x) ∷ (is_among (misaligned m) x, named Misaligned x) ∷ [])
        (distinct-at Some (λ xs. xs) refl (λ x xs. refl) [] m.exports i x x v.distinct_exports g refl)
        (none-cons (not (is_among (labels m) x)) (named NoSuchName x) ((is_among (misaligned m) x, named Misaligned x) ∷ [])
        (ap not (of-export (λ n. is_among (labels m) n ≡ true) v.exported i x g))
        (none-cons (is_among (misaligned m) x) (named Misaligned x) []
        (of-export (λ n. is_among (misaligned m) n ≡ false) v.aligned_exports i x g) refl)))
    sound_from_valid (place.Item i) =
        nothing (λ x. first_cause (item_causes (known m) (import_names m.imports ++ code_labels (take i m.items)) x)) (slice_get m.items i)
        (λ x g. item-none (known m) (import_names m.imports ++ code_labels (take i m.items)) x (fitting i x g)
        (λ n e. distinct-at code_label code_labels refl (λ x xs. refl) (import_names m.imports) m.items i x n outer-distinct g e))
    sound_from_valid (place.Cell i) =
        nothing (λ x. first_cause (cell_causes (known m) (outer ++ cell_labels (take i m.cells)) x)) (slice_get m.cells i)
        (λ x g. cell-none (known m) (outer ++ cell_labels (take i m.cells)) x
        (rec-at_flat (λ n. is_among (defined_names m) n ≡ true) address_uses m.cells
        (recursion_from_All (λ n. is_among (defined_names m) n ≡ true) (flat_map address_uses m.cells) v.addresses_defined) i x g)
        (λ n e. distinct-at cell_label cell_labels refl (λ x xs. refl) outer m.cells i x n v.distinct g e))

  -- so a module with a fault is not valid
  pub invalid_at_fault : (fault : ModuleFault) → IsFirstFault m fault → IsValid m → ⊥
  invalid_at_fault fault f v =
      none-some (record { code = fault.code; detail = fault.detail }) (sym (sound_from_valid v fault.place) ∙ f.wrong)
