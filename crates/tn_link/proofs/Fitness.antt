-- The items of valid modules can be coded, and the names that they use are found.
use Rattle.std.proofs.Common.{◌≡◌, ℕ, zero, suc, ◌+◌, ◌<◌, ◌≤◌, true, List, length, map, Option, Some}
use Rattle.std.proofs.Common.{is_some, refl, sym, ap, ◌∙◌, subst, arith, take, get_or}
use Rattle.std.specs.Prelude.{All, slice_get}
use Rattle.std.specs.Option.{option_or}
use Rattle.std.specs.List.{AllByRecursion, flat_map, range_with_len}
use Rattle.std.proofs.lemmas.List.{length-map, length-append, take_all}
use Rattle.std.proofs.lemmas.List.Elements.{All-from_recursion, recursion_from_All, All-map, All-get_or, All-weaker}
use Rattle.tn_text.specs.declared.limits.TheConstants.{ITEM_LIMIT, CELL_LIMIT}
use Rattle.tn_isa.specs.declared.functions.Fun.{Fun}
use Rattle.tn_isa.specs.declared.functions.Fun.TheVariants as fun
use Rattle.tn_isa.specs.OperandRegister.{IsCoded}
use Rattle.tn_module.specs.declared.modules.Operand.{Operand}
use Rattle.tn_module.specs.declared.modules.Operand.TheVariants as operand
use Rattle.tn_module.specs.declared.modules.Item.{Item}
use Rattle.tn_module.specs.declared.modules.Item.TheVariants as item
use Rattle.tn_module.specs.declared.modules.Cell.{Cell}
use Rattle.tn_module.specs.Modules.{Parts}
use Rattle.tn_module.specs.Names.{is_among, takes, has_its_operand, item_uses, code_uses, cell_uses, address_uses}
use Rattle.tn_module.specs.Names.{defined_names, code_names}
use Rattle.tn_module.proofs.Recursion.{rec-from, rec-at, rec-at_flat, rec-map}
use Rattle.tn_symbols.specs.Choices.{module_at}
use Rattle.tn_symbols.specs.Definitions.{AreDefined}
use Rattle.tn_layout.specs.declared.pieces.Piece.TheVariants.{Fixed}
use Rattle.tn_layout.specs.Sizes as layout
use Rattle.tn_layout.specs.Sizes.{piece_at, AreNamed}
use Rattle.tn_link.specs.declared.programs.Element.{Element}
use Rattle.tn_link.specs.declared.programs.Element.TheVariants as form
use Rattle.tn_link.specs.declared.programs.Reach.TheVariants.{Number, To, Between}
use Rattle.tn_link.specs.declared.tables.Target.{Target}
use Rattle.tn_link.specs.declared.tables.Start.{Start}
use Rattle.tn_link.specs.Places.{item_count, cells_end, start, label_in, label, exported_label, meaning, told, target}
use Rattle.tn_link.specs.Programs.{element, module_elements, program, piece, pieces}
use Rattle.tn_link.specs.Inner.Tables.{AreFound, AreNear}
use Rattle.tn_link.specs.Inner.Elements.{AreValid, IsUsable, IsFit, AreFit}
use Rattle.tn_link.proofs.Ends.{items-more, start_from, start-at}
use Rattle.tn_link.proofs.Ranges.{all-joined, joined-more}
use Rattle.tn_link.proofs.Meanings.{near-targets, defined-some, code-meaning}

-- a function that takes an operand can be coded
takes-coded : (f : Fun) (o : Operand) → takes f o ≡ true → IsCoded f
takes-coded fun.Pfix (operand.Number v) h = absurd cc
takes-coded fun.Pfix (operand.To name) h = absurd cc
takes-coded fun.Pfix (operand.Difference high low) h = absurd cc
takes-coded fun.Pfix (operand.CellWord name) h = absurd cc
takes-coded fun.Nfix (operand.Number v) h = absurd cc
takes-coded fun.Nfix (operand.To name) h = absurd cc
takes-coded fun.Nfix (operand.Difference high low) h = absurd cc
takes-coded fun.Nfix (operand.CellWord name) h = absurd cc
takes-coded fun.J o h = refl
takes-coded fun.Ldlp o h = refl
takes-coded fun.Ldnl o h = refl
takes-coded fun.Ldc o h = refl
takes-coded fun.Ldnlp o h = refl
takes-coded fun.Ldl o h = refl
takes-coded fun.Adc o h = refl
takes-coded fun.Call o h = refl
takes-coded fun.Cj o h = refl
takes-coded fun.Ajw o h = refl
takes-coded fun.Eqc o h = refl
takes-coded fun.Stl o h = refl
takes-coded fun.Stnl o h = refl
takes-coded fun.Opr o h = refl

-- what holds of the names that elements use holds of those of each element
each-uses : {X : Type 0} (P : List ℕ → Type 0) (uses : X → List (List ℕ)) (xs : List X) → All P (flat_map uses xs) → (i : ℕ) (x : X)
    → slice_get xs i ≡ Some x → AllByRecursion P (uses x)
each-uses P uses xs h i x e = rec-at_flat P uses xs (recursion_from_All P (flat_map uses xs) h) i x e

-- what holds of each element
all-of : {X : Type 0} (P : X → Type 0) (xs : List X) → ((i : ℕ) (x : X) → slice_get xs i ≡ Some x → P x) → All P xs
all-of P xs h = All-from_recursion P xs (rec-from P xs h)

-- ---- what a module uses

module _ (modules : List Parts) (valid : AreValid modules) (defined : AreDefined modules) (m : ℕ) (here : m < length modules) where
  abbrev known : Parts
  known = module_at modules m

  abbrev IsKnown : List ℕ → Type 0
  IsKnown q = is_some (meaning modules m q) ≡ true

  is_known : (q : List ℕ) → is_among (defined_names known) q ≡ true → IsKnown q
  is_known q h = defined-some modules valid defined m here q h

  -- the names that items use are known
  pub usable-items : All (IsUsable (meaning modules m)) known.items
  usable-items = all-of (IsUsable (meaning modules m)) known.items (λ i x e. record {
    code = All-from_recursion IsKnown (item_uses code_uses x)
        (rec-map (λ q. is_among (defined_names known) q ≡ true) IsKnown is_known (item_uses code_uses x)
        (each-uses (λ q. is_among (defined_names known) q ≡ true) (item_uses code_uses) known.items (valid m here).code_defined i x e));
    cells = All-from_recursion IsKnown (item_uses cell_uses x)
        (rec-map (λ q. is_among (defined_names known) q ≡ true) IsKnown is_known (item_uses cell_uses x)
        (each-uses (λ q. is_among (defined_names known) q ≡ true) (item_uses cell_uses) known.items (valid m here).cells_defined i x e));
  })

  -- and those that cells use
  pub usable-cells : All (λ c. AreFound (meaning modules m) (address_uses c)) known.cells
  usable-cells = all-of (λ c. AreFound (meaning modules m) (address_uses c)) known.cells (λ i x e.
      All-from_recursion IsKnown (address_uses x)
      (rec-map (λ q. is_among (defined_names known) q ≡ true) IsKnown is_known (address_uses x)
      (each-uses (λ q. is_among (defined_names known) q ≡ true) address_uses known.cells (valid m here).addresses_defined i x e)))

  module _ (items : item_count modules ≤ ITEM_LIMIT) (cells : cells_end modules ≤ CELL_LIMIT) where
    -- the items of the module can be coded
    pub fit-elements : (cell_base : ℕ) → All (IsFit (item_count modules)) (module_elements modules cell_base m)
    fit-elements cell_base =
        All-map (IsFit (item_count modules)) (element (target modules m) cell_base) known.items
        (all-of (λ x. IsFit (item_count modules) (element (target modules m) cell_base x)) known.items (λ i x e. fits x
        (each-uses (λ q. is_among (code_names known) q ≡ true) (item_uses code_uses) known.items (valid m here).code i x e)
        (rec-at (λ x. has_its_operand x ≡ true) known.items (recursion_from_All (λ x. has_its_operand x ≡ true) known.items
        (valid m here).operands)
        i x e)))
      where
        near : (q : List ℕ) → is_among (code_names known) q ≡ true → (target modules m q).place ≤ item_count modules
        near q h = (near-targets modules items cells m here).code q (code-meaning modules valid defined m here q h)

        fits : (x : Item) → AllByRecursion (λ q. is_among (code_names known) q ≡ true) (item_uses code_uses x) → has_its_operand x ≡ true
            → IsFit (item_count modules) (element (target modules m) cell_base x)
        fits (item.Direct f (operand.Number v)) u t = (takes-coded f (operand.Number v) t, tt)
        fits (item.Direct f (operand.To name)) u t = (takes-coded f (operand.To name) t, near name u.0)
        fits (item.Direct f (operand.Difference high low)) u t = (
          takes-coded f (operand.Difference high low) t,
          (near high u.0, near low u.1.0),
        )
        fits (item.Direct f (operand.CellWord name)) u t = (takes-coded f (operand.CellWord name) t, tt)
        fits (item.Plain op) u t = (refl, tt)
        fits (item.Byte b) u t = tt
        fits (item.Label name) u t = tt

-- ---- tables

-- tables of a module's labels and of all exports tell what names stand for in the module
module _ (modules : List Parts) (starts : List Start) (is : starts ≡ map (start modules) (range_with_len 0 (length modules))) (m : ℕ)
    (here : m < length modules) (raw : Parts) (same : raw ≡ module_at modules m) (labels exports : List ℕ → Option Target)
    (own : (q : List ℕ) → labels q ≡ label_in raw (get_or starts m (start_from 0 0)) q) (all : (q : List ℕ) → exports q
    ≡ exported_label modules q)
  where
    abbrev tables : List ℕ → Option Target
    tables q = option_or (labels q) (exports q)

    pub tables-are : tables ≡ meaning modules m
    tables-are = λ j q. option_or (labels-are q j) (all q j)
      where
        labels-are : (q : List ℕ) → labels q ≡ label modules m q
        labels-are q = own q ∙ ap (λ (p : Parts). label_in p (get_or starts m (start_from 0 0)) q) same
            ∙ ap (λ (s : Start). label_in (module_at modules m) s q) (start-at modules starts is m here (start_from 0 0))

    pub near-tables : item_count modules ≤ ITEM_LIMIT → cells_end modules ≤ CELL_LIMIT → (n : ℕ) → item_count modules ≤ n → AreNear n
        (told tables)
    near-tables items cells n most =
        subst (λ f. AreNear n (told f)) (sym tables-are) (record {
          near = (near-targets modules items cells m here).near;
          code = λ q k. omega (arith, (near-targets modules items cells m here).code q k, most);
        })

    pub usable-items_by : AreValid modules → AreDefined modules → (l : List Item) → l ≡ raw.items → All (IsUsable tables) l
    usable-items_by valid defined l e =
        subst (λ l. All (IsUsable tables) l) (sym (e ∙ ap (λ (p : Parts). p.items) same))
        (subst (λ f. All (IsUsable f) (module_at modules m).items) (sym tables-are) (usable-items modules valid defined m here))

    pub usable-cells_by : AreValid modules → AreDefined modules → (l : List Cell) → l ≡ raw.cells → All (λ c. AreFound tables
        (address_uses c)) l
    usable-cells_by valid defined l e =
        subst (λ l. All (λ c. AreFound tables (address_uses c)) l) (sym (e ∙ ap (λ (p : Parts). p.cells) same))
        (subst (λ f. All (λ c. AreFound f (address_uses c)) (module_at modules m).cells) (sym tables-are)
        (usable-cells modules valid defined m here))

-- ---- the whole program

-- the items are as many as those of all modules
pub program-length : (modules : List Parts) (cell_base : ℕ) → length (program modules cell_base) ≡ item_count modules
program-length modules cell_base = lengths (length modules) (omega arith) ∙ ap item_count (take_all (length modules) modules (omega arith))
  where
    lengths : (n : ℕ) → n ≤ length modules
        → length (flat_map (module_elements modules cell_base) (range_with_len 0 n)) ≡ item_count (take n modules)
    lengths zero h = refl
    lengths (suc n) h =
        let is : n + 1 ≡ suc n = omega arith in
        let long : length (module_elements modules cell_base n) ≡ length (module_at modules n).items = length-map
        (module_at modules n).items
        (element (target modules n) cell_base) in
        let step : length (flat_map (module_elements modules cell_base) (range_with_len 0 (n + 1))) ≡ item_count (take (n + 1) modules) =
        ap length (joined-more (module_elements modules cell_base) n)
        ∙ length-append (flat_map (module_elements modules cell_base) (range_with_len 0 n)) (module_elements modules cell_base n)
        ∙ omega (arith, lengths n (omega arith), long, items-more modules n (omega arith)) in
        subst (λ k. length (flat_map (module_elements modules cell_base) (range_with_len 0 k)) ≡ item_count (take k modules)) is step

pub fit-program : (modules : List Parts) → AreValid modules → AreDefined modules → item_count modules ≤ ITEM_LIMIT
    → cells_end modules ≤ CELL_LIMIT
    → (cell_base : ℕ) → AreFit (program modules cell_base)
fit-program modules valid defined items cells cell_base =
    subst (λ n. All (IsFit n) (program modules cell_base)) (sym (program-length modules cell_base))
    (all-joined (module_elements modules cell_base) (IsFit (item_count modules)) (length modules) (λ m here.
    fit-elements modules valid defined m here items cells cell_base))

-- references of such items name no place behind the end of the last
pub named-pieces : (program : List Element) → AreFit program → AreNamed (pieces program)
named-pieces program fit i h =
    subst (λ n. layout.NamesUpTo n (piece_at (pieces program) i)) (sym (length-map program (λ (x : Element). piece x)))
    (All-get_or (layout.NamesUpTo (length program)) (pieces program) i (Fixed 0) h
    (All-map (layout.NamesUpTo (length program)) (λ (x : Element). piece x) program
    (All-weaker (IsFit (length program)) (λ x. layout.NamesUpTo (length program) (piece x)) named program fit)))
  where
    named : (x : Element) → IsFit (length program) x → layout.NamesUpTo (length program) (piece x)
    named (form.Instruction f (Number v)) h = tt
    named (form.Instruction f (To place)) h = h.1
    named (form.Instruction f (Between high low)) h = h.1
    named (form.Byte b) h = tt
    named form.Label h = tt
