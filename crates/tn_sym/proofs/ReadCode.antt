-- What is read of the code of a linked program is its instructions.
use Rattle.std.proofs.Common.{◌≡◌, ℕ, zero, suc, ◌+◌, ◌-◌, ◌^◌, ◌<◌, ◌≤◌, ℤ, pos, List, [], ◌∷◌, ◌++◌, length, map, drop}
use Rattle.std.proofs.Common.{Option, Some, None, refl, sym, ap, subst, ◌∙◌, length-append, add-one, arith}
use Rattle.std.specs.Prelude.{slice_index, slice_index_or}
use Rattle.std.specs.List.{sum, flat_map, range_with_len}
use Rattle.std.proofs.Math.Seq.{drop-append_seam}
use Rattle.std.proofs.lemmas.List.Sums.{sum_by-take-le}
use Rattle.tn_isa.specs.declared.functions.Fun.{Fun}
use Rattle.tn_prefix.specs.Coding.{coding}
use Rattle.tn_prefix.specs.Operand.{loads, word_of}
use Rattle.tn_prefix.proofs.Lengths.{length-coding, coding_length-range}
use Rattle.tn_prefix.proofs.Loads.{loads-LoadsAll}
use Rattle.tn_prefix.proofs.CodingLoads.{LoadsAll-coding}
use Rattle.tn_module.specs.declared.modules.Item.{Item}
use Rattle.tn_module.specs.declared.modules.Item.TheVariants as item
use Rattle.tn_module.specs.Modules.{Parts}
use Rattle.tn_symbols.specs.Choices.{module_at}
use Rattle.tn_layout.specs.Sizes.{position}
use Rattle.tn_layout.proofs.Distances.{position-suc}
use Rattle.tn_isa.specs.declared.functions.Fun.TheVariants.{Opr}
use Rattle.tn_isa.specs.Operations.{operation_code}
use Rattle.tn_link.specs.Places.{target}
use Rattle.tn_link.specs.Programs.{reach, element, element_bytes, operand_value}
use Rattle.tn_sym.specs.declared.codes.Instruction.{Instruction}
use Rattle.tn_sym.specs.declared.reading.Form.{Form}
use Rattle.tn_sym.specs.Programs.{module_sites, sites, executed, instruction_of, instructions_from}
use Rattle.tn_sym.specs.Inner.Readings.{form_of, forms_of, read_one, read_from}
use Rattle.tn_sym.specs.Inner.Tables.{IsRunnable, IsTable}
use Rattle.tn_sym.proofs.Elements.{joined, flat-joined, step-at, step-is, bytes_of, bytes-executed, Fits}
use Rattle.tn_sym.proofs.LinkedCode.{map-flat, flat-same}

-- ---- forms

joined-flat : {X B : Type 0} (g : X → List B) (i : ℕ) (xs : List X) → joined (λ k x. g x) i xs ≡ flat_map g xs
joined-flat g i [] = refl
joined-flat {X} {B} g i (x ∷ xs) = ap (λ (rest : List B). g x ++ rest) (joined-flat g (i + 1) xs)

map-pair : (m : ℕ) (items : List Item) → map (λ (site : ℕ × Item). form_of site.1) (map (λ (x : Item). (m, x)) items) ≡ map form_of items
map-pair m [] = refl
map-pair m (x ∷ items) = ap (λ (rest : List Form). form_of x ∷ rest) (map-pair m items)

pub forms-sites : (modules : List Parts) → forms_of modules ≡ map (λ (site : ℕ × Item). form_of site.1) (sites modules)
forms-sites modules =
    sym
    (map-flat (λ (site : ℕ × Item). form_of site.1) (module_sites modules) (range_with_len 0 (length modules))
    ∙ (flat-same (λ (m : ℕ). map (λ (site : ℕ × Item). form_of site.1) (module_sites modules m))
    (λ (m : ℕ). map form_of (module_at modules m).items) (range_with_len 0 (length modules))
    (λ m. map-pair m (module_at modules m).items)
    ∙ (flat-joined (λ (k : ℕ) (p : Parts). map form_of p.items) _ modules [] modules 0 refl refl
    ∙ joined-flat (λ (p : Parts). map form_of p.items) 0 modules)))

-- ---- reading

module _ (modules : List Parts) (cell_base : ℕ) (sizes : List ℕ) (base : ℕ) (all : List (ℕ × Item))
    (sized : (i : ℕ) (front : List (ℕ × Item)) (site : ℕ × Item) (rest : List (ℕ × Item)) → i ≡ length front
    → all ≡ front ++ site ∷ rest → slice_index sizes i ≡ length (bytes_of modules cell_base sizes i site))
    (fits : (i : ℕ) (front : List (ℕ × Item)) (site : ℕ × Item) (rest : List (ℕ × Item)) → i ≡ length front
    → all ≡ front ++ site ∷ rest → Fits (executed modules cell_base sizes i site.0 site.1)) where
  -- the bytes of items from place i on
  abbrev bytes_from : ℕ → List (ℕ × Item) → List ℕ
  bytes_from i rest = joined (bytes_of modules cell_base sizes) i rest

  abbrev forms_from : List (ℕ × Item) → List Form
  forms_from rest = map (λ (site : ℕ × Item). form_of site.1) rest

  -- an instruction whose bytes stand in front is read
  reads-one : (end : ℕ) (t : Fun × ℤ) (left : List ℕ) (others : List ℕ → List Instruction) → Fits (Some t)
      → read_one end (loads (coding t.0 t.1 ++ left)) (coding t.0 t.1 ++ left) others
      ≡ record { address = end - length (coding t.0 t.1 ++ left); size = length (coding t.0 t.1); fun = t.0; operand = word_of t.1 } ∷
      others left
  reads-one end t left others fit =
      let whole : List ℕ = coding t.0 t.1 ++ left in
      let found : loads whole ≡ Some (t.0, word_of t.1, length (coding t.0 t.1)) =
      loads-LoadsAll (LoadsAll-coding t.0 t.1 fit.1 fit.0) left in
      let behind : drop (length (coding t.0 t.1)) whole ≡ left = drop-append_seam (coding t.0 t.1) left in
      let size : length whole - length left ≡ length (coding t.0 t.1) = omega (arith, length-append (coding t.0 t.1) left) in
      ap (λ (o : Option (Fun × ℕ × ℕ)). read_one end o whole others) found
      ∙ (ap (λ (rest : List ℕ). record {
        address = end - length whole;
        size = length whole - length rest;
        fun = t.0;
        operand = word_of t.1;
      } ∷ others rest) behind
      ∙ ap (λ (n : ℕ). record { address = end - length whole; size = n; fun = t.0; operand = word_of t.1 } ∷ others left) size)

  pub reads : (end i : ℕ) (front rest : List (ℕ × Item)) → i ≡ length front → all ≡ front ++ rest
      → base + position sizes i + length (bytes_from i rest) ≡ end
      → read_from end (forms_from rest) (bytes_from i rest) ≡ instructions_from modules cell_base sizes base i rest
  reads end i front [] at is ends = refl
  reads end i front (site ∷ rest) at is ends =
      by_item site.1 (fits i front site rest at is) size
      (reads end (i + 1) (front ++ site ∷ []) rest (step-at i front site at) (step-is all front site rest is) next)
    where
      size : slice_index sizes i ≡ length (bytes_of modules cell_base sizes i site)
      size = sized i front site rest at is

      next : base + position sizes (i + 1) + length (bytes_from (i + 1) rest) ≡ end
      next =
          let up : position sizes (i + 1) ≡ position sizes (suc i) = ap (position sizes) (add-one i) in
          omega (
            arith,
            ends,
            size,
            up,
            position-suc sizes i,
            length-append (bytes_of modules cell_base sizes i site) (bytes_from (i + 1) rest),
          )

      by_one : (t : Fun × ℤ) (bytes : List ℕ) → bytes ≡ coding t.0 t.1 → Fits (Some t) → slice_index sizes i ≡ length bytes
          → read_from end (forms_from rest) (bytes_from (i + 1) rest) ≡ instructions_from modules cell_base sizes base (i + 1) rest
          → read_one end (loads (bytes ++ bytes_from (i + 1) rest)) (bytes ++ bytes_from (i + 1) rest)
          (λ left. read_from end (forms_from rest) left)
          ≡ instruction_of (base + position sizes i) (slice_index sizes i) (Some t)
          ++ instructions_from modules cell_base sizes base (i + 1) rest
      by_one t bytes own fit wide again =
          let long : length (coding t.0 t.1) ≡ slice_index sizes i = ap length (sym own) ∙ sym wide in
          let place : end - length (coding t.0 t.1 ++ bytes_from (i + 1) rest) ≡ base + position sizes i =
          omega (
            arith,
            ends,
            size,
            long,
            length-append (coding t.0 t.1) (bytes_from (i + 1) rest),
            length-append (bytes_of modules cell_base sizes i site) (bytes_from (i + 1) rest),
          ) in
          ap (λ (b : List ℕ). read_one end (loads (b ++ bytes_from (i + 1) rest)) (b ++ bytes_from (i + 1) rest)
          (λ left. read_from end (forms_from rest) left)) own
          ∙ (reads-one end t (bytes_from (i + 1) rest) (λ left. read_from end (forms_from rest) left) fit
          ∙ (ap (λ (a : ℕ). record { address = a; size = length (coding t.0 t.1); fun = t.0; operand = word_of t.1 }
          ∷ read_from end (forms_from rest) (bytes_from (i + 1) rest)) place
          ∙ (ap (λ (n : ℕ). record { address = base + position sizes i; size = n; fun = t.0; operand = word_of t.1 }
          ∷ read_from end (forms_from rest) (bytes_from (i + 1) rest)) long
          ∙ ap (λ (others : List Instruction). record {
            address = base + position sizes i;
            size = slice_index sizes i;
            fun = t.0;
            operand = word_of t.1;
          } ∷ others) again)))

      by_item : (x : Item) → Fits (executed modules cell_base sizes i site.0 x)
          → slice_index sizes i ≡ length (element_bytes sizes i (element (target modules site.0) cell_base x))
          → read_from end (forms_from rest) (bytes_from (i + 1) rest) ≡ instructions_from modules cell_base sizes base (i + 1) rest
          → read_from end (form_of x ∷ forms_from rest)
          (element_bytes sizes i (element (target modules site.0) cell_base x) ++ bytes_from (i + 1) rest)
          ≡ instruction_of (base + position sizes i) (slice_index sizes i) (executed modules cell_base sizes i site.0 x)
          ++ instructions_from modules cell_base sizes base (i + 1) rest
      by_item (item.Direct f o) fit wide again =
          by_one (f, operand_value sizes i (reach (target modules site.0) cell_base o)) _ refl fit wide again
      by_item (item.Plain op) fit wide again = by_one (Opr, pos (operation_code op)) _ refl fit wide again
      by_item (item.Byte b) fit wide again = again
      by_item (item.Label name) fit wide again = again

  -- ---- the instructions are a table

  pub record AreFrom (low : ℕ) (instructions : List Instruction) : Type 0 where
    pub above : (j : ℕ) (d : Instruction) → j < length instructions → low ≤ (slice_index_or instructions j d).address
    pub table : IsTable instructions

  cons-from : (low next : ℕ) (x : Instruction) (xs : List Instruction) → low ≤ x.address → x.address < next → low ≤ next → IsRunnable x
      → AreFrom next xs → AreFrom low (x ∷ xs)
  cons-from low next x xs first less up run h = record {
    above = λ j d within. above j d within;
    table = record { rising = λ i j d before within. rises i j d before within; runnable = λ j d within. runs j d within };
  }
    where
      above : (j : ℕ) (d : Instruction) → j < length (x ∷ xs) → low ≤ (slice_index_or (x ∷ xs) j d).address
      above zero d within = first
      above (suc j) d within = omega (arith, up, h.above j d (omega (arith, within)))

      rises : (i j : ℕ) (d : Instruction) → i < j → j < length (x ∷ xs)
          → (slice_index_or (x ∷ xs) i d).address < (slice_index_or (x ∷ xs) j d).address
      rises zero zero d before within = absurd (omega (arith, before))
      rises (suc i) zero d before within = absurd (omega (arith, before))
      rises zero (suc j) d before within = omega (arith, less, h.above j d (omega (arith, within)))
      rises (suc i) (suc j) d before within = h.table.rising i j d (omega (arith, before)) (omega (arith, within))

      runs : (j : ℕ) (d : Instruction) → j < length (x ∷ xs) → IsRunnable (slice_index_or (x ∷ xs) j d)
      runs zero d within = run
      runs (suc j) d within = h.table.runnable j d (omega (arith, within))

  lower : (low next : ℕ) (xs : List Instruction) → low ≤ next → AreFrom next xs → AreFrom low xs
  lower low next xs up h = record { above = λ j d within. omega (arith, up, h.above j d within); table = h.table }

  pub are-table : base + sum sizes < 2 ^ 32 → (i : ℕ) (front rest : List (ℕ × Item)) → i ≡ length front → all ≡ front ++ rest
      → AreFrom (base + position sizes i) (instructions_from modules cell_base sizes base i rest)
  are-table ends i front [] at is = record {
    above = λ j d within. absurd (omega (arith, within));
    table = record {
      rising = λ i j d before within. absurd (omega (arith, within));
      runnable = λ j d within. absurd
          (omega (arith, within));
    };
  }
  are-table ends i front (site ∷ rest) at is =
      by_shape (executed modules cell_base sizes i site.0 site.1) refl
      (are-table ends (i + 1) (front ++ site ∷ []) rest (step-at i front site at) (step-is all front site rest is))
    where
      next : position sizes (i + 1) ≡ position sizes i + slice_index sizes i
      next = let up : position sizes (i + 1) ≡ position sizes (suc i) = ap (position sizes) (add-one i) in up ∙ position-suc sizes i

      within_code : base + position sizes (i + 1) < 2 ^ 32
      within_code = omega (arith, ends, sum_by-take-le (λ (n : ℕ). n) sizes (i + 1))

      by_shape : (o : Option (Fun × ℤ)) → executed modules cell_base sizes i site.0 site.1 ≡ o
          → AreFrom (base + position sizes (i + 1)) (instructions_from modules cell_base sizes base (i + 1) rest)
          → AreFrom (base + position sizes i)
          (instruction_of (base + position sizes i) (slice_index sizes i) o ++ instructions_from modules cell_base sizes base (i + 1) rest)
      by_shape None shape again = lower (base + position sizes i) (base + position sizes (i + 1)) _ (omega (arith, next)) again
      by_shape (Some t) shape again =
          let fit : Fits (Some t) = subst Fits shape (fits i front site rest at is) in
          let some : 0 < slice_index sizes i =
          omega (
            arith,
            sized i front site rest at is,
            ap length (bytes-executed modules cell_base sizes i site.0 site.1 t shape),
            length-coding t.0 t.1 fit.1,
            (coding_length-range t.1).0,
          ) in
          cons-from (base + position sizes i) (base + position sizes (i + 1)) _ _ (omega arith) (omega (arith, next, some))
          (omega (arith, next))
          (record { coded = fit.0; end = omega (arith, within_code, next) }) again
