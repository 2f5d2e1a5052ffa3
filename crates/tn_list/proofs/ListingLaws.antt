-- The lines of listings, one after the other.
use Rattle.std.proofs.Common.{◌≡◌, ◌≢◌, ℕ, ◌-◌, ◌<◌, ◌≤◌, List, [], ◌∷◌, ◌++◌, length, take, drop, get_or}
use Rattle.std.proofs.Common.{refl, sym, ap, ◌∙◌, append_assoc, arith}
use Rattle.std.proofs.Math.Seq.{take-length}
use Rattle.tn_module.specs.declared.modules.Item.{Item}
use Rattle.tn_module.specs.declared.modules.Cell.{Cell}
use Rattle.tn_module.specs.Modules.{Parts}
use Rattle.tn_link.specs.declared.linking.Placed.{Placed}
use Rattle.tn_list.specs.ListingTexts.{item_line, item_lines, cell_line, cell_lines, module_line, code_lines, cells_lines}

-- what stands behind the first of a list
abbrev pub behind : {X : Type 0} → List X → List X
behind xs = take (length xs - 1) (drop 1 xs)

behind-same : {X : Type 0} (x : X) (xs : List X) → behind (x ∷ xs) ≡ xs
behind-same x xs = let n : length (x ∷ xs) - 1 ≡ length xs = omega arith in ap (λ n. take n xs) n ∙ take-length xs

module _ (base : ℕ) (bytes : List ℕ) where
  -- ---- items

  pub items-first : (rest : List Item) (places left : List Placed) (i : Item) (d : Placed) → 1 ≤ length rest → i ≡ get_or rest 0 i
      → length places ≢ 0 → left ≡ drop 1 places
      → item_lines base bytes rest places ≡ item_line base bytes i (get_or places 0 d) ++ item_lines base bytes (behind rest) left
  unfolding item_lines
  items-first [] places left i d some is some_place left_is = absurd (omega arith)
  items-first (x ∷ xs) [] left i d some is some_place left_is = absurd (some_place refl)
  items-first (x ∷ xs) (y ∷ ys) left i d some is some_place left_is =
      let first : x ≡ i = sym is in
      let items = sym (behind-same x xs) in
      let places : ys ≡ left = sym left_is in λ j. item_line base bytes (first j) y ++ item_lines base bytes (items j) (places j)

  pub items-none : (rest : List Item) (places : List Placed) → length rest < 1 → item_lines base bytes rest places ≡ []
  unfolding item_lines
  items-none [] places none = refl
  items-none (x ∷ xs) places none = absurd (omega arith)

  pub items-no_place : (rest : List Item) (places : List Placed) → length places ≡ 0 → item_lines base bytes rest places ≡ []
  unfolding item_lines
  items-no_place [] places none = refl
  items-no_place (x ∷ xs) [] none = refl
  items-no_place (x ∷ xs) (y ∷ ys) none = absurd cc

  -- ---- cells

  pub cells-first : (rest : List Cell) (places left : List Placed) (c : Cell) (d : Placed) → 1 ≤ length rest → c ≡ get_or rest 0 c
      → length places ≢ 0 → left ≡ drop 1 places
      → cell_lines base bytes rest places ≡ cell_line base bytes c (get_or places 0 d) ++ cell_lines base bytes (behind rest) left
  unfolding cell_lines
  cells-first [] places left c d some is some_place left_is = absurd (omega arith)
  cells-first (x ∷ xs) [] left c d some is some_place left_is = absurd (some_place refl)
  cells-first (x ∷ xs) (y ∷ ys) left c d some is some_place left_is =
      let first : x ≡ c = sym is in
      let cells = sym (behind-same x xs) in
      let places : ys ≡ left = sym left_is in λ j. cell_line base bytes (first j) y ++ cell_lines base bytes (cells j) (places j)

  pub cells-none : (rest : List Cell) (places : List Placed) → length rest < 1 → cell_lines base bytes rest places ≡ []
  unfolding cell_lines
  cells-none [] places none = refl
  cells-none (x ∷ xs) places none = absurd (omega arith)

  pub cells-no_place : (rest : List Cell) (places : List Placed) → length places ≡ 0 → cell_lines base bytes rest places ≡ []
  unfolding cell_lines
  cells-no_place [] places none = refl
  cells-no_place (x ∷ xs) [] none = refl
  cells-no_place (x ∷ xs) (y ∷ ys) none = absurd cc

  -- ---- modules

  module _ (places left : List Placed) (m : Parts) (name : List ℕ) (name_is : name ≡ m.name) (count : ℕ) where
    pub code-first : (rest : List Parts) (items : List Item) → 1 ≤ length rest → m ≡ get_or rest 0 m → items ≡ m.items
        → count ≡ length items → left ≡ drop count places
        → code_lines base bytes rest places
        ≡ module_line name ++ (item_lines base bytes items places ++ code_lines base bytes (behind rest) left)
    unfolding code_lines
    code-first [] items some is items_are count_is left_is = absurd (omega arith)
    code-first (x ∷ xs) items some is items_are count_is left_is =
        let first : x ≡ m = sym is in
        let named : x.name ≡ name = ap (λ (p : Parts). p.name) first ∙ sym name_is in
        let its : x.items ≡ items = ap (λ (p : Parts). p.items) first ∙ sym items_are in
        let many : length x.items ≡ count = ap length its ∙ sym count_is in
        let others = sym (behind-same x xs) in
        let back = ap (λ n. drop n places) many ∙ sym left_is in
        (λ j. module_line (named j) ++ item_lines base bytes (its j) places ++ code_lines base bytes (others j) (back j))
        ∙ append_assoc (module_line name) (item_lines base bytes items places) (code_lines base bytes (behind (x ∷ xs)) left)

    pub modules-first : (rest : List Parts) (cells : List Cell) → 1 ≤ length rest → m ≡ get_or rest 0 m → cells ≡ m.cells
        → count ≡ length cells → left ≡ drop count places
        → cells_lines base bytes rest places
        ≡ module_line name ++ (cell_lines base bytes cells places ++ cells_lines base bytes (behind rest) left)
    unfolding cells_lines
    modules-first [] cells some is cells_are count_is left_is = absurd (omega arith)
    modules-first (x ∷ xs) cells some is cells_are count_is left_is =
        let first : x ≡ m = sym is in
        let named : x.name ≡ name = ap (λ (p : Parts). p.name) first ∙ sym name_is in
        let its : x.cells ≡ cells = ap (λ (p : Parts). p.cells) first ∙ sym cells_are in
        let many : length x.cells ≡ count = ap length its ∙ sym count_is in
        let others = sym (behind-same x xs) in
        let back = ap (λ n. drop n places) many ∙ sym left_is in
        (λ j. module_line (named j) ++ cell_lines base bytes (its j) places ++ cells_lines base bytes (others j) (back j))
        ∙ append_assoc (module_line name) (cell_lines base bytes cells places) (cells_lines base bytes (behind (x ∷ xs)) left)

  pub code-none : (rest : List Parts) (places : List Placed) → length rest < 1 → code_lines base bytes rest places ≡ []
  unfolding code_lines
  code-none [] places none = refl
  code-none (x ∷ xs) places none = absurd (omega arith)

  pub modules-none : (rest : List Parts) (places : List Placed) → length rest < 1 → cells_lines base bytes rest places ≡ []
  unfolding cells_lines
  modules-none [] places none = refl
  modules-none (x ∷ xs) places none = absurd (omega arith)
