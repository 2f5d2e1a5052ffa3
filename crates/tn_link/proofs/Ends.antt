-- Ends of items and of cells, one after the other.
use Rattle.std.proofs.Common.{◌≡◌, ℕ, zero, suc, ◌+◌, ◌-◌, ◌^◌, ◌<◌, ◌≤◌, min, List, [], ◌∷◌, length, get_or, take, map, ap, sym, ◌∙◌}
use Rattle.std.proofs.Common.{arith}
use Rattle.std.specs.List.{fold, range_with_len}
use Rattle.std.proofs.lemmas.List.{get_or_read}
use Rattle.std.proofs.lemmas.List.Sums.{fold_more, sum_by_more, sum_by_more_le}
use Rattle.std.proofs.lemmas.List.FromFn.{get_or-map-range_with_len, length-map-range_with_len}
use Rattle.tn_text.specs.declared.limits.TheConstants.{ITEM_LIMIT, CELL_LIMIT}
use Rattle.tn_module.specs.declared.modules.Cell.{Cell}
use Rattle.tn_module.specs.declared.modules.Cell.TheVariants as cell
use Rattle.tn_module.specs.Modules.{Parts}
use Rattle.tn_module.specs.Names.{aligned, end_of}
use Rattle.tn_symbols.specs.Choices.{module_at}
use Rattle.tn_link.specs.declared.linking.Placed.{Placed}
use Rattle.tn_link.specs.declared.tables.Start.{Start}
use Rattle.tn_link.specs.Places.{item_count, cells_size, cell_offset, cells_end, start}
use Rattle.tn_link.specs.Cells.{cell_at}

-- ---- what only grows

module _ {X : Type 0} (f : ℕ → X → ℕ) (up : (at : ℕ) (x : X) → at ≤ f at x) where
  fold-up : (at : ℕ) (xs : List X) → at ≤ fold f at xs
  fold-up at [] = omega arith
  fold-up at (x ∷ xs) = omega (arith, up at x, fold-up (f at x) xs)

  fold-take-le : (at : ℕ) (xs : List X) (i : ℕ) → fold f at (take i xs) ≤ fold f at xs
  fold-take-le at [] zero = omega arith
  fold-take-le at [] (suc i) = omega arith
  fold-take-le at (x ∷ xs) zero = fold-up at (x ∷ xs)
  fold-take-le at (x ∷ xs) (suc i) = fold-take-le (f at x) xs i

-- ---- cells of a module

pub end-after : (at : ℕ) (c : Cell) → at ≤ end_of at c
end-after at (cell.Word w) = omega arith
end-after at (cell.Address name) = omega arith
end-after at (cell.Byte b) = omega arith
end-after at (cell.Space n) = omega arith
end-after at cell.Align = omega arith
end-after at (cell.Label name) = omega arith

pub offset-le : (cells : List Cell) (i : ℕ) → cell_offset cells i ≤ cells_size cells
offset-le cells i = fold-take-le (λ at c. end_of at c) end-after 0 cells i

pub offset-more : (cells : List Cell) (i : ℕ) → i < length cells → cell_offset cells (i + 1) ≡ end_of (cell_offset cells i)
    (cell_at cells i)
offset-more cells i h = fold_more (λ at c. end_of at c) 0 cells i cell.Align h

pub offset-next : (cells : List Cell) (i : ℕ) (x : Cell) → i < length cells → x ≡ get_or cells i x
    → cell_offset cells (i + 1) ≡ end_of (cell_offset cells i) x
offset-next cells i x h is = offset-more cells i h ∙ ap (end_of (cell_offset cells i)) (sym (get_or_read cells i x h is cell.Align))

-- ---- modules

pub ends-le : (modules : List Parts) (m : ℕ) → cells_end (take m modules) ≤ cells_end modules
ends-le modules m = fold-take-le (λ at p. aligned at + cells_size p.cells) (λ at p. omega arith) 0 modules m

module _ (modules : List Parts) (m : ℕ) (here : m < length modules) where
  pub ends-more : cells_end (take (m + 1) modules) ≡ (start modules m).cell + cells_size (module_at modules m).cells
  ends-more = fold_more (λ at p. aligned at + cells_size p.cells) 0 modules m (module_at [] 0) here

  pub cells-within : (start modules m).cell + cells_size (module_at modules m).cells ≤ cells_end modules
  cells-within = omega (arith, ends-more, ends-le modules (m + 1))

  pub items-more : item_count (take (m + 1) modules) ≡ item_count (take m modules) + length (module_at modules m).items
  items-more = sum_by_more (λ (p : Parts). length p.items) modules m (module_at [] 0) here

  pub items-within : (start modules m).item + length (module_at modules m).items ≤ item_count modules
  items-within = sum_by_more_le (λ (p : Parts). length p.items) modules m (module_at [] 0) here

-- ---- numbers of the code, which are no larger than the limits

pub aligned-exact : (end at cell : ℕ) → end ≡ at → at ≤ CELL_LIMIT
    → ((from : ℕ) → end ≡ min from (2 ^ 64 - 1) → cell ≡ min (aligned from) (2 ^ 64 - 1)) → cell ≡ aligned at
aligned-exact end at cell e small f = let h : cell ≡ min (aligned at) (2 ^ 64 - 1) = f at (omega arith) in omega (arith, h)

pub end-exact : (at from end : ℕ) (c : Cell) → at ≡ from → end_of from c ≤ CELL_LIMIT
    → ((from : ℕ) → at ≡ min from (2 ^ 64 - 1) → end ≡ min (end_of from c) (2 ^ 64 - 1)) → end ≡ end_of from c
end-exact at from end c e small f =
    let up : from ≤ end_of from c = end-after from c in
    let h : end ≡ min (end_of from c) (2 ^ 64 - 1) = f from (omega arith) in omega (arith, h)

-- the next cell of a module
pub at-next : (cells : List Cell) (i : ℕ) (x : Cell) (at end : ℕ) → i < length cells → x ≡ get_or cells i x → at ≡ cell_offset cells i
    → cells_size cells ≤ CELL_LIMIT → ((from : ℕ) → at ≡ min from (2 ^ 64 - 1) → end ≡ min (end_of from x) (2 ^ 64 - 1))
    → end ≡ cell_offset cells (i + 1)
at-next cells i x at end h is e small f =
    end-exact at (cell_offset cells i) end x e (omega (arith, offset-next cells i x h is, offset-le cells (i + 1))) f ∙ sym
    (offset-next cells i x h is)

pub size-exact : (size : ℕ) (cells : List Cell) → cells_size cells ≤ CELL_LIMIT → size ≡ min (cells_size cells) (2 ^ 64 - 1) → size
    ≡ cells_size cells
size-exact size cells small h = omega (arith, h)

-- ---- the table of starts

abbrev pub start_from : ℕ → ℕ → Start
start_from item cell = record { item = item; cell = cell }

pub start-is : (item cell : ℕ) (modules : List Parts) (m : ℕ) → item ≡ item_count (take m modules) → cell ≡ aligned (cells_end
    (take m modules))
    → start_from item cell ≡ start modules m
start-is item cell modules m a b = λ j. record { item = a j; cell = b j }

module _ (modules : List Parts) (starts : List Start) (is : starts ≡ map (start modules) (range_with_len 0 (length modules))) (m : ℕ)
    (here : m < length modules) where
  pub starts-long : m < length starts
  starts-long = omega (arith, ap length is, length-map-range_with_len (start modules) 0 (length modules))

  pub start-at : (d : Start) → get_or starts m d ≡ start modules m
  start-at d = ap (λ l. get_or l m d) is ∙ get_or-map-range_with_len (start modules) 0 (length modules) m m d here (omega arith)

  pub items-fit : (d : Start) (raw : Parts) → raw ≡ module_at modules m → item_count modules ≤ ITEM_LIMIT
      → (get_or starts m d).item + length raw.items ≤ ITEM_LIMIT
  items-fit d raw same few = omega (
    arith,
    ap (λ (s : Start). s.item) (start-at d),
    ap (λ
        (p : Parts). length p.items) same,
    items-within modules m here,
  )

  pub cells-fit : (d : Start) (raw : Parts) → raw ≡ module_at modules m → cells_end modules ≤ CELL_LIMIT
      → (get_or starts m d).cell + cells_size raw.cells ≤ CELL_LIMIT
  cells-fit d raw same few = omega (
    arith,
    ap (λ (s : Start). s.cell) (start-at d),
    ap (λ
        (p : Parts). cells_size p.cells) same,
    cells-within modules m here,
  )

-- ---- places

abbrev pub placed_at : ℕ → ℕ → ℕ → ℕ → Placed
placed_at m i address size = record { «module» = m; item = i; address = address; size = size }

pub placed-is : (m i a b s t : ℕ) → a ≡ b → s ≡ t → placed_at m i a s ≡ placed_at m i b t
placed-is m i a b s t e f = λ j. record { «module» = m; item = i; address = e j; size = f j }
