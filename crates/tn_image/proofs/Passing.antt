-- What holds of a processor in which no check finds a fault.
use Rattle.std.proofs.Common.{◌≡◌, ◌⊎◌, inl, inr, ℕ, ◌+◌, ◌-◌, ◌*◌, ◌%◌, ◌<◌, ◌≤◌, false, length, None, arith}
use Rattle.std.specs.Prelude.{max, min, nat_lt, ◌==◌}
use Rattle.std.proofs.lemmas.Bool.{cases_lt, ltb-false, eqb-true, not-false, or_parts}
use Rattle.tn_text.specs.Firsts.{first_cause}
use Rattle.tn_word.specs.Words.{most_neg, load_base}
use Rattle.tn_config.specs.Configurations.{BlockState}
use Rattle.tn_image.specs.declared.regions.Extent.{Extent}
use Rattle.tn_image.specs.Regions.{code_extent, cells_extent, workspace_extent, memory_end, is_outside, overlap, AreSeparate}
use Rattle.tn_image.specs.Checks.{linked_at, region_checks}
use Rattle.tn_image.proofs.Laws.{none-holds}
use Rattle.tn_image.proofs.RegionTests.{inside-parts, apart-from, inside-from}

-- regions of so many bytes at these addresses, none of which shares an address with another
pub ends-before : (a m c n : ℕ) → 0 < m → 0 < n → min (a + m) (c + n) ≤ max a c → (a + m ≤ c) ⊎ (c + n ≤ a)
ends-before a m c n some_here some_there h = elim (cases_lt c (a + m)) [
  | inl l ↦ inr (omega (arith, l, some_here, some_there, h))
  | inr g ↦ inl g
]

module _ (b : BlockState) (code_length cells_length : ℕ) where
  abbrev code : Extent
  code = code_extent b code_length

  abbrev cells : Extent
  cells = cells_extent b cells_length

  abbrev workspace : Extent
  workspace = workspace_extent b

  -- each check alone
  pub record HavePassed : Type 0 where
    pub cells_aligned : b.cells % 4 ≡ 0
    pub wptr_aligned : b.wptr % 4 ≡ 0
    pub code_base : load_base ≤ b.code
    pub code_inside : is_outside (memory_end b) code ≡ false
    pub cells_inside : is_outside (memory_end b) cells ≡ false
    pub workspace_inside : is_outside (memory_end b) workspace ≡ false
    pub code_cells : overlap code cells ≡ false
    pub code_workspace : overlap code workspace ≡ false
    pub cells_workspace : overlap cells workspace ≡ false

  pub passed-each : first_cause (region_checks b code cells workspace) ≡ None → HavePassed
  passed-each none =
      let p = none-holds (region_checks b code cells workspace) none in
      let base = or_parts (nat_lt b.code load_base) (is_outside (memory_end b) code) p.1.1.0 in
      record {
        cells_aligned = eqb-true (b.cells % 4) 0 (not-false (b.cells % 4 == 0) p.0);
        wptr_aligned = eqb-true (b.wptr % 4) 0 (not-false (b.wptr % 4 == 0) p.1.0);
        code_base = ltb-false b.code load_base base.0;
        code_inside = base.1;
        cells_inside = p.1.1.1.0;
        workspace_inside = p.1.1.1.1.0;
        code_cells = p.1.1.1.1.1.0;
        code_workspace = p.1.1.1.1.1.1.0;
        cells_workspace = p.1.1.1.1.1.1.1.0;
      }

  module _ (p : HavePassed) where
    -- cells lie at the base where they were linked
    pub linked-there : linked_at b.cells ≡ b.cells
    linked-there = omega (arith, p.cells_aligned)

    pub separate : AreSeparate b code_length cells_length
    separate = record {
      code = inside-from (memory_end b) code p.code_inside;
      cells = inside-from (memory_end b) cells p.cells_inside;
      workspace = inside-from (memory_end b) workspace p.workspace_inside;
      code_cells = apart-from code cells p.code_cells;
      code_workspace = apart-from code workspace p.code_workspace;
      cells_workspace = apart-from cells workspace p.cells_workspace;
    }

    -- where code and cells have bytes, they lie in the memory
    pub code-end : 0 < code_length → b.code + code_length ≤ most_neg + b.size
    code-end some = elim (inside-parts (memory_end b) code p.code_inside) [
      | inl same ↦ absurd (omega (arith, same, some))
      | inr h ↦ h.1
    ]

    pub cells-within : 0 < cells_length → (load_base ≤ b.cells) × (b.cells + cells_length ≤ most_neg + b.size)
    cells-within some = elim (inside-parts (memory_end b) cells p.cells_inside) [
      | inl same ↦ absurd (omega (arith, same, some))
      | inr h ↦ h
    ]

    -- and so do the arguments
    pub arguments-within : 0 < length b.args → (load_base ≤ b.wptr) × (b.wptr + 4 * length b.args ≤ most_neg + b.size)
    arguments-within some = elim (inside-parts (memory_end b) workspace p.workspace_inside) [
      | inl same ↦ absurd (omega (arith, same, some))
      | inr h ↦ (omega (arith, h.0), omega (arith, h.1))
    ]

    -- none of them shares an address with another
    pub code-cells : 0 < code_length → 0 < cells_length → (b.code + code_length ≤ b.cells) ⊎ (b.cells + cells_length ≤ b.code)
    code-cells x y =
        ends-before b.code code_length b.cells cells_length x y (ltb-false (max code.from cells.from) (min code.to cells.to) p.code_cells)

    with-arguments : (a m : ℕ) → 0 < m → 0 < length b.args
        → min (a + m) (b.wptr + 4 * max b.above (length b.args)) ≤ max a (b.wptr - 4 * b.below)
        → (a + m ≤ b.wptr) ⊎ (b.wptr + 4 * length b.args ≤ a)
    with-arguments a m x y h = elim (cases_lt b.wptr (a + m)) [
      | inl l ↦ inr (omega (arith, l, x, y, h))
      | inr g ↦ inl g
    ]

    pub code-arguments : 0 < code_length → 0 < length b.args
        → (b.code + code_length ≤ b.wptr) ⊎ (b.wptr + 4 * length b.args ≤ b.code)
    code-arguments x y =
        with-arguments b.code code_length x y (ltb-false (max code.from workspace.from) (min code.to workspace.to) p.code_workspace)

    pub cells-arguments : 0 < cells_length → 0 < length b.args
        → (b.cells + cells_length ≤ b.wptr) ⊎ (b.wptr + 4 * length b.args ≤ b.cells)
    cells-arguments x y =
        with-arguments b.cells cells_length x y (ltb-false (max cells.from workspace.from) (min cells.to workspace.to) p.cells_workspace)
