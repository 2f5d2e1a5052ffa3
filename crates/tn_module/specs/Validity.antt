-- What makes a module valid.
use Rattle.std.specs.Prelude.{◌≡◌, ℕ, true, false, List, All}
use Rattle.std.specs.List.{IsDistinct}
use Rattle.tn_module.specs.Modules.{Parts}
use Rattle.tn_module.specs.Names.{same_name, is_among, defined_names, code_names, cell_names, labels, misaligned, used_as_code}
use Rattle.tn_module.specs.Names.{used_as_cells, used_in_cells, has_its_operand}

-- each of the names is one of those
abbrev pub AllAmong : List (List ℕ) → List (List ℕ) → Type 0
AllAmong those names = All (λ name. is_among those name ≡ true) names

-- none of the names is one of those
abbrev pub NoneAmong : List (List ℕ) → List (List ℕ) → Type 0
NoneAmong those names = All (λ name. is_among those name ≡ false) names

pub record IsValid (m : Parts) : Type 0 where
  -- no name is defined twice, none is exported twice, and each exported one is a label
  pub distinct : IsDistinct same_name (defined_names m)
  pub distinct_exports : IsDistinct same_name m.exports
  pub exported : AllAmong (labels m) m.exports
  -- each used name is defined
  pub code_defined : AllAmong (defined_names m) (used_as_code m)
  pub cells_defined : AllAmong (defined_names m) (used_as_cells m)
  pub addresses_defined : AllAmong (defined_names m) (used_in_cells m)
  -- as what it is used
  pub code : AllAmong (code_names m) (used_as_code m)
  pub cells : AllAmong (cell_names m) (used_as_cells m)
  -- each function has an operand that it takes
  pub operands : All (λ item. has_its_operand item ≡ true) m.items
  -- each label of a cell that is exported or used by its word lies at a multiple of 4
  pub aligned_exports : NoneAmong (misaligned m) m.exports
  pub aligned_cells : NoneAmong (misaligned m) (used_as_cells m)
