-- The label of code that an address belongs to.
use Rattle.std.specs.Prelude.{◌≡◌, ℕ, ◌+◌, ◌-◌, ◌<◌, ◌≤◌, Bool, ◌&&◌, nat_le}
use Rattle.std.specs.Prelude.{nat_lt, List, [], ◌∷◌, ◌++◌, length, slice_get, Option, Some, None}
use Rattle.std.specs.Prelude.{option_and_then, if◌then◌else◌, All, true}
use Rattle.tn_module.specs.Modules.{Parts}
use Rattle.tn_module.specs.Names.{code_label}
use Rattle.tn_link.specs.declared.linking.Linked.{Linked}
use Rattle.tn_link.specs.declared.linking.Placed.{Placed}
use Rattle.tn_list.specs.Stretches.{Stretch, code_of}

-- the name of the label that is placed there, if it is one
abbrev pub label_placed : List Parts → Placed → Option (List ℕ)
label_placed modules p = option_and_then (λ m. option_and_then code_label (slice_get m.items p.item)) (slice_get modules p.«module»)

-- the address lies in the code
abbrev pub is_in : Stretch → ℕ → Bool
is_in code address = nat_le code.base address && nat_lt address (code.base + length code.bytes)

abbrev pub is_in_code : Linked → ℕ → Bool
is_in_code linked address = is_in (code_of linked) address

-- it is no label at or below the address
abbrev pub IsPast : List Parts → ℕ → Placed → Type 0
IsPast modules address p = (name : List ℕ) → label_placed modules p ≡ Some name → address < p.address

-- the last label in the order of items that lies at the address or below it, and how far below
pub record IsSymbol (modules : List Parts) (placed : List Placed) (address : ℕ) (found : List ℕ × ℕ) : Type 0 where
  pub before : List Placed
  pub at : Placed
  pub after : List Placed
  pub are : placed ≡ before ++ at ∷ after
  pub label : label_placed modules at ≡ Some found.0
  pub reached : at.address ≤ address
  pub offset : found.1 ≡ address - at.address
  pub last : All (IsPast modules address) after

-- what is found: such a label of an address in the code
abbrev pub IsSymbolOf : List Parts → Linked → ℕ → List ℕ × ℕ → Type 0
IsSymbolOf modules linked address found =
    (is_in_code linked address ≡ true) × IsSymbol modules linked.placed.items address found

-- nothing is: the address is outside of the code, or no label lies at it or below
abbrev pub HasNoSymbol : List Parts → Linked → ℕ → Type 0
HasNoSymbol modules linked address = is_in_code linked address ≡ true → All (IsPast modules address) linked.placed.items

-- a label nearer to the address than what was found, if one is placed there
abbrev pub or_kept : ℕ → Placed → Option (List ℕ × ℕ) → Option (List ℕ) → Option (List ℕ × ℕ)
or_kept address p found None = found
or_kept address p found (Some name) = Some (name, address - p.address)

unfoldable pub nearer : List Parts → ℕ → Option (List ℕ × ℕ) → Placed → Option (List ℕ × ℕ)
nearer modules address found p = if nat_le p.address address then or_kept address p found (label_placed modules p) else found

-- the nearest of what was found and of what is placed behind
unfoldable pub nearest : List Parts → ℕ → Option (List ℕ × ℕ) → List Placed → Option (List ℕ × ℕ)
nearest modules address found [] = found
nearest modules address found (p ∷ ps) = nearest modules address (nearer modules address found p) ps

-- the label that an address belongs to, if there is one
abbrev pub symbol_in : List Parts → Stretch → ℕ → Option (List ℕ × ℕ)
symbol_in modules code address = if is_in code address then nearest modules address None code.places else None

abbrev pub symbol_at : List Parts → Linked → ℕ → Option (List ℕ × ℕ)
symbol_at modules linked address = symbol_in modules (code_of linked) address
