-- The lines that name processors, and those that wire ends.
use Rattle.std.specs.Prelude.{◌≡◌, ℕ, ◌<◌, ◌≤◌, ◌-◌, ◌^◌, ◌≢◌, ◌⊎◌, List, [], ◌∷◌, ◌++◌, map, length, slice_index_or, Option, Some, None}
use Rattle.tn_text.specs.declared.limits.TheConstants.{PROCESSOR_LIMIT}
use Rattle.tn_mem.specs.Sizes.{IsMemorySize}
use Rattle.tn_net.specs.declared.lines.LinkEnd.{LinkEnd}
use Rattle.tn_net.specs.declared.lines.EndLine.{EndLine}
use Rattle.tn_net.specs.RawNetworks.{RawLists}

-- the name of the processor at a place
abbrev pub name_at : List (List ℕ × ℕ × ℕ) → ℕ → List ℕ
name_at names p = (slice_index_or names p ([], 0, 0)).0

-- the size of its memory
abbrev pub size_at : List (List ℕ × ℕ × ℕ) → ℕ → ℕ
size_at names p = (slice_index_or names p ([], 0, 0)).1

-- its line
abbrev pub line_of : List (List ℕ × ℕ × ℕ) → ℕ → ℕ
line_of names p = (slice_index_or names p ([], 0, 0)).2

-- the processor at the place p has the name
pub record IsNamed (names : List (List ℕ × ℕ × ℕ)) (name : List ℕ) (p : ℕ) : Type 0 where
  pub here : p < length names
  pub called : name_at names p ≡ name

-- a processor has the name
abbrev pub IsKnown : List (List ℕ × ℕ × ℕ) → List ℕ → Type 0
IsKnown names name = (p : ℕ) × IsNamed names name p

-- an earlier processor has the name of the one at the place i
abbrev pub IsRepeated : List (List ℕ × ℕ × ℕ) → ℕ → Type 0
IsRepeated names i = (j : ℕ) × (j < i) × (name_at names j ≡ name_at names i)

-- no name is repeated before the place n
abbrev pub AreDistinct : List (List ℕ × ℕ × ℕ) → ℕ → Type 0
AreDistinct names n = (i : ℕ) → i < n → IsRepeated names i → ⊥

-- the line of the host
abbrev pub host_lines : Option (List ℕ × ℕ × ℕ) → List EndLine
host_lines None = []
host_lines (Some host) = record { one = record { name = host.0; link = host.1 }; two = None; line = host.2 } ∷ []

-- the line of a wire
abbrev pub wire_line : (List ℕ × ℕ × List ℕ × ℕ × ℕ) → EndLine
wire_line wire =
    record { one = record { name = wire.0; link = wire.1 }; two = Some (record { name = wire.2; link = wire.3 }); line = wire.4 }

-- the lines that wire ends
abbrev pub end_lines : RawLists → List EndLine
end_lines raw = host_lines raw.host ++ map wire_line raw.wires

-- the line at a place of such a list, which its number need not follow
abbrev pub line_at : List EndLine → ℕ → EndLine
line_at lines k = slice_index_or lines k (record { one = record { name = []; link = 0 }; two = None; line = 0 })

-- the line names the end
abbrev pub HasEnd : EndLine → LinkEnd → Type 0
HasEnd line end = (line.one ≡ end) ⊎ (line.two ≡ Some end)

-- the line wires the two ends
abbrev pub Wires : EndLine → LinkEnd → LinkEnd → Type 0
Wires line a b = ((line.one ≡ a) × (line.two ≡ Some b)) ⊎ ((line.one ≡ b) × (line.two ≡ Some a))

-- the end stands on a line with a lower number
pub record IsTakenBefore (lines : List EndLine) (number : ℕ) (end : LinkEnd) : Type 0 where
  pub place : ℕ
  pub here : place < length lines
  pub before : (line_at lines place).line < number
  pub named : HasEnd (line_at lines place) end

-- the links of the line are those of a processor
pub record HasLinks (line : EndLine) : Type 0 where
  pub one : line.one.link < 4
  pub two : (end : LinkEnd) → line.two ≡ Some end → end.link < 4

-- no two of the lines have one number
abbrev pub DifferInNumber : List EndLine → Type 0
DifferInNumber lines = (j k : ℕ) → j < k → k < length lines → (line_at lines j).line ≢ (line_at lines k).line

-- what holds of each description that a configuration gives
pub record IsAdmitted (raw : RawLists) : Type 0 where
  pub few : length raw.names ≤ PROCESSOR_LIMIT
  pub sizes : (p : ℕ) → p < length raw.names → IsMemorySize (size_at raw.names p)
  pub links : (k : ℕ) → k < length (end_lines raw) → HasLinks (line_at (end_lines raw) k)
  pub numbers : DifferInNumber (end_lines raw)
  pub lines : raw.lines < 2 ^ 32 - 1
  pub short : length raw.wires < 2 ^ 30
