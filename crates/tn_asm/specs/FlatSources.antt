-- Flat sources: what their lines say, and what is wrong with a text that is none.
use Rattle.std.specs.Prelude.{◌≡◌, ℕ, ◌+◌, ℤ, pos, Bool, true, false, ◌==◌, List, [], ◌∷◌, ◌++◌, length, Option, Some, None, is_some}
use Rattle.std.specs.Prelude.{if◌then◌else◌}
use Rattle.std.specs.List.{All}
use Rattle.std.specs.Int.{w32, cast_signed}
use Rattle.std.specs.Str.Lines.{lines}
use Rattle.tn_isa.specs.declared.functions.Fun.{Fun}
use Rattle.tn_isa.specs.declared.functions.Fun.TheVariants.{Opr}
use Rattle.tn_isa.specs.declared.operations.Op.{Op}
use Rattle.tn_isa.specs.declared.mnemonics.Mnemonic.{Mnemonic}
use Rattle.tn_isa.specs.declared.mnemonics.Mnemonic.TheVariants.{Direct, Plain}
use Rattle.tn_isa.specs.Operations.{operation_code}
use Rattle.tn_isa.specs.Mnemonics.{mnemonic_named}
use Rattle.tn_text.specs.declared.faults.Cause.{Cause}
use Rattle.tn_text.specs.declared.faults.Fault.{Fault}
use Rattle.tn_text.specs.declared.faults.FaultCode.TheVariants.{NotAscii, BadLine, BadNumber}
use Rattle.tn_text.specs.Faults.{bare, fault_at}
use Rattle.tn_text.specs.Lines.{is_ascii_line, tokens}
use Rattle.tn_text.specs.Numbers.{number_of}

-- what the tokens of a line say: nothing; an operation, which is the function opr with its code; or
-- a function with a number, taken as a signed word
unfoldable pub TokensSay : List (List ℕ) → List (Fun × ℤ) → Type 0
TokensSay [] instructions = instructions ≡ []
TokensSay (word ∷ []) instructions =
    (op : Op) × (mnemonic_named word ≡ Some (Plain op)) × (instructions ≡ (Opr, pos (operation_code op)) ∷ [])
TokensSay (word ∷ token ∷ []) instructions =
    (f : Fun) × (operand : ℕ) × (mnemonic_named word ≡ Some (Direct f)) × (number_of token ≡ Some operand)
    × (instructions ≡ (f, cast_signed w32 operand) ∷ [])
TokensSay (word ∷ token ∷ next ∷ others) instructions = ⊥

-- what a line says
abbrev pub LineSays : List ℕ → List (Fun × ℤ) → Type 0
LineSays line instructions = (is_ascii_line line ≡ true) × TokensSay (tokens line) instructions

-- what lines say, one after the other
unfoldable pub LinesSay : List (List ℕ) → List (Fun × ℤ) → Type 0
LinesSay [] instructions = instructions ≡ []
LinesSay (line ∷ ls) instructions =
    (here : List (Fun × ℤ)) × (below : List (Fun × ℤ)) × LineSays line here × LinesSay ls below × (instructions ≡ here ++ below)

-- the text is a flat source of these instructions
abbrev pub IsFlat : List ℕ → List (Fun × ℤ) → Type 0
IsFlat text instructions = LinesSay (lines text) instructions

-- whether so many tokens stand behind the mnemonic as it wants
abbrev pub wants : Option Mnemonic → ℕ → Bool
wants None behind = false
wants (Some (Direct f)) behind = behind == 1
wants (Some (Plain op)) behind = behind == 0

-- whether the first word is a mnemonic, with as many tokens behind it as it wants
unfoldable pub is_shaped : List (List ℕ) → Bool
is_shaped [] = true
is_shaped (word ∷ others) = wants (mnemonic_named word) (length others)

-- whether the second token, if it is the last, is a number
unfoldable pub has_number : List (List ℕ) → Bool
has_number [] = true
has_number (word ∷ []) = true
has_number (word ∷ token ∷ []) = is_some (number_of token)
has_number (word ∷ token ∷ next ∷ others) = true

-- what is wrong with a line, the first of these that holds
unfoldable pub line_cause : List ℕ → Option Cause
line_cause line =
    if is_ascii_line line
    then (if is_shaped (tokens line) then (if has_number (tokens line) then None else Some (bare BadNumber)) else Some (bare BadLine))
    else Some (bare NotAscii)

-- the fault is that of the first line with something wrong
pub record IsFlatFault (text : List ℕ) (fault : Fault) : Type 0 where
  pub before : List (List ℕ)
  pub line : List ℕ
  pub after : List (List ℕ)
  pub cause : Cause
  pub lines : lines text ≡ before ++ line ∷ after
  pub good : All (λ l. line_cause l ≡ None) before
  pub bad : line_cause line ≡ Some cause
  pub placed : fault ≡ fault_at (length before + 1) cause
