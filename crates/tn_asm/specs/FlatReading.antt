-- Reading a flat source line by line.
use Rattle.std.specs.Prelude.{ℕ, ℤ, pos, List, [], ◌∷◌, ◌++◌, Option, Some, None, Result, Ok, Err}
use Rattle.std.specs.Int.{w32, cast_signed}
use Rattle.tn_isa.specs.declared.functions.Fun.{Fun}
use Rattle.tn_isa.specs.declared.functions.Fun.TheVariants.{Opr}
use Rattle.tn_isa.specs.declared.mnemonics.Mnemonic.{Mnemonic}
use Rattle.tn_isa.specs.declared.mnemonics.Mnemonic.TheVariants.{Direct, Plain}
use Rattle.tn_isa.specs.Operations.{operation_code}
use Rattle.tn_isa.specs.Mnemonics.{mnemonic_named}
use Rattle.tn_text.specs.declared.faults.Cause.{Cause}
use Rattle.tn_text.specs.declared.faults.Fault.{Fault}
use Rattle.tn_text.specs.declared.faults.FaultCode.TheVariants.{BadLine}
use Rattle.tn_text.specs.Faults.{bare}
use Rattle.tn_text.specs.Places.{number_at}
use Rattle.tn_text.specs.Reading.{result_then, read_text}

-- the instruction of a mnemonic alone
abbrev pub alone : Option Mnemonic → Result (Fun × ℤ) Cause
alone None = Err (bare BadLine)
alone (Some (Direct f)) = Err (bare BadLine)
alone (Some (Plain op)) = Ok (Opr, pos (operation_code op))

-- the instruction of a mnemonic and a token
abbrev pub with_token : List ℕ → Option Mnemonic → Result (Fun × ℤ) Cause
with_token token None = Err (bare BadLine)
with_token token (Some (Direct f)) = result_then (number_at token) (λ word. Ok (f, cast_signed w32 word))
with_token token (Some (Plain op)) = Err (bare BadLine)

-- the instruction of the tokens of a line
unfoldable pub instruction_said : List (List ℕ) → Result (Fun × ℤ) Cause
instruction_said [] = Err (bare BadLine)
instruction_said (word ∷ []) = alone (mnemonic_named word)
instruction_said (word ∷ token ∷ []) = with_token token (mnemonic_named word)
instruction_said (word ∷ token ∷ next ∷ others) = Err (bare BadLine)

-- the instructions so far and that of a line
abbrev pub flat_step : List (Fun × ℤ) → List (List ℕ) → Result (List (Fun × ℤ)) Cause
flat_step instructions words = result_then (instruction_said words) (λ i. Ok (instructions ++ i ∷ []))

-- what reading a text gives
abbrev pub flat_read : List ℕ → Result (List (Fun × ℤ)) Fault
flat_read text = read_text flat_step Ok [] text
