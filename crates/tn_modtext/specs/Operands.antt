-- What a token is in an operand's place.
use Rattle.std.specs.Prelude.{ℕ, ◌+◌, Bool, ◌==◌, List, [], ◌∷◌, take, drop, position, Option, Some, None, Result, Ok, Err, if◌then◌else◌}
use Rattle.tn_text.specs.declared.faults.Cause.{Cause}
use Rattle.tn_text.specs.declared.faults.FaultCode.TheVariants.{BadLine}
use Rattle.tn_text.specs.declared.limits.TheConstants.{NAME_LIMIT}
use Rattle.tn_text.specs.Faults.{bare}
use Rattle.tn_text.specs.Names.{is_name_spelling}
use Rattle.tn_text.specs.Numbers.{begins_number}
use Rattle.tn_text.specs.Places.{name_at}
use Rattle.tn_text.specs.Reading.{result_then}
use Rattle.tn_module.specs.declared.modules.Operand.{Operand}
use Rattle.tn_module.specs.declared.modules.Operand.TheVariants.{Number, To, Difference, CellWord}
use Rattle.tn_modtext.specs.Numerals.{signed_at}

abbrev pub is_minus : ℕ → Bool
is_minus c = c == 45

-- NAME-NAME: a token that is no name comes before one that is too long
abbrev pub difference_at : List ℕ → List ℕ → Result Operand Cause
difference_at high low =
    if is_name_spelling low
    then result_then (name_at NAME_LIMIT high) (λ h. result_then (name_at NAME_LIMIT low) (λ l. Ok (Difference h l)))
    else Err (bare BadLine)

-- NAME, or NAME-NAME cut at its first minus sign
abbrev pub cut_operand : List ℕ → Option ℕ → Result Operand Cause
cut_operand token None = result_then (name_at NAME_LIMIT token) (λ name. Ok (To name))
cut_operand token (Some at) = difference_at (take at token) (drop (at + 1) token)

-- NAME, NAME-NAME or @NAME
unfoldable pub named_operand_at : List ℕ → Result Operand Cause
named_operand_at [] = Err (bare BadLine)
named_operand_at (c ∷ cs) =
    if c == 64
    then result_then (name_at NAME_LIMIT cs) (λ name. Ok (CellWord name))
    else cut_operand (c ∷ cs) (position is_minus (c ∷ cs))

-- an operand of a module text
unfoldable pub operand_at : List ℕ → Result Operand Cause
operand_at token = if begins_number token then result_then (signed_at token) (λ v. Ok (Number v)) else named_operand_at token
