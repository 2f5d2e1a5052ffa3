-- What bytes load.
use Rattle.std.specs.Prelude.{◌≡◌, ℕ, ◌+◌, ℤ, List, [], ◌∷◌, ◌++◌, All, Option, Some, None, if◌then◌else◌}
use Rattle.std.specs.Option.{option_map}
use Rattle.std.specs.Int.{cast_unsigned, w32}
use Rattle.tn_isa.specs.declared.functions.Fun.{Fun}
use Rattle.tn_isa.specs.OperandRegister.{is_prefix, IsCoded, IsPrefix, function_of, loaded, operand_after, register_after}

-- what was found behind one byte
abbrev pub behind_one : Fun × ℕ × ℕ → Fun × ℕ × ℕ
behind_one found = (found.0, found.1, found.2 + 1)

-- the first byte that is no prefix, from this register on: its function, the operand that it
-- sees, and how many bytes are read with it; None where no such byte comes
unfoldable pub loads_from : ℕ → List ℕ → Option (Fun × ℕ × ℕ)
loads_from register [] = None
loads_from register (byte ∷ rest) =
    if is_prefix (function_of byte) then option_map behind_one (loads_from (operand_after register byte) rest) else Some
    (function_of byte, loaded register byte, 1)

-- the same where the register is clear
abbrev pub loads : List ℕ → Option (Fun × ℕ × ℕ)
loads bytes = loads_from 0 bytes

-- these bytes, all of them, load the operand into f: they are prefix bytes, and a last byte of f,
-- which is no prefix and sees the operand in the register that they leave
pub record LoadsAll (bytes : List ℕ) (f : Fun) (operand : ℕ) : Type 0 where
  pub prefixes : List ℕ
  pub last : ℕ
  pub parts : bytes ≡ prefixes ++ last ∷ []
  pub before : All IsPrefix prefixes
  pub names : function_of last ≡ f
  pub executes : IsCoded f
  pub sees : loaded (register_after 0 prefixes) last ≡ operand

-- a signed operand modulo 2 ^ 32, as a function sees it
abbrev pub word_of : ℤ → ℕ
word_of e = cast_unsigned w32 e
