-- A signed operand by its sign.
use Rattle.std.specs.Prelude.{ℕ, ℤ, pos, negsuc}
use Rattle.tn_prefix.specs.declared.sign.SignedOperand.{SignedOperand}
use Rattle.tn_prefix.specs.declared.sign.SignedOperand.TheVariants.{Natural, Complement}

-- the operand
abbrev pub operand_value : SignedOperand → ℤ
operand_value (Natural n) = pos n
operand_value (Complement n) = negsuc n

-- the unsigned number that stands for it
abbrev pub magnitude : SignedOperand → ℕ
magnitude (Natural n) = n
magnitude (Complement n) = n
