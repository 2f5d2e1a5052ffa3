-- The operand register, which prefix bytes make and the byte behind them uses.
use Rattle.std.specs.Prelude.{◌≡◌, ℕ, ◌+◌, ◌-◌, ◌*◌, ◌/◌, ◌%◌, ◌^◌, Bool, true, false, List, fold}
use Rattle.tn_isa.specs.Functions.{function_at}
use Rattle.tn_isa.specs.declared.functions.Fun.{Fun}
use Rattle.tn_isa.specs.declared.functions.Fun.TheVariants.{Pfix, Nfix}

-- whether a function's bytes make the operand of a later byte in place of executing
abbrev pub is_prefix : Fun → Bool
is_prefix Pfix = true
is_prefix Nfix = true
is_prefix _ = false

-- a function that executes, and so can be coded with an operand
abbrev pub IsCoded : Fun → Type 0
IsCoded f = is_prefix f ≡ false

-- the function that a byte names
abbrev pub function_of : ℕ → Fun
function_of byte = function_at (byte / 16)

-- a byte of pfix or nfix
abbrev pub IsPrefix : ℕ → Type 0
IsPrefix byte = is_prefix (function_of byte) ≡ true

-- the register with its low four bits replaced by those of a byte: the operand that the byte's
-- function sees
abbrev pub loaded : ℕ → ℕ → ℕ
loaded register byte = (register / 16) * 16 + byte % 16

-- what a function that sees this operand leaves in the register: pfix shifts it left by four
-- bits, nfix complements it first, and no other function changes it before it executes
abbrev pub shifted : Fun → ℕ → ℕ
shifted Pfix operand = (operand * 16) % 2 ^ 32
shifted Nfix operand = ((2 ^ 32 - 1 - operand) * 16) % 2 ^ 32
shifted _ operand = operand

-- the register after one byte
abbrev pub operand_after : ℕ → ℕ → ℕ
operand_after register byte = shifted (function_of byte) (loaded register byte)

-- the register after bytes, one after the other
abbrev pub register_after : ℕ → List ℕ → ℕ
register_after register bytes = fold operand_after register bytes
