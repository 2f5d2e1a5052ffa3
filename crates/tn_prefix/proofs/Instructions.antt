-- What an instruction's byte holds.
use Rattle.std.proofs.Common.{◌≡◌, ℕ, ◌/◌, ◌%◌, ◌<◌, ap, ◌∙◌, arith}
use Rattle.tn_isa.specs.declared.functions.Fun.{Fun}
use Rattle.tn_isa.specs.Functions.{code_of, function_at}
use Rattle.tn_isa.specs.OperandRegister.{function_of}
use Rattle.tn_isa.proofs.FunctionCodes.{code_of-below, function_at-code_of}
use Rattle.tn_prefix.specs.Coding.{instruction}

-- an instruction is a byte
pub instruction-below : (f : Fun) (n : ℕ) → instruction f n < 256
instruction-below f n = omega (arith, code_of-below f)

-- its low four bits are those of the operand
pub instruction-low : (f : Fun) (n : ℕ) → instruction f n % 16 ≡ n % 16
instruction-low f n = omega arith

-- its high four bits name the function
pub function_of-instruction : (f : Fun) (n : ℕ) → function_of (instruction f n) ≡ f
function_of-instruction f n =
    let high : instruction f n / 16 ≡ code_of f = omega arith in
    ap function_at high ∙ function_at-code_of f
