-- The codes of functions.
use Rattle.std.proofs.Common.{◌≡◌, ◌<◌, refl, arith}
use Rattle.tn_isa.specs.declared.functions.Fun.{Fun}
use Rattle.tn_isa.specs.declared.functions.Fun.TheVariants.{J, Ldlp, Pfix, Ldnl, Ldc, Ldnlp, Nfix, Ldl, Adc, Call, Cj, Ajw, Eqc, Stl}
use Rattle.tn_isa.specs.declared.functions.Fun.TheVariants.{Stnl, Opr}
use Rattle.tn_isa.specs.Functions.{code_of, function_at}

-- a code has four bits
pub code_of-below : (f : Fun) → code_of f < 16
code_of-below J = omega arith
code_of-below Ldlp = omega arith
code_of-below Pfix = omega arith
code_of-below Ldnl = omega arith
code_of-below Ldc = omega arith
code_of-below Ldnlp = omega arith
code_of-below Nfix = omega arith
code_of-below Ldl = omega arith
code_of-below Adc = omega arith
code_of-below Call = omega arith
code_of-below Cj = omega arith
code_of-below Ajw = omega arith
code_of-below Eqc = omega arith
code_of-below Stl = omega arith
code_of-below Stnl = omega arith
code_of-below Opr = omega arith

-- a function's code names it
pub function_at-code_of : (f : Fun) → function_at (code_of f) ≡ f
function_at-code_of J = refl
function_at-code_of Ldlp = refl
function_at-code_of Pfix = refl
function_at-code_of Ldnl = refl
function_at-code_of Ldc = refl
function_at-code_of Ldnlp = refl
function_at-code_of Nfix = refl
function_at-code_of Ldl = refl
function_at-code_of Adc = refl
function_at-code_of Call = refl
function_at-code_of Cj = refl
function_at-code_of Ajw = refl
function_at-code_of Eqc = refl
function_at-code_of Stl = refl
function_at-code_of Stnl = refl
function_at-code_of Opr = refl
