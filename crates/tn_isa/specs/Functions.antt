-- The functions of instruction bytes, and the codes that the guide's table gives them.
use Rattle.std.specs.Prelude.{ℕ, List, [], ◌∷◌, slice_index_or}
use Rattle.tn_isa.specs.declared.functions.Fun.{Fun}
use Rattle.tn_isa.specs.declared.functions.Fun.TheVariants.{J, Ldlp, Pfix, Ldnl, Ldc, Ldnlp, Nfix, Ldl, Adc, Call, Cj, Ajw, Eqc, Stl}
use Rattle.tn_isa.specs.declared.functions.Fun.TheVariants.{Stnl, Opr}

-- the function's code, which stands in the high four bits of an instruction byte
abbrev pub code_of : Fun → ℕ
code_of J = 0x0
code_of Ldlp = 0x1
code_of Pfix = 0x2
code_of Ldnl = 0x3
code_of Ldc = 0x4
code_of Ldnlp = 0x5
code_of Nfix = 0x6
code_of Ldl = 0x7
code_of Adc = 0x8
code_of Call = 0x9
code_of Cj = 0xA
code_of Ajw = 0xB
code_of Eqc = 0xC
code_of Stl = 0xD
code_of Stnl = 0xE
code_of Opr = 0xF

-- the sixteen functions in the order of their codes
abbrev pub functions : List Fun
functions = J ∷ Ldlp ∷ Pfix ∷ Ldnl ∷ Ldc ∷ Ldnlp ∷ Nfix ∷ Ldl ∷ Adc ∷ Call ∷ Cj ∷ Ajw ∷ Eqc ∷ Stl ∷ Stnl ∷ Opr ∷ []

-- the function with this code
abbrev pub function_at : ℕ → Fun
function_at code = slice_index_or functions code Opr
