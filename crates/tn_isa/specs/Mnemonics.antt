-- The names of instructions in sources, as the guide's table spells them.
use Rattle.std.specs.Prelude.{ℕ, List, [], ◌∷◌, Option, find, codes}
use Rattle.std.specs.Str.{bytes_eq}
use Rattle.tn_isa.specs.declared.functions.Fun.{Fun}
use Rattle.tn_isa.specs.declared.functions.Fun.TheVariants.{J, Ldlp, Pfix, Ldnl, Ldc, Ldnlp, Nfix, Ldl, Adc, Call, Cj, Ajw, Eqc, Stl}
use Rattle.tn_isa.specs.declared.functions.Fun.TheVariants.{Stnl, Opr}
use Rattle.tn_isa.specs.declared.operations.Op.{Op}
use Rattle.tn_isa.specs.declared.operations.Op.TheVariants.{Rev, Lb, Bsub, Endp, Diff, Add, Gcall, In, Prod, Gt, Wsub, Out, Sub, Startp}
use Rattle.tn_isa.specs.declared.operations.Op.TheVariants.{Seterr, Csub0, Stopp, Sthf, Ldpi, Stlf, Xdble, Rem, Ret, Lend, Ldtimer}
use Rattle.tn_isa.specs.declared.operations.Op.TheVariants.{Testerr, Div, Lmul, Not, Xor, Bcnt, Lsum, Runp, Sb, Gajw, Wcnt, Shr, Shl}
use Rattle.tn_isa.specs.declared.operations.Op.TheVariants.{Mint, And, Move, Or, Ldiff, Sum, Mul, Sttimer, Clrhalterr, Sethalterr, Dup}
use Rattle.tn_isa.specs.declared.mnemonics.Mnemonic.{Mnemonic}
use Rattle.tn_isa.specs.declared.mnemonics.Mnemonic.TheVariants.{Direct, Plain}

-- a function's name
abbrev pub function_name : Fun → List ℕ
function_name J = codes "j"
function_name Ldlp = codes "ldlp"
function_name Pfix = codes "pfix"
function_name Ldnl = codes "ldnl"
function_name Ldc = codes "ldc"
function_name Ldnlp = codes "ldnlp"
function_name Nfix = codes "nfix"
function_name Ldl = codes "ldl"
function_name Adc = codes "adc"
function_name Call = codes "call"
function_name Cj = codes "cj"
function_name Ajw = codes "ajw"
function_name Eqc = codes "eqc"
function_name Stl = codes "stl"
function_name Stnl = codes "stnl"
function_name Opr = codes "opr"

-- an operation's name
abbrev pub operation_name : Op → List ℕ
operation_name Rev = codes "rev"
operation_name Lb = codes "lb"
operation_name Bsub = codes "bsub"
operation_name Endp = codes "endp"
operation_name Diff = codes "diff"
operation_name Add = codes "add"
operation_name Gcall = codes "gcall"
operation_name In = codes "in"
operation_name Prod = codes "prod"
operation_name Gt = codes "gt"
operation_name Wsub = codes "wsub"
operation_name Out = codes "out"
operation_name Sub = codes "sub"
operation_name Startp = codes "startp"
operation_name Seterr = codes "seterr"
operation_name Csub0 = codes "csub0"
operation_name Stopp = codes "stopp"
operation_name Sthf = codes "sthf"
operation_name Ldpi = codes "ldpi"
operation_name Stlf = codes "stlf"
operation_name Xdble = codes "xdble"
operation_name Rem = codes "rem"
operation_name Ret = codes "ret"
operation_name Lend = codes "lend"
operation_name Ldtimer = codes "ldtimer"
operation_name Testerr = codes "testerr"
operation_name Div = codes "div"
operation_name Lmul = codes "lmul"
operation_name Not = codes "not"
operation_name Xor = codes "xor"
operation_name Bcnt = codes "bcnt"
operation_name Lsum = codes "lsum"
operation_name Runp = codes "runp"
operation_name Sb = codes "sb"
operation_name Gajw = codes "gajw"
operation_name Wcnt = codes "wcnt"
operation_name Shr = codes "shr"
operation_name Shl = codes "shl"
operation_name Mint = codes "mint"
operation_name And = codes "and"
operation_name Move = codes "move"
operation_name Or = codes "or"
operation_name Ldiff = codes "ldiff"
operation_name Sum = codes "sum"
operation_name Mul = codes "mul"
operation_name Sttimer = codes "sttimer"
operation_name Clrhalterr = codes "clrhalterr"
operation_name Sethalterr = codes "sethalterr"
operation_name Dup = codes "dup"

-- an instruction's name
abbrev pub name_of : Mnemonic → List ℕ
name_of (Direct f) = function_name f
name_of (Plain op) = operation_name op

-- what a source may name: each function but pfix, nfix and opr, and each operation
abbrev pub mnemonics : List Mnemonic
mnemonics = Direct J ∷ Direct Ldlp ∷ Direct Ldnl ∷ Direct Ldc ∷ Direct Ldnlp ∷ Direct Ldl ∷ Direct Adc ∷ Direct Call ∷ Direct Cj
    ∷ Direct Ajw ∷ Direct Eqc ∷ Direct Stl ∷ Direct Stnl ∷ Plain Rev ∷ Plain Lb ∷ Plain Bsub ∷ Plain Endp ∷ Plain Diff ∷ Plain Add
    ∷ Plain Gcall ∷ Plain In ∷ Plain Prod ∷ Plain Gt ∷ Plain Wsub ∷ Plain Out ∷ Plain Sub ∷ Plain Startp ∷ Plain Seterr ∷ Plain Csub0
    ∷ Plain Stopp ∷ Plain Sthf ∷ Plain Ldpi ∷ Plain Stlf ∷ Plain Xdble ∷ Plain Rem ∷ Plain Ret ∷ Plain Lend ∷ Plain Ldtimer
    ∷ Plain Testerr ∷ Plain Div ∷ Plain Lmul ∷ Plain Not ∷ Plain Xor ∷ Plain Bcnt ∷ Plain Lsum ∷ Plain Runp ∷ Plain Sb ∷ Plain Gajw
    ∷ Plain Wcnt ∷ Plain Shr ∷ Plain Shl ∷ Plain Mint ∷ Plain And ∷ Plain Move ∷ Plain Or ∷ Plain Ldiff ∷ Plain Sum ∷ Plain Mul
    ∷ Plain Sttimer ∷ Plain Clrhalterr ∷ Plain Sethalterr ∷ Plain Dup ∷ []

-- what a word names, if anything
unfoldable pub mnemonic_named : List ℕ → Option Mnemonic
mnemonic_named word = find (λ m. bytes_eq (name_of m) word) mnemonics
