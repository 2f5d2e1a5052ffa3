-- The operations of the function opr, and the codes that the guide's table gives them.
use Rattle.std.specs.Prelude.{ℕ, ◌==◌, List, [], ◌∷◌, Option, find}
use Rattle.tn_isa.specs.declared.operations.Op.{Op}
use Rattle.tn_isa.specs.declared.operations.Op.TheVariants.{Rev, Lb, Bsub, Endp, Diff, Add, Gcall, In, Prod, Gt, Wsub, Out, Sub, Startp}
use Rattle.tn_isa.specs.declared.operations.Op.TheVariants.{Seterr, Csub0, Stopp, Sthf, Ldpi, Stlf, Xdble, Rem, Ret, Lend, Ldtimer}
use Rattle.tn_isa.specs.declared.operations.Op.TheVariants.{Testerr, Div, Lmul, Not, Xor, Bcnt, Lsum, Runp, Sb, Gajw, Wcnt, Shr, Shl}
use Rattle.tn_isa.specs.declared.operations.Op.TheVariants.{Mint, And, Move, Or, Ldiff, Sum, Mul, Sttimer, Clrhalterr, Sethalterr, Dup}

-- the operation's code, which is the operand of its opr
abbrev pub operation_code : Op → ℕ
operation_code Rev = 0x00
operation_code Lb = 0x01
operation_code Bsub = 0x02
operation_code Endp = 0x03
operation_code Diff = 0x04
operation_code Add = 0x05
operation_code Gcall = 0x06
operation_code In = 0x07
operation_code Prod = 0x08
operation_code Gt = 0x09
operation_code Wsub = 0x0A
operation_code Out = 0x0B
operation_code Sub = 0x0C
operation_code Startp = 0x0D
operation_code Seterr = 0x10
operation_code Csub0 = 0x13
operation_code Stopp = 0x15
operation_code Sthf = 0x18
operation_code Ldpi = 0x1B
operation_code Stlf = 0x1C
operation_code Xdble = 0x1D
operation_code Rem = 0x1F
operation_code Ret = 0x20
operation_code Lend = 0x21
operation_code Ldtimer = 0x22
operation_code Testerr = 0x29
operation_code Div = 0x2C
operation_code Lmul = 0x31
operation_code Not = 0x32
operation_code Xor = 0x33
operation_code Bcnt = 0x34
operation_code Lsum = 0x37
operation_code Runp = 0x39
operation_code Sb = 0x3B
operation_code Gajw = 0x3C
operation_code Wcnt = 0x3F
operation_code Shr = 0x40
operation_code Shl = 0x41
operation_code Mint = 0x42
operation_code And = 0x46
operation_code Move = 0x4A
operation_code Or = 0x4B
operation_code Ldiff = 0x4F
operation_code Sum = 0x52
operation_code Mul = 0x53
operation_code Sttimer = 0x54
operation_code Clrhalterr = 0x57
operation_code Sethalterr = 0x58
operation_code Dup = 0x5A

-- the operations in the order of their codes
abbrev pub operations : List Op
operations = Rev ∷ Lb ∷ Bsub ∷ Endp ∷ Diff ∷ Add ∷ Gcall ∷ In ∷ Prod ∷ Gt ∷ Wsub ∷ Out ∷ Sub ∷ Startp ∷ Seterr ∷ Csub0 ∷ Stopp ∷ Sthf
    ∷ Ldpi ∷ Stlf ∷ Xdble ∷ Rem ∷ Ret ∷ Lend ∷ Ldtimer ∷ Testerr ∷ Div ∷ Lmul ∷ Not ∷ Xor ∷ Bcnt ∷ Lsum ∷ Runp ∷ Sb ∷ Gajw ∷ Wcnt ∷ Shr
    ∷ Shl ∷ Mint ∷ And ∷ Move ∷ Or ∷ Ldiff ∷ Sum ∷ Mul ∷ Sttimer ∷ Clrhalterr ∷ Sethalterr ∷ Dup ∷ []

-- the operation with this code, if the table has one
unfoldable pub operation_with : ℕ → Option Op
operation_with code = find (λ op. operation_code op == code) operations
