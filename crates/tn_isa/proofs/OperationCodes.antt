-- Codes of operations name them.
use Rattle.std.proofs.Common.{◌≡◌, ◌≢◌, ℕ, true, false, All, Contains, Option, Some, None, IfSome, IfNone, refl, ap, ◌∙◌, sym, arith}
use Rattle.std.specs.Bool.{◌==◌}
use Rattle.std.specs.List.{find}
use Rattle.std.proofs.lemmas.Bool.Decides.{nat_tests}
use Rattle.std.proofs.lemmas.List.Elements.{All-weaker}
use Rattle.tn_isa.specs.declared.operations.Op.{Op}
use Rattle.tn_isa.specs.declared.operations.Op.TheVariants.{Rev, Lb, Bsub, Endp, Diff, Add, Gcall, In, Prod, Gt, Wsub, Out, Sub, Startp}
use Rattle.tn_isa.specs.declared.operations.Op.TheVariants.{Seterr, Csub0, Stopp, Sthf, Ldpi, Stlf, Xdble, Rem, Ret, Lend, Ldtimer}
use Rattle.tn_isa.specs.declared.operations.Op.TheVariants.{Testerr, Div, Lmul, Not, Xor, Bcnt, Lsum, Runp, Sb, Gajw, Wcnt, Shr, Shl}
use Rattle.tn_isa.specs.declared.operations.Op.TheVariants.{Mint, And, Move, Or, Ldiff, Sum, Mul, Sttimer, Clrhalterr, Sethalterr, Dup}
use Rattle.tn_isa.specs.Operations.{operation_code, operations, operation_with}
use Rattle.tn_isa.proofs.Finding.{found-find, none-find}

-- an operation's code names it
pub operation_with-operation_code : (op : Op) → operation_with (operation_code op) ≡ Some op
unfolding operation_with
operation_with-operation_code Rev = refl
operation_with-operation_code Lb = refl
operation_with-operation_code Bsub = refl
operation_with-operation_code Endp = refl
operation_with-operation_code Diff = refl
operation_with-operation_code Add = refl
operation_with-operation_code Gcall = refl
operation_with-operation_code In = refl
operation_with-operation_code Prod = refl
operation_with-operation_code Gt = refl
operation_with-operation_code Wsub = refl
operation_with-operation_code Out = refl
operation_with-operation_code Sub = refl
operation_with-operation_code Startp = refl
operation_with-operation_code Seterr = refl
operation_with-operation_code Csub0 = refl
operation_with-operation_code Stopp = refl
operation_with-operation_code Sthf = refl
operation_with-operation_code Ldpi = refl
operation_with-operation_code Stlf = refl
operation_with-operation_code Xdble = refl
operation_with-operation_code Rem = refl
operation_with-operation_code Ret = refl
operation_with-operation_code Lend = refl
operation_with-operation_code Ldtimer = refl
operation_with-operation_code Testerr = refl
operation_with-operation_code Div = refl
operation_with-operation_code Lmul = refl
operation_with-operation_code Not = refl
operation_with-operation_code Xor = refl
operation_with-operation_code Bcnt = refl
operation_with-operation_code Lsum = refl
operation_with-operation_code Runp = refl
operation_with-operation_code Sb = refl
operation_with-operation_code Gajw = refl
operation_with-operation_code Wcnt = refl
operation_with-operation_code Shr = refl
operation_with-operation_code Shl = refl
operation_with-operation_code Mint = refl
operation_with-operation_code And = refl
operation_with-operation_code Move = refl
operation_with-operation_code Or = refl
operation_with-operation_code Ldiff = refl
operation_with-operation_code Sum = refl
operation_with-operation_code Mul = refl
operation_with-operation_code Sttimer = refl
operation_with-operation_code Clrhalterr = refl
operation_with-operation_code Sethalterr = refl
operation_with-operation_code Dup = refl

-- a code that names an operation is its code
pub found-operation_with : (code : ℕ) → IfSome (operation_with code) (λ op. operation_code op ≡ code)
unfolding operation_with
found-operation_with code =
    named (find (λ op. operation_code op == code) operations) (found-find (λ op. operation_code op == code) operations)
  where
    named : (o : Option Op) → IfSome o (λ op. Contains operations op × ((operation_code op == code) ≡ true))
        → IfSome o (λ op. operation_code op ≡ code)
    named None h = tt
    named (Some op) h = grind (arith, nat_tests)

-- a code that names none is no operation's
pub none-operation_with : (code : ℕ) → IfNone (operation_with code) (All (λ op. operation_code op ≢ code) operations)
unfolding operation_with
none-operation_with code =
    named (find (λ op. operation_code op == code) operations) (none-find (λ op. operation_code op == code) operations)
  where
    named : (o : Option Op) → IfNone o (All (λ op. (operation_code op == code) ≡ false) operations)
        → IfNone o (All (λ op. operation_code op ≢ code) operations)
    named None h = All-weaker (λ op. (operation_code op == code)
        ≡ false) (λ op. operation_code op ≢ code) (λ op e. grind (arith, nat_tests)) operations h
    named (Some op) h = tt

same_some : {X : Type 0} {x y : X} → Some x ≡ Some y → x ≡ y
same_some e = cc

-- no two operations have one code
pub same_operation : (a b : Op) → operation_code a ≡ operation_code b → a ≡ b
same_operation a b e = same_some (sym (operation_with-operation_code a) ∙ ap operation_with e ∙ operation_with-operation_code b)
