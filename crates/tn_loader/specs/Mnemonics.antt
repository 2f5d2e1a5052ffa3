-- The instructions that the loader is made of, as the guide names them. What a function or an
-- operation does stands in one line, with A, B and C the registers and W the workspace pointer.
use Rattle.std.specs.Prelude.{ℕ, pos}
use Rattle.tn_isa.specs.declared.functions.Fun.TheVariants.{J, Ldlp, Ldc, Ldnlp, Ldl, Cj, Ajw, Eqc, Stl, Stnl}
use Rattle.tn_isa.specs.declared.operations.Op.TheVariants.{Rev, Diff, Gcall, In, Gt, Out, Sthf, Stlf, Testerr, Gajw, Mint, Sttimer}
use Rattle.tn_isa.specs.declared.operations.Op.TheVariants.{Clrhalterr}
use Rattle.tn_loader.specs.Instructions.{Instruction, direct, jump, operation}

-- jump
abbrev pub j_to : ℕ → Instruction
j_to target = jump J target

-- load local pointer: the address of local n
abbrev pub ldlp : ℕ → Instruction
ldlp n = direct Ldlp (pos n)

-- load constant
abbrev pub ldc : ℕ → Instruction
ldc n = direct Ldc (pos n)

-- load non-local pointer: n words are added to the address in A
abbrev pub ldnlp : ℕ → Instruction
ldnlp n = direct Ldnlp (pos n)

-- load local: the word of local n
abbrev pub ldl : ℕ → Instruction
ldl n = direct Ldl (pos n)

-- conditional jump, taken where A is 0; else A is dropped
abbrev pub cj_to : ℕ → Instruction
cj_to target = jump Cj target

-- adjust workspace: W moves by n words
abbrev pub ajw : ℕ → Instruction
ajw n = direct Ajw (pos n)

-- equals constant: A becomes 1 where it is n, else 0
abbrev pub eqc : ℕ → Instruction
eqc n = direct Eqc (pos n)

-- store local n
abbrev pub stl : ℕ → Instruction
stl n = direct Stl (pos n)

-- store non-local: B goes to n words above the address in A
abbrev pub stnl : ℕ → Instruction
stnl n = direct Stnl (pos n)

-- reverse: A and B are exchanged
abbrev pub rev : Instruction
rev = operation Rev

-- difference: B - A
abbrev pub diff : Instruction
diff = operation Diff

-- general call: A and the instruction pointer are exchanged
abbrev pub gcall : Instruction
gcall = operation Gcall

-- the guide's `in`: A bytes come from channel B to address C
abbrev pub input : Instruction
input = operation In

-- greater than: whether B > A
abbrev pub gt : Instruction
gt = operation Gt

-- the guide's `out`: A bytes go from address C to channel B
abbrev pub output : Instruction
output = operation Out

-- store high priority front pointer
abbrev pub sthf : Instruction
sthf = operation Sthf

-- store low priority front pointer
abbrev pub stlf : Instruction
stlf = operation Stlf

-- test error flag and clear it
abbrev pub testerr : Instruction
testerr = operation Testerr

-- general adjust workspace: A and W are exchanged
abbrev pub gajw : Instruction
gajw = operation Gajw

-- minimum integer: MostNeg
abbrev pub mint : Instruction
mint = operation Mint

-- store timer: the clocks start from A
abbrev pub sttimer : Instruction
sttimer = operation Sttimer

-- clear HaltOnError
abbrev pub clrhalterr : Instruction
clrhalterr = operation Clrhalterr
