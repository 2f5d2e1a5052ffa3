-- Each operation has its own effect.
use Rattle.tn_cpu.proofs.processors.Cpu.operate.Goals as goal

pub returns-in-Rev : goal.returns-in-Rev
returns-in-Rev g c = rw c.in-Rev.is c.rev.ensures

pub returns-in-Lb : goal.returns-in-Lb
returns-in-Lb g c = rw c.in-Lb.is c.lb.ensures

pub returns-in-Bsub : goal.returns-in-Bsub
returns-in-Bsub g c = rw c.in-Bsub.is c.join_pair.ensures

pub returns-in-Endp : goal.returns-in-Endp
returns-in-Endp g c = rw c.in-Endp.is c.endp.ensures

pub returns-in-Diff : goal.returns-in-Diff
returns-in-Diff g c = rw c.in-Diff.is c.join_pair-in-Diff.ensures

pub returns-in-Add : goal.returns-in-Add
returns-in-Add g c = rw c.in-Add.is c.join_pair-in-Add.ensures

pub returns-in-Gcall : goal.returns-in-Gcall
returns-in-Gcall g c = rw c.in-Gcall.is c.gcall.ensures

pub returns-in-In : goal.returns-in-In
returns-in-In g c = rw c.in-In.is c.transfer.ensures

pub returns-in-Prod : goal.returns-in-Prod
returns-in-Prod g c = rw c.in-Prod.is c.join_pair-in-Prod.ensures

pub returns-in-Gt : goal.returns-in-Gt
returns-in-Gt g c = rw c.in-Gt.is c.join_pair-in-Gt.ensures

pub returns-in-Wsub : goal.returns-in-Wsub
returns-in-Wsub g c = rw c.in-Wsub.is c.join_pair-in-Wsub.ensures

pub returns-in-Out : goal.returns-in-Out
returns-in-Out g c = rw c.in-Out.is c.transfer-in-Out.ensures

pub returns-in-Sub : goal.returns-in-Sub
returns-in-Sub g c = rw c.in-Sub.is c.join_pair-in-Sub.ensures

pub returns-in-Startp : goal.returns-in-Startp
returns-in-Startp g c = rw c.in-Startp.is c.startp.ensures

pub returns-in-Seterr : goal.returns-in-Seterr
returns-in-Seterr g c = rw c.in-Seterr.is c.seterr.ensures

pub returns-in-Csub0 : goal.returns-in-Csub0
returns-in-Csub0 g c = rw c.in-Csub0.is c.csub0.ensures

pub returns-in-Stopp : goal.returns-in-Stopp
returns-in-Stopp g c = rw c.in-Stopp.is c.stopp.ensures

pub returns-in-Sthf : goal.returns-in-Sthf
returns-in-Sthf g c = rw c.in-Sthf.is c.sthf.ensures

pub returns-in-Ldpi : goal.returns-in-Ldpi
returns-in-Ldpi g c = rw c.in-Ldpi.is c.ldpi.ensures

pub returns-in-Stlf : goal.returns-in-Stlf
returns-in-Stlf g c = rw c.in-Stlf.is c.stlf.ensures

pub returns-in-Xdble : goal.returns-in-Xdble
returns-in-Xdble g c = rw c.in-Xdble.is c.xdble.ensures

pub returns-in-Rem : goal.returns-in-Rem
returns-in-Rem g c = rw c.in-Rem.is c.join_pair-in-Rem.ensures

pub returns-in-Ret : goal.returns-in-Ret
returns-in-Ret g c = rw c.in-Ret.is c.ret.ensures

pub returns-in-Lend : goal.returns-in-Lend
returns-in-Lend g c = rw c.in-Lend.is c.lend.ensures

pub returns-in-Ldtimer : goal.returns-in-Ldtimer
returns-in-Ldtimer g c = rw c.in-Ldtimer.is c.ldtimer.ensures

pub returns-in-Testerr : goal.returns-in-Testerr
returns-in-Testerr g c = rw c.in-Testerr.is c.testerr.ensures

pub returns-in-Div : goal.returns-in-Div
returns-in-Div g c = rw c.in-Div.is c.join_pair-in-Div.ensures

pub returns-in-Lmul : goal.returns-in-Lmul
returns-in-Lmul g c = rw c.in-Lmul.is c.fill_long.ensures

pub returns-in-Not : goal.returns-in-Not
returns-in-Not g c = rw c.in-Not.is c.not.ensures

pub returns-in-Xor : goal.returns-in-Xor
returns-in-Xor g c = rw c.in-Xor.is c.join_pair-in-Xor.ensures

pub returns-in-Bcnt : goal.returns-in-Bcnt
returns-in-Bcnt g c = rw c.in-Bcnt.is c.bcnt.ensures

pub returns-in-Lsum : goal.returns-in-Lsum
returns-in-Lsum g c = rw c.in-Lsum.is c.fill_long-in-Lsum.ensures

pub returns-in-Runp : goal.returns-in-Runp
returns-in-Runp g c = rw c.in-Runp.is c.runp.ensures

pub returns-in-Sb : goal.returns-in-Sb
returns-in-Sb g c = rw c.in-Sb.is c.sb.ensures

pub returns-in-Gajw : goal.returns-in-Gajw
returns-in-Gajw g c = rw c.in-Gajw.is c.gajw.ensures

pub returns-in-Wcnt : goal.returns-in-Wcnt
returns-in-Wcnt g c = rw c.in-Wcnt.is c.wcnt.ensures

pub returns-in-Shr : goal.returns-in-Shr
returns-in-Shr g c = rw c.in-Shr.is c.join_pair-in-Shr.ensures

pub returns-in-Shl : goal.returns-in-Shl
returns-in-Shl g c = rw c.in-Shl.is c.join_pair-in-Shl.ensures

pub returns-in-Mint : goal.returns-in-Mint
returns-in-Mint g c = rw c.in-Mint.is c.mint.ensures

pub returns-in-And : goal.returns-in-And
returns-in-And g c = rw c.in-And.is c.join_pair-in-And.ensures

pub returns-in-Move : goal.returns-in-Move
returns-in-Move g c = rw c.in-Move.is c.move_bytes.ensures

pub returns-in-Or : goal.returns-in-Or
returns-in-Or g c = rw c.in-Or.is c.join_pair-in-Or.ensures

pub returns-in-Ldiff : goal.returns-in-Ldiff
returns-in-Ldiff g c = rw c.in-Ldiff.is c.fill_long-in-Ldiff.ensures

pub returns-in-Sum : goal.returns-in-Sum
returns-in-Sum g c = rw c.in-Sum.is c.join_pair-in-Sum.ensures

pub returns-in-Mul : goal.returns-in-Mul
returns-in-Mul g c = rw c.in-Mul.is c.join_pair-in-Mul.ensures

pub returns-in-Sttimer : goal.returns-in-Sttimer
returns-in-Sttimer g c = rw c.in-Sttimer.is c.sttimer.ensures

pub returns-in-Clrhalterr : goal.returns-in-Clrhalterr
returns-in-Clrhalterr g c = rw c.in-Clrhalterr.is c.clrhalterr.ensures

pub returns-in-Sethalterr : goal.returns-in-Sethalterr
returns-in-Sethalterr g c = rw c.in-Sethalterr.is c.sethalterr.ensures

pub returns-in-Dup : goal.returns-in-Dup
returns-in-Dup g c = rw c.in-Dup.is c.dup.ensures
