-- Each function has its own effect.
use Rattle.tn_cpu.proofs.processors.Cpu.apply.Goals as goal

pub returns-in-J : goal.returns-in-J
returns-in-J g c = rw c.in-J.is c.j.ensures

pub returns-in-Ldlp : goal.returns-in-Ldlp
returns-in-Ldlp g c = rw c.in-Ldlp.is c.ldlp.ensures

pub returns-in-Ldnl : goal.returns-in-Ldnl
returns-in-Ldnl g c = rw c.in-Ldnl.is c.ldnl.ensures

pub returns-in-Ldc : goal.returns-in-Ldc
returns-in-Ldc g c = rw c.in-Ldc.is c.ldc.ensures

pub returns-in-Ldnlp : goal.returns-in-Ldnlp
returns-in-Ldnlp g c = rw c.in-Ldnlp.is c.ldnlp.ensures

pub returns-in-Ldl : goal.returns-in-Ldl
returns-in-Ldl g c = rw c.in-Ldl.is c.ldl.ensures

pub returns-in-Adc : goal.returns-in-Adc
returns-in-Adc g c = rw c.in-Adc.is c.adc.ensures

pub returns-in-Call : goal.returns-in-Call
returns-in-Call g c = rw c.in-Call.is c.call.ensures

pub returns-in-Cj : goal.returns-in-Cj
returns-in-Cj g c = rw c.in-Cj.is c.cj.ensures

pub returns-in-Ajw : goal.returns-in-Ajw
returns-in-Ajw g c = rw c.in-Ajw.is c.ajw.ensures

pub returns-in-Eqc : goal.returns-in-Eqc
returns-in-Eqc g c = rw c.in-Eqc.is c.eqc.ensures

pub returns-in-Stl : goal.returns-in-Stl
returns-in-Stl g c = rw c.in-Stl.is c.stl.ensures

pub returns-in-Stnl : goal.returns-in-Stnl
returns-in-Stnl g c = rw c.in-Stnl.is c.stnl.ensures

pub returns-in-Opr : goal.returns-in-Opr
returns-in-Opr g c = rw c.in-Opr.is c.opr.ensures
