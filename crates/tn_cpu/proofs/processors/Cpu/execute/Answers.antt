-- How a function's turn ends.
use Rattle.std.proofs.Common.{subst}
use Rattle.tn_cpu.specs.Turns.{Ended}
use Rattle.tn_cpu.specs.TurnEnds.{EndsTurn}
use Rattle.tn_cpu.specs.OutcomeLaws.{OpensLink, IsNotStray}
use Rattle.tn_cpu.proofs.Ends.{effect-ends, effect-opens, effect-not_stray}
use Rattle.tn_cpu.proofs.processors.Cpu.execute.Goals as goal

pub returns-clause-turn : goal.returns-clause-turn
returns-clause-turn g c =
    subst (λ (ended : Ended _). EndsTurn g.M.Space.access c.args.busy c.args.self.now ended) c.apply.ensures
    (effect-ends g.M.Space.access _ _ c.args.fun c.args.operand g.met.M.Space.lawful)

pub returns-clause-transfer : goal.returns-clause-transfer
returns-clause-transfer g c =
    subst (λ (ended : Ended _). OpensLink ended.outcome) c.apply.ensures (effect-opens g.M.Space.access _ _ c.args.fun c.args.operand)

pub returns-clause-stray : goal.returns-clause-stray
returns-clause-stray g c =
    subst (λ (ended : Ended _). IsNotStray ended.outcome) c.apply.ensures (effect-not_stray g.M.Space.access _ _ c.args.fun c.args.operand)
