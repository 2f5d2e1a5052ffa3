-- How a byte's turn ends.
use Rattle.std.proofs.Common.{subst}
use Rattle.tn_cpu.specs.Turns.{Ended}
use Rattle.tn_cpu.specs.TurnEnds.{EndsTurn}
use Rattle.tn_cpu.specs.OutcomeLaws.{OpensLink, IsNotStray}
use Rattle.tn_cpu.proofs.Ends.{refused-ends, execute_byte-ends, execute_byte-opens, execute_byte-not_stray}
use Rattle.tn_cpu.proofs.processors.Cpu.step.Goals as goal

pub returns-in-Ok-clause-turn : goal.returns-in-Ok-clause-turn
returns-in-Ok-clause-turn g c =
    subst (λ (ended : Ended _). EndsTurn g.M.Space.access c.args.busy c.args.self.now ended) c.execute_byte.ensures
    (execute_byte-ends _ _ _ _ _ _ g.met.M.Space.lawful)

pub returns-in-Err-clause-turn : goal.returns-in-Err-clause-turn
returns-in-Err-clause-turn g c =
    subst (λ (ended : Ended _). EndsTurn g.M.Space.access c.args.busy c.args.self.now ended) c.refuse.ensures (refused-ends _ _ _ _)

pub returns-in-Ok-clause-transfer : goal.returns-in-Ok-clause-transfer
returns-in-Ok-clause-transfer g c =
    subst (λ (ended : Ended _). OpensLink ended.outcome) c.execute_byte.ensures (execute_byte-opens _ _ _ _ _ _)

pub returns-in-Ok-clause-stray : goal.returns-in-Ok-clause-stray
returns-in-Ok-clause-stray g c =
    subst (λ (ended : Ended _). IsNotStray ended.outcome) c.execute_byte.ensures (execute_byte-not_stray _ _ _ _ _ _)
