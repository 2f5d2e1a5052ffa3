use Rattle.std.proofs.Common.{ap, sym, ◌∙◌}
use Rattle.std.specs.Result.{result_err}
use Rattle.tn_cpu.specs.States.{State}
use Rattle.tn_cpu.specs.Queues.{source_refusal}
use Rattle.tn_cpu.proofs.processors.Cpu.source_refusal.Goals as goal

-- what may be read is what may be stored
pub returns : goal.returns
unfolding source_refusal
returns g c =
    let now = c.args.self.now in
    let same = g.met.M.Space.lawful.source_as_block now.memory c.args.a c.args.n in
    c.err.ensures.value
    ∙ (ap result_err c.block.ensures
    ∙ (ap (λ (u : State _). result_err (g.M.Space.access.block u.memory c.args.a c.args.n)) c.self.view_is ∙ ap result_err (sym same)))
