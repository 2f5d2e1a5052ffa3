use Rattle.std.proofs.Common.{subst}
use Rattle.tn_mem.specs.Spaces.{SameExtents}
use Rattle.tn_cpu.specs.States.{State}
use Rattle.tn_cpu.proofs.Words.{extents-left}
use Rattle.tn_cpu.proofs.processors.Cpu.copy.Goals as goal

-- no store changes what is refused
pub returns-clause-extents : goal.returns-clause-extents
returns-clause-extents g c =
    subst (λ (u : State _). SameExtents g.M.Space.access u.memory c.copy-tested.new.self) c.self.view_is
    (extents-left g.M.Space.access _ _ _ _ c.copy-tested.ensures
    (λ n e. g.met.M.Space.lawful.copy_keeps _ n c.args.from c.args.to c.args.n e))
