use Rattle.std.proofs.Common.{sym, subst, ap, rules}
use Rattle.tn_mem.specs.Spaces.{SameExtents}
use Rattle.tn_mem.proofs.SpaceLemmas.{extents-none}
use Rattle.tn_cpu.specs.States.{State}
use Rattle.tn_cpu.proofs.Tests.{slice-after}
use Rattle.tn_cpu.proofs.processors.Cpu.j.Goals as goal

pub go_on_or_slice-requires : goal.go_on_or_slice-requires
go_on_or_slice-requires g c =
    let now = c.args.self.now in
    slice-after g.M.Space.access c.args.turn.slice now c.clear.new.self
    (subst (λ (u : State _). SameExtents g.M.Space.access now.memory u.memory) (sym c.clear.ensures)
    (extents-none g.M.Space.access now.memory))
    (ap (λ (u : State _). u.front) c.clear.ensures) (ap (λ (u : State _). u.back) c.clear.ensures)
    (ap (λ (u : State _). u.wptr) c.clear.ensures) (sym c.in-None.ensures)

pub returns-in-None : goal.returns-in-None
returns-in-None g c = search rules
