use Rattle.std.proofs.Common.{ℕ, ◌+◌, subst}
use Rattle.tn_sym.specs.Same.{IsElsewhere}
use Rattle.tn_sym.proofs.Compared.{never, elsewhere-never}
use Rattle.tn_sym.proofs.comparing.same_elsewhere.Goals as goal

pub returns-then-memory-i : goal.returns-then-memory-i
returns-then-memory-i c =
    never _
    (elsewhere-never c.args.code.now c.args.memory.now c.args.other.now c.loop-i.i
    (subst (λ (k : ℕ). IsElsewhere c.args.code.now (k + c.loop-i.i)) c.from.ensures (c.is_elsewhere.ensures.0 c.if-is_elsewhere.true))
    c.if-memory-i.true)
