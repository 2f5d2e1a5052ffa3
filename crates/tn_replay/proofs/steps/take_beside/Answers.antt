use Rattle.std.proofs.Common.{ap, sym}
use Rattle.tn_sym.specs.Follows.{is_prefix}
use Rattle.tn_sym.specs.SymbolicRuns.{beside_made}
use Rattle.tn_replay.proofs.steps.take_beside.Goals as goal

pub returns-in-Prefix : goal.returns-in-Prefix
returns-in-Prefix c = ap (λ made. beside_made (is_prefix made) c.args.pick c.args.symbolic.now) (sym c.in-Prefix.is)
