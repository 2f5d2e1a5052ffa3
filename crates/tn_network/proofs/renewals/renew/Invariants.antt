use Rattle.tn_network.specs.Nets.{net_of}
use Rattle.tn_network.specs.Inner.PickBits.{is_below, IsRenewed}
use Rattle.tn_network.proofs.renewals.renew.Given as goal

abbrev pub invariant-loop-kind : goal.invariant-loop-kind
invariant-loop-kind l = IsRenewed (is_below l.p l.kind) (net_of l.board l.holds) l.initial.words l.words
