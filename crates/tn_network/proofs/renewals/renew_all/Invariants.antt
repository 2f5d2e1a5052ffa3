use Rattle.std.specs.Prelude.{nat_lt}
use Rattle.tn_network.specs.Nets.{net_of}
use Rattle.tn_network.specs.Inner.PickBits.{first_number, IsRenewed}
use Rattle.tn_network.proofs.renewals.renew_all.Given as goal

abbrev pub invariant-loop-p : goal.invariant-loop-p
invariant-loop-p l = IsRenewed (λ k. nat_lt k (first_number l.p)) (net_of l.board l.holds) l.fn.words l.words
