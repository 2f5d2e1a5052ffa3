use Rattle.std.proofs.Common.{◌≡◌, ℕ, length, arith, subst, ◌∙◌}
use Rattle.std.specs.Prelude.{nat_lt}
use Rattle.tn_network.specs.Nets.{net_of}
use Rattle.tn_network.specs.Inner.PickBits.{first_number, IsRenewed}
use Rattle.tn_network.proofs.RenewLaws.{tell-all}
use Rattle.tn_network.proofs.renewals.renew_all.Goals as goal

pub returns : goal.returns
returns c =
    let all : c.loop-p.p ≡ length c.args.board.now.state.nodes = omega arith in
    tell-all (net_of c.args.board.now c.args.holds.now) c.args.words.now c.loop-p.words (c.loop-p.auto.words ∙ c.renew_host.auto.words)
    c.requires.clear
    (subst (λ (x : ℕ). IsRenewed (λ k. nat_lt k (first_number x)) (net_of c.args.board.now c.args.holds.now) c.args.words.now
    c.loop-p.words) all c.loop-p.invariant)
