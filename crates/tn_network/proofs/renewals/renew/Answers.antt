use Rattle.tn_network.specs.Nets.{net_of}
use Rattle.tn_network.proofs.RenewLaws.{renewed-more}
use Rattle.tn_network.proofs.renewals.renew.Goals as goal

pub loop-kind-preserved : goal.loop-kind-preserved
loop-kind-preserved c =
    renewed-more (net_of c.args.board.now c.args.holds.now) c.args.p c.loop-kind.kind c.args.words.now c.loop-kind.words
    c.set_bit.new.words c.kind_enabled-on.result c.loop-kind-test.true c.loop-kind.auto.words c.kind_enabled-on.ensures
    c.loop-kind.invariant c.first_number.result c.first_number.ensures c.set_bit.ensures
