use Rattle.tn_network.specs.Nets.{net_of}
use Rattle.tn_network.proofs.RenewLaws.{host-renewed}
use Rattle.tn_network.proofs.renewals.renew_host.Goals as goal

pub returns : goal.returns
returns c = λ holds. host-renewed (net_of c.args.board.now holds) c.args.words.now c.set_bit.new.words c.set_bit-2.new.words
    c.host_sends.result c.host_takes.result c.set_bit.auto.words c.host_sends.ensures c.host_takes.ensures c.set_bit.ensures
    c.set_bit-2.ensures
