use Rattle.tn_network.proofs.BitLaws.{has_bit-set}
use Rattle.tn_network.proofs.bits.set_bit.Goals as goal

pub returns : goal.returns
returns c = λ j within. rw c.with_bit.ensures (has_bit-set c.args.words.now c.args.k c.args.on j c.requires)
