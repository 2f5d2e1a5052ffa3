use Rattle.tn_network.proofs.BitLaws.{has_bit-read}
use Rattle.tn_network.proofs.bits.has_bit.Goals as goal

pub returns : goal.returns
returns c = has_bit-read c.args.words.now c.args.k
