use Rattle.tn_network.proofs.BitLaws.{last-found, none-found}
use Rattle.tn_network.proofs.bits.last_bit.Goals as goal

pub returns-in-Some : goal.returns-in-Some
returns-in-Some c =
    last-found c.args.words.now c.in-Some.place c.ilog2.result c.in-Some.ensures.0 c.ilog2.ensures.power_le
    c.ilog2.ensures.next_power_gt c.ilog2.ensures.bound c.in-Some.ensures.2

pub returns-in-None : goal.returns-in-None
returns-in-None c = none-found c.args.words.now c.in-None.ensures
