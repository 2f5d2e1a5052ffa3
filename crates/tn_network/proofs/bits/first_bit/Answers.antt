use Rattle.std.proofs.Common.{refl}
use Rattle.tn_network.proofs.BitLaws.{first-found, none-found}
use Rattle.tn_network.proofs.bits.first_bit.Goals as goal

pub returns-in-Some : goal.returns-in-Some
returns-in-Some c =
    first-found c.args.words.now c.in-Some.place _ c.in-Some.ensures.0 c.in-Some.ensures.1 (c.type_inv.words c.in-Some.place).fits refl
    c.in-Some.ensures.2

pub returns-in-None : goal.returns-in-None
returns-in-None c = none-found c.args.words.now c.in-None.ensures
