use Rattle.tn_isa.specs.Mnemonics.{mnemonic_named}
use Rattle.tn_isa.proofs.Naming.{found-named, none-named}
use Rattle.tn_isa.proofs.mnemonics.mnemonic_spelled.Goals as goal

pub returns-clause-found : goal.returns-clause-found
unfolding mnemonic_named
returns-clause-found c = rw c.first_named.ensures (found-named c.args.word.now)

pub returns-clause-none : goal.returns-clause-none
unfolding mnemonic_named
returns-clause-none c = rw c.first_named.ensures (none-named c.args.word.now)
