use Rattle.std.proofs.Common.{rules}
use Rattle.tn_isa.proofs.mnemonics.mnemonic_name.Goals as goal

pub returns-in-Plain-Lmul : goal.returns-in-Plain-Lmul
returns-in-Plain-Lmul c = search rules
