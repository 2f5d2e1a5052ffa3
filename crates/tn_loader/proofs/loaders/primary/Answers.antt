use Rattle.tn_loader.proofs.Tables.{assembled-primary_table, primary_table_stands}
use Rattle.tn_loader.specs.Primary.{primary_bytes}
use Rattle.std.proofs.Common.{sym}
use Rattle.tn_loader.proofs.loaders.primary.Goals as goal

pub returns-clause-assembled : goal.returns-clause-assembled
unfolding primary_bytes
returns-clause-assembled c = sym (assembled-primary_table c.args.k c.requires)

pub returns-clause-offsets : goal.returns-clause-offsets
returns-clause-offsets c = primary_table_stands c.args.k c.requires
