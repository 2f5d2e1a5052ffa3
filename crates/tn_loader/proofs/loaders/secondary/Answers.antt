use Rattle.tn_loader.proofs.Tables.{assembled-secondary_table, secondary_table_stands}
use Rattle.tn_loader.specs.Secondary.{secondary_bytes}
use Rattle.std.proofs.Common.{sym}
use Rattle.tn_loader.proofs.loaders.secondary.Goals as goal

pub returns-clause-assembled : goal.returns-clause-assembled
unfolding secondary_bytes
returns-clause-assembled c = sym assembled-secondary_table

pub returns-clause-offsets : goal.returns-clause-offsets
returns-clause-offsets c = secondary_table_stands
