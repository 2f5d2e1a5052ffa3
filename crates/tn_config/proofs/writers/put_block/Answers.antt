use Rattle.std.proofs.lemmas.Result.{on_ok_weaker}
use Rattle.tn_config.specs.Configurations.{block_of}
use Rattle.tn_config.proofs.WriterLaws.{block-put}
use Rattle.tn_config.proofs.writers.put_block.Goals as goal

pub returns : goal.returns
returns c =
    on_ok_weaker c.put_statement-2.result (block-put (block_of c.args.block.now) c.args.out.now.items c.put_statement.new.out.items
    c.put_settings.new.out.items c.put_statement-2.new.out.items c.in_ok-put_statement.ensures c.in_ok-put_settings.ensures)
    c.put_statement-2.ensures
