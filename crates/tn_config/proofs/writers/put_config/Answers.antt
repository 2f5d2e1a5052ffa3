use Rattle.std.proofs.Common.{◌++◌, map, ap, ◌∙◌}
use Rattle.std.specs.List.{flat_map}
use Rattle.std.proofs.lemmas.Result.{on_ok_weaker}
use Rattle.tn_config.specs.Configurations.{block_of, config_of}
use Rattle.tn_config.specs.Spellings.{statement_spelling, block_statements, wire_statement}
use Rattle.tn_config.proofs.WriterLaws.{config-put}
use Rattle.tn_config.proofs.writers.put_config.Goals as goal

pub returns : goal.returns
returns c =
    on_ok_weaker c.put_wires.result (λ wires. config-put (config_of c.args.config.now) c.args.out.now.items c.put_blocks.new.out.items
    c.put_host.new.out.items c.put_wires.new.out.items
    (c.in_ok-put_blocks.ensures
    ∙ ap (λ bs. c.args.out.now.items ++ flat_map statement_spelling (flat_map block_statements (map block_of bs))) c.deref.ensures.value)
    c.in_ok-put_host.ensures
    (wires ∙ ap (λ ws. c.put_host.new.out.items ++ flat_map statement_spelling (map wire_statement ws)) c.deref-2.ensures.value))
    c.put_wires.ensures
