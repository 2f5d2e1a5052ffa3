use Rattle.std.proofs.Common.{subst}
use Rattle.std.proofs.lemmas.List.{length-map}
use Rattle.tn_net.specs.WholeTrees.{IsWholeTree}
use Rattle.tn_config.specs.Configurations.{block_of}
use Rattle.tn_top.proofs.systems.settled.Goals as goal

pub returns-in-Ok-clause-named : goal.returns-in-Ok-clause-named
returns-in-Ok-clause-named c =
    subst (IsWholeTree c.in-Ok.made.tree.nodes.items) (length-map c.args.config.now.blocks.items block_of) c.in-Ok.ensures.system.whole
