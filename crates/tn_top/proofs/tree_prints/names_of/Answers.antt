use Rattle.tn_config.specs.declared.configurations.Block.{Block}
use Rattle.tn_top.proofs.TreeTexts.{mapped-more, mapped-all}
use Rattle.tn_top.proofs.tree_prints.names_of.Goals as goal

pub loop-block-preserved : goal.loop-block-preserved
loop-block-preserved c =
    mapped-more (λ (b : Block). b.name) c.args.blocks.now c.loop-block.block-index c.block-item.result c.loop-block.names.items
    c.push.new.self.items c.loop-block-test.true c.block-item.is c.loop-block.invariant c.in_ok-push.ensures.items

pub returns : goal.returns
returns c = mapped-all (λ (b : Block). b.name) c.args.blocks.now c.loop-block.block-index c.loop-block.names.items c.loop-block-test.false
    c.loop-block.invariant
