use Rattle.std.proofs.Common.{arith, refl, ap}
use Rattle.tn_config.specs.Configurations.{BlockState}
use Rattle.tn_system.proofs.EachOnce.{files-fit, block-more}
use Rattle.tn_system.proofs.files.add_blocks.Goals as goal

pub add_block-requires-clause-modules : goal.add_block-requires-clause-modules
add_block-requires-clause-modules c =
    omega (
      arith,
      c.requires.few,
      files-fit c.deref-block-items.result.now c.args.config.now.blocks.items c.deref-block-items.ensures.value c.loop-block.block-index
          c.block-item.result c.loop-block-test.true c.block-item.is (λ (b : BlockState). b.modules) c.loop-block.modules.keys
          c.block-item.result.modules.items c.loop-block.invariant.modules_are refl,
    )

pub add_block-requires-clause-libraries : goal.add_block-requires-clause-libraries
add_block-requires-clause-libraries c =
    omega (
      arith,
      c.requires.few,
      files-fit c.deref-block-items.result.now c.args.config.now.blocks.items c.deref-block-items.ensures.value c.loop-block.block-index
          c.block-item.result c.loop-block-test.true c.block-item.is (λ (b : BlockState). b.libraries) c.loop-block.libraries.keys
          c.block-item.result.libraries.items c.loop-block.invariant.libraries_are refl,
    )

pub loop-block-preserved : goal.loop-block-preserved
loop-block-preserved c =
    block-more c.deref-block-items.result.now c.args.config.now.blocks.items c.deref-block-items.ensures.value c.loop-block.block-index
    c.block-item.result c.loop-block-test.true c.block-item.is c.loop-block.modules.keys c.loop-block.libraries.keys
    c.add_block.new.modules.keys c.add_block.new.libraries.keys c.block-item.result.modules.items c.block-item.result.libraries.items
    c.loop-block.blocks.items c.push.new.self.items c.in_ok-files.files refl refl c.loop-block.invariant c.in_ok-files.ensures.modules
    c.in_ok-files.ensures.libraries (ap (λ p. p.modules) c.in_ok-files.ensures.places)
    (ap (λ p. p.libraries) c.in_ok-files.ensures.places) c.in_ok-push.ensures.items
