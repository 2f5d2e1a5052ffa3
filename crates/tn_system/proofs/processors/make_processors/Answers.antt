use Rattle.std.proofs.Common.{◌≡◌, ℕ, ◌≤◌, ◌<◌, List, length, map, take, get_or, ap, ◌∙◌, subst}
use Rattle.std.specs.List.{AllZip}
use Rattle.std.proofs.lemmas.List.{take_all}
use Rattle.tn_symbols.specs.Sources.{offer}
use Rattle.tn_config.specs.declared.configurations.Block.{Block}
use Rattle.tn_config.specs.Configurations.{block_of}
use Rattle.tn_stream.specs.Images.{image_of, images_of}
use Rattle.tn_system.specs.Sources.{sources}
use Rattle.tn_sym.specs.ProgramStates.{program_of}
use Rattle.tn_system.specs.Systems.{programs_of, IsImageOf, IsProcessorImage, IsPlainFor, IsProgramOf, IsProcessorProgram}
use Rattle.tn_system.specs.Faults.{IsModulesFault, IsProcessorFault}
use Rattle.tn_system.specs.Inner.Offers.{OfChoice}
use Rattle.tn_system.proofs.Telling.{if-weaker}
use Rattle.tn_system.proofs.Choosing.{of-chosen}
use Rattle.tn_system.proofs.EachProcessor.{offered-at, offer-at, range-at, refused-at, images-pushed, programs-pushed, belong-pushed}
use Rattle.tn_system.proofs.processors.make_processors.Goals as goal

pub make_processor-requires-clause-offer : goal.make_processor-requires-clause-offer
make_processor-requires-clause-offer c =
    let l = subst (λ xs. c.loop-k.k < length xs) c.deref-block-items.ensures.value c.loop-k-test.true in
    let is = c.block-item.is ∙ ap (λ xs. get_or xs c.loop-k.k c.block-item.result) c.deref-block-items.ensures.value in
    offer-at c.args.config_file.now c.args.config.now c.args.files.now c.args.pool.now c.args.shelf.now c.requires.read c.requires.files
    c.loop-k.k c.block-item.result l is c.index.result.now c.index.ensures

pub make_processor-requires-clause-range : goal.make_processor-requires-clause-range
make_processor-requires-clause-range c =
    let l = subst (λ xs. c.loop-k.k < length xs) c.deref-block-items.ensures.value c.loop-k-test.true in
    let is = c.block-item.is ∙ ap (λ xs. get_or xs c.loop-k.k c.block-item.result) c.deref-block-items.ensures.value in
    range-at c.args.config_file.now c.args.config.now c.args.files.now c.args.pool.now c.args.shelf.now c.requires.read c.requires.files
    c.loop-k.k c.block-item.result l is

pub returns-in-Err-clause-fault : goal.returns-in-Err-clause-fault
returns-in-Err-clause-fault c =
    let l = subst (λ xs. c.loop-k.k < length xs) c.deref-block-items.ensures.value c.loop-k-test.true in
    let is = c.block-item.is ∙ ap (λ xs. get_or xs c.loop-k.k c.block-item.result) c.deref-block-items.ensures.value in
    let o = offer c.args.pool.now c.index.result.now.modules.items c.args.shelf.now c.index.result.now.libraries.items in
    let offered = offered-at c.args.config_file.now c.args.config.now c.args.files.now c.args.pool.now c.args.shelf.now c.requires.read
    c.requires.files c.loop-k.k c.block-item.result l is c.index.result.now c.index.ensures in
    if-weaker (λ told. OfChoice o (block_of c.block-item.result)
    (IsModulesFault c.args.config_file.now (block_of c.block-item.result) told))
    (IsProcessorFault (sources c.args.config_file.now c.args.config.now c.args.pool.now c.args.shelf.now)) c.in-Err.fault
    (λ told h. refused-at c.args.config_file.now c.args.config.now c.args.files.now c.args.pool.now c.args.shelf.now c.requires.read
    c.requires.files c.loop-k.k c.block-item.result l is (images_of c.loop-k.images.items) told c.loop-k.invariant.0.0
    (of-chosen (sources c.args.config_file.now c.args.config.now c.args.pool.now c.args.shelf.now) (block_of c.block-item.result) o offered
    (IsModulesFault c.args.config_file.now (block_of c.block-item.result) told) h))
    c.in-Err.ensures.fault

pub loop-k-preserved : goal.loop-k-preserved
loop-k-preserved c =
    let l = subst (λ xs. c.loop-k.k < length xs) c.deref-block-items.ensures.value c.loop-k-test.true in
    let is = c.block-item.is ∙ ap (λ xs. get_or xs c.loop-k.k c.block-item.result) c.deref-block-items.ensures.value in
    let o = offer c.args.pool.now c.index.result.now.modules.items c.args.shelf.now c.index.result.now.libraries.items in
    let offered = offered-at c.args.config_file.now c.args.config.now c.args.files.now c.args.pool.now c.args.shelf.now c.requires.read
    c.requires.files c.loop-k.k c.block-item.result l is c.index.result.now c.index.ensures in
    let chosen = sources c.args.config_file.now c.args.config.now c.args.pool.now c.args.shelf.now in (
      images-pushed c.args.config_file.now c.args.config.now c.args.files.now c.args.pool.now c.args.shelf.now c.requires.read
          c.requires.files c.loop-k.k c.block-item.result l is c.loop-k.images.items c.push.new.self.items c.in-Ok.made.image
          c.in_ok-push.ensures.items c.loop-k.invariant.0
          (of-chosen chosen (block_of c.block-item.result) o offered
          (IsImageOf (block_of c.block-item.result) (image_of c.in-Ok.made.image)) c.in-Ok.ensures.made)
          c.in-Ok.ensures.image c.in-Ok.ensures.plain,
      programs-pushed c.args.config_file.now c.args.config.now c.args.files.now c.args.pool.now c.args.shelf.now c.requires.read
          c.requires.files c.loop-k.k c.block-item.result l is c.loop-k.programs.items c.push-in-loop-k.new.self.items c.in-Ok.made.program
          c.in_ok-push-2.ensures.items c.loop-k.invariant.1
          (of-chosen chosen (block_of c.block-item.result) o offered
          (IsProgramOf (block_of c.block-item.result) (program_of c.in-Ok.made.program)) c.in-Ok.ensures.program),
      belong-pushed c.loop-k.programs.items c.push-in-loop-k.new.self.items c.in-Ok.made.program c.loop-k.images.items c.push.new.self.items
          c.in-Ok.made.image c.in_ok-push-2.ensures.items c.in_ok-push.ensures.items c.loop-k.invariant.2 c.in-Ok.ensures.belong,
    )

-- all blocks were gone through
all-gone : (items blocks : List Block) → items ≡ blocks → (k : ℕ) → length items ≤ k → take k blocks ≡ blocks
all-gone items blocks same k past = take_all k blocks (subst (λ (bs : List Block). length bs ≤ k) same past)

pub returns-clause-made : goal.returns-clause-made
returns-clause-made c =
    let s = sources c.args.config_file.now c.args.config.now c.args.pool.now c.args.shelf.now in
    subst (λ (bs : List Block). AllZip (IsProcessorImage s) (map block_of bs) (images_of c.loop-k.images.items))
    (all-gone c.deref-block-items.result.now c.args.config.now.blocks.items c.deref-block-items.ensures.value c.loop-k.k
    c.loop-k-test.false) c.loop-k.invariant.0.0

pub returns-clause-programs : goal.returns-clause-programs
returns-clause-programs c =
    let s = sources c.args.config_file.now c.args.config.now c.args.pool.now c.args.shelf.now in
    subst (λ (bs : List Block). AllZip (IsProcessorProgram s) (map block_of bs) (programs_of c.loop-k.programs.items))
    (all-gone c.deref-block-items.result.now c.args.config.now.blocks.items c.deref-block-items.ensures.value c.loop-k.k
    c.loop-k-test.false) c.loop-k.invariant.1

pub returns-clause-plain : goal.returns-clause-plain
returns-clause-plain c =
    subst (λ (bs : List Block). AllZip IsPlainFor (map block_of bs) (images_of c.loop-k.images.items))
    (all-gone c.deref-block-items.result.now c.args.config.now.blocks.items c.deref-block-items.ensures.value c.loop-k.k
    c.loop-k-test.false) c.loop-k.invariant.0.2
