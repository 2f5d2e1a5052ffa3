use Rattle.std.proofs.Common.{◌≡◌, Some, refl, subst}
use Rattle.tn_symbols.specs.Sources.{offer}
use Rattle.tn_config.specs.Configurations.{block_of}
use Rattle.tn_stream.specs.Images.{image_of}
use Rattle.tn_sym.specs.Programs.{AreModules}
use Rattle.tn_system.specs.Faults.{image_fault, IsModulesFault}
use Rattle.tn_system.specs.Inner.Offers.{offer_of, OfChoice}
use Rattle.tn_system.proofs.Telling.{offer-same, if-weaker}
use Rattle.tn_system.proofs.Making.{choice-moved, copies-moved, linkable, made, program-made, made-together, failed}
use Rattle.tn_system.proofs.processors.make_processor.Goals as goal

pub image-requires-clause-linkable : goal.image-requires-clause-linkable
image-requires-clause-linkable c =
    let at = offer c.args.offer.now.pool.now c.deref.result.now c.args.offer.now.shelf.now c.deref-2.result.now in
    let same = offer-same c.args.offer.now.pool.now c.args.offer.now.shelf.now c.deref.result.now
    c.args.offer.now.places.now.modules.items c.deref-2.result.now c.args.offer.now.places.now.libraries.items c.deref.ensures.value
    c.deref-2.ensures.value in
    linkable (offer_of c.args.offer.now) c.requires.offer.offer c.in-Ok.chosen.sources.items c.in-Ok.chosen.modules.items
    (choice-moved at (offer_of c.args.offer.now) c.in-Ok.chosen.sources.items same c.in-Ok.ensures.choice)
    (copies-moved at (offer_of c.args.offer.now) c.in-Ok.chosen.sources.items c.in-Ok.chosen.modules.items same c.in-Ok.ensures.copies)
    c.in-Ok.ensures.defined

pub returns-in-Ok-image-clause-made : goal.returns-in-Ok-image-clause-made
returns-in-Ok-image-clause-made c =
    let at = offer c.args.offer.now.pool.now c.deref.result.now c.args.offer.now.shelf.now c.deref-2.result.now in
    let same = offer-same c.args.offer.now.pool.now c.args.offer.now.shelf.now c.deref.result.now
    c.args.offer.now.places.now.modules.items c.deref-2.result.now c.args.offer.now.places.now.libraries.items c.deref.ensures.value
    c.deref-2.ensures.value in
    made (offer_of c.args.offer.now) (block_of c.args.offer.now.block.now) c.in-Ok.chosen.sources.items c.in-Ok.chosen.modules.items
    (choice-moved at (offer_of c.args.offer.now) c.in-Ok.chosen.sources.items same c.in-Ok.ensures.choice)
    (copies-moved at (offer_of c.args.offer.now) c.in-Ok.chosen.sources.items c.in-Ok.chosen.modules.items same c.in-Ok.ensures.copies)
    c.in-Ok.ensures.sound (image_of c.in-Ok-image.built.image) c.in-Ok-image.ensures.built.image

pub returns-in-Ok-image-clause-program : goal.returns-in-Ok-image-clause-program
returns-in-Ok-image-clause-program c =
    let at = offer c.args.offer.now.pool.now c.deref.result.now c.args.offer.now.shelf.now c.deref-2.result.now in
    let same = offer-same c.args.offer.now.pool.now c.args.offer.now.shelf.now c.deref.result.now
    c.args.offer.now.places.now.modules.items c.deref-2.result.now c.args.offer.now.places.now.libraries.items c.deref.ensures.value
    c.deref-2.ensures.value in
    let choice = choice-moved at (offer_of c.args.offer.now) c.in-Ok.chosen.sources.items same c.in-Ok.ensures.choice in
    let copies = copies-moved at (offer_of c.args.offer.now) c.in-Ok.chosen.sources.items c.in-Ok.chosen.modules.items same
    c.in-Ok.ensures.copies in
    program-made (offer_of c.args.offer.now) (block_of c.args.offer.now.block.now) c.in-Ok.chosen.sources.items
    c.in-Ok.chosen.modules.items choice copies c.in-Ok.ensures.sound (image_of c.in-Ok-image.built.image)
    (record { linked = c.in-Ok-image.built.linked; chosen = c.in-Ok.chosen }) c.requires.range
    (subst AreModules c.deref-in-Ok.ensures.value c.each_is_valid.ensures)
    (linkable (offer_of c.args.offer.now) c.requires.offer.offer c.in-Ok.chosen.sources.items c.in-Ok.chosen.modules.items choice copies
    c.in-Ok.ensures.defined)
    refl c.in-Ok-image.ensures.built.image c.in-Ok-image.ensures.built.linked

pub returns-in-Ok-image-clause-belong : goal.returns-in-Ok-image-clause-belong
returns-in-Ok-image-clause-belong c =
    made-together (block_of c.args.offer.now.block.now) c.in-Ok.chosen.modules.items (image_of c.in-Ok-image.built.image)
    (record { linked = c.in-Ok-image.built.linked; chosen = c.in-Ok.chosen }) c.in-Ok-image.ensures.built.image
    c.in-Ok-image.ensures.built.linked

pub returns-in-Err-image-clause-fault : goal.returns-in-Err-image-clause-fault
returns-in-Err-image-clause-fault c =
    let at = offer c.args.offer.now.pool.now c.deref.result.now c.args.offer.now.shelf.now c.deref-2.result.now in
    let same = offer-same c.args.offer.now.pool.now c.args.offer.now.shelf.now c.deref.result.now
    c.args.offer.now.places.now.modules.items c.deref-2.result.now c.args.offer.now.places.now.libraries.items c.deref.ensures.value
    c.deref-2.ensures.value in
    if-weaker (λ told. image_fault c.args.config_file.now c.in-Err-image.fault ≡ Some told)
    (λ told. OfChoice (offer_of c.args.offer.now) (block_of c.args.offer.now.block.now)
    (IsModulesFault c.args.config_file.now (block_of c.args.offer.now.block.now) told)) c.image_fault.result
    (λ g told. failed (offer_of c.args.offer.now) (block_of c.args.offer.now.block.now) c.in-Ok.chosen.sources.items
    c.in-Ok.chosen.modules.items
    (choice-moved at (offer_of c.args.offer.now) c.in-Ok.chosen.sources.items same c.in-Ok.ensures.choice)
    (copies-moved at (offer_of c.args.offer.now) c.in-Ok.chosen.sources.items c.in-Ok.chosen.modules.items same c.in-Ok.ensures.copies)
    c.in-Ok.ensures.sound c.args.config_file.now c.in-Err-image.fault g c.in-Err-image.ensures.fault told)
    c.image_fault.ensures
