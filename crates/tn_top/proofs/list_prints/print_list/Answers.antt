use Rattle.std.proofs.Common.{◌≡◌, ap, map, Err}
use Rattle.tn_config.specs.Configurations.{block_of}
use Rattle.tn_stream.specs.Images.{images_of}
use Rattle.tn_system.specs.Systems.{programs_of}
use Rattle.tn_top.specs.declared.refusals.Refusal.TheVariants.{Unprinted, NoMemory}
use Rattle.tn_top.specs.ListPlans.{listings, system_listing}
use Rattle.tn_top.specs.Inner.Systems.{configured}
use Rattle.tn_top.proofs.TreeTexts.{shows-part}
use Rattle.tn_top.proofs.list_prints.print_list.Goals as goal

pub returns-in-Err-Out-clause-shows : goal.returns-in-Err-Out-clause-shows
returns-in-Err-Out-clause-shows g c =
    let text = listings (map block_of c.deref.result.now) (programs_of c.deref-2.result.now) (images_of c.deref-3.result.now) in
    let same : text ≡ system_listing (configured c.args.read.now) =
    λ j. listings (map block_of (c.deref.ensures.value j)) (programs_of (c.deref-2.ensures.value j))
    (images_of (c.deref-3.ensures.value j)) in
    shows-part text (system_listing (configured c.args.read.now)) same (g.O.Out.printed c.args.out.now)
    (g.O.Out.printed c.print_listings.new.out) Unprinted c.in-Err-Out.ensures.lists.refused
    (c.in-Err-Out.ensures.lists.failed (ap Err c.in-Err-Out.field-0-is))

pub returns-in-Err-NoMemory-clause-shows : goal.returns-in-Err-NoMemory-clause-shows
returns-in-Err-NoMemory-clause-shows g c =
    let text = listings (map block_of c.deref.result.now) (programs_of c.deref-2.result.now) (images_of c.deref-3.result.now) in
    let same : text ≡ system_listing (configured c.args.read.now) =
    λ j. listings (map block_of (c.deref.ensures.value j)) (programs_of (c.deref-2.ensures.value j))
    (images_of (c.deref-3.ensures.value j)) in
    shows-part text (system_listing (configured c.args.read.now)) same (g.O.Out.printed c.args.out.now)
    (g.O.Out.printed c.print_listings.new.out) NoMemory c.in-Err-NoMemory.ensures.lists.refused tt
