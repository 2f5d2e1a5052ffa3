use Rattle.std.proofs.Common.{◌≡◌, ◌∙◌, ap, length, map, Err}
use Rattle.std.proofs.lemmas.List.{length-map}
use Rattle.std.specs.Prelude.{slice_index}
use Rattle.std.proofs.lemmas.List.FromFn.{length-map-range_with_len}
use Rattle.tn_text.proofs.Results.{of-error}
use Rattle.tn_list.specs.TreeTexts.{tree_text}
use Rattle.tn_stream.specs.Images.{images_of}
use Rattle.tn_top.specs.declared.refusals.Refusal.TheVariants.{Unprinted, NoMemory}
use Rattle.tn_top.specs.SystemPlans.{system_tree}
use Rattle.tn_top.specs.Inner.Ends.{Shows}
use Rattle.tn_top.specs.Inner.Systems.{configured}
use Rattle.tn_top.proofs.TreeTexts.{printed-text, shows-want, shows-all, shows-part}
use Rattle.tn_top.proofs.tree_prints.print_tree.Goals as goal

pub returns-in_err-names-clause-shows : goal.returns-in_err-names-clause-shows
returns-in_err-names-clause-shows g c =
    let old = g.O.Out.printed c.args.out.now in
    of-error (Shows (system_tree (configured c.args.read.now)) old old) c.from_residual.result NoMemory c.from_residual.ensures.1
    (shows-want (system_tree (configured c.args.read.now)) old)

pub returns-in_err-counts-clause-shows : goal.returns-in_err-counts-clause-shows
returns-in_err-counts-clause-shows g c =
    let old = g.O.Out.printed c.args.out.now in
    of-error (Shows (system_tree (configured c.args.read.now)) old old) c.from_residual-in_err-counts.result NoMemory
    c.from_residual-in_err-counts.ensures.1 (shows-want (system_tree (configured c.args.read.now)) old)

pub tree_text-requires-clause-counted : goal.tree_text-requires-clause-counted
tree_text-requires-clause-counted g c =
    ap (λ xs. length xs) (c.deref-5.ensures.value ∙ c.in_ok-counts.ensures)
    ∙ length-map-range_with_len _ 0 (length c.args.read.now.system.tree.nodes.items)

pub returns-in-Ok-clause-shows : goal.returns-in-Ok-clause-shows
returns-in-Ok-clause-shows g c =
    let system = c.args.read.now.system in
    let same : tree_text c.deref-4.result.now system.tree.nodes.items (λ k. slice_index c.deref-5.result.now k) c.steps-steps.result
    ≡ system_tree (configured c.args.read.now) =
    printed-text c.args.read.now.config.blocks.items (images_of system.images.items) system.tree.nodes.items c.deref-4.result.now
    c.deref-5.result.now c.steps-steps.result
    (c.deref-4.ensures.value ∙ (rw c.deref.ensures.value at c.in_ok-names.ensures))
    (c.deref-5.ensures.value ∙ (rw c.deref-2.ensures.value at c.in_ok-counts.ensures))
    (rw c.deref-3.ensures.value at c.steps-steps.ensures) c.requires.loadable.whole.some in
    let text = tree_text c.deref-4.result.now system.tree.nodes.items (λ k. slice_index c.deref-5.result.now k) c.steps-steps.result in
    let old = g.O.Out.printed c.args.out.now in
    let new = g.O.Out.printed c.tree_text.new.out in
    shows-all text (system_tree (configured c.args.read.now)) same old new tt c.in-Ok.ensures.lists.ok

pub returns-in-Err-Out-clause-shows : goal.returns-in-Err-Out-clause-shows
returns-in-Err-Out-clause-shows g c =
    let system = c.args.read.now.system in
    let same : tree_text c.deref-4.result.now system.tree.nodes.items (λ k. slice_index c.deref-5.result.now k) c.steps-steps.result
    ≡ system_tree (configured c.args.read.now) =
    printed-text c.args.read.now.config.blocks.items (images_of system.images.items) system.tree.nodes.items c.deref-4.result.now
    c.deref-5.result.now c.steps-steps.result
    (c.deref-4.ensures.value ∙ (rw c.deref.ensures.value at c.in_ok-names.ensures))
    (c.deref-5.ensures.value ∙ (rw c.deref-2.ensures.value at c.in_ok-counts.ensures))
    (rw c.deref-3.ensures.value at c.steps-steps.ensures) c.requires.loadable.whole.some in
    let text = tree_text c.deref-4.result.now system.tree.nodes.items (λ k. slice_index c.deref-5.result.now k) c.steps-steps.result in
    let old = g.O.Out.printed c.args.out.now in
    let new = g.O.Out.printed c.tree_text.new.out in
    shows-part text (system_tree (configured c.args.read.now)) same old new Unprinted c.in-Err-Out.ensures.lists.refused
    (c.in-Err-Out.ensures.lists.failed (ap Err c.in-Err-Out.field-0-is))

pub returns-clause-shows : goal.returns-clause-shows
returns-clause-shows g c =
    let system = c.args.read.now.system in
    let same : tree_text c.deref-4.result.now system.tree.nodes.items (λ k. slice_index c.deref-5.result.now k) c.steps-steps.result
    ≡ system_tree (configured c.args.read.now) =
    printed-text c.args.read.now.config.blocks.items (images_of system.images.items) system.tree.nodes.items c.deref-4.result.now
    c.deref-5.result.now c.steps-steps.result
    (c.deref-4.ensures.value ∙ (rw c.deref.ensures.value at c.in_ok-names.ensures))
    (c.deref-5.ensures.value ∙ (rw c.deref-2.ensures.value at c.in_ok-counts.ensures))
    (rw c.deref-3.ensures.value at c.steps-steps.ensures) c.requires.loadable.whole.some in
    let text = tree_text c.deref-4.result.now system.tree.nodes.items (λ k. slice_index c.deref-5.result.now k) c.steps-steps.result in
    let old = g.O.Out.printed c.args.out.now in
    let new = g.O.Out.printed c.tree_text.new.out in
    shows-part text (system_tree (configured c.args.read.now)) same old new NoMemory c.in-Err-NoMemory.ensures.lists.refused tt

pub all_received-requires-clause-whole : goal.all_received-requires-clause-whole
all_received-requires-clause-whole g c = rw c.deref-2.ensures.value c.requires.loadable.whole

pub steps-steps-requires-clause-whole : goal.steps-steps-requires-clause-whole
steps-steps-requires-clause-whole g c = rw c.deref-3.ensures.value c.requires.loadable.whole

pub tree_text-requires-clause-whole : goal.tree_text-requires-clause-whole
tree_text-requires-clause-whole g c =
    let named : c.deref-4.result.now ≡ map (λ b. b.name) c.args.read.now.config.blocks.items =
    c.deref-4.ensures.value ∙ (rw c.deref.ensures.value at c.in_ok-names.ensures) in
    rw (ap (λ xs. length xs) named ∙ length-map c.args.read.now.config.blocks.items (λ b. b.name)) c.requires.named
