use Rattle.std.proofs.Common.{inl, inr, Err, Ok, Some, refl, ap, sym, codes, arith, ◌∙◌}
use Rattle.std.proofs.lemmas.List.{length-map}
use Rattle.tn_text.proofs.Results.{of-error}
use Rattle.tn_text.specs.Counts.{Rose}
use Rattle.tn_io.specs.SafeStores.{safely_stored}
use Rattle.tn_config.specs.Configurations.{ConfigState}
use Rattle.tn_stream.specs.Images.{image_of}
use Rattle.tn_system.specs.Systems.{SystemState}
use Rattle.tn_top.specs.declared.refusals.Refusal.TheVariants.{NoMemory}
use Rattle.tn_top.specs.declared.systems.Configured.{Configured}
use Rattle.tn_top.specs.SystemPlans.{system_plan}
use Rattle.tn_top.specs.GridPlans.{grid_files, grid_text, grid_printed, grid_system, grid_plan}
use Rattle.tn_top.specs.Inner.Ends.{Ends}
use Rattle.tn_top.specs.Inner.Systems.{configured}
use Rattle.tn_top.proofs.BuildLaws.{system-found}
use Rattle.tn_top.proofs.EndLaws.{ends_none, ends_stopped, ends_shown}
use Rattle.tn_top.proofs.OwnFileLaws.{staged-over}
use Rattle.tn_top.proofs.SystemBoots.{system-images}
use Rattle.tn_top.proofs.commands.grid.Goals as goal

abbrev seen : Configured → ConfigState × SystemState
seen c = configured c

-- a store that never fails counts no faults
still : Rose 0 0 → ⊥
still (inl h) = absurd (omega (arith, h))
still (inr e) = absurd (omega (arith, e))

pub returns-in_err-own-clause-ends : goal.returns-in_err-own-clause-ends
returns-in_err-own-clause-ends g c = λ stored.
    let said = g.O.Out.printed c.args.out.now in
    of-error (Ends (grid_plan c.args.size) stored stored said said) c.from_residual.result NoMemory c.from_residual.ensures.1
    (ends_none (grid_plan c.args.size) stored said)

pub returns-in_err-read-clause-ends : goal.returns-in_err-read-clause-ends
returns-in_err-read-clause-ends g c = λ stored.
    let said = g.O.Out.printed c.args.out.now in
    let files = grid_files c.args.size in
    let before = safely_stored c.in_ok-own.own in
    let after = safely_stored c.read_system.new.store in
    let staged = rw c.grid_file.ensures at c.in_err-read.ensures.staged in
    of-error (Ends (grid_plan c.args.size) stored stored said said) c.from_residual-in_err-read.result c.in_err-read.field-0.0
    c.from_residual-in_err-read.ensures.1
    (ends_stopped seen (grid_printed c.args.size) (grid_system c.args.size) stored stored said c.in_err-read.field-0.0
    (staged-over seen files (system_plan (codes "grid.cfg")) stored before after (ap Some c.in_ok-own.ensures) still
    (Err c.in_err-read.field-0.0) staged))

pub print_grid-requires-clause-entries : goal.print_grid-requires-clause-entries
print_grid-requires-clause-entries g c =
    let y = (seen c.in_ok-read.read).1 in
    let of = system-found (Some c.in_ok-own.own.files) c.grid_file.result (seen c.in_ok-read.read).0 y c.in_ok-read.ensures.staged.ok in
    sym (length-map c.in_ok-read.read.system.images.items image_of) ∙ system-images of.0 y of.3

pub returns-clause-ends : goal.returns-clause-ends
returns-clause-ends g c = λ stored.
    let files = grid_files c.args.size in
    let made = c.in_ok-read.read in
    let before = safely_stored c.in_ok-own.own in
    let after = safely_stored c.read_system.new.store in
    let staged = rw c.grid_file.ensures at c.in_ok-read.ensures.staged in
    ends_shown seen (grid_printed c.args.size) (grid_system c.args.size) stored stored stored (g.O.Out.printed c.args.out.now)
    (g.O.Out.printed c.print_grid.new.out) made
    (staged-over seen files (system_plan (codes "grid.cfg")) stored before after (ap Some c.in_ok-own.ensures) still (Ok made) staged)
    (grid_text c.args.size (seen made).1) c.print_grid.result refl c.print_grid.ensures.shows
