use Rattle.std.proofs.Common.{ℕ, List, Err, ap}
use Rattle.tn_text.proofs.Results.{of-error}
use Rattle.tn_system.specs.Systems.{system_of}
use Rattle.tn_top.specs.declared.grids.Summary.{Summary}
use Rattle.tn_top.specs.declared.refusals.Refusal.TheVariants.{Unprinted, NoMemory}
use Rattle.tn_top.specs.GridPlans.{summary_text, grid_text}
use Rattle.tn_top.specs.Inner.Ends.{Shows}
use Rattle.tn_top.proofs.TreeTexts.{shows-want, shows-all, shows-part}
use Rattle.tn_top.proofs.grids.print_grid.Goals as goal

abbrev text_of : Summary → List ℕ
text_of s = summary_text s.size s.processors s.bytes s.load s.run

pub returns-in_err-summary-clause-shows : goal.returns-in_err-summary-clause-shows
returns-in_err-summary-clause-shows g c =
    let old = g.O.Out.printed c.args.out.now in
    let text = grid_text c.args.size (system_of c.args.system.now) in
    of-error (Shows text old old) c.from_residual.result NoMemory c.from_residual.ensures.1 (shows-want text old)

pub returns-in-Ok-clause-shows : goal.returns-in-Ok-clause-shows
returns-in-Ok-clause-shows g c =
    shows-all (text_of c.in_ok-summary.summary) (grid_text c.args.size (system_of c.args.system.now)) c.in_ok-summary.ensures
    (g.O.Out.printed c.args.out.now) (g.O.Out.printed c.print_summary.new.out) tt c.in-Ok.ensures.lists.ok

pub returns-in-Err-Out-clause-shows : goal.returns-in-Err-Out-clause-shows
returns-in-Err-Out-clause-shows g c =
    shows-part (text_of c.in_ok-summary.summary) (grid_text c.args.size (system_of c.args.system.now)) c.in_ok-summary.ensures
    (g.O.Out.printed c.args.out.now) (g.O.Out.printed c.print_summary.new.out) Unprinted
    c.in-Err-Out.ensures.lists.refused (c.in-Err-Out.ensures.lists.failed (ap Err c.in-Err-Out.field-0-is))

pub returns-in-Err-NoMemory-clause-shows : goal.returns-in-Err-NoMemory-clause-shows
returns-in-Err-NoMemory-clause-shows g c =
    shows-part (text_of c.in_ok-summary.summary) (grid_text c.args.size (system_of c.args.system.now)) c.in_ok-summary.ensures
    (g.O.Out.printed c.args.out.now) (g.O.Out.printed c.print_summary.new.out) NoMemory
    c.in-Err-NoMemory.ensures.lists.refused tt
