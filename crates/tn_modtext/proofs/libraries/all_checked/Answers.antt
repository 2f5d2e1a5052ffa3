use Rattle.std.proofs.Common.{Vec, Global, [], ◌∷◌, ◌++◌, length, map, arith, append_assoc, Result, sym, ap, subst, ◌∙◌}
use Rattle.std.specs.Result.{result_map_both}
use Rattle.tn_text.specs.declared.faults.ReadFault.{ReadFault}
use Rattle.tn_text.proofs.Results.{of-error}
use Rattle.tn_module.specs.declared.modules.Module.{Module}
use Rattle.tn_module.specs.Modules.{module_of, IsShort}
use Rattle.tn_modtext.specs.Lines.{lines_of}
use Rattle.tn_modtext.specs.Libraries.{AreChecked}
use Rattle.tn_modtext.proofs.LibraryLaws.{next-room, split-next, checked-next, checked-stopped}
use Rattle.tn_modtext.proofs.libraries.all_checked.Goals as goal

pub checked-requires-clause-short : goal.checked-requires-clause-short
checked-requires-clause-short c =
    (next-room (map module_of c.loop-raw.yielded) (module_of c.in-Some.raw) (map module_of c.next.new.self.rest.items)
    (map module_of c.args.raws.items) c.loop-raw.modules.items c.loop-raw.before c.loop-raw.invariant.0
    (split-next c.loop-raw.yielded c.loop-raw.raw-iterator.rest.items c.next.new.self.rest.items c.args.raws.items c.in-Some.raw
    c.loop-raw.invariant.1 c.in-Some.ensures.steps.0) c.requires).short

pub checked-requires-clause-room : goal.checked-requires-clause-room
checked-requires-clause-room c =
    (next-room (map module_of c.loop-raw.yielded) (module_of c.in-Some.raw) (map module_of c.next.new.self.rest.items)
    (map module_of c.args.raws.items) c.loop-raw.modules.items c.loop-raw.before c.loop-raw.invariant.0
    (split-next c.loop-raw.yielded c.loop-raw.raw-iterator.rest.items c.next.new.self.rest.items c.args.raws.items c.in-Some.raw
    c.loop-raw.invariant.1 c.in-Some.ensures.steps.0) c.requires).lines

pub returns-in_err-module : goal.returns-in_err-module
returns-in_err-module c =
    of-error (λ (r : Result (Vec Module Global) ReadFault). AreChecked 1 (map module_of c.args.raws.items)
    (result_map_both (λ modules. modules.items) (λ why. why) r))
    c.from_residual.result c.in_err-module.field-0.0 c.from_residual.ensures.1
    (checked-stopped (map module_of c.loop-raw.yielded) c.loop-raw.modules.items c.loop-raw.before (module_of c.in-Some.raw)
    (map module_of c.next.new.self.rest.items) (map module_of c.args.raws.items) c.in_err-module.field-0.0 c.loop-raw.invariant.0
    (split-next c.loop-raw.yielded c.loop-raw.raw-iterator.rest.items c.next.new.self.rest.items c.args.raws.items c.in-Some.raw
    c.loop-raw.invariant.1 c.in-Some.ensures.steps.0) c.in_err-module.ensures)

pub module_lines-requires : goal.module_lines-requires
module_lines-requires c =
    subst IsShort (sym c.in_ok-module.ensures.0)
    (next-room (map module_of c.loop-raw.yielded) (module_of c.in-Some.raw) (map module_of c.next.new.self.rest.items)
    (map module_of c.args.raws.items) c.loop-raw.modules.items c.loop-raw.before c.loop-raw.invariant.0
    (split-next c.loop-raw.yielded c.loop-raw.raw-iterator.rest.items c.next.new.self.rest.items c.args.raws.items c.in-Some.raw
    c.loop-raw.invariant.1 c.in-Some.ensures.steps.0) c.requires).short

pub overflow_cast-before : goal.overflow_cast-before
overflow_cast-before c =
    let room = next-room (map module_of c.loop-raw.yielded) (module_of c.in-Some.raw) (map module_of c.next.new.self.rest.items)
    (map module_of c.args.raws.items) c.loop-raw.modules.items c.loop-raw.before c.loop-raw.invariant.0
    (split-next c.loop-raw.yielded c.loop-raw.raw-iterator.rest.items c.next.new.self.rest.items c.args.raws.items c.in-Some.raw
    c.loop-raw.invariant.1 c.in-Some.ensures.steps.0) c.requires in
    let lines = room.lines in
    let same = ap (λ m. length (lines_of m)) c.in_ok-module.ensures.0 in
    omega (arith, lines, same, c.module_lines.ensures)

pub overflow_add-before : goal.overflow_add-before
overflow_add-before c =
    let room = next-room (map module_of c.loop-raw.yielded) (module_of c.in-Some.raw) (map module_of c.next.new.self.rest.items)
    (map module_of c.args.raws.items) c.loop-raw.modules.items c.loop-raw.before c.loop-raw.invariant.0
    (split-next c.loop-raw.yielded c.loop-raw.raw-iterator.rest.items c.next.new.self.rest.items c.args.raws.items c.in-Some.raw
    c.loop-raw.invariant.1 c.in-Some.ensures.steps.0) c.requires in
    let lines = room.lines in
    let same = ap (λ m. length (lines_of m)) c.in_ok-module.ensures.0 in
    omega (arith, lines, same, c.module_lines.ensures)

pub loop-raw-preserved : goal.loop-raw-preserved
loop-raw-preserved c = (
  checked-next c.loop-raw.yielded c.in-Some.raw c.loop-raw.modules.items c.push.new.self.items c.loop-raw.before c.module_lines.result
      c.in_ok-module.module c.loop-raw.invariant.0 c.in_ok-module.ensures c.in_ok-push.ensures.items c.module_lines.ensures,
  append_assoc c.loop-raw.yielded (c.in-Some.raw ∷ []) c.next.new.self.rest.items
      ∙ (ap (λ r. c.loop-raw.yielded ++ r) (sym c.in-Some.ensures.steps.0) ∙ c.loop-raw.invariant.1),
  tt,
  tt,
)
