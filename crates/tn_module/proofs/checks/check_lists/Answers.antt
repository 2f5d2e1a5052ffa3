use Rattle.std.proofs.lemmas.Result.{on_ok_weaker}
use Rattle.tn_text.proofs.Results.{of-error}
use Rattle.tn_module.specs.Modules.{module_of}
use Rattle.tn_module.specs.Faults.{IsFirstFault, OnFault}
use Rattle.tn_module.proofs.Order.{on-fault, if-fault, first_import, first_export, first_item, first_cell, all_sound}
use Rattle.tn_module.proofs.checks.check_lists.Goals as goal

pub returns-in_err-imported-clause-fault : goal.returns-in_err-imported-clause-fault
returns-in_err-imported-clause-fault c =
    of-error (λ r. OnFault r (IsFirstFault
    (module_of c.args.raw.now))) c.from_residual.result c.in_err-imported.field-0.0
    c.from_residual.ensures.1
    (if-fault c.in_err-imported.field-0.0 (first_import (module_of c.args.raw.now)) c.in_err-imported.ensures.fault)

pub returns-in_err-check_exports-clause-fault : goal.returns-in_err-check_exports-clause-fault
returns-in_err-check_exports-clause-fault c =
    of-error (λ r. OnFault r (IsFirstFault
    (module_of c.args.raw.now))) c.from_residual-in_err-check_exports.result c.in_err-check_exports.field-0.0
    c.from_residual-in_err-check_exports.ensures.1
    (if-fault c.in_err-check_exports.field-0.0 (first_export
    (module_of c.args.raw.now) c.in_ok-imported.ensures.sound) c.in_err-check_exports.ensures.fault)

pub returns-in_err-outside_cells-clause-fault : goal.returns-in_err-outside_cells-clause-fault
returns-in_err-outside_cells-clause-fault c =
    of-error (λ r. OnFault r (IsFirstFault
    (module_of c.args.raw.now))) c.from_residual-in_err-outside_cells.result c.in_err-outside_cells.field-0.0
    c.from_residual-in_err-outside_cells.ensures.1
    (if-fault c.in_err-outside_cells.field-0.0 (first_item
    (module_of c.args.raw.now) c.in_ok-imported.ensures.sound c.in_ok-check_exports.ensures.sound) c.in_err-outside_cells.ensures.fault)

pub returns-clause-sound : goal.returns-clause-sound
returns-clause-sound c =
    on_ok_weaker c.check_cells.result (all_sound
    (module_of c.args.raw.now) c.in_ok-imported.ensures.sound c.in_ok-check_exports.ensures.sound
    c.in_ok-outside_cells.ensures.sound) c.check_cells.ensures.sound

pub returns-clause-fault : goal.returns-clause-fault
returns-clause-fault c =
    on-fault c.check_cells.result (first_cell
    (module_of c.args.raw.now) c.in_ok-imported.ensures.sound c.in_ok-check_exports.ensures.sound
    c.in_ok-outside_cells.ensures.sound) c.check_cells.ensures.fault

pub returns-clause-ranges : goal.returns-clause-ranges
returns-clause-ranges c =
    on_ok_weaker c.check_cells.result
    (λ cells. record {
      name = c.requires.name;
      imports = c.in_ok-imported.ensures.ranges;
      exports = c.in_ok-check_exports.ensures.ranges;
      items = c.in_ok-outside_cells.ensures.ranges;
      cells = cells;
    }) c.check_cells.ensures.ranges
