use Rattle.std.proofs.Common.{◌++◌, ap, ◌∙◌}
use Rattle.tn_module.specs.Names.{import_names, code_labels, cell_labels}
use Rattle.tn_module.proofs.NameLists.{joined}
use Rattle.tn_module.proofs.name_sets.defined.Goals as goal

pub returns : goal.returns
returns c =
    joined c.with_names.result (λ all. all.keys) c.in_ok-outside_cells.field-0.keys
    (import_names c.args.raw.now.imports.items ++ code_labels c.args.raw.now.items.items) c.deref-2.result.now
    (cell_labels c.args.raw.now.cells.items)
    c.in_ok-outside_cells.ensures (c.deref-2.ensures.value ∙ c.in_ok-cells.ensures
    ∙ ap cell_labels c.deref.ensures.value) c.with_names.ensures
