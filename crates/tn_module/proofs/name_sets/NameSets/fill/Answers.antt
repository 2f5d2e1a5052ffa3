use Rattle.std.proofs.Common.{subst}
use Rattle.std.specs.Result.{IfOk}
use Rattle.tn_module.specs.Modules.{module_of}
use Rattle.tn_module.specs.Names.{defined_names, code_names, cell_names, labels, misaligned}
use Rattle.tn_module.specs.Faults.{known}
use Rattle.tn_module.specs.Inner.Sets.{HaveSameNames}
use Rattle.tn_module.proofs.NameLists.{known-same}
use Rattle.tn_module.proofs.name_sets.NameSets.fill.Goals as goal

pub returns : goal.returns
returns c =
    known-same (record {
      defined = c.put.new.set;
      code = c.put-2.new.set;
      cells = c.put-3.new.set;
      labels = c.put-4.new.set;
      misaligned = c.put-5.new.set;
    }) (known (module_of c.args.raw.now))
    (subst (λ made. IfOk made (λ set. HaveSameNames set.keys (defined_names (module_of c.args.raw.now))))
    c.in_ok-put.ensures c.defined.ensures).same
    (subst (λ made. IfOk made (λ set. HaveSameNames set.keys (code_names (module_of c.args.raw.now))))
    c.in_ok-put-2.ensures c.code.ensures).same
    (subst (λ made. IfOk made (λ set. HaveSameNames set.keys (cell_names (module_of c.args.raw.now))))
    c.in_ok-put-3.ensures c.cells.ensures).same
    (subst (λ made. IfOk made (λ set. HaveSameNames set.keys (labels (module_of c.args.raw.now))))
    c.in_ok-put-4.ensures c.labels.ensures).same
    (subst (λ made. IfOk made (λ set. HaveSameNames set.keys (misaligned (module_of c.args.raw.now))))
    c.in_ok-put-5.ensures c.misaligned.ensures).same
