use Rattle.std.proofs.Common.{◌++◌}
use Rattle.std.proofs.lemmas.Result.{IfOk-weaker}
use Rattle.tn_module.specs.Inner.Sets.{HaveSameNames}
use Rattle.tn_module.proofs.NameLists.{same-then, same-from_none}
use Rattle.tn_module.proofs.name_sets.set_of.Goals as goal

pub returns : goal.returns
returns c =
    IfOk-weaker c.with_names-2.result (λ all. HaveSameNames all.keys (c.in_ok-set.set.keys ++ c.args.second.now))
    (λ all. HaveSameNames all.keys (c.args.first.now ++ c.args.second.now))
    (λ all h. same-then c.in_ok-set.set.keys c.args.first.now all.keys c.args.second.now
    (same-from_none c.new.result.keys c.in_ok-set.set.keys c.args.first.now c.new.ensures.empty c.in_ok-set.ensures) h)
    c.with_names-2.ensures
