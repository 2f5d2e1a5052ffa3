use Rattle.std.proofs.Common.{◌++◌, append-nil, sym, subst, take_all}
use Rattle.tn_module.specs.Inner.Sets.{HaveSameNames}
use Rattle.tn_module.proofs.NameLists.{same-refl}
use Rattle.tn_module.proofs.Places.{names_grown}
use Rattle.tn_module.proofs.name_sets.with_names.Goals as goal

pub loop-name-preserved : goal.loop-name-preserved
loop-name-preserved c =
    names_grown c.args.set.keys c.loop-name.set.keys c.enter.new.set.keys c.args.names.now c.loop-name.name-index c.name-item.result
    c.loop-name-test.true c.name-item.is c.loop-name.invariant c.in_ok-enter.ensures.entered

pub loop-name-init : goal.loop-name-init
loop-name-init c = subst (HaveSameNames c.args.set.keys) (sym (append-nil c.args.set.keys)) (same-refl c.args.set.keys)

pub returns : goal.returns
returns c =
    subst (λ l. HaveSameNames c.loop-name.set.keys (c.args.set.keys ++ l))
    (take_all c.loop-name.name-index c.args.names.now c.loop-name-test.false) c.loop-name.invariant
