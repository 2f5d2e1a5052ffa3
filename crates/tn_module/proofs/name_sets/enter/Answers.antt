use Rattle.std.proofs.Common.{List, ℕ, [], ◌∷◌, ◌++◌, subst}
use Rattle.tn_module.specs.Inner.Sets.{HaveSameNames}
use Rattle.tn_module.proofs.NameLists.{entered}
use Rattle.tn_module.proofs.name_sets.enter.Goals as goal

pub returns-clause-entered : goal.returns-clause-entered
returns-clause-entered c =
    subst (λ (name : List ℕ). HaveSameNames c.insert.new.self.keys (c.args.set.now.keys ++ name ∷ [])) c.copied.ensures.copy
    (entered c.args.set.now.keys c.insert.new.self.keys c.copied.result c.in_ok-new.ensures.updates.0)
