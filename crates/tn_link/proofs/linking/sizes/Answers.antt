use Rattle.std.proofs.Common.{sym, ◌∙◌, subst}
use Rattle.tn_layout.specs.Sizes.{AreNamed}
use Rattle.tn_link.proofs.Fitness.{named-pieces}
use Rattle.tn_link.proofs.linking.sizes.Goals as goal

pub settle-requires-clause-named : goal.settle-requires-clause-named
settle-requires-clause-named c = subst AreNamed (sym (c.deref.ensures.value ∙ c.in-Ok.ensures)) (named-pieces c.args.program.now
    c.requires.fit)
