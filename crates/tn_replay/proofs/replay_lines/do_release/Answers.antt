use Rattle.std.proofs.Common.{refl, subst, sym}
use Rattle.std.specs.Prelude.{Option}
use Rattle.tn_sym.specs.Symbolic.{SymbolicState}
use Rattle.tn_schedule.specs.declared.acts.Act.TheVariants as act
use Rattle.tn_replay.specs.Inner.LineEnds.{state_of, IsDone}
use Rattle.tn_replay.specs.Inner.Lookups.{known_in}
use Rattle.tn_replay.proofs.LineLaws.{release_done, release_refused, release_loaded}
use Rattle.tn_replay.proofs.replay_lines.do_release.Goals as goal

pub returns-then-not-may_release-clause-ends : goal.returns-then-not-may_release-clause-ends
returns-then-not-may_release-clause-ends c =
    λ text. release_refused (known_in c.args.lookup.now) c.args.net.now c.args.symbolic.now c.args.steps c.may_release.result
    c.may_release.ensures c.args.net.now c.if-not-may_release.true refl

pub begin-requires-clause-loaded : goal.begin-requires-clause-loaded
begin-requires-clause-loaded c =
    release_loaded (known_in c.args.lookup.now) c.args.net.now c.args.symbolic.now c.args.steps c.may_release.result c.may_release.ensures
    c.if-not-may_release.false

pub returns-in-Ok-clause-ends : goal.returns-in-Ok-clause-ends
returns-in-Ok-clause-ends c =
    λ text. subst (λ (o : Option SymbolicState). IsDone (known_in c.args.lookup.now) act.Release
    (state_of c.args.net.now c.args.symbolic.now c.args.steps) (state_of c.release.new.self o c.args.steps) text text)
    (sym c.put_beside.ensures)
    (release_done (known_in c.args.lookup.now) c.args.net.now c.args.symbolic.now c.args.steps c.may_release.result c.may_release.ensures
    c.release.new.self c.in-Ok.begun text c.requires.known c.if-not-may_release.false c.in-Ok.ensures c.release.ensures)
