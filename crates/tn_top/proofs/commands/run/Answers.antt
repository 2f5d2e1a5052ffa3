use Rattle.std.proofs.Common.{◌≡◌, ◌∙◌, Some, sym, ap, subst, map, string_bytes}
use Rattle.std.proofs.lemmas.Option.{same_Some}
use Rattle.std.specs.Option.{option_map}
use Rattle.tn_words.specs.CommandWords.{Asked, one, build, tree, replay, grid, asked}
use Rattle.tn_top.specs.Commands.{plan_of, plan_asked}
use Rattle.tn_top.specs.Refusals.{end_line}
use Rattle.tn_top.proofs.PlanLaws.{one_of_asked}
use Rattle.tn_top.specs.Inner.Ends.{Ends}
use Rattle.tn_top.proofs.BuildLaws.{ends-built, ends-shown, ends-replayed, ends-gridded, ends-started}
use Rattle.tn_top.proofs.RunLaws.{Runs, runs, run_line}
use Rattle.tn_words.proofs.AskedWords.{asked-ranges, read-some, read-range}
use Rattle.tn_top.proofs.commands.run.Given.{Over}
use Rattle.tn_top.proofs.commands.run.Goals as goal

-- what holds of every run, by the one law over plans
ran : (g : Over) (c : goal.Joined-ended g) → Runs (plan_asked (map string_bytes c.args.words.now)) (g.S.Store.stored c.args.store.now)
    (g.S.Store.stored c.perform-ended.new.store) (g.O.Out.printed c.args.out.now) (g.O.Out.printed c.perform-ended.new.out)
    c.status_of.result
ran g c =
    let found = read-some (asked (map string_bytes c.args.words.now)) c.in-Some.command c.in-Some.ensures in
    runs (plan_asked (map string_bytes c.args.words.now)) (plan_of found.what) (ap (option_map plan_of) found.is)
    (g.S.Store.stored c.args.store.now) (g.S.Store.stored c.perform-ended.new.store) (g.O.Out.printed c.args.out.now)
    (g.O.Out.printed c.perform-ended.new.out) c.perform-ended.result (c.perform-ended.ensures.ends found.what found.reads)
    c.status_of.result c.status_of.ensures

-- what was asked for ended as its plan does
ended : (g : Over) (c : goal.Joined-ended g) (what : Asked) → asked (map string_bytes c.args.words.now) ≡ Some what
    → Ends (plan_of what) (g.S.Store.stored c.args.store.now) (g.S.Store.stored c.perform-ended.new.store)
    (g.O.Out.printed c.args.out.now) (g.O.Out.printed c.perform-ended.new.out) c.perform-ended.result
ended g c what is =
    let found = read-some (asked (map string_bytes c.args.words.now)) c.in-Some.command c.in-Some.ensures in
    subst (λ a. Ends (plan_of a) (g.S.Store.stored c.args.store.now) (g.S.Store.stored c.perform-ended.new.store)
    (g.O.Out.printed c.args.out.now) (g.O.Out.printed c.perform-ended.new.out) c.perform-ended.result)
    (same_Some found.what what (sym found.is ∙ is)) (c.perform-ended.ensures.ends found.what found.reads)

pub perform-ended-requires : goal.perform-ended-requires
perform-ended-requires g c =
    record {
      in_range = read-range (asked (map string_bytes c.args.words.now)) c.in-Some.command (asked-ranges (map string_bytes c.args.words.now))
          c.in-Some.ensures;
    }

pub returns-clause-cause : goal.returns-clause-cause
returns-clause-cause g c = (ran g c).cause

pub returns-clause-status : goal.returns-clause-status
returns-clause-status g c = (ran g c).status_is

pub returns-clause-fault : goal.returns-clause-fault
returns-clause-fault g c = (ran g c).fault

pub returns-clause-limit : goal.returns-clause-limit
returns-clause-limit g c = (ran g c).limit

pub returns-clause-not_enabled : goal.returns-clause-not_enabled
returns-clause-not_enabled g c = (ran g c).not_enabled

pub returns-clause-files : goal.returns-clause-files
returns-clause-files g c = (ran g c).files

pub returns-clause-closed : goal.returns-clause-closed
returns-clause-closed g c = (ran g c).closed

pub returns-clause-print : goal.returns-clause-print
returns-clause-print g c = (ran g c).print

pub returns-clause-one : goal.returns-clause-one
returns-clause-one g c = λ fs a b h k. one_of_asked (plan_asked (map string_bytes c.args.words.now)) fs a b h k

pub returns-clause-built : goal.returns-clause-built
returns-clause-built g c = λ config target is said.
    ends-built config target _ _ _ _ c.perform-ended.result (ended g c (build config target) is) (sym c.status_of.ensures ∙ said)

pub returns-clause-shown : goal.returns-clause-shown
returns-clause-shown g c = λ config is said.
    ends-shown config _ _ _ _ c.perform-ended.result (ended g c (tree config) is) (sym c.status_of.ensures ∙ said)

pub returns-clause-replayed : goal.returns-clause-replayed
returns-clause-replayed g c = λ config schedule is said.
    ends-replayed config schedule _ _ _ _ c.perform-ended.result (ended g c (replay config schedule) is) (sym c.status_of.ensures ∙ said)

pub returns-clause-gridded : goal.returns-clause-gridded
returns-clause-gridded g c = λ size is said.
    ends-gridded size _ _ _ _ c.perform-ended.result (ended g c (grid size) is) (sym c.status_of.ensures ∙ said)

pub returns-clause-started : goal.returns-clause-started
returns-clause-started g c = λ source target link is said.
    ends-started source target link _ _ _ _ c.perform-ended.result (ended g c (one source target link) is) (sym c.status_of.ensures ∙ said)

pub returns-clause-err : goal.returns-clause-err
returns-clause-err g c =
    let found = read-some (asked (map string_bytes c.args.words.now)) c.in-Some.command c.in-Some.ensures in (
      end_line c.perform-ended.result,
      run_line (plan_asked (map string_bytes c.args.words.now)) (plan_of found.what) (ap (option_map plan_of) found.is)
          (g.S.Store.stored c.args.store.now) (g.S.Store.stored c.perform-ended.new.store) (g.O.Out.printed c.args.out.now)
          (g.O.Out.printed c.perform-ended.new.out) c.perform-ended.result (c.perform-ended.ensures.ends found.what found.reads)
          c.status_of.result c.status_of.ensures,
      c.tell_end.ensures.told,
    )
