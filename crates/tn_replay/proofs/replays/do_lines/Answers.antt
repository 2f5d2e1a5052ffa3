use Rattle.std.proofs.Common.{◌≡◌, ◌∙◌, List, [], ◌∷◌, length, All, Option, Err, refl, sym, ap, subst, arith}
use Rattle.std.proofs.lemmas.List.Elements.{All-head, All-tail}
use Rattle.tn_net.specs.Networks.{NetworkState}
use Rattle.tn_schedule.specs.declared.acts.Line.{Line}
use Rattle.tn_replay.specs.declared.replays.ReplayFault.{ReplayFault}
use Rattle.tn_sym.specs.Symbolic.{SymbolicState}
use Rattle.tn_schedule.specs.Schedules.{IsPlaced}
use Rattle.tn_replay.specs.Replays.{beginning}
use Rattle.tn_replay.specs.ReplayEnds.{IsKnownOf, Replays}
use Rattle.tn_replay.specs.Inner.LineEnds.{state_of}
use Rattle.tn_replay.specs.Inner.Lookups.{known_in}
use Rattle.tn_replay.specs.Inner.SoFar.{SoFar}
use Rattle.tn_replay.proofs.ReplayLaws.{far_none, far_more, far_all, far_ends}
use Rattle.tn_replay.proofs.replays.do_lines.Goals as goal

pub loop-line-init : goal.loop-line-init
loop-line-init g c =
    let k = known_in c.args.lookup.now in
    let lines = c.args.schedule.now.lines.items in
    let s = beginning c.args.net.now in
    let before = g.O.Out.printed c.args.out.now in
    let same : lines ≡ c.as_slice-rest.result.now = sym c.as_slice-rest.ensures.value in
    let long : length lines ≡ length c.as_slice-rest.result.now = ap (λ (ls : List Line). length ls) same in (
      subst (λ (o : Option SymbolicState). SoFar k lines s (state_of c.args.net.now o 0) c.as_slice-rest.result.now 0 before before)
          (sym c.requires.alone) (subst (λ (ls : List Line). SoFar k lines s s ls 0 before before) same (far_none k lines s before)),
      subst (λ (ls : List Line). All (λ line. IsPlaced (length c.args.lookup.now.names.now) line.act) ls) same c.requires.placed,
      omega (arith, long),
      g.met.O.Out.stays c.args.out.now,
    )

pub replay_line-requires-clause-wires : goal.replay_line-requires-clause-wires
replay_line-requires-clause-wires g c = c.loop-line.invariant.0.network ∙ c.requires.wires

pub replay_line-requires-clause-known : goal.replay_line-requires-clause-known
replay_line-requires-clause-known g c =
    subst (λ (n : NetworkState). IsKnownOf n (known_in c.args.lookup.now)) (sym c.loop-line.invariant.0.network) c.requires.known

pub replay_line-requires-clause-placed : goal.replay_line-requires-clause-placed
replay_line-requires-clause-placed g c =
    All-head (λ (line : Line). IsPlaced (length c.args.lookup.now.names.now) line.act) c.in-Some.line.now c.in-Some.behind.now
    (subst (λ (ls : List Line). All (λ line. IsPlaced (length c.args.lookup.now.names.now) line.act) ls) c.in-Some.ensures.cases.0
    c.loop-line.invariant.1)

pub replay_line-requires-clause-room : goal.replay_line-requires-clause-room
replay_line-requires-clause-room g c =
    let few = c.loop-line.invariant.0.few in
    let count = c.loop-line.invariant.2 in
    let bound = c.requires.few in
    omega (arith, few, count, bound)

pub overflow_add-index : goal.overflow_add-index
overflow_add-index g c =
    let count = c.loop-line.invariant.2 in
    let bound = c.requires.few in
    omega (arith, count, bound)

pub loop-line-preserved : goal.loop-line-preserved
loop-line-preserved g c =
    let k = known_in c.args.lookup.now in
    let lines = c.args.schedule.now.lines.items in
    let s = beginning c.args.net.now in
    let t = state_of c.loop-line.net c.loop-line.symbolic c.loop-line.steps in
    let before = g.O.Out.printed c.args.out.now in
    let middle = g.O.Out.printed c.loop-line.out in
    let after = g.O.Out.printed c.replay_line.new.out in
    let next = c.in-Some.ensures.cases.0 in
    let far : SoFar k lines s t (c.in-Some.line.now ∷ c.in-Some.behind.now) c.loop-line.index before middle =
    subst (λ (ls : List Line). SoFar k lines s t ls c.loop-line.index before middle) next c.loop-line.invariant.0 in
    let longer = ap (λ (ls : List Line). length ls) next in (
      far_more k lines s before t (state_of c.replay_line.new.net c.replay_line.new.symbolic c.in-Ok.made) c.in-Some.line.now
          c.in-Some.behind.now c.loop-line.index middle after far c.in-Ok.ensures.ends c.in-Ok.ensures.count c.in-Ok.ensures.few,
      All-tail (λ (line : Line). IsPlaced (length c.args.lookup.now.names.now) line.act) c.in-Some.line.now c.in-Some.behind.now
          (subst (λ (ls : List Line). All (λ line. IsPlaced (length c.args.lookup.now.names.now) line.act) ls) next
          c.loop-line.invariant.1),
      (let count = c.loop-line.invariant.2 in omega (arith, count, longer)),
      g.met.O.Out.joined c.args.out.now c.loop-line.out c.replay_line.new.out c.loop-line.invariant.3 c.in-Ok.ensures.goes_on,
    )

pub returns-in-Err-clause-replays : goal.returns-in-Err-clause-replays
returns-in-Err-clause-replays g c =
    let k = known_in c.args.lookup.now in
    let lines = c.args.schedule.now.lines.items in
    let s = beginning c.args.net.now in
    let t = state_of c.loop-line.net c.loop-line.symbolic c.loop-line.steps in
    let before = g.O.Out.printed c.args.out.now in
    let middle = g.O.Out.printed c.loop-line.out in
    let after = g.O.Out.printed c.replay_line.new.out in
    let far : SoFar k lines s t (c.in-Some.line.now ∷ c.in-Some.behind.now) c.loop-line.index before middle =
    subst (λ (ls : List Line). SoFar k lines s t ls c.loop-line.index before middle) c.in-Some.ensures.cases.0
    c.loop-line.invariant.0 in
    subst (λ (f : ReplayFault). Replays k lines s (Err f) c.replay_line.new.net before after) (sym c.fault_of.ensures)
    (far_ends k lines s before t c.in-Some.line.now c.in-Some.behind.now c.loop-line.index middle after c.replay_line.new.net far
    c.in-Err.ensures.count c.replay_line.new.symbolic c.in-Err.fault c.in-Err.ensures.ends)

pub returns-clause-replays : goal.returns-clause-replays
returns-clause-replays g c =
    let k = known_in c.args.lookup.now in
    let lines = c.args.schedule.now.lines.items in
    let s = beginning c.args.net.now in
    let t = state_of c.loop-line.net c.loop-line.symbolic c.loop-line.steps in
    let before = g.O.Out.printed c.args.out.now in
    let after = g.O.Out.printed c.loop-line.out in
    far_all k lines s before t c.loop-line.index after (record { steps = c.loop-line.steps })
    (subst (λ (ls : List Line). SoFar k lines s t ls c.loop-line.index before after)
    (no_line c.loop-line.rest.now c.in_default.ensures.cases)
    c.loop-line.invariant.0) refl
  where
    no_line : (ls : List Line) → length ls ≡ 0 → ls ≡ []
    no_line [] e = refl
    no_line (l ∷ ls) e = absurd (omega (arith, e))
