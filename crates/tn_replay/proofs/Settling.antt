-- Settling a network, and the symbolic one beside it, pick by pick.
use Rattle.std.proofs.Common.{◌≡◌, ℕ, zero, suc, ◌+◌, ◌-◌, ◌<◌, ◌≤◌, Bool, true, false, List, [], ◌∷◌, ◌++◌, length, Option, Some, None}
use Rattle.std.proofs.Common.{Result, Ok, Err, OnOk, is_ok, is_none, refl, sym, ap, subst, ◌∙◌, append_assoc, append-nil}
use Rattle.std.proofs.Common.{length-append, arith}
use Rattle.std.specs.Prelude.{IsTrue, ◌↔◌}
use Rattle.std.specs.Option.{option_map}
use Rattle.tn_network.specs.declared.picks.Pick.{Pick}
use Rattle.tn_network.specs.Nets.{NetState, net_enabled, net_after}
use Rattle.tn_network.specs.PickLists.{followed, settled}
use Rattle.tn_load.specs.NetWalks.{NetAtRest, net_first}
use Rattle.tn_load.proofs.PicksMade.{none-rest, rest-none}
use Rattle.tn_load.proofs.WalkLaws.{first-enabled}
use Rattle.tn_sym.specs.Symbolic.{SymbolicState}
use Rattle.tn_sym.specs.Follows.{Runs, behind}
use Rattle.tn_sym.specs.SymbolicRuns.{beside_pick, beside}
use Rattle.tn_replay.specs.Replays.{settling, rests}
use Rattle.tn_replay.specs.Inner.Settling.{SettlesSoFar}

-- ---- the picks that settle it

no_picks : (back : Bool) (n : NetState) → settling 0 back n ≡ []
unfolding settled
no_picks back n = refl

one_pick : (back : Bool) (most : ℕ) (n : NetState) (o : Option Pick) → net_first back n ≡ o
    → settling (suc most) back n ≡ followed o (λ pick. settling most back (net_after pick n))
unfolding settled
one_pick back most n o is = ap (λ (first : Option Pick). followed first (λ pick. settling most back (net_after pick n))) is

-- none where none is enabled
none_left : (back : Bool) (most : ℕ) (n : NetState) → net_first back n ≡ None → settling most back n ≡ []
none_left back zero n none = no_picks back n
none_left back (suc most) n none = one_pick back most n None none

-- each is enabled when it comes
pub settling_runs : (back : Bool) (most : ℕ) (n : NetState) → Runs n (settling most back n)
settling_runs back zero n = subst (Runs n) (sym (no_picks back n)) tt
settling_runs back (suc most) n = at (net_first back n) refl (λ pick. settling_runs back most (net_after pick n))
  where
    at : (o : Option Pick) → net_first back n ≡ o
        → ((pick : Pick) → Runs (net_after pick n) (settling most back (net_after pick n))) → Runs n (settling (suc most) back n)
    at None is more = subst (Runs n) (sym (one_pick back most n None is)) tt
    at (Some pick) is more =
        subst (Runs n) (sym (one_pick back most n (Some pick) is)) (first-enabled back n pick is, more pick)

-- and they are no more than asked for
pub settling_few : (back : Bool) (most : ℕ) (n : NetState) → length (settling most back n) ≤ most
settling_few back zero n = let none = ap length (no_picks back n) in omega (arith, none)
settling_few back (suc most) n = at (net_first back n) refl (λ pick. settling_few back most (net_after pick n))
  where
    at : (o : Option Pick) → net_first back n ≡ o
        → ((pick : Pick) → length (settling most back (net_after pick n)) ≤ most) → length (settling (suc most) back n) ≤ suc most
    at None is more = let none = ap length (one_pick back most n None is) in omega (arith, none)
    at (Some pick) is more =
        let one = ap length (one_pick back most n (Some pick) is) in
        let few = more pick in
        omega (arith, one, few)

-- ---- one more

behind_more : (picks : List Pick) (n : NetState) (pick : Pick) → behind n (picks ++ pick ∷ []) ≡ net_after pick (behind n picks)
behind_more [] n pick = refl
behind_more (x ∷ picks) n pick = behind_more picks (net_after x n) pick

beside_more : (picks : List Pick) (n : NetState) (pick : Pick) (s : SymbolicState)
    → beside n (picks ++ pick ∷ []) s ≡ beside_pick (behind n picks) pick (beside n picks s)
unfolding beside
beside_more [] n pick s = refl
beside_more (x ∷ picks) n pick s = beside_more picks (net_after x n) pick (beside_pick n x s)

some_more : (picks : List Pick) (n : NetState) (pick : Pick) (o : Option SymbolicState)
    → option_map (beside n (picks ++ pick ∷ [])) o ≡ option_map (beside_pick (behind n picks) pick) (option_map (beside n picks) o)
some_more picks n pick None = refl
some_more picks n pick (Some s) = ap Some (beside_more picks n pick s)

same_some : (o : Option SymbolicState) (n : NetState) → o ≡ option_map (beside n []) o
unfolding beside
same_some None n = refl
same_some (Some s) n = refl

done-ok : {E : Type 0} {T : Type 0} (P : Type 0) (r : Result T E) (n : NetState) (pick : Pick) → is_ok r ≡ net_enabled n pick
    → net_enabled n pick ≡ true → OnOk r P → P
done-ok P (Ok x) n pick is e ok = ok
done-ok P (Err x) n pick is e ok = absurd (let clash : false ≡ true = is ∙ e in cc)

module _ (most : ℕ) (back : Bool) (old : NetState) (first : Option SymbolicState) where
  pub so_none : SettlesSoFar most back old old first first 0
  so_none = record {
    picks = [];
    count = refl;
    few = omega arith;
    all = ap (λ m. settling m back old) (let e : most ≡ most - 0 = omega arith in e);
    net = refl;
    goes = same_some first old;
  }

  pub so_more : {E : Type 0} {T : Type 0} (now new : NetState) (symbolic next : Option SymbolicState) (made : ℕ) (pick : Pick)
      (r : Result T E) → SettlesSoFar most back old now first symbolic made → made < most → Some pick ≡ net_first back now
      → is_ok r ≡ net_enabled now pick → OnOk r (new ≡ net_after pick now) → OnOk r (next ≡ option_map (beside_pick now pick) symbolic)
      → SettlesSoFar most back old new first next (made + 1)
  so_more now new symbolic next made pick r far low found is net_is goes_is =
      let e = first-enabled back now pick (sym found) in
      let after : new ≡ net_after pick now = done-ok (new ≡ net_after pick now) r now pick is e net_is in
      let goes : next ≡ option_map (beside_pick now pick) symbolic =
      done-ok (next ≡ option_map (beside_pick now pick) symbolic) r now pick is e goes_is in
      let left : suc (most - (made + 1)) ≡ most - made = omega (arith, low) in
      let one : settling (most - made) back now ≡ pick ∷ settling (most - (made + 1)) back (net_after pick now) =
      ap (λ m. settling m back now) (sym left) ∙ one_pick back (most - (made + 1)) now (Some pick) (sym found) in
      record {
        picks = far.picks ++ pick ∷ [];
        count = length-append far.picks (pick ∷ []) ∙ ap (λ n. n + 1) far.count;
        few = omega (arith, low);
        all = far.all
            ∙ (ap (λ (ps : List Pick). far.picks ++ ps)
            (one ∙ ap (λ (n : NetState). pick ∷ settling (most - (made + 1)) back n) (sym after))
            ∙ sym (append_assoc far.picks (pick ∷ []) (settling (most - (made + 1)) back new)));
        net = after ∙ (ap (net_after pick) far.net ∙ sym (behind_more far.picks old pick));
        goes = goes
            ∙ (ap (option_map (beside_pick now pick)) far.goes
            ∙ (ap (λ (n : NetState). option_map (beside_pick n pick) (option_map (beside old far.picks) first)) far.net
            ∙ sym (some_more far.picks old pick first)));
      }

  -- where none is left, or enabled
  module _ (now : NetState) (symbolic : Option SymbolicState) (made : ℕ) (far : SettlesSoFar most back old now first symbolic made)
      (over : settling (most - made) back now ≡ []) where
    all-picks : settling most back old ≡ far.picks
    all-picks = far.all ∙ (ap (λ (ps : List Pick). far.picks ++ ps) over ∙ append-nil far.picks)

    pub over_made : made ≡ length (settling most back old)
    over_made = sym far.count ∙ ap length (sym all-picks)

    pub over_net : now ≡ behind old (settling most back old)
    over_net = far.net ∙ ap (behind old) (sym all-picks)

    pub over_goes : symbolic ≡ option_map (beside old (settling most back old)) first
    over_goes = far.goes ∙ ap (λ (ps : List Pick). option_map (beside old ps) first) (sym all-picks)

pub over_none : (most : ℕ) (back : Bool) (now : NetState) (made : ℕ) → None ≡ net_first back now
    → settling (most - made) back now ≡ []
over_none most back now made none = none_left back (most - made) now (sym none)

pub over_most : (most : ℕ) (back : Bool) (now : NetState) (made : ℕ) → most ≤ made → settling (most - made) back now ≡ []
over_most most back now made all =
    ap (λ m. settling m back now) (let e : most - made ≡ 0 = omega (arith, all) in e) ∙ no_picks back now

-- ---- rest

pub none_rests : (back : Bool) (n : NetState) → None ≡ net_first back n → true ≡ rests n
none_rests back n none = sym (ap is_none (rest-none n false (none-rest n back (sym none))))

pub told_rests : (n : NetState) (rested : Bool) → (IsTrue rested ↔ NetAtRest n) → rested ≡ rests n
told_rests n rested told = at (net_first false n) refl rested refl
  where
    at : (o : Option Pick) → net_first false n ≡ o → (b : Bool) → rested ≡ b → rested ≡ is_none (net_first false n)
    at None e b f = told.1 (none-rest n false e) ∙ sym (ap is_none e)
    at (Some x) e false f = f ∙ sym (ap is_none e)
    at (Some x) e true f = absurd (let clash : Some x ≡ None = sym e ∙ rest-none n false (told.0 f) in cc)
