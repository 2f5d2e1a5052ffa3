-- A step of a network as a walk.
use Rattle.std.proofs.Common.{◌≡◌, Bool, true, false, List, [], ◌∷◌, Option, Some, None, Result, Ok, Err, refl, sym, ap, subst, ◌∙◌}
use Rattle.std.specs.Prelude.{find, is_ok, length, IfOk, if◌then◌else◌}
use Rattle.tn_network.specs.declared.picks.Pick.{Pick}
use Rattle.tn_network.specs.PickLists.{picks_in_order}
use Rattle.tn_network.specs.Nets.{NetState, net_enabled, net_after}
use Rattle.tn_load.specs.NetWalks.{net_first, after_some, net_walked}

-- what is found passes the test
find-met : {X : Type 0} (test : X → Bool) (xs : List X) (x : X) → find test xs ≡ Some x → test x ≡ true
find-met test [] x is = cc
find-met {X = X} test (y ∷ xs) x is = go (test y) refl is (find-met test xs x)
  where
    go : (b : Bool) → test y ≡ b → (if b then Some y else find test xs) ≡ Some x → (find test xs ≡ Some x → test x ≡ true)
        → test x ≡ true
    go true here found later = let e : y ≡ x = cc in subst (λ (z : X). test z ≡ true) e here
    go false here found later = later found

-- the pick that comes first is enabled
pub first-enabled : (back : Bool) (n : NetState) (pick : Pick) → net_first back n ≡ Some pick → net_enabled n pick ≡ true
first-enabled back n pick is =
    find-met (λ pick. net_enabled n pick) (picks_in_order back (length n.board.state.nodes)) pick is

-- where it is made
pub walked-some : {E : Type 0} {A : Type 0} (back : Bool) (old new : NetState) (first : Option Pick) (pick : Pick) (made : Result A E)
    → first ≡ net_first back old → first ≡ Some pick → is_ok made ≡ net_enabled old pick → IfOk made (λ _. new ≡ net_after pick old)
    → new ≡ net_walked back old
walked-some back old new first pick (Ok a) found is ok after = after ∙ ap (λ o. after_some o old) (sym is ∙ found)
walked-some back old new first pick (Err e) found is ok after =
    absurd (let clash : false ≡ true = ok ∙ first-enabled back old pick (sym found ∙ is) in cc)

-- and where there is none
pub walked-none : (back : Bool) (old : NetState) (first : Option Pick) → first ≡ net_first back old → first ≡ None
    → old ≡ net_walked back old
walked-none back old first found is = ap (λ o. after_some o old) (sym is ∙ found)
