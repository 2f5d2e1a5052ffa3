-- What lines tell is true.
use Rattle.std.proofs.Common.{◌≡◌, ℕ, Bool, true, false, List, [], ◌∷◌, length, Option, Some, None}
use Rattle.std.proofs.Common.{refl, sym, ap, ◌∙◌, subst}
use Rattle.std.specs.Prelude.{if◌then◌else◌, slice_get}
use Rattle.std.specs.Option.{option_map}
use Rattle.tn_network.specs.Nets.{NetState, net_enabled, net_after, released}
use Rattle.tn_net.specs.Networks.{NetworkState}
use Rattle.tn_sym.specs.Symbolic.{SymbolicState}
use Rattle.tn_sym.specs.Programs.{AreLoaded}
use Rattle.tn_sym.specs.Follows.{behind, HaveLinks}
use Rattle.tn_sym.specs.SymbolicRuns.{begun, beside_pick, beside, AreAlike, StaysBeside}
use Rattle.tn_sym.proofs.Beginning.{execution}
use Rattle.tn_sym.proofs.FourLinks.{pick-four, behind-four}
use Rattle.tn_sym.proofs.SymbolicRuns.{begun-begins, follows-stays, stays-pick, stays-picks, stays-alike}
use Rattle.tn_schedule.specs.declared.acts.Act.{Act}
use Rattle.tn_schedule.specs.declared.acts.Act.TheVariants as act
use Rattle.tn_schedule.specs.declared.acts.Line.{Line}
use Rattle.tn_replay.specs.Replays.{Known, ReplayState, Left, Replayed, beginning, settling, may_release, picked, settles_to, let_go}
use Rattle.tn_replay.specs.Replays.{prints, settled_text, state_text, links_text, word_text_of, same_text, line_done, after_text, replayed}
use Rattle.tn_replay.specs.PrintedLines.{host_line, got_line, steps_line}
use Rattle.tn_replay.specs.ReplayEnds.{IsKnownOf, AreDone}
use Rattle.tn_replay.specs.Truth.{TellsTruth}
use Rattle.tn_replay.proofs.LineLaws.{release_loaded, line_network}
use Rattle.tn_replay.proofs.ReplayLaws.{made_of, none_done, first_stops, first_goes, is_ended, not_refused}
use Rattle.tn_replay.proofs.Settling.{settling_runs}

-- ---- the symbolic network stays beside the network

Stays : NetState → Option SymbolicState → Type 0
Stays net None = Unit {0}
Stays net (Some s) = StaysBeside net s

stays-some : (n m : NetState) (f : SymbolicState → SymbolicState) (o : Option SymbolicState)
    → ((s : SymbolicState) → StaysBeside n s → StaysBeside m (f s)) → Stays n o → Stays m (option_map f o)
unfolding Stays
stays-some n m f None each stays = tt
stays-some n m f (Some s) each stays = each s stays

-- what holds of a state on the way, in which the network has these wires
record IsSound (network : NetworkState) (s : ReplayState) : Type 0 where
  wires : s.net.board.network ≡ network
  links : HaveLinks s.net.board.state
  stays : Stays s.net s.symbolic

-- ---- the release

let-go-sound : (k : Known) (network : NetworkState) (s : ReplayState) → IsKnownOf network k → IsSound network s
    → may_release k s.net ≡ true → IsSound network (let_go k s)
unfolding Stays
let-go-sound k network s known sound may =
    let here : IsKnownOf s.net.board.network k = subst (λ (n : NetworkState). IsKnownOf n k) (sym sound.wires) known in
    let loaded : AreLoaded k.images s.net.board.state = release_loaded k s.net s.symbolic s.steps true (sym may) refl in
    record {
      wires = sound.wires;
      links = sound.links;
      stays = follows-stays (released s.net) (begun k.programs s.net.board)
          (execution (released s.net) k.programs k.images (begun k.programs s.net.board) sound.links refl here.valid here.belong loaded
          (begun-begins s.net.board.network k.programs k.images here.belong s.net.board));
    }

-- ---- lines

-- a line that changes nothing
plain-sound : (network : NetworkState) (s : ReplayState) (text : List ℕ) (left : Left) → prints s text ≡ Some left → IsSound network s
    → IsSound network left.state
plain-sound network s text left e sound =
    let is : record { state = s; text = text } ≡ left = cc in
    subst (λ (x : Left). IsSound network x.state) is sound

-- a line that may be done where a test tells so
tested-sound : (network : NetworkState) (b : Bool) (s : ReplayState) (left : Left) → (if b then prints s [] else None) ≡ Some left
    → (b ≡ true → IsSound network s) → IsSound network left.state
tested-sound network true s left e sound = plain-sound network s [] left e (sound refl)
tested-sound network false s left e sound = absurd cc

line-sound : (k : Known) (network : NetworkState) (a : Act) (s : ReplayState) (left : Left) → IsKnownOf network k → IsSound network s
    → line_done k a s ≡ Some left → IsSound network left.state
unfolding line_done
line-sound k network (act.Pick x) s left known sound e =
    tested-sound network (net_enabled s.net x) (picked x s) left e (λ is. record {
      wires = sound.wires;
      links = pick-four s.net x sound.links;
      stays = stays-some s.net (net_after x s.net) (beside_pick s.net x) s.symbolic (λ t stays. stays-pick s.net t x stays is) sound.stays;
    })
line-sound k network (act.Settle most back) s left known sound e =
    let picks = settling most back s.net in
    plain-sound network (settles_to picks s) (settled_text picks (settles_to picks s)) left e (record {
      wires = line_network k (act.Settle most back) s (record
          { state = settles_to picks s; text = settled_text picks (settles_to picks s) }) refl ∙ sound.wires;
      links = behind-four picks s.net sound.links;
      stays = stays-some s.net (behind s.net picks) (beside s.net picks) s.symbolic
          (λ t stays. stays-picks picks s.net t stays (settling_runs back most s.net)) sound.stays;
    })
line-sound k network act.Release s left known sound e =
    tested-sound network (may_release k s.net) (let_go k s) left e (λ may. let-go-sound k network s known sound may)
line-sound k network (act.Show p) s left known sound e =
    plain-sound network s (state_text k s.net p (slice_get s.net.board.state.nodes p)) left e sound
line-sound k network (act.Links p) s left known sound e =
    plain-sound network s (links_text k s.net p (slice_get s.net.board.state.nodes p)) left e sound
line-sound k network (act.Word p address) s left known sound e =
    plain-sound network s (word_text_of k p address (slice_get s.net.board.state.nodes p)) left e sound
line-sound k network act.Host s left known sound e =
    plain-sound network s (host_line (length s.net.board.state.host.left) (length s.net.board.state.host.kept)) left e sound
line-sound k network (act.Got place) s left known sound e =
    plain-sound network s (got_line place (slice_get s.net.board.state.host.kept place)) left e sound
line-sound k network act.Steps s left known sound e = plain-sound network s (steps_line s.steps) left e sound
line-sound k network act.Same s left known sound e = plain-sound network s (same_text k s.symbolic) left e sound

-- and lines that are done
some-none : {X : Type 0} (x : X) → Some x ≡ None → ⊥
some-none x e = cc

lines-sound : (k : Known) (network : NetworkState) (lines : List Line) (s t : ReplayState) (text : List ℕ) → IsKnownOf network k
    → IsSound network s → AreDone k lines s t text → IsSound network t
lines-sound k network [] s t text known sound done =
    subst (IsSound network) (ap (λ (r : Replayed). r.state) (sym (none_done k s) ∙ done)) sound
lines-sound k network (line ∷ lines) s t text known sound done =
    at (line_done k line.act s) refl (λ u w. lines-sound k network lines u t w known)
  where
    at : (o : Option Left) → line_done k line.act s ≡ o
        → ((u : ReplayState) (w : List ℕ) → IsSound network u → AreDone k lines u t w → IsSound network t) → IsSound network t
    at None e more =
        absurd (some-none 0 (ap (λ (r : Replayed). r.refused) (sym (first_stops k line lines s e) ∙ done)))
    at (Some left) e more =
        let same : after_text left.text (replayed k lines left.state) ≡ made_of t text None =
        sym (first_goes k line lines s left e) ∙ done in
        let fine = not_refused (replayed k lines left.state).refused (ap (λ (r : Replayed). r.refused) same) in
        more left.state (replayed k lines left.state).text (line-sound k network line.act s left known sound e)
        (is_ended (replayed k lines left.state) t (ap (λ (r : Replayed). r.state) same) fine)

-- ---- the law

alike-at : (network : NetworkState) (t : ReplayState) (symbolic : SymbolicState) → IsSound network t → t.symbolic ≡ Some symbolic
    → symbolic.stop ≡ None → AreAlike t.net symbolic
unfolding Stays
alike-at network t symbolic sound is going =
    stays-alike t.net symbolic (subst (Stays t.net) is sound.stays) going

pub truth : TellsTruth
unfolding Stays
truth k net lines known links front rest t text symbolic are done is going =
    alike-at net.board.network t symbolic
    (lines-sound k net.board.network front (beginning net) t text known (record { wires = refl; links = links; stays = tt }) done) is going
