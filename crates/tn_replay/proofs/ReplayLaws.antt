-- Lines one after the other: what those behind others leave and print.
use Rattle.std.proofs.Common.{◌≡◌, ℕ, suc, ◌+◌, ◌^◌, ◌≤◌, inl, inr, List, [], ◌∷◌, ◌++◌, length, take, drop, Option, Some, None}
use Rattle.std.proofs.Common.{Ok, Err, refl, sym, ap, ◌∙◌, append_assoc, append-nil, arith}
use Rattle.std.specs.Option.{option_map}
use Rattle.std.proofs.Math.Seq.{take-append_seam}
use Rattle.std.proofs.lemmas.List.{take-append-drop}
use Rattle.tn_text.specs.Counts.{Rose}
use Rattle.tn_io.specs.Outs.{Printed, told_then}
use Rattle.tn_network.specs.Nets.{NetState}
use Rattle.tn_sym.specs.Symbolic.{SymbolicState}
use Rattle.tn_schedule.specs.declared.acts.Line.{Line}
use Rattle.tn_replay.specs.declared.replays.Summary.{Summary}
use Rattle.tn_replay.specs.declared.replay_lines.LineFault.{LineFault}
use Rattle.tn_replay.specs.declared.replay_lines.LineFault.TheVariants as line_fault
use Rattle.tn_replay.specs.declared.replays.ReplayFault.TheVariants as fault
use Rattle.tn_replay.specs.Replays.{Known, ReplayState, Left, Replayed, line_done, after_text, then_lines, replayed}
use Rattle.tn_replay.specs.ReplayEnds.{AreDone, Reached, Replays}
use Rattle.tn_replay.specs.Inner.LineEnds.{IsRefused, IsCut, IsShown, IsHidden, PrintEnds}
use Rattle.tn_replay.specs.Inner.SoFar.{SoFar, fault_of}
use Rattle.tn_replay.proofs.LineLaws.{line_network}

-- ---- what is told

told_both : (a b : List ℕ) (o : Option (List ℕ)) → told_then b (told_then a o) ≡ told_then (a ++ b) o
told_both a b None = refl
told_both a b (Some bs) = ap Some (append_assoc bs a b)

rose-since : (p q s : ℕ) → p ≤ q → Rose q s → Rose p s
rose-since p q s h (inl rose) = inl (omega arith)
rose-since p q s h (inr most) = inr most

-- a text that begins what there is to tell
told_part : (p rest whole : List ℕ) (before after : Option (List ℕ)) → whole ≡ p ++ rest → after ≡ told_then p before
    → (count : ℕ) × (after ≡ told_then (take count whole) before)
told_part p rest whole before after is told =
    (length p, told ∙ ap (λ w. told_then w before) (sym (ap (take (length p)) is ∙ take-append_seam p rest)))

-- ---- what lines come to

abbrev pub made_of : ReplayState → List ℕ → Option ℕ → Replayed
made_of s text refused = record { state = s; text = text; refused = refused }

-- what lines come to behind so many that print a text
abbrev ahead : ℕ → List ℕ → Replayed → Replayed
ahead count text r = made_of r.state (text ++ r.text) (option_map (λ i. count + i) r.refused)

none_before : (o : Option ℕ) → o ≡ option_map (λ i. 0 + i) o
none_before None = refl
none_before (Some i) = ap Some (let e : i ≡ 0 + i = omega arith in e)

one_before : (n : ℕ) (o : Option ℕ) → option_map suc (option_map (λ i. n + i) o) ≡ option_map (λ i. suc n + i) o
one_before n None = refl
one_before n (Some i) = ap Some (let e : suc (n + i) ≡ suc n + i = omega arith in e)

pub not_refused : (o : Option ℕ) → option_map suc o ≡ None → o ≡ None
not_refused None e = refl
not_refused (Some i) e = absurd cc

some_none : (i : ℕ) → Some i ≡ None → ⊥
some_none i e = absurd cc

ahead_nothing : (r : Replayed) → r ≡ ahead 0 [] r
ahead_nothing r = ap (λ (o : Option ℕ). made_of r.state r.text o) (none_before r.refused)

ahead_more : (n : ℕ) (a b text : List ℕ) (q : Replayed) → a ++ b ≡ text → after_text a (ahead n b q) ≡ ahead (suc n) text q
ahead_more n a b text q is =
    ap (λ w. made_of q.state w (option_map suc (option_map (λ i. n + i) q.refused)))
    (sym (append_assoc a b q.text) ∙ ap (λ w. w ++ q.text) is)
    ∙ ap (λ (o : Option ℕ). made_of q.state (text ++ q.text) o) (one_before n q.refused)

pub is_ended : (r : Replayed) (t : ReplayState) → r.state ≡ t → r.refused ≡ None → r ≡ made_of t r.text None
is_ended r t state fine =
    ap (λ (x : ReplayState). made_of x r.text r.refused) state ∙ ap (λ (o : Option ℕ). made_of t r.text o) fine

module _ (k : Known) where
  pub none_done : (s : ReplayState) → replayed k [] s ≡ made_of s [] None
  unfolding replayed
  none_done s = refl

  pub first_stops : (line : Line) (lines : List Line) (s : ReplayState) → line_done k line.act s ≡ None
      → replayed k (line ∷ lines) s ≡ made_of s [] (Some 0)
  unfolding replayed
  first_stops line lines s e = ap (λ (o : Option Left). then_lines o s (λ t. replayed k lines t)) e

  pub first_goes : (line : Line) (lines : List Line) (s : ReplayState) (left : Left) → line_done k line.act s ≡ Some left
      → replayed k (line ∷ lines) s ≡ after_text left.text (replayed k lines left.state)
  unfolding replayed
  first_goes line lines s left e = ap (λ (o : Option Left). then_lines o s (λ t. replayed k lines t)) e

  -- lines behind others that are all done
  done_first : (xs ys : List Line) (s t : ReplayState) (text : List ℕ) → AreDone k xs s t text
      → replayed k (xs ++ ys) s ≡ ahead (length xs) text (replayed k ys t)
  done_first [] ys s t text done =
      let same : made_of s [] None ≡ made_of t text None = sym (none_done s) ∙ done in
      ap (λ (x : ReplayState). replayed k ys x) (ap (λ (r : Replayed). r.state) same) ∙ ahead_nothing (replayed k ys t)
      ∙ ap (λ w. ahead 0 w (replayed k ys t)) (ap (λ (r : Replayed). r.text) same)
  done_first (x ∷ xs) ys s t text done = at (line_done k x.act s) refl (λ u w. done_first xs ys u t w)
    where
      at : (o : Option Left) → line_done k x.act s ≡ o
          → ((u : ReplayState) (w : List ℕ) → AreDone k xs u t w → replayed k (xs ++ ys) u ≡ ahead (length xs) w (replayed k ys t))
          → replayed k (x ∷ (xs ++ ys)) s ≡ ahead (suc (length xs)) text (replayed k ys t)
      at None e more =
          let same : made_of s [] (Some 0) ≡ made_of t text None = sym (first_stops x xs s e) ∙ done in
          absurd (some_none 0 (ap (λ (r : Replayed). r.refused) same))
      at (Some left) e more =
          let same : after_text left.text (replayed k xs left.state) ≡ made_of t text None = sym (first_goes x xs s left e) ∙ done in
          let state : (replayed k xs left.state).state ≡ t = ap (λ (r : Replayed). r.state) same in
          let refused : option_map suc (replayed k xs left.state).refused ≡ None = ap (λ (r : Replayed). r.refused) same in
          let fine = not_refused (replayed k xs left.state).refused refused in
          let words : left.text ++ (replayed k xs left.state).text ≡ text = ap (λ (r : Replayed). r.text) same in
          first_goes x (xs ++ ys) s left e
          ∙ ap (after_text left.text)
          (more left.state (replayed k xs left.state).text (is_ended (replayed k xs left.state) t state fine))
          ∙ ahead_more (length xs) left.text (replayed k xs left.state).text text (replayed k ys t) words

  -- one more
  done_more : (xs : List Line) (line : Line) (s t : ReplayState) (text : List ℕ) (left : Left) → AreDone k xs s t text
      → line_done k line.act t ≡ Some left → AreDone k (xs ++ line ∷ []) s left.state (text ++ left.text)
  done_more xs line s t text left done e =
      done_first xs (line ∷ []) s t text done
      ∙ ap (ahead (length xs) text) (first_goes line [] t left e ∙ ap (after_text left.text) (none_done left.state))
      ∙ ap (λ w. made_of left.state (text ++ w) None) (append-nil left.text)

  -- one that may not be done
  done_stops : (xs : List Line) (line : Line) (rest : List Line) (s t : ReplayState) (text : List ℕ) → AreDone k xs s t text
      → line_done k line.act t ≡ None → replayed k (xs ++ line ∷ rest) s ≡ made_of t text (Some (length xs))
  done_stops xs line rest s t text done e =
      done_first xs (line ∷ rest) s t text done ∙ ap (ahead (length xs) text) (first_stops line rest t e)
      ∙ ap (λ w. made_of t w (Some (length xs + 0))) (append-nil text)
      ∙ ap (λ n. made_of t text (Some n)) (let e : length xs + 0 ≡ length xs = omega arith in e)

  -- what is printed before a line, and by it, begins the text
  text_before : (lines xs ys : List Line) (s t : ReplayState) (text : List ℕ) → lines ≡ xs ++ ys → AreDone k xs s t text
      → (replayed k lines s).text ≡ text ++ (replayed k ys t).text
  text_before lines xs ys s t text are done =
      ap (λ (ls : List Line). (replayed k ls s).text) are ∙ ap (λ (r : Replayed). r.text) (done_first xs ys s t text done)

  text_first : (line : Line) (rest : List Line) (t : ReplayState) (left : Left) (count : ℕ) → line_done k line.act t ≡ Some left
      → (replayed k (line ∷ rest) t).text ≡ take count left.text ++ (drop count left.text ++ (replayed k rest left.state).text)
  text_first line rest t left count e =
      ap (λ (r : Replayed). r.text) (first_goes line rest t left e)
      ∙ ap (λ w. w ++ (replayed k rest left.state).text) (sym (take-append-drop count left.text))
      ∙ append_assoc (take count left.text) (drop count left.text) (replayed k rest left.state).text

-- ---- how far a replay has come

module _ (k : Known) (lines : List Line) (s : ReplayState) (before : Printed) where
  pub far_none : SoFar k lines s s lines 0 before before
  far_none = record {
    front = [];
    text = [];
    are = refl;
    place = refl;
    done = none_done k s;
    printed = told_nothing before.bytes;
    count = omega arith;
    few = omega arith;
    network = refl;
  }
    where
      told_nothing : (o : Option (List ℕ)) → o ≡ told_then [] o
      told_nothing None = refl
      told_nothing (Some bs) = ap Some (sym (append-nil bs))

  pub far_more : (t new : ReplayState) (line : Line) (rest : List Line) (index : ℕ) (middle after : Printed)
      → SoFar k lines s t (line ∷ rest) index before middle → IsShown k line.act t new middle after → middle.faults ≤ after.faults
      → new.steps ≤ t.steps + 2 ^ 32 → SoFar k lines s new rest (index + 1) before after
  far_more t new line rest index middle after far shown count few =
      record {
        front = far.front ++ line ∷ [];
        text = far.text ++ shown.left.text;
        are = far.are ∙ sym (append_assoc far.front (line ∷ []) rest);
        place = one_longer far.front line ∙ ap (λ n. n + 1) far.place;
        done = done_more k far.front line s t far.text shown.left far.done shown.can
            ∙ ap (λ (x : ReplayState). made_of x (far.text ++ shown.left.text) None) (sym shown.state);
        printed = shown.printed ∙ ap (told_then shown.left.text) far.printed ∙ told_both far.text shown.left.text before.bytes;
        count = let a = far.count in omega (arith, a, count);
        few = let a = far.few in omega (arith, a, few);
        network = ap (λ (x : ReplayState). x.net.board.network) shown.state ∙ line_network k line.act t shown.left shown.can
            ∙ far.network;
      }
    where
      one_longer : (xs : List Line) (x : Line) → length (xs ++ x ∷ []) ≡ length xs + 1
      one_longer [] x = refl
      one_longer (y ∷ xs) x = let e = one_longer xs x in omega (arith, e)

  -- ---- the ends of a replay

  pub far_all : (t : ReplayState) (index : ℕ) (after : Printed) (summary : Summary) → SoFar k lines s t [] index before after
      → summary.steps ≡ t.steps → Replays k lines s (Ok summary) t.net before after
  far_all t index after summary far steps =
      let all : replayed k lines s ≡ made_of t far.text None =
      ap (λ (ls : List Line). replayed k ls s) (far.are ∙ append-nil far.front) ∙ far.done in
      record {
        done = (
          record {
            refused = ap (λ (r : Replayed). r.refused) all;
            net = sym (ap (λ (r : Replayed). r.state.net) all);
            printed = far.printed ∙ ap (λ w. told_then w before.bytes) (sym (ap (λ (r : Replayed). r.text) all));
          },
          steps ∙ sym (ap (λ (r : Replayed). r.state.steps) all),
        );
        not_enabled = λ i e. absurd (let f = e in cc);
        out = λ e. absurd (let f = e in cc);
        wanting = λ e. absurd (let f = e in cc);
        part = tt;
        count = far.count;
      }

  module _ (t : ReplayState) (line : Line) (rest : List Line) (index : ℕ) (middle after : Printed) (new : NetState)
      (far : SoFar k lines s t (line ∷ rest) index before middle) (count : middle.faults ≤ after.faults) where
    abbrev reached : Reached k lines s
    reached = record {
      before = far.front;
      line = line;
      after = rest;
      are = far.are;
      state = t;
      text = far.text;
      done = far.done;
    }

    counts : before.faults ≤ after.faults
    counts = let a = far.count in omega (arith, a, count)

    -- where the line printed nothing
    told_as_before : after.bytes ≡ middle.bytes → after.bytes ≡ told_then far.text before.bytes
    told_as_before same = same ∙ far.printed

    part_before : after.bytes ≡ middle.bytes
        → (n : ℕ) × (after.bytes ≡ told_then (take n (replayed k lines s).text) before.bytes)
    part_before same =
        told_part far.text (replayed k (line ∷ rest) t).text (replayed k lines s).text before.bytes after.bytes
        (text_before k lines far.front (line ∷ rest) s t far.text far.are far.done) (told_as_before same)

    ends_refused : IsRefused k line.act t new → after.bytes ≡ middle.bytes
        → Replays k lines s (Err (fault.NotEnabled index)) new before after
    ends_refused refused same =
        let all : replayed k lines s ≡ made_of t far.text (Some (length far.front)) =
        ap (λ (ls : List Line). replayed k ls s) far.are ∙ done_stops k far.front line rest s t far.text far.done refused.cannot in
        record {
          done = tt;
          not_enabled = λ i e. record {
            refused = ap (λ (r : Replayed). r.refused) all ∙ ap Some (far.place ∙ (let f : index ≡ i = cc in f));
            net = refused.net ∙ sym (ap (λ (r : Replayed). r.state.net) all);
            printed = told_as_before same ∙ ap (λ w. told_then w before.bytes) (sym (ap (λ (r : Replayed). r.text) all));
          };
          out = λ e. absurd (let f = e in cc);
          wanting = λ e. absurd (let f = e in cc);
          part = part_before same;
          count = counts;
        }

    ends_hidden : IsHidden k line.act t new middle after → Replays k lines s (Err fault.Out) new before after
    ends_hidden hidden =
        let told : after.bytes ≡ told_then (far.text ++ take hidden.count hidden.left.text) before.bytes =
        hidden.printed ∙ ap (told_then (take hidden.count hidden.left.text)) far.printed
        ∙ told_both far.text (take hidden.count hidden.left.text) before.bytes in
        let a = far.count in
        record {
          done = tt;
          not_enabled = λ i e. absurd (let f = e in cc);
          out = λ e. record {
            at = reached;
            left = hidden.left;
            can = hidden.can;
            net = hidden.net;
            count = hidden.count;
            printed = told;
            failed = rose-since before.faults middle.faults after.faults a hidden.failed;
          };
          wanting = λ e. absurd (let f = e in cc);
          part = told_part (far.text ++ take hidden.count hidden.left.text)
              (drop hidden.count hidden.left.text ++ (replayed k rest hidden.left.state).text) (replayed k lines s).text before.bytes
              after.bytes
              (text_before k lines far.front (line ∷ rest) s t far.text far.are far.done
              ∙ ap (λ w. far.text ++ w) (text_first k line rest t hidden.left hidden.count hidden.can)
              ∙ sym (append_assoc far.text (take hidden.count hidden.left.text)
              (drop hidden.count hidden.left.text ++ (replayed k rest hidden.left.state).text)))
              told;
          count = counts;
        }

    ends_cut : IsCut k line.act t new → after.bytes ≡ middle.bytes → Replays k lines s (Err fault.NoMemory) new before after
    ends_cut cut same = record {
      done = tt;
      not_enabled = λ i e. absurd (let f = e in cc);
      out = λ e. absurd (let f = e in cc);
      wanting = λ e. record { at = reached; net = cut; printed = told_as_before same };
      part = part_before same;
      count = counts;
    }

    pub far_ends : (symbolic : Option SymbolicState) (f : LineFault) → PrintEnds k line.act t new symbolic middle after (Err f)
        → Replays k lines s (Err (fault_of index f)) new before after
    far_ends symbolic line_fault.NotEnabled ends = ends_refused ends.0 ends.1
    far_ends symbolic line_fault.Out ends = ends_hidden ends
    far_ends symbolic line_fault.NoMemory ends = ends_cut ends.0 ends.1
