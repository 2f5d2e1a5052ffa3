-- What each line does to a network, and what it prints.
use Rattle.std.proofs.Common.{◌≡◌, ℕ, ◌+◌, ◌<◌, inl, Bool, true, false, List, [], ◌∷◌, ◌++◌, length, map, slice_get, slice_index_or}
use Rattle.std.proofs.Common.{Option, Some, None, Result, Ok, Err, OnOk, OnErr, refl, sym, ap, ◌∙◌, append_assoc, append-nil, subst, ◌&&◌}
use Rattle.std.specs.Prelude.{if◌then◌else◌}
use Rattle.std.specs.Option.{option_map}
use Rattle.std.proofs.lemmas.List.{get_or_read, length-map}
use Rattle.std.proofs.lemmas.Option.{slice_get-map, same_Some}
use Rattle.tn_mem.specs.declared.touches.Touch.{Touch}
use Rattle.tn_mem.specs.Memories.{load}
use Rattle.tn_node.specs.declared.engines.LinkView.{LinkView}
use Rattle.tn_node.specs.Engines.{engine_of}
use Rattle.tn_node.specs.Nodes.{NodeState, mode_of}
use Rattle.tn_network.specs.declared.picks.Pick.{Pick}
use Rattle.tn_network.specs.Boards.{given, latch_at}
use Rattle.tn_network.specs.Nets.{NetState, net_enabled, net_after, released}
use Rattle.tn_stream.specs.Images.{ImageBytes}
use Rattle.tn_load.specs.LoadTests.{is_loaded}
use Rattle.tn_load.specs.Targets.{target_of, targets_of}
use Rattle.tn_load.proofs.LoadTestLaws.{board-told}
use Rattle.tn_sym.specs.declared.programs.Program.{Program}
use Rattle.tn_sym.specs.ProgramStates.{ProgramState, program_of}
use Rattle.tn_sym.specs.Symbolic.{SymbolicState}
use Rattle.tn_sym.specs.Programs.{IsTargetOf, AreLoaded, Begins}
use Rattle.tn_sym.specs.Follows.{behind}
use Rattle.tn_sym.specs.SymbolicRuns.{begun, beside_pick, beside}
use Rattle.tn_sym.proofs.SymbolicRuns.{begun-only}
use Rattle.tn_schedule.specs.declared.acts.Act.{Act}
use Rattle.tn_schedule.specs.declared.acts.Act.TheVariants as act
use Rattle.tn_replay.specs.declared.replay_lines.LineFault.{LineFault}
use Rattle.tn_replay.specs.declared.replay_lines.LineFault.TheVariants as fault
use Rattle.tn_replay.specs.PrintedLines.{has_pointers, state_line, link_line, word_line, host_line, got_line, steps_line, settle_line}
use Rattle.tn_replay.specs.Replays.{Known, ReplayState, Left, name_of, targets, symbol_in, settling, rests, line_done, picked, settles_to}
use Rattle.tn_replay.specs.Replays.{let_go, prints, settled_text, may_release, state_text, link_text, links_text, word_text_of, same_text}
use Rattle.tn_replay.specs.ReplayEnds.{IsKnownOf, IsLeft}
use Rattle.tn_replay.specs.Inner.LineEnds.{state_of, IsDone, IsRefused, LineEnds}

-- a state by its parts
parts-same : (n m : NetState) (o p : Option SymbolicState) (c : ℕ) → n ≡ m → o ≡ p → state_of n o c ≡ state_of m p c
parts-same n m o p c net symbolic = ap (λ (x : NetState). state_of x o c) net ∙ ap (λ (x : Option SymbolicState). state_of m x c) symbolic

-- ---- picks

module _ (k : Known) (x : Pick) (net new : NetState) (symbolic next : Option SymbolicState) (steps : ℕ) where
  pub pick_done : (text : List ℕ) → net_enabled net x ≡ true → new ≡ net_after x net → next ≡ option_map (beside_pick net x) symbolic
      → IsDone k (act.Pick x) (state_of net symbolic steps) (state_of new next (steps + 1)) text text
  unfolding line_done
  pick_done text is same goes = record {
    left = record { state = picked x (state_of net symbolic steps); text = [] };
    can = ap (λ b. if b then prints (picked x (state_of net symbolic steps)) [] else None) is;
    state = parts-same new (net_after x net) next (option_map (beside_pick net x) symbolic) (steps + 1) same goes;
    text = sym (append-nil text);
  }

  pub pick_refused : net_enabled net x ≡ false → new ≡ net → IsRefused k (act.Pick x) (state_of net symbolic steps) new
  unfolding line_done
  pick_refused is same = record {
    cannot = ap (λ b. if b then prints (picked x (state_of net symbolic steps)) [] else None) is;
    net = same;
  }

-- ---- settling

module _ (k : Known) (most : ℕ) (back : Bool) (old new : NetState) (symbolic next : Option SymbolicState) (count : ℕ)
    (net : new ≡ behind old (settling most back old)) (goes : next ≡ option_map (beside old (settling most back old)) symbolic) where
  abbrev settling_left : Left
  settling_left = record {
    state = settles_to (settling most back old) (state_of old symbolic count);
    text = settled_text (settling most back old) (settles_to (settling most back old) (state_of old symbolic count));
  }

  settles : line_done k (act.Settle most back) (state_of old symbolic count) ≡ Some settling_left
  unfolding line_done
  settles = refl

  pub settle_done : (made : ℕ) (rested : Bool) (before after : List ℕ) → made ≡ length (settling most back old) → rested ≡ rests new
      → after ≡ before ++ settle_line rested made
      → IsDone k (act.Settle most back) (state_of old symbolic count) (state_of new next (count + made)) before after
  settle_done made rested before after many rest put = record {
    left = settling_left;
    can = settles;
    state = parts-same new settling_left.state.net next settling_left.state.symbolic (count + made) net goes
        ∙ ap (λ n. state_of settling_left.state.net settling_left.state.symbolic (count + n)) many;
    text = put ∙ ap (λ n. before ++ settle_line rested n) many
        ∙ ap (λ b. before ++ settle_line b (length (settling most back old))) (rest ∙ ap rests net);
  }

  pub settle_left : IsLeft k (act.Settle most back) (state_of old symbolic count) new
  settle_left = (settling_left, settles, net)

-- ---- the release

-- loaded as the test tells
loaded-board : (images : List ImageBytes) (n : NetState) → is_loaded n.board.state (targets_of images) ≡ true
    → AreLoaded images n.board.state
loaded-board images n is = record {
  targets = targets_of images;
  count = length-map images target_of;
  each = λ p image target at there.
      let same : target_of image ≡ target =
      same_Some (target_of image) target (sym (slice_get-map target_of images p ∙ ap (option_map target_of) at) ∙ there) in
      subst (IsTargetOf image) same (record { pieces = refl; entry = refl; wptr = refl });
  loaded = board-told n.board.state (targets_of images) is;
}

both-true : (a b : Bool) → (a && b) ≡ true → b ≡ true
both-true true true e = refl
both-true true false e = cc
both-true false b e = cc

module _ (k : Known) (net : NetState) (symbolic : Option SymbolicState) (steps : ℕ) (may : Bool) (is : may ≡ may_release k net) where
  pub release_done : (new : NetState) (begins : SymbolicState) (text : List ℕ) → IsKnownOf net.board.network k → may ≡ true
      → Begins k.programs net.board begins → new ≡ released net
      → IsDone k act.Release (state_of net symbolic steps) (state_of new (Some begins) steps) text text
  unfolding line_done
  release_done new begins text known can begin same = record {
    left = record { state = let_go k (state_of net symbolic steps); text = [] };
    can = ap (λ b. if b then prints (let_go k (state_of net symbolic steps)) [] else None) (sym is ∙ can);
    state = parts-same new (released net) (Some begins) (Some (begun k.programs net.board)) steps same
        (ap Some (begun-only net.board.network k.programs k.images known.belong net.board begins begin));
    text = sym (append-nil text);
  }

  pub release_refused : (new : NetState) → may ≡ false → new ≡ net → IsRefused k act.Release (state_of net symbolic steps) new
  unfolding line_done
  release_refused new cannot same = record {
    cannot = ap (λ b. if b then prints (let_go k (state_of net symbolic steps)) [] else None) (sym is ∙ cannot);
    net = same;
  }

  pub release_loaded : may ≡ true → AreLoaded k.images net.board.state
  release_loaded can =
      loaded-board k.images net (both-true net.holds.held (is_loaded net.board.state (targets k)) (sym is ∙ can))

-- ---- lines that print

-- such a line, by whether its text was put
pub prints_ends : {T E : Type 0} (k : Known) (a : Act) (net : NetState) (symbolic : Option SymbolicState) (steps : ℕ) (text : List ℕ)
    (before after : List ℕ) (put : Result T E) (result : Result ℕ LineFault)
    → line_done k a (state_of net symbolic steps) ≡ prints (state_of net symbolic steps) text → OnOk put (after ≡ before ++ text)
    → OnOk put (result ≡ Ok steps) → OnErr put (result ≡ Err fault.NoMemory)
    → LineEnds k a (state_of net symbolic steps) net symbolic before after result
prints_ends k a net symbolic steps text before after (Ok x) result can put ok err =
    subst (λ (r : Result ℕ LineFault). LineEnds k a (state_of net symbolic steps) net symbolic before after r) (sym ok) (record {
      left = record { state = state_of net symbolic steps; text = text };
      can = can;
      state = refl;
      text = put;
    })
prints_ends k a net symbolic steps text before after (Err e) result can put ok err =
    subst (λ (r : Result ℕ LineFault). LineEnds k a (state_of net symbolic steps) net symbolic before after r) (sym err) (inl refl)

-- the same of an act that is such a line
pub printed_as : {T E : Type 0} (k : Known) (a b : Act) → a ≡ b → (net : NetState) (symbolic : Option SymbolicState) (steps : ℕ)
    (text before after : List ℕ) (put : Result T E) (result : Result ℕ LineFault)
    → line_done k b (state_of net symbolic steps) ≡ prints (state_of net symbolic steps) text → OnOk put (after ≡ before ++ text)
    → OnOk put (result ≡ Ok steps) → OnErr put (result ≡ Err fault.NoMemory)
    → LineEnds k a (state_of net symbolic steps) net symbolic before after result
printed_as k a b same net symbolic steps text before after put result can shown ok err =
    subst (λ (x : Act). LineEnds k x (state_of net symbolic steps) net symbolic before after result) (sym same)
    (prints_ends k b net symbolic steps text before after put result can shown ok err)

module _ (k : Known) (s : ReplayState) where
  pub show_prints : (p : ℕ) → line_done k (act.Show p) s ≡ prints s (state_text k s.net p (slice_get s.net.board.state.nodes p))
  unfolding line_done
  show_prints p = refl

  pub links_print : (p : ℕ) → line_done k (act.Links p) s ≡ prints s (links_text k s.net p (slice_get s.net.board.state.nodes p))
  unfolding line_done
  links_print p = refl

  pub word_prints : (p address : ℕ)
      → line_done k (act.Word p address) s ≡ prints s (word_text_of k p address (slice_get s.net.board.state.nodes p))
  unfolding line_done
  word_prints p address = refl

  pub host_prints : line_done k act.Host s
      ≡ prints s (host_line (length s.net.board.state.host.left) (length s.net.board.state.host.kept))
  unfolding line_done
  host_prints = refl

  pub got_prints : (place : ℕ) → line_done k (act.Got place) s ≡ prints s (got_line place (slice_get s.net.board.state.host.kept place))
  unfolding line_done
  got_prints place = refl

  pub steps_print : line_done k act.Steps s ≡ prints s (steps_line s.steps)
  unfolding line_done
  steps_print = refl

  pub same_prints : line_done k act.Same s ≡ prints s (same_text k s.symbolic)
  unfolding line_done
  same_prints = refl

-- ---- what is read of a processor

pub name_read : (k : Known) (names : List (List ℕ)) (p : ℕ) (name : List ℕ) → k.names ≡ names → p < length names
    → name ≡ slice_index_or names p name → name ≡ name_of k p
name_read k names p name same inside is =
    get_or_read names p name inside is [] ∙ ap (λ ns. slice_index_or ns p []) (sym same)

pub state_is : (k : Known) (n : NetState) (p : ℕ) (node : NodeState (List ℕ)) (programs : List Program) (program : Program)
    (name : List ℕ) (symbol : Option (List ℕ × ℕ)) → k.programs ≡ map program_of programs → slice_get n.board.state.nodes p ≡ Some node
    → slice_get programs p ≡ Some program → name ≡ name_of k p
    → symbol ≡ (if has_pointers (mode_of node) then symbol_in (Some (program_of program)) node.cpu.iptr else None)
    → state_line name symbol node ≡ state_text k n p (slice_get n.board.state.nodes p)
state_is k n p node programs program name symbol are here there named labelled =
    let found : slice_get k.programs p ≡ Some (program_of program) =
    ap (λ (gs : List ProgramState). slice_get gs p) are
    ∙ (slice_get-map program_of programs p ∙ ap (option_map program_of) there) in
    ap (λ w. state_line w symbol node) named
    ∙ ap (λ (o : Option (List ℕ × ℕ)). state_line (name_of k p) o node)
    (labelled ∙ ap (λ (g : Option ProgramState). if has_pointers (mode_of node) then symbol_in g node.cpu.iptr else None) (sym found))
    ∙ ap (λ (o : Option (NodeState (List ℕ))). state_text k n p o) (sym here)

pub link_is : (k : Known) (n : NetState) (p l : ℕ) (node : NodeState (List ℕ)) (name : List ℕ) (link : LinkView) (latch : Option ℕ)
    → slice_get n.board.state.nodes p ≡ Some node → name ≡ name_of k p
    → link ≡ record { input = engine_of node.inputs l; output = engine_of node.outputs l }
    → latch ≡ latch_at n.board.state.latches p l
    → link_line name l link.input link.output latch ≡ given [] (λ x. link_text k n p x l) (slice_get n.board.state.nodes p)
link_is k n p l node name link latch here named linked latched =
    ap (λ w. link_line w l link.input link.output latch) named
    ∙ ap (λ (v : LinkView). link_line (name_of k p) l v.input v.output latch) linked
    ∙ ap (λ b. link_line (name_of k p) l (engine_of node.inputs l) (engine_of node.outputs l) b) latched
    ∙ ap (λ (o : Option (NodeState (List ℕ))). given [] (λ x. link_text k n p x l) o) (sym here)

pub links_put : (k : Known) (n : NetState) (p : ℕ) (o : Option (NodeState (List ℕ))) (o0 o1 o2 o3 o4 : List ℕ)
    → o1 ≡ o0 ++ given [] (λ x. link_text k n p x 0) o → o2 ≡ o1 ++ given [] (λ x. link_text k n p x 1) o
    → o3 ≡ o2 ++ given [] (λ x. link_text k n p x 2) o → o4 ≡ o3 ++ given [] (λ x. link_text k n p x 3) o
    → o4 ≡ o0 ++ links_text k n p o
links_put k n p None o0 o1 o2 o3 o4 e1 e2 e3 e4 =
    e4 ∙ append-nil o3 ∙ e3 ∙ append-nil o2 ∙ e2 ∙ append-nil o1 ∙ e1
links_put k n p (Some x) o0 o1 o2 o3 o4 e1 e2 e3 e4 =
    e4 ∙ ap (λ o. o ++ link_text k n p x 3) (e3 ∙ ap (λ o. o ++ link_text k n p x 2) (e2 ∙ ap (λ o. o ++ link_text k n p x 1) e1))
    ∙ four o0 (link_text k n p x 0) (link_text k n p x 1) (link_text k n p x 2) (link_text k n p x 3)
  where
    four : (o a b c d : List ℕ) → (((o ++ a) ++ b) ++ c) ++ d ≡ o ++ (a ++ (b ++ (c ++ (d ++ []))))
    four o a b c d = simp (append_assoc, append-nil)

pub word_is : (k : Known) (n : NetState) (p address : ℕ) (node : NodeState (List ℕ)) (name : List ℕ) (word : Result ℕ Touch)
    → slice_get n.board.state.nodes p ≡ Some node → name ≡ name_of k p → word ≡ load node.cpu.memory address
    → word_line name address word ≡ word_text_of k p address (slice_get n.board.state.nodes p)
word_is k n p address node name word here named loaded =
    ap (λ w. word_line w address word) named ∙ ap (λ (r : Result ℕ Touch). word_line (name_of k p) address r) loaded
    ∙ ap (λ (o : Option (NodeState (List ℕ))). word_text_of k p address o) (sym here)

-- ---- no line changes the wires

behind-network : (picks : List Pick) (n : NetState) → (behind n picks).board.network ≡ n.board.network
behind-network [] n = refl
behind-network (x ∷ picks) n = behind-network picks (net_after x n)

-- what a line leaves that may be done
left_network : (s t : ReplayState) (text : List ℕ) (left : Left) → prints t text ≡ Some left → t.net.board.network ≡ s.net.board.network
    → left.state.net.board.network ≡ s.net.board.network
left_network s t text left e same =
    let is : record { state = t; text = text } ≡ left = cc in
    ap (λ (x : Left). x.state.net.board.network) (sym is) ∙ same

tested_network : (b : Bool) (s t : ReplayState) (text : List ℕ) (left : Left) → (if b then prints t text else None) ≡ Some left
    → t.net.board.network ≡ s.net.board.network → left.state.net.board.network ≡ s.net.board.network
tested_network true s t text left e same = left_network s t text left e same
tested_network false s t text left e same = absurd cc

pub line_network : (k : Known) (a : Act) (s : ReplayState) (left : Left) → line_done k a s ≡ Some left
    → left.state.net.board.network ≡ s.net.board.network
unfolding line_done
line_network k (act.Pick x) s left e =
    tested_network (net_enabled s.net x) s (picked x s) [] left e refl
line_network k (act.Settle most back) s left e =
    left_network s (settles_to (settling most back s.net) s)
    (settled_text (settling most back s.net) (settles_to (settling most back s.net) s)) left e
    (behind-network (settling most back s.net) s.net)
line_network k act.Release s left e =
    tested_network (may_release k s.net) s (let_go k s) [] left e refl
line_network k (act.Show p) s left e =
    left_network s s (state_text k s.net p (slice_get s.net.board.state.nodes p)) left e refl
line_network k (act.Links p) s left e =
    left_network s s (links_text k s.net p (slice_get s.net.board.state.nodes p)) left e refl
line_network k (act.Word p address) s left e =
    left_network s s (word_text_of k p address (slice_get s.net.board.state.nodes p)) left e refl
line_network k act.Host s left e =
    left_network s s (host_line (length s.net.board.state.host.left) (length s.net.board.state.host.kept)) left e refl
line_network k (act.Got place) s left e = left_network s s (got_line place (slice_get s.net.board.state.host.kept place)) left e refl
line_network k act.Steps s left e = left_network s s (steps_line s.steps) left e refl
line_network k act.Same s left e = left_network s s (same_text k s.symbolic) left e refl
