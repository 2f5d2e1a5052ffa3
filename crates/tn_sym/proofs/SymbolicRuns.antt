-- The symbolic network that goes beside a network is as it is, until it stops.
use Rattle.std.proofs.Common.{◌≡◌, inl, inr, ℕ, suc, ◌<◌, Bool, true, false, List, [], ◌∷◌, length, map, Option, Some, None}
use Rattle.std.proofs.Common.{get_or, refl, sym, ap, subst, ◌∙◌, arith}
use Rattle.std.specs.Prelude.{not, ◌&&◌, is_some, IsSome, slice_get, if◌then◌else◌}
use Rattle.std.specs.Option.{option_map}
use Rattle.std.proofs.lemmas.Grind.{same_number_lists}
use Rattle.std.proofs.lemmas.List.{length-map, get_or-map}
use Rattle.std.proofs.lemmas.Option.{slice_get-map, slice_get_within, same_Some}
use Rattle.tn_mem.specs.Guards.{Guarded}
use Rattle.tn_cpu.specs.declared.outcomes.Why.{Why}
use Rattle.tn_layout.proofs.LeastSizes.{one_is_least}
use Rattle.tn_link.specs.declared.linking.Placed.{Placed}
use Rattle.tn_link.specs.Cells.{frame}
use Rattle.tn_link.specs.Linking.{placed}
use Rattle.tn_link.specs.Programs.{program, pieces, piece}
use Rattle.tn_link.proofs.Fitness.{program-length}
use Rattle.tn_link.proofs.Listed.{placed-length, placed-at}
use Rattle.tn_net.specs.Networks.{NetworkState}
use Rattle.tn_stream.specs.Images.{ImageBytes}
use Rattle.tn_node.specs.Nodes.{NodeState}
use Rattle.tn_network.specs.declared.picks.Pick.{Pick}
use Rattle.tn_network.specs.Boards.{WiredBoard}
use Rattle.tn_network.specs.GuardedBoards.{guarded_wired}
use Rattle.tn_network.specs.Nets.{NetState, net_enabled, net_after}
use Rattle.tn_network.specs.Steps.{ready}
use Rattle.tn_sym.specs.declared.codes.Instruction.{Instruction}
use Rattle.tn_sym.specs.ProgramStates.{LinkedState, ProgramState, IsLinkedTo}
use Rattle.tn_sym.specs.Symbolic.{CodeState, SymbolicState, symbolic_ops, symbolic_enabled, symbolic_after, AreSymbolic, symbolic_behind}
use Rattle.tn_sym.specs.Programs.{instructions, IsCodeOf, Belong, region_of, Begins}
use Rattle.tn_sym.specs.Follows.{Runs, behind, is_dropped, kept, Stops, Follows}
use Rattle.tn_sym.specs.SymbolicRuns.{sizes_of, code_of, begun, taken, beside_made, beside_pick, beside, AreAlike, StaysBeside}
use Rattle.tn_sym.proofs.Lists.{there}

-- ---- where it begins

abbrev code_parts : ℕ → List ℕ → List Instruction → CodeState
code_parts base bytes instructions = record { base = base; bytes = bytes; instructions = instructions }

abbrev symbolic_parts : WiredBoard (NodeState Guarded) → List CodeState → Option (ℕ × Why) → SymbolicState
symbolic_parts board codes stop = record { board = board; codes = codes; stop = stop }

module _ (p : ProgramState)
    (linked : IsLinkedTo p.modules p.linked.code_base p.linked.cell_base p.linked) where
  abbrev least_sizes : List ℕ
  least_sizes = linked.is_linked.sizes

  abbrev places : List Placed
  places = placed p.modules (frame p.linked.code_base p.linked.cell_base least_sizes)

  places-are : p.linked.placed ≡ places
  places-are = sym (ap (λ (l : LinkedState). l.placed) linked.seen) ∙ linked.is_linked.placed_are

  -- as many sizes as items
  many : length least_sizes ≡ length places
  many =
      linked.is_linked.least.valid.as_many ∙ length-map (program p.modules p.linked.cell_base) (λ x. piece x)
      ∙ (program-length p.modules p.linked.cell_base
      ∙ sym (placed-length p.modules (frame p.linked.code_base p.linked.cell_base least_sizes)))

  sizes-are : sizes_of p.linked.placed ≡ least_sizes
  sizes-are =
      ap sizes_of places-are
      ∙ same_number_lists (sizes_of places) least_sizes (length-map places (λ (x : Placed). x.size) ∙ sym many) (λ k within. each k within)
    where
      each : (k : ℕ) → k < length (sizes_of places) → get_or (sizes_of places) k 0 ≡ get_or least_sizes k 0
      each k within =
          let none : Placed = record { «module» = 0; item = 0; address = 0; size = 0 } in
          let inside : k < length places = omega (arith, within, length-map places (λ (x : Placed). x.size)) in
          get_or-map (λ (x : Placed). x.size) places k none 0 inside
          ∙ (placed-at p.modules (frame p.linked.code_base p.linked.cell_base least_sizes) k none inside).1

  pub code-is : IsCodeOf p (code_of p)
  code-is = record {
    sizes = least_sizes;
    least = linked.is_linked.least;
    base = refl;
    bytes = refl;
    instructions = ap (instructions p.modules p.linked.code_base p.linked.cell_base) sizes-are;
  }

  -- and no other is
  pub code-only : (code : CodeState) → IsCodeOf p code → code ≡ code_of p
  code-only code is =
      let one = one_is_least (pieces (program p.modules p.linked.cell_base)) in
      let same : is.sizes ≡ sizes_of p.linked.placed =
      one.only is.sizes is.least ∙ (sym (one.only least_sizes linked.is_linked.least) ∙ sym sizes-are) in
      ap (λ base. code_parts base code.bytes code.instructions) is.base
      ∙ (ap (λ bytes. code_parts p.linked.code_base bytes code.instructions) is.bytes
      ∙ (ap (code_parts p.linked.code_base p.linked.code) is.instructions
      ∙ ap (λ sizes. code_parts p.linked.code_base p.linked.code
      (instructions p.modules p.linked.code_base p.linked.cell_base sizes)) same))

-- ---- those of all programs

-- each program is linked at its own bases
abbrev AreLinked : List ProgramState → Type 0
AreLinked programs =
    (p : ℕ) (g : ProgramState) → slice_get programs p ≡ Some g → IsLinkedTo g.modules g.linked.code_base g.linked.cell_base g.linked

are-linked : (network : NetworkState) (programs : List ProgramState) (images : List ImageBytes) → Belong network programs images
    → AreLinked programs
are-linked network programs images belong p g at =
    let image = there images p (omega (arith, belong.all_programs, belong.all_images, slice_get_within programs p g at)) in
    (belong.each p g image.0 at image.1).linked

-- the code of each, by its place
codes-at : (programs : List ProgramState) → AreLinked programs → (p : ℕ) (g : ProgramState) (code : CodeState)
    → slice_get programs p ≡ Some g → slice_get (map code_of programs) p ≡ Some code → IsCodeOf g code
codes-at programs linked p g code at there =
    let same : Some (code_of g) ≡ Some code = sym (slice_get-map code_of programs p ∙ ap (option_map code_of) at) ∙ there in
    subst (IsCodeOf g) (same_Some (code_of g) code same) (code-is g (linked p g at))

codes-only : (programs : List ProgramState) (codes : List CodeState) → length codes ≡ length programs
    → ((p : ℕ) (g : ProgramState) (code : CodeState) → slice_get programs p ≡ Some g → slice_get codes p ≡ Some code → code ≡ code_of g)
    → codes ≡ map code_of programs
codes-only [] [] long each = refl
codes-only [] (code ∷ codes) long each = absurd (omega (arith, long))
codes-only (g ∷ programs) [] long each = absurd (omega (arith, long))
codes-only (g ∷ programs) (code ∷ codes) long each =
    ap (λ (c : CodeState). c ∷ codes) (each 0 g code refl refl)
    ∙ ap (λ (cs : List CodeState). code_of g ∷ cs)
    (codes-only programs codes (omega (arith, long)) (λ p x y at there. each (suc p) x y at there))

module _ (network : NetworkState) (programs : List ProgramState) (images : List ImageBytes) (belong : Belong network programs images)
    (board : WiredBoard (NodeState (List ℕ))) where
  linked : AreLinked programs
  linked = are-linked network programs images belong

  -- it begins beside a board as it is to
  pub begun-begins : Begins programs board (begun programs board)
  unfolding begun
  begun-begins = record {
    copy = refl;
    count = length-map programs code_of;
    codes = codes-at programs linked;
    stop = refl;
  }

  -- and there is no other way
  pub begun-only : (s : SymbolicState) → Begins programs board s → s ≡ begun programs board
  unfolding begun
  begun-only s b =
      let codes : s.codes ≡ map code_of programs =
      codes-only programs s.codes b.count (λ p g code at there. code-only g (linked p g at) code (b.codes p g code at there)) in
      ap (λ wired. symbolic_parts wired s.codes s.stop) b.copy
      ∙ (ap (λ cs. symbolic_parts (guarded_wired (map region_of programs) board) cs s.stop) codes
      ∙ ap (symbolic_parts (guarded_wired (map region_of programs) board) (map code_of programs)) b.stop)

-- ---- what picks make of it

-- picks that it takes as far as they are enabled there
takes : List Pick → SymbolicState → SymbolicState
takes [] s = s
takes (pick ∷ picks) s = takes picks (taken pick s)

-- those of the network that are no prefix bytes
beside-kept : (picks : List Pick) (n : NetState) (s : SymbolicState) → beside n picks s ≡ takes (kept n picks) s
unfolding beside takes
beside-kept [] n s = refl
beside-kept (pick ∷ picks) n s = by_drop (is_dropped n pick) refl (beside-kept picks (net_after pick n))
  where
    by_drop : (dropped : Bool) → is_dropped n pick ≡ dropped
        → ((t : SymbolicState) → beside (net_after pick n) picks t ≡ takes (kept (net_after pick n) picks) t)
        → beside n (pick ∷ picks) s ≡ takes (kept n (pick ∷ picks)) s
    by_drop true is more =
        ap (λ b. beside (net_after pick n) picks (beside_made b pick s)) is
        ∙ (more s ∙ sym (ap (λ (b : Bool). takes (if b then kept (net_after pick n) picks else pick ∷ kept (net_after pick n) picks) s) is))
    by_drop false is more =
        ap (λ b. beside (net_after pick n) picks (beside_made b pick s)) is
        ∙ (more (taken pick s)
        ∙ sym (ap (λ (b : Bool). takes (if b then kept (net_after pick n) picks else pick ∷ kept (net_after pick n) picks) s) is))

taken-by : (pick : Pick) (s : SymbolicState) (b : Bool) → symbolic_enabled s pick ≡ b
    → taken pick s ≡ (if b then symbolic_after pick s else s)
taken-by pick s b is = ap (λ (c : Bool). if c then symbolic_after pick s else s) is

-- once it has stopped it takes none
still : (picks : List Pick) (s : SymbolicState) → IsSome s.stop → takes picks s ≡ s
unfolding takes
still [] s h = refl
still (pick ∷ picks) s h =
    let none : symbolic_enabled s pick ≡ false =
    ap (λ b. not b && ready (symbolic_ops s.codes) s.board.network s.board.state pick) h in
    ap (takes picks) (taken-by pick s false none) ∙ still picks s h

-- picks that bring it to a stop do so
stops-there : (picks : List Pick) (s : SymbolicState) → Stops s picks → IsSome (takes picks s).stop
unfolding takes
stops-there [] s h = h
stops-there (pick ∷ picks) s (inl h) = ap (λ (t : SymbolicState). is_some t.stop) (still (pick ∷ picks) s h) ∙ h
stops-there (pick ∷ picks) s (inr h) =
    ap (λ (t : SymbolicState). is_some (takes picks t).stop) (taken-by pick s true h.0) ∙ stops-there picks (symbolic_after pick s) h.1

-- picks that it makes it takes
makes-them : (picks : List Pick) (s : SymbolicState) → AreSymbolic s picks → takes picks s ≡ symbolic_behind s picks
unfolding takes
makes-them [] s h = refl
makes-them (pick ∷ picks) s h = ap (takes picks) (taken-by pick s true h.0) ∙ makes-them picks (symbolic_after pick s) h.1

none-some : {X : Type 0} (o : Option X) → o ≡ None → IsSome o → ⊥
none-some None e h = cc
none-some (Some x) e h = cc

-- what follows a network stays beside it
pub follows-stays : (n : NetState) (s : SymbolicState) → Follows n s → StaysBeside n s
follows-stays n s follows picks runs going =
    let all : takes (kept n picks) s ≡ beside n picks s = sym (beside-kept picks n s) in
    elim (follows picks runs) [
      | inl stops ↦ absurd (none-some (takes (kept n picks) s).stop (ap (λ (t : SymbolicState). t.stop) all ∙ going)
          (stops-there (kept n picks) s stops))
      | inr b ↦
          let behind_all : symbolic_behind s (kept n picks) ≡ beside n picks s = sym (makes-them (kept n picks) s b.made) ∙ all in
          subst (AreAlike (behind n picks)) behind_all (record { same = b.same; enabled = b.enabled })
    ]

-- it does beside the network behind a pick, and behind picks
pub stays-pick : (n : NetState) (s : SymbolicState) (pick : Pick) → StaysBeside n s → net_enabled n pick ≡ true
    → StaysBeside (net_after pick n) (beside_pick n pick s)
unfolding beside
stays-pick n s pick stays e picks runs going = stays (pick ∷ picks) (e, runs) going

pub stays-picks : (picks : List Pick) (n : NetState) (s : SymbolicState) → StaysBeside n s → Runs n picks
    → StaysBeside (behind n picks) (beside n picks s)
unfolding beside
stays-picks [] n s stays runs = stays
stays-picks (pick ∷ picks) n s stays runs =
    stays-picks picks (net_after pick n) (beside_pick n pick s) (stays-pick n s pick stays runs.0) runs.1

-- the two are alike where it has not stopped
pub stays-alike : (n : NetState) (s : SymbolicState) → StaysBeside n s → s.stop ≡ None → AreAlike n s
unfolding beside
stays-alike n s stays going = stays [] tt going
