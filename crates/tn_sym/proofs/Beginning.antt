-- Where the loaded network and the symbolic one begin.
use Rattle.std.proofs.Common.{
  ◌≡◌,
  ◌⊎◌,
  inl,
  inr,
  ℕ,
  zero,
  suc,
  ◌^◌,
  ◌<◌,
  ◌≤◌,
  ℤ,
  true,
  false,
  List,
  [],
  ◌∷◌,
  length,
  map,
  Option,
  Some,
  None,
}
use Rattle.std.proofs.Common.{refl, sym, ap, subst, ◌∙◌, arith}
use Rattle.std.specs.Prelude.{◌==◌, All, slice_get, slice_index, find}
use Rattle.std.specs.Option.{option_map}
use Rattle.std.specs.List.{sum}
use Rattle.std.proofs.lemmas.Bool.{cases_lt, eqb-true}
use Rattle.std.proofs.lemmas.List.{get_or_past, length-map}
use Rattle.std.proofs.lemmas.Option.{get_or_from_slice_get, slice_get_within, slice_get-map, same_Some}
use Rattle.tn_text.specs.declared.limits.TheConstants.{CODE_LIMIT}
use Rattle.tn_isa.specs.declared.functions.Fun.{Fun}
use Rattle.tn_mem.specs.Memories.{most_neg, block}
use Rattle.tn_mem.specs.Guards.{Guarded}
use Rattle.tn_mem.proofs.Puts.{block-none}
use Rattle.tn_prefix.proofs.Lengths.{length-coding, coding_length-range}
use Rattle.tn_cpu.specs.declared.outcomes.Life.{Life}
use Rattle.tn_cpu.specs.declared.outcomes.Life.TheVariants.{Running, Idle, Stopped}
use Rattle.tn_node.specs.declared.modes.Stage.{Stage}
use Rattle.tn_node.specs.declared.modes.Stage.TheVariants.{Over}
use Rattle.tn_node.specs.Nodes.{NodeState, mode_at, mode_of, node_over}
use Rattle.tn_network.specs.Boards.{WiredBoard}
use Rattle.tn_network.specs.NodeOps.{is_running}
use Rattle.tn_network.specs.Nets.{NetState}
use Rattle.tn_network.specs.GuardedBoards.{guarded_node, guarded_nodes, guarded_wired}
use Rattle.tn_network.specs.Loads.{PlacedBytes, Target, StandsIn, IsLoadedNode, AreLoadedNodes}
use Rattle.tn_network.proofs.WireLaws.{both}
use Rattle.tn_network.proofs.NodeLaws.{runs-over}
use Rattle.tn_layout.proofs.LeastSizes.{one_is_least}
use Rattle.tn_link.specs.Programs.{program, pieces}
use Rattle.tn_link.specs.Programs as link
use Rattle.tn_stream.specs.Images.{ImageBytes}
use Rattle.tn_stream.specs.PlainImages.{LiesIn}
use Rattle.tn_sym.specs.Inner.Items.{AreItems}
use Rattle.tn_sym.specs.Inner.NetsBeside.{IsBeside}
use Rattle.tn_sym.specs.Inner.Wholes.{Coded, SameNodes}
use Rattle.tn_sym.proofs.WholeBeginnings.{begins}
use Rattle.tn_sym.specs.declared.codes.Instruction.{Instruction}
use Rattle.tn_sym.specs.ProgramStates.{ProgramState}
use Rattle.tn_sym.specs.Symbolic.{CodeState, SymbolicState, code_at, instruction_at}
use Rattle.tn_sym.specs.Same.{code_end}
use Rattle.tn_sym.specs.Programs.{IsCodeOf, AreModules, code_segment, Belongs, Belong, placed, IsTargetOf, AreLoaded}
use Rattle.tn_sym.specs.Programs.{region_of, Begins}
use Rattle.tn_sym.specs.Follows.{Follows, HaveLinks, Execution}
use Rattle.tn_sym.proofs.Lists.{there, all-at}
use Rattle.tn_sym.proofs.Elements.{IsAmong, made}
use Rattle.tn_sym.proofs.LinkedCode.{IsHeld, items, instructions-items, items-among, item-held}
use Rattle.tn_sym.proofs.Sameness.{IsCoded}
use Rattle.tn_sym.proofs.Runs.{Agrees, along-follows}

-- ---- a loaded processor

-- the code of its program stands in its memory
code-held : (size : ℕ) (p : ProgramState) (image : ImageBytes) (code : CodeState) (t : Target) (memory : List ℕ) → Belongs size p image
    → IsCodeOf p code → IsTargetOf image t → All (StandsIn memory) t.pieces → IsHeld code memory
code-held size p image code t memory b c target all = by_first b.first
  where
    short : length code.bytes ≤ CODE_LIMIT
    short = omega (
      arith,
      ap length c.bytes,
      ap (λ l. length l.code) b.linked.seen,
      b.linked.is_linked.code_length,
      b.linked.is_linked.short_code,
    )

    ends : code_end code < 2 ^ 32
    ends = omega (arith, c.base, b.code_base.below, short)

    lowest : most_neg ≤ code.base
    lowest = omega (arith, c.base, b.code_base.above)

    by_first : (p.linked.code ≡ []) ⊎ (slice_get image.segments 0 ≡ Some (code_segment p)) → IsHeld code memory
    by_first (inl none) =
        let bytes : code.bytes ≡ [] = c.bytes ∙ none in
        let zero_long : length code.bytes ≡ 0 = ap length bytes in
        record {
          whole = ap (block memory code.base) zero_long ∙ (block-none memory code.base ∙ sym bytes);
          low = lowest;
          reached = λ some. absurd (omega (arith, some, zero_long));
          high = ends;
        }
    by_first (inr first) =
        let lies = all-at (LiesIn size) image.segments 0 (code_segment p) b.plain.inside first in
        let piece : slice_get t.pieces 0 ≡ Some (placed (code_segment p)) =
        ap (λ (ps : List PlacedBytes). slice_get ps 0) target.pieces
        ∙ (slice_get-map placed image.segments 0 ∙ ap (option_map placed) first) in
        let stands : StandsIn memory (placed (code_segment p)) = all-at (StandsIn memory) t.pieces 0 (placed (code_segment p)) all piece in
        record {
          whole = subst (λ (bytes : List ℕ). block memory code.base (length bytes) ≡ bytes) (sym c.bytes)
              (subst (λ (base : ℕ). block memory base (length p.linked.code) ≡ p.linked.code) (sym c.base) stands);
          low = lowest;
          reached = λ some. omega (arith, c.base, lies.low);
          high = ends;
        }

-- ---- what stands at its addresses

pub record IsCodedIn (code : CodeState) (memory : List ℕ) (c : Coded) : Type 0 where
  pub own : c.code ≡ memory
  pub coded : IsCoded code c

module _ (size : ℕ) (p : ProgramState) (image : ImageBytes) (code : CodeState) (memory : List ℕ) (b : Belongs size p image)
    (c : IsCodeOf p code)
    (valid : AreModules p.modules) (held : IsHeld code memory) where
  same-sizes : b.linked.is_linked.sizes ≡ c.sizes
  same-sizes =
      let one = one_is_least (pieces (program p.modules p.linked.cell_base)) in
      one.only b.linked.is_linked.sizes b.linked.is_linked.least ∙ sym (one.only c.sizes c.least)

  short : sum c.sizes ≤ CODE_LIMIT
  short = subst (λ (sizes : List ℕ). sum sizes ≤ CODE_LIMIT) same-sizes b.linked.is_linked.short_code

  own_items : ℕ → Option (Fun × ℤ)
  own_items a =
      items p.modules p.linked.cell_base b.cell_base valid b.linkable.defined b.linked.is_linked.few_items
      b.linked.is_linked.few_cells c.sizes
      c.least short p.linked.code_base a

  own-agree : (a : ℕ) → instruction_at code a ≡ option_map (made a) (own_items a)
  unfolding own_items
  own-agree a =
      ap (find (λ (n : Instruction). n.address == a)) c.instructions
      ∙ instructions-items p.modules p.linked.cell_base b.cell_base valid b.linkable.defined
      b.linked.is_linked.few_items
      b.linked.is_linked.few_cells c.sizes c.least short p.linked.code_base a

  own-among : (a : ℕ) (f : Fun) (e : ℤ) → own_items a ≡ Some (f, e) → IsAmong code.bytes code.base a f e
  unfolding own_items
  own-among a f e is =
      let bytes : link.code (program p.modules p.linked.cell_base) c.sizes ≡ code.bytes =
      ap (link.code (program p.modules p.linked.cell_base)) (sym same-sizes) ∙
      (sym b.linked.is_linked.code_is ∙ ap (λ l. l.code) b.linked.seen ∙ sym c.bytes) in
      subst (λ (base : ℕ). IsAmong code.bytes base a f e) (sym c.base)
      (subst (λ (all : List ℕ). IsAmong all p.linked.code_base a f e) bytes
      (items-among p.modules p.linked.cell_base b.cell_base valid b.linkable.defined
      b.linked.is_linked.few_items b.linked.is_linked.few_cells
      c.sizes c.least short p.linked.code_base a f e is))

  own-are : AreItems memory code.base (code_end code) own_items
  own-are a f e is =
      let among = own-among a f e is in
      item-held code memory a f e held among (omega (arith, length-coding f e among.fits, (coding_length-range e).0))

  pub own-coded : (k : Coded) × IsCodedIn code memory k
  own-coded = (
    record { code = memory; from = code.base; to = code_end code; items = own_items; are = own-are; high = omega (arith, held.high) },
    record { own = refl; coded = record { from = refl; to = refl; held = held; items = own-agree; among = own-among } },
  )

-- ---- the network

-- where there is no processor there is no code
nothing : Coded
nothing = record { code = []; from = 0; to = 0; items = λ a. None; are = λ a f e is. absurd (clash (f, e) is); high = omega arith }
  where
    clash : (t : Fun × ℤ) → None ≡ Some t → ⊥
    clash t is = cc

pub loaded-at : (memory : List ℕ → List ℕ) (nodes : List (NodeState (List ℕ))) (targets : List Target) → AreLoadedNodes memory nodes targets
    → (length nodes ≡ length targets) × ((p : ℕ) (n : NodeState (List ℕ)) (t : Target) → slice_get nodes p ≡ Some n
    → slice_get targets p ≡ Some t → IsLoadedNode memory n t)
loaded-at memory [] [] h = (refl, λ p n t here is. cc)
loaded-at memory [] (t ∷ targets) h = absurd h
loaded-at memory (n ∷ nodes) [] h = absurd h
loaded-at memory (n ∷ nodes) (t ∷ targets) h =
    let rest = loaded-at memory nodes targets h.1 in
    (ap suc rest.0, λ p. at p rest.1)
  where
    at : (p : ℕ) → ((q : ℕ) (m : NodeState (List ℕ)) (u : Target) → slice_get nodes q ≡ Some m → slice_get targets q ≡ Some u
        → IsLoadedNode memory m u) → (m : NodeState (List ℕ)) (u : Target) → slice_get (n ∷ nodes) p ≡ Some m
        → slice_get (t ∷ targets) p ≡ Some u → IsLoadedNode memory m u
    at zero rest m u here is =
        subst (λ (x : NodeState (List ℕ)). IsLoadedNode memory x u) (same_Some n m here)
        (subst (λ (x : Target). IsLoadedNode memory n x) (same_Some t u is) h.0)
    at (suc q) rest m u here is = rest q m u here is

guarded-long : (regions : List (ℕ × ℕ)) (nodes : List (NodeState (List ℕ))) → length regions ≡ length nodes
    → length (guarded_nodes regions nodes) ≡ length nodes
unfolding guarded_nodes
guarded-long [] [] e = refl
guarded-long [] (n ∷ nodes) e = cc
guarded-long (r ∷ regions) [] e = cc
guarded-long (r ∷ regions) (n ∷ nodes) e = ap suc (guarded-long regions nodes (omega (arith, e)))

guarded-at : (regions : List (ℕ × ℕ)) (nodes : List (NodeState (List ℕ))) (p : ℕ) (r : ℕ × ℕ) (n : NodeState (List ℕ))
    (v : NodeState Guarded) → slice_get regions p ≡ Some r → slice_get nodes p ≡ Some n → slice_get (guarded_nodes regions nodes) p ≡ Some v
    → guarded_node r n ≡ v
unfolding guarded_nodes
guarded-at [] nodes p r n v region here is = cc
guarded-at (q ∷ regions) [] p r n v region here is = cc
guarded-at (q ∷ regions) (m ∷ nodes) zero r n v region here is =
    ap (λ (x : ℕ × ℕ). guarded_node x n) (sym (same_Some q r region))
    ∙ (ap (guarded_node q) (sym (same_Some m n here)) ∙ same_Some (guarded_node q m) v is)
guarded-at (q ∷ regions) (m ∷ nodes) (suc p) r n v region here is = guarded-at regions nodes p r n v region here is

module _ (n : NetState) (programs : List ProgramState) (images : List ImageBytes) (s : SymbolicState)
    (links : HaveLinks n.board.state)
    (valid : All (λ program. AreModules program.modules) programs) (belong : Belong n.board.network programs images)
    (loaded : AreLoaded images n.board.state) (begun : Begins programs n.board s) where
  abbrev nodes : List (NodeState (List ℕ))
  nodes = n.board.state.nodes

  -- as many processors as images
  many : length nodes ≡ length n.board.network.sizes
  many = (loaded-at (λ m. m) nodes loaded.targets loaded.loaded.nodes).0 ∙ loaded.count ∙ belong.all_images

  as_many : length programs ≡ length nodes
  as_many = belong.all_programs ∙ sym many

  -- all that belongs to a processor
  record IsProcessor (p : ℕ) : Type 0 where
    program : ProgramState
    image : ImageBytes
    code : CodeState
    target : Target
    node : NodeState (List ℕ)
    program_at : slice_get programs p ≡ Some program
    image_at : slice_get images p ≡ Some image
    code_here : slice_get s.codes p ≡ Some code
    target_at : slice_get loaded.targets p ≡ Some target
    node_at : slice_get nodes p ≡ Some node

  processor : (p : ℕ) → p < length nodes → IsProcessor p
  processor p here =
      let one = there programs p (omega (arith, as_many)) in
      let two = there images p (omega (arith, many, belong.all_images)) in
      let three = there s.codes p (omega (arith, as_many, begun.count)) in
      let four = there loaded.targets p (omega (arith, many, belong.all_images, loaded.count)) in
      let five = there nodes p here in
      record {
        program = one.0;
        image = two.0;
        code = three.0;
        target = four.0;
        node = five.0;
        program_at = one.1;
        image_at = two.1;
        code_here = three.1;
        target_at = four.1;
        node_at = five.1;
      }

  is-loaded : (p : ℕ) (k : IsProcessor p) → IsLoadedNode (λ m. m) k.node k.target
  is-loaded p k = (loaded-at (λ m. m) nodes loaded.targets loaded.loaded.nodes).1 p k.node k.target k.node_at k.target_at

  is-code : (p : ℕ) (k : IsProcessor p) → IsCodeOf k.program k.code
  is-code p k = begun.codes p k.program k.code k.program_at k.code_here

  belongs : (p : ℕ) (k : IsProcessor p) → Belongs (slice_index n.board.network.sizes p) k.program k.image
  belongs p k = belong.each p k.program k.image k.program_at k.image_at

  is-held : (p : ℕ) (k : IsProcessor p) → IsHeld k.code k.node.cpu.memory
  is-held p k =
      code-held (slice_index n.board.network.sizes p) k.program k.image k.code k.target k.node.cpu.memory (belongs p k) (is-code p k)
      (loaded.each p k.image k.target k.image_at k.target_at) (is-loaded p k).whole

  -- what is known of the items at each place
  record IsKnown (p : ℕ) (c : Coded) : Type 0 where
    agrees : Agrees (code_at s.codes p) c
    known : (k : IsProcessor p) → IsCodedIn k.code k.node.cpu.memory c

  known-here : (p : ℕ) (k : IsProcessor p) → (c : Coded) × IsKnown p c
  known-here p k =
      let own = own-coded (slice_index n.board.network.sizes p) k.program k.image k.code k.node.cpu.memory (belongs p k) (is-code p k)
      (all-at (λ (program : ProgramState). AreModules program.modules) programs p k.program valid k.program_at) (is-held p k) in
      let at : code_at s.codes p ≡ k.code = get_or_from_slice_get s.codes p k.code _ k.code_here in (
        own.0,
        record {
          agrees = subst (λ (code : CodeState). Agrees code own.0) (sym at)
              (record { items = own.1.coded.items; high = omega (arith, own.1.coded.to, own.1.coded.held.high) });
          known = λ other.
              let same_code : k.code ≡ other.code = same_Some k.code other.code (sym k.code_here ∙ other.code_here) in
              let same_node : k.node ≡ other.node = same_Some k.node other.node (sym k.node_at ∙ other.node_at) in
              subst (λ (code : CodeState). IsCodedIn code other.node.cpu.memory own.0) same_code
              (subst (λ (node : NodeState (List ℕ)). IsCodedIn k.code node.cpu.memory own.0) same_node own.1);
        },
      )

  known-nowhere : (p : ℕ) → length nodes ≤ p → (c : Coded) × IsKnown p c
  unfolding nothing
  known-nowhere p past =
      let at : code_at s.codes p ≡ record { base = 0; bytes = []; instructions = [] } =
      get_or_past s.codes p _ (omega (arith, past, as_many, begun.count)) in (
        nothing,
        record {
          agrees = subst (λ (code : CodeState). Agrees code nothing) (sym at) (record { items = λ a. refl; high = omega arith });
          known = λ k. absurd (omega (arith, past, slice_get_within nodes p k.node k.node_at));
        },
      )

  known-at : (p : ℕ) → (c : Coded) × IsKnown p c
  known-at p = elim (cases_lt p (length nodes)) [
    | inl here ↦ known-here p (processor p here)
    | inr past ↦ known-nowhere p past
  ]

  coded : ℕ → Coded
  coded p = (known-at p).0

  agree : (p : ℕ) → Agrees (code_at s.codes p) (coded p)
  unfolding coded
  agree p = (known-at p).1.agrees

  known-of : (p : ℕ) (k : IsProcessor p) → IsCodedIn k.code k.node.cpu.memory (coded p)
  unfolding coded
  known-of p k = (known-at p).1.known k

  are-coded : (p : ℕ) (code : CodeState) → slice_get s.codes p ≡ Some code → IsCoded code (coded p)
  are-coded p code is =
      let k = processor p (omega (arith, as_many, begun.count, slice_get_within s.codes p code is)) in
      subst (λ (c : CodeState). IsCoded c (coded p)) (same_Some k.code code (sym k.code_here ∙ is)) (known-of p k).coded

  -- each node stands beside its guarded copy
  beside-at : (p : ℕ) (k : IsProcessor p) → SameNodes coded p k.node (guarded_node (region_of k.program) k.node)
  beside-at p k =
      let known = known-of p k in
      let l = is-loaded p k in
      let stands = both (is_running (mode_of k.node)) _ l.stands in
      let over : k.node.stage ≡ Over = runs-over k.node stands.0 in
      let runs : k.node.cpu.life ≡ Running =
      running k.node.cpu.life (ap (λ (stage : Stage). is_running (mode_at stage k.node.cpu.life)) (sym over) ∙ stands.0) in
      let clear : k.node.cpu.oreg ≡ 0 = eqb-true k.node.cpu.oreg 0 (both (k.node.cpu.iptr == k.target.entry) _ stands.1).1 in
      let from : (coded p).from ≡ (region_of k.program).0 = known.coded.from ∙ (is-code p k).base in
      let to : (coded p).to ≡ (region_of k.program).1 =
      known.coded.to ∙ omega (arith, (is-code p k).base, ap length (is-code p k).bytes) in
      subst (λ (a : ℕ). SameNodes coded p k.node (node_over (record
      { bytes = k.node.cpu.memory; from = a; to = (region_of k.program).1 }) k.node)) from
      (subst (λ (b : ℕ). SameNodes coded p k.node (node_over (record { bytes = k.node.cpu.memory; from = (coded p).from; to = b })
      k.node)) to
      (begins coded p k.node known.own over runs clear (links p k.node k.node_at) l.quiet))
    where
      running : (life : Life) → is_running (mode_at Over life) ≡ true → life ≡ Running
      running Running e = refl
      running Idle e = cc
      running (Stopped why) e = cc

  region-at : (p : ℕ) (k : IsProcessor p) → slice_get (map region_of programs) p ≡ Some (region_of k.program)
  region-at p k = slice_get-map region_of programs p ∙ ap (option_map region_of) k.program_at

  beside : IsBeside (SameNodes coded) n.board.state (guarded_wired (map region_of programs) n.board).state
  beside = record {
    nodes = record {
      count = sym (guarded-long (map region_of programs) nodes (length-map programs region_of ∙ as_many));
      each = λ p x y at is.
          let k = processor p (slice_get_within nodes p x at) in
          let same : k.node ≡ x = same_Some k.node x (sym k.node_at ∙ at) in
          let copy : guarded_node (region_of k.program) k.node ≡ y =
          guarded-at (map region_of programs) nodes p (region_of k.program) k.node y (region-at p k) k.node_at is in
          subst (λ (v : NodeState Guarded). SameNodes coded p x v) copy
          (subst (λ (m : NodeState (List ℕ)). SameNodes coded p m (guarded_node (region_of k.program) k.node)) same (beside-at p k));
    };
    latches = refl;
    host = refl;
  }

  pub follows-loaded : n.holds.held ≡ false → Follows n s
  follows-loaded lifted picks =
      along-follows coded s.codes agree are-coded picks n s
      (record {
        lifted = lifted;
        going = begun.stop;
        codes_are = refl;
        wires = ap (λ (b : WiredBoard (NodeState Guarded)). b.network) begun.copy;
        boards = subst (λ (b : WiredBoard (NodeState Guarded)). IsBeside (SameNodes coded) n.board.state b.state) (sym begun.copy) beside;
      })

-- the theorem
pub execution : Execution
execution n programs images s links lifted valid belong loaded begun = follows-loaded n programs images s links valid belong loaded
    begun lifted
