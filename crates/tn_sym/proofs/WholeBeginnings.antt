-- Where networks over bytes and over whole items begin, and items among the bytes of code.
use Rattle.std.proofs.Common.{
  ◌≡◌,
  ℕ,
  zero,
  suc,
  ◌+◌,
  ◌-◌,
  ◌^◌,
  ◌<◌,
  ◌≤◌,
  ℤ,
  List,
  [],
  ◌∷◌,
  ◌++◌,
  length,
  slice_index,
  Option,
  Some,
  None,
  Ok,
}
use Rattle.std.proofs.Common.{refl, sym, ap, subst, ◌∙◌, add-zero, length-append, arith}
use Rattle.std.specs.Int.{w32}
use Rattle.std.specs.Int.RustNames.{FitsSigned}
use Rattle.std.proofs.lemmas.List.{places}
use Rattle.tn_isa.specs.declared.functions.Fun.{Fun}
use Rattle.tn_isa.specs.OperandRegister.{IsCoded}
use Rattle.tn_mem.specs.Memories.{most_neg, block, plain_access}
use Rattle.tn_mem.specs.Guards.{Guarded}
use Rattle.tn_mem.specs.Inner.AccessTests.{reachable-fits}
use Rattle.tn_mem.proofs.Puts.{byte_at, byte_at-block}
use Rattle.tn_mem.proofs.Allowed.{fetch-allowed}
use Rattle.tn_prefix.specs.Coding.{coding}
use Rattle.tn_cpu.specs.declared.outcomes.Life.{Life}
use Rattle.tn_cpu.specs.declared.outcomes.Life.TheVariants.{Running}
use Rattle.tn_cpu.specs.States.{State, wrap, over_memory}
use Rattle.tn_cpu.specs.Codes.{StandsAt}
use Rattle.tn_node.specs.declared.engines.Engine.{Engine}
use Rattle.tn_node.specs.declared.modes.Stage.TheVariants.{Over}
use Rattle.tn_node.specs.Engines.{engine_of}
use Rattle.tn_node.specs.Nodes.{NodeState, node_over, all_closed, AreClosed, IsQuiet}
use Rattle.tn_sym.specs.Follows.{HasLinks}
use Rattle.tn_sym.specs.Inner.Covers.{Covers}
use Rattle.tn_sym.specs.Inner.Items.{IsItem}
use Rattle.tn_sym.specs.Inner.Beside.{StandsBy}
use Rattle.tn_sym.specs.Inner.Wholes.{Coded, SameNodes}
use Rattle.tn_sym.proofs.Processors.{starts}

-- a memory covers its own guarded copy
pub covers-own : (m : List ℕ) (from to : ℕ) → Covers m from to m (record { bytes = m; from = from; to = to })
covers-own m from to =
    record { first = refl; end = refl; size = refl; whole = refl; outside = λ x low is. refl; inside = λ x low f t. refl }

-- four engines of which none is open
all-closed : (engines : List (Option Engine)) → length engines ≡ 4 → AreClosed engines → engines ≡ all_closed
all-closed (a ∷ b ∷ c ∷ d ∷ []) four h =
    let first : a ≡ None = h.0 in
    let second : b ≡ None = h.1 in
    let third : c ≡ None = h.2 in
    let fourth : d ≡ None = h.3 in
    rw (first, second, third, fourth) refl
all-closed [] four h = cc
all-closed (a ∷ []) four h = absurd (omega arith)
all-closed (a ∷ b ∷ []) four h = absurd (omega arith)
all-closed (a ∷ b ∷ c ∷ []) four h = absurd (omega arith)
all-closed (a ∷ b ∷ c ∷ d ∷ e ∷ more) four h = absurd (omega arith)

closed : (l : ℕ) (e : Engine) → engine_of all_closed l ≡ Some e → ⊥
closed zero e is = cc
closed (suc zero) e is = cc
closed (suc (suc zero)) e is = cc
closed (suc (suc (suc zero))) e is = cc
closed (suc (suc (suc (suc l)))) e is = cc

quiet : (engines : List (Option Engine)) → length engines ≡ 4 → AreClosed engines → (l : ℕ) (e : Engine) → engine_of engines l ≡ Some e → ⊥
quiet engines four h l e is = closed l e (ap (λ (es : List (Option Engine)). engine_of es l) (sym (all-closed engines four h)) ∙ is)

-- a running node over bytes, with its engines closed and the operand register clear, stands beside its
-- guarded copy
pub begins : (coded : ℕ → Coded) (p : ℕ) (n : NodeState (List ℕ)) → (coded p).code ≡ n.cpu.memory → n.stage ≡ Over
    → n.cpu.life ≡ Running → n.cpu.oreg ≡ 0 → HasLinks n → IsQuiet n
    → SameNodes coded p n (node_over (record { bytes = n.cpu.memory; from = (coded p).from; to = (coded p).to }) n)
begins coded p n own over runs is_clear four none =
    let c = coded p in
    let g : Guarded = record { bytes = n.cpu.memory; from = c.from; to = c.to } in
    let u : State Guarded = over_memory g n.cpu in
    let covers : Covers c.code c.from c.to n.cpu.memory g = rw own (covers-own n.cpu.memory c.from c.to) in
    record {
      cpu = n.cpu;
      is = refl;
      same = record {
        cpu = record {
          memory = n.cpu.memory;
          covers = covers;
          clear = is_clear;
          stands = subst (λ (life : Life). StandsBy life (c.items u.iptr) n.cpu n.cpu.memory u) (sym runs)
              (starts c.code c.from c.to c.items c.are c.high n.cpu.memory u is_clear);
        };
        over = over;
        inputs = record { block = λ l e is. absurd (quiet n.inputs four.0 none.0 l e is) };
        outputs = record { block = λ l e is. absurd (quiet n.outputs four.1 none.1 l e is) };
        some = record { some = λ l e is. absurd (quiet n.inputs four.0 none.0 l e is) };
      };
    }

-- ---- items among the bytes of code

-- bytes that lie in a memory from word 9 on stand there
stands-block : (m : List ℕ) (a : ℕ) (bytes : List ℕ) → most_neg + 36 ≤ a → a - most_neg + length bytes ≤ length m
    → a + length bytes ≤ 2 ^ 32 → ((k : ℕ) → k < length bytes → byte_at m (a + k) ≡ slice_index bytes k) → StandsAt plain_access m a bytes
stands-block m a [] low high word at = tt
stands-block m a (byte ∷ []) low high word at =
    (fetch-allowed m a (reachable-fits (length m) a 1 low high word) ∙ ap Ok (rw add-zero at (at 0 (omega arith))), tt)
stands-block m a (byte ∷ next ∷ rest) low high word at =
    let same : wrap (a + 1) ≡ a + 1 = omega arith in (
      fetch-allowed m a (reachable-fits (length m) a 1 low (omega arith) (omega arith)) ∙ ap Ok (rw add-zero at (at 0 (omega arith))),
      subst (λ (b : ℕ). StandsAt plain_access m b (next ∷ rest)) (sym same)
          (stands-block m (a + 1) (next ∷ rest) (omega arith) (omega arith) (omega arith) (λ k below.
          let here : a + 1 + k ≡ a + suc k = omega arith in
          rw (← here) at (at (suc k) (omega arith)))),
    )

inner : (front middle back : List ℕ) (k : ℕ) → k < length middle
    → slice_index (front ++ (middle ++ back)) (length front + k) ≡ slice_index middle k
inner front middle back k below = grind (arith, places)

-- bytes among those of code, which lie in a memory from its base on, stand there
stands-part : (m : List ℕ) (base : ℕ) (front middle back : List ℕ) → most_neg + 36 ≤ base
    → base + length (front ++ (middle ++ back)) ≤ most_neg + length m → base + length (front ++ (middle ++ back)) ≤ 2 ^ 32
    → block m base (length (front ++ (middle ++ back))) ≡ front ++ (middle ++ back)
    → StandsAt plain_access m (base + length front) middle
stands-part m base front middle back low inside word is =
    let long : length (front ++ (middle ++ back)) ≡ length front + (length middle + length back) =
    length-append front (middle ++ back) ∙ ap (λ (n : ℕ). length front + n) (length-append middle back) in
    stands-block m (base + length front) middle (omega arith) (omega arith) (omega arith) (λ k below.
    let here : base + length front + k ≡ base + (length front + k) = omega arith in
    let found = byte_at-block m base (length (front ++ (middle ++ back))) (length front + k) (omega arith) (omega arith) in
    ap (byte_at m) here
    ∙ (sym found
    ∙ (ap (λ (bytes : List ℕ). slice_index bytes (length front + k)) is ∙ inner front middle back k below)))

-- so an instruction of the code is an item
pub item-linked : (m : List ℕ) (base : ℕ) (front back : List ℕ) (f : Fun) (e : ℤ) → FitsSigned w32 e → IsCoded f → most_neg + 36 ≤ base
    → base + length (front ++ (coding f e ++ back)) ≤ most_neg + length m → base + length (front ++ (coding f e ++ back)) ≤ 2 ^ 32
    → block m base (length (front ++ (coding f e ++ back))) ≡ front ++ (coding f e ++ back)
    → IsItem m base (base + length (front ++ (coding f e ++ back))) f e (base + length front)
item-linked m base front back f e fits coded low inside word is =
    let long : length (front ++ (coding f e ++ back)) ≡ length front + (length (coding f e) + length back) =
    length-append front (coding f e ++ back) ∙ ap (λ (n : ℕ). length front + n) (length-append (coding f e) back) in
    record {
      fits = fits;
      coded = coded;
      low = omega arith;
      high = omega arith;
      bytes = stands-part m base front (coding f e) back low inside word is;
    }
