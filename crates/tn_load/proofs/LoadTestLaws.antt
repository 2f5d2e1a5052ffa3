-- What the tests of a loaded network tell.
use Rattle.std.proofs.Common.{◌≡◌, ◌⊎◌, inl, inr, ℕ, zero, suc, ◌+◌, ◌-◌, ◌*◌, ◌/◌, ◌%◌, ◌<◌, ◌≤◌, Bool, true, false, not, ◌&&◌}
use Rattle.std.proofs.Common.{List, [], ◌∷◌, length, take, drop}
use Rattle.std.proofs.Common.{map, Option, Some, None, Result, Ok, Err, refl, sym, ap, subst, ◌∙◌, arith}
use Rattle.std.specs.Prelude.{◌==◌, is_none, slice_get, slice_index_or, All}
use Rattle.std.specs.List.{list_all}
use Rattle.std.specs.Str.{bytes_eq}
use Rattle.std.proofs.lemmas.Bool.{cases_lt}
use Rattle.std.proofs.lemmas.Bool.Decides.{nat_tests}
use Rattle.std.proofs.lemmas.List.{length-drop, take_all}
use Rattle.std.proofs.lemmas.List.Elements.{All-cons, All-head, All-tail}
use Rattle.std.proofs.lemmas.Slice.Eq.{bytes_eq-Decides}
use Rattle.tn_word.specs.Words.{most_neg, not_process}
use Rattle.tn_mem.specs.declared.touches.Touch.{Touch}
use Rattle.tn_mem.specs.Memories.{block, load}
use Rattle.tn_cpu.specs.declared.registers.Reg.{Reg}
use Rattle.tn_cpu.specs.declared.registers.Reg.TheVariants.{Undefined, Word}
use Rattle.tn_node.specs.Engines.{engine_of}
use Rattle.tn_node.specs.Nodes.{NodeState, IsQuiet}
use Rattle.tn_node.proofs.Pokes.{each_link}
use Rattle.tn_network.specs.Boards.{BoardState, latch_at}
use Rattle.tn_network.specs.NodeOps.{stands_at}
use Rattle.tn_network.specs.Loads.{PlacedBytes, Target, StandsIn, IsLoadedNode, AreLoadedNodes, IsLoaded}
use Rattle.tn_network.proofs.WireLaws.{both}
use Rattle.tn_load.specs.LoadTests.{is_done, is_empty_at, holds_word, has_pointers, has_stack, are_shut, gave, has_no_timers}
use Rattle.tn_load.specs.LoadTests.{is_placed, is_started, is_loaded_node, are_loaded_nodes, is_loaded}

-- ---- tests

and-true : (a b : Bool) → a ≡ true → b ≡ true → (a && b) ≡ true
and-true true true ha hb = refl
and-true true false ha hb = cc
and-true false b ha hb = cc

and-false : (a b : Bool) → b ≡ false → (a && b) ≡ false
and-false true b e = e
and-false false b e = refl

same-number : (x y : ℕ) → x ≡ y → x == y ≡ true
same-number x y e = grind (arith, nat_tests)

number-same : (x y : ℕ) → x == y ≡ true → x ≡ y
number-same x y e = grind (arith, nat_tests)

not-true : (b : Bool) → not b ≡ true → b ≡ false
not-true true e = cc
not-true false e = refl

not-false : (b : Bool) → b ≡ false → not b ≡ true
not-false true e = cc
not-false false e = refl

none-true : {X : Type 0} (o : Option X) → is_none o ≡ true → o ≡ None
none-true None e = refl
none-true (Some x) e = cc

none-is : {X : Type 0} (o : Option X) → o ≡ None → is_none o ≡ true
none-is None e = refl
none-is (Some x) e = cc

word-told : (word : ℕ) (r : Reg) → holds_word word r ≡ true → r ≡ Word word
word-told word Undefined e = cc
word-told word (Word other) e = ap Word (number-same other word e)

word-is : (word : ℕ) (r : Reg) → r ≡ Word word → holds_word word r ≡ true
word-is word r e = rw e (same-number word word refl)

gave-told : (word : ℕ) (r : Result ℕ Touch) → gave word r ≡ true → r ≡ Ok word
gave-told word (Ok other) e = ap (λ w. Ok w) (number-same other word e)
gave-told word (Err touch) e = cc

gave-is : (word : ℕ) (r : Result ℕ Touch) → r ≡ Ok word → gave word r ≡ true
gave-is word r e = rw e (same-number word word refl)

-- ---- the host

no-bytes : (bytes : List ℕ) → length bytes == 0 ≡ true → bytes ≡ []
no-bytes [] e = refl
no-bytes (b ∷ bytes) e = absurd (let n = number-same (length (b ∷ bytes)) 0 e in omega (arith, n))

-- ---- pieces in a memory

-- bytes that reach behind a memory do not stand there
pub placed-behind : (m bytes : List ℕ) (base : ℕ) → length m - (base - most_neg) < length bytes
    → bytes_eq (block m base (length bytes)) bytes ≡ false
unfolding block
placed-behind m bytes base behind = go (bytes_eq (block m base (length bytes)) bytes) refl
  where
    go : (b : Bool) → bytes_eq (block m base (length bytes)) bytes ≡ b → b ≡ false
    go false e = refl
    go true e = absurd (
        let size : length (drop (base - most_neg) m) ≡ length m - (base - most_neg) = length-drop (base - most_neg) m in
        let whole : take (length bytes) (drop (base - most_neg) m) ≡ drop (base - most_neg) m =
        take_all (length bytes) (drop (base - most_neg) m) (omega (arith, size, behind)) in
        let same : take (length bytes) (drop (base - most_neg) m) ≡ bytes = (bytes_eq-Decides _ _).0 e in
        let count = ap length (sym whole ∙ same) in
        omega (arith, size, behind, count))

-- no bytes stand anywhere; all others do not stand behind a memory
placed-none : (m : List ℕ) (base : ℕ) → bytes_eq (block m base 0) [] ≡ true
unfolding block
placed-none m base = refl

pub placed-past : (m bytes : List ℕ) (base at : ℕ) (empty : Bool) → at ≡ base - most_neg
    → (length m < at) ⊎ (length m - at < length bytes) → empty ≡ (length bytes == 0)
    → empty ≡ bytes_eq (block m base (length bytes)) bytes
placed-past m [] base at empty is past none = none ∙ sym (placed-none m base)
placed-past m (b ∷ bytes) base at empty is past none =
    let some : (length (b ∷ bytes) == 0) ≡ false = grind (arith, nat_tests) in
    none ∙ some ∙ sym (placed-behind m (b ∷ bytes) base (elim past [
      | inl far ↦ omega (arith, is, far)
      | inr behind ↦ omega (arith, is, behind)
    ]))

-- where they stand
pub placed-here : (m bytes : List ℕ) (base at : ℕ) → at ≡ base - most_neg
    → bytes_eq (take (at + length bytes - at) (drop at m)) bytes ≡ bytes_eq (block m base (length bytes)) bytes
unfolding block
placed-here m bytes base at is =
    let count : at + length bytes - at ≡ length bytes = omega arith in
    ap (λ k. bytes_eq (take k (drop at m)) bytes) count ∙ ap (λ k. bytes_eq (take (length bytes) (drop k m)) bytes) is

pieces-told : (m : List ℕ) (pieces : List PlacedBytes) → list_all (λ piece. is_placed m piece) pieces ≡ true → All (StandsIn m) pieces
pieces-told m [] e = λ k d low. absurd (omega (arith, low))
pieces-told m (piece ∷ pieces) e =
    let parts = both (is_placed m piece) (list_all (λ p. is_placed m p) pieces) e in
    All-cons (StandsIn m) piece pieces ((bytes_eq-Decides _ _).0 parts.0) (pieces-told m pieces parts.1)

pieces-are : (m : List ℕ) (pieces : List PlacedBytes) → All (StandsIn m) pieces → list_all (λ piece. is_placed m piece) pieces ≡ true
pieces-are m [] e = refl
pieces-are m (piece ∷ pieces) e =
    and-true (is_placed m piece) (list_all (λ p. is_placed m p) pieces) ((bytes_eq-Decides _ _).1 (All-head (StandsIn m) piece pieces e))
    (pieces-are m pieces (All-tail (StandsIn m) piece pieces e))

-- those of the first elements of a list, one more
pub passes-more : {X Y Z : Type 0} (test : Z → Bool) (f : Y → Z) (g : X → Y) (xs : List X) (i : ℕ) (x : X) → i < length xs
    → x ≡ slice_index_or xs i x → list_all test (map f (map g (take i xs))) ≡ true → test (f (g x)) ≡ true
    → list_all test (map f (map g (take (i + 1) xs))) ≡ true
passes-more {X = X} {Y = Y} {Z = Z} test f g xs i x low at before here =
    let next : suc i ≡ i + 1 = omega arith in
    subst (λ (k : ℕ). list_all test (map f (map g (take k xs))) ≡ true) next (go xs i low at before)
  where
    go : (ys : List X) (k : ℕ) → k < length ys → x ≡ slice_index_or ys k x → list_all test (map f (map g (take k ys))) ≡ true
        → list_all test (map f (map g (take (suc k) ys))) ≡ true
    go [] k low at before = absurd (omega (arith, low))
    go (y ∷ ys) zero low at before = and-true (test (f (g y))) true (subst (λ (z : X). test (f (g z)) ≡ true) at here) refl
    go (y ∷ ys) (suc k) low at before =
        let parts = both (test (f (g y))) (list_all test (map f (map g (take k ys)))) before in
        and-true (test (f (g y))) (list_all test (map f (map g (take (suc k) ys)))) parts.0 (go ys k (omega (arith, low)) at parts.1)

-- all of them
pub passes-all : {X Y Z : Type 0} (test : Z → Bool) (f : Y → Z) (g : X → Y) (xs : List X) (i : ℕ) → length xs ≤ i
    → list_all test (map f (map g (take i xs))) ≡ true → list_all test (map f (map g xs)) ≡ true
passes-all {X = X} test f g xs i all before =
    subst (λ (ys : List X). list_all test (map f (map g ys)) ≡ true) (take_all i xs all) before

-- one that fails
pub fails-one : {X Y Z : Type 0} (test : Z → Bool) (f : Y → Z) (g : X → Y) (xs : List X) (i : ℕ) (x : X) → i < length xs
    → x ≡ slice_index_or xs i x → test (f (g x)) ≡ false → list_all test (map f (map g xs)) ≡ false
fails-one test f g [] i x low at here = absurd (omega (arith, low))
fails-one {X = X} test f g (y ∷ xs) zero x low at here =
    let e : test (f (g y)) ≡ false = subst (λ (z : X). test (f (g z)) ≡ false) at here in
    rw e refl
fails-one test f g (y ∷ xs) (suc i) x low at here =
    and-false (test (f (g y))) (list_all test (map f (map g xs))) (fails-one test f g xs i x (omega (arith, low)) at here)

-- ---- one processor

module _ (t : Target) (n : NodeState (List ℕ)) where
  pub node-told : is_loaded_node t n ≡ true → IsLoadedNode (λ m. m) n t
  node-told e =
      let whole = both (is_started t n) (list_all (λ piece. is_placed n.cpu.memory piece) t.pieces) e in
      let one = both (has_pointers t n) _ whole.0 in
      let two = both (has_stack t n) _ one.1 in
      let three = both (are_shut n) (has_no_timers n.cpu.memory) two.1 in
      let p0 = both (stands_at t.entry n) _ one.0 in
      let p1 = both (n.cpu.wptr == t.wptr) _ p0.1 in
      let p2 = both (holds_word not_process n.cpu.front) _ p1.1 in
      let p3 = both (not n.cpu.error) (not n.cpu.halt) p2.1 in
      let s0 = both (holds_word t.a n.cpu.a) _ two.0 in
      let s1 = both (holds_word t.b n.cpu.b) (holds_word t.c n.cpu.c) s0.1 in
      let l0 = both (is_none (engine_of n.inputs 0) && is_none (engine_of n.outputs 0)) _ three.0 in
      let l1 = both (is_none (engine_of n.inputs 1) && is_none (engine_of n.outputs 1)) _ l0.1 in
      let l2 = both (is_none (engine_of n.inputs 2) && is_none (engine_of n.outputs 2)) _ l1.1 in
      let e0 = both (is_none (engine_of n.inputs 0)) _ l0.0 in
      let e1 = both (is_none (engine_of n.inputs 1)) _ l1.0 in
      let e2 = both (is_none (engine_of n.inputs 2)) _ l2.0 in
      let e3 = both (is_none (engine_of n.inputs 3)) _ l2.1 in
      let timers = both (gave not_process (load n.cpu.memory 0x80000024)) _ three.1 in
      let quiet : IsQuiet n = (
        (none-true _ e0.0, none-true _ e1.0, none-true _ e2.0, none-true _ e3.0),
        (none-true _ e0.1, none-true _ e1.1, none-true _ e2.1, none-true _ e3.1),
      ) in
      record {
        stands = p0.0;
        wptr = number-same _ _ p1.0;
        queue = word-told _ _ p2.0;
        error = not-true _ p3.0;
        halt = not-true _ p3.1;
        a = word-told _ _ s0.0;
        b = word-told _ _ s1.0;
        c = word-told _ _ s1.1;
        quiet = quiet;
        high_timer = gave-told _ _ timers.0;
        low_timer = gave-told _ _ timers.1;
        whole = pieces-told n.cpu.memory t.pieces whole.1;
      }

  pub node-is : IsLoadedNode (λ m. m) n t → is_loaded_node t n ≡ true
  node-is h =
      let closed_inputs = h.quiet.0 in
      let closed_outputs = h.quiet.1 in
      let pointers : has_pointers t n ≡ true = and-true _ _ h.stands (and-true _ _ (same-number _ _ h.wptr)
      (and-true _ _ (word-is _ _ h.queue) (and-true _ _ (not-false _ h.error) (not-false _ h.halt)))) in
      let stack : has_stack t n ≡ true = and-true _ _ (word-is _ _ h.a) (and-true _ _ (word-is _ _ h.b) (word-is _ _ h.c)) in
      let shut : are_shut n ≡ true = and-true _ _ (and-true _ _ (none-is _ closed_inputs.0) (none-is _ closed_outputs.0))
      (and-true _ _ (and-true _ _ (none-is _ closed_inputs.1) (none-is _ closed_outputs.1))
      (and-true _ _ (and-true _ _ (none-is _ closed_inputs.2) (none-is _ closed_outputs.2))
      (and-true _ _ (none-is _ closed_inputs.3) (none-is _ closed_outputs.3)))) in
      let timers : has_no_timers n.cpu.memory ≡ true = and-true _ _ (gave-is _ _ h.high_timer) (gave-is _ _ h.low_timer) in
      let started : is_started t n ≡ true =
      and-true (has_pointers t n) (has_stack t n && (are_shut n && has_no_timers n.cpu.memory)) pointers
      (and-true (has_stack t n) (are_shut n && has_no_timers n.cpu.memory) stack
      (and-true (are_shut n) (has_no_timers n.cpu.memory) shut timers)) in
      and-true (is_started t n) (list_all (λ piece. is_placed n.cpu.memory piece) t.pieces) started
      (pieces-are n.cpu.memory t.pieces h.whole)

-- ---- all processors

abbrev Each : List (NodeState (List ℕ)) → List Target → ℕ → Type 0
Each nodes targets count =
    (p : ℕ) (n : NodeState (List ℕ)) (t : Target) → p < count → slice_get nodes p ≡ Some n → slice_get targets p ≡ Some t
    → IsLoadedNode (λ m. m) n t

pub each-all : (nodes : List (NodeState (List ℕ))) (targets : List Target) → length targets ≡ length nodes → Each nodes targets
    (length nodes)
    → AreLoadedNodes (λ m. m) nodes targets
each-all [] [] same each = tt
each-all [] (t ∷ targets) same each = absurd (omega (arith, same))
each-all (n ∷ nodes) [] same each = absurd (omega (arith, same))
each-all (n ∷ nodes) (t ∷ targets) same each =
    (each 0 n t (omega arith) refl refl, each-all nodes targets (omega (arith, same)) (λ p m u low. each (suc p) m u (omega (arith, low))))

pub all-each : (nodes : List (NodeState (List ℕ))) (targets : List Target) → AreLoadedNodes (λ m. m) nodes targets → (p : ℕ)
    (n : NodeState (List ℕ)) (t : Target) → slice_get nodes p ≡ Some n → slice_get targets p ≡ Some t → IsLoadedNode (λ m. m) n t
all-each [] targets all p n t here there = cc
all-each (m ∷ nodes) [] all p n t here there = cc
all-each (m ∷ nodes) (u ∷ targets) all zero n t here there =
    let first : m ≡ n = cc in
    let second : u ≡ t = cc in
    subst (λ (x : NodeState (List ℕ)). IsLoadedNode (λ m. m) x t) first
    (subst (λ (y : Target). IsLoadedNode (λ m. m) m y) second all.0)
all-each (m ∷ nodes) (u ∷ targets) all (suc p) n t here there = all-each nodes targets all.1 p n t here there

pub each-more : (nodes : List (NodeState (List ℕ))) (targets : List Target) (p : ℕ) (n : NodeState (List ℕ)) (t : Target)
    → slice_get nodes p ≡ Some n → slice_get targets p ≡ Some t → is_loaded_node t n ≡ true → Each nodes targets p
    → Each nodes targets (p + 1)
each-more nodes targets p n t here there loaded each = λ q m u low at to. elim (cases_more q low) [
  | inl small ↦ each q m u small at to
  | inr same ↦
      let first : n ≡ m = let e : Some n ≡ Some m = sym here ∙ ap (λ k. slice_get nodes k) (sym same) ∙ at in cc in
      let second : t ≡ u = let e : Some t ≡ Some u = sym there ∙ ap (λ k. slice_get targets k) (sym same) ∙ to in cc in
      subst (λ (x : NodeState (List ℕ)). IsLoadedNode (λ m. m) x u) first
      (subst (λ (y : Target). IsLoadedNode (λ m. m) n y) second (node-told t n loaded))
]
  where
    cases_more : (q : ℕ) → q < p + 1 → (q < p) ⊎ (q ≡ p)
    cases_more q low = grind arith

-- one that is not loaded
pub not-all : (nodes : List (NodeState (List ℕ))) (targets : List Target) (p : ℕ) (n : NodeState (List ℕ)) (t : Target)
    → slice_get nodes p ≡ Some n → slice_get targets p ≡ Some t → is_loaded_node t n ≡ false
    → AreLoadedNodes (λ m. m) nodes targets → ⊥
not-all nodes targets p n t here there bad all =
    let clash : false ≡ true = sym bad ∙ node-is t n (all-each nodes targets all p n t here there) in cc

-- the element of a list that is mapped twice
pub get-map : {X Y Z : Type 0} (f : Y → Z) (g : X → Y) (xs : List X) (i : ℕ) (x : X) → i < length xs → x ≡ slice_index_or xs i x
    → slice_get (map f (map g xs)) i ≡ Some (f (g x))
get-map f g [] i x low at = absurd (omega (arith, low))
get-map f g (y ∷ xs) zero x low at = ap (λ z. Some (f (g z))) (sym at)
get-map f g (y ∷ xs) (suc i) x low at = get-map f g xs i x (omega (arith, low)) at

pub length-maps : {X Y Z : Type 0} (f : Y → Z) (g : X → Y) (xs : List X) → length (map f (map g xs)) ≡ length xs
length-maps f g [] = refl
length-maps f g (x ∷ xs) = ap suc (length-maps f g xs)

-- ---- latches

-- what holds of the first, and of one more
pub one-more : (P : ℕ → Type 0) (p : ℕ) → ((q : ℕ) → q < p → P q) → P p → (q : ℕ) → q < p + 1 → P q
one-more P p before here q low = elim (cases_lt q p) [
  | inl small ↦ before q small
  | inr large ↦ subst P (let same : p ≡ q = omega (arith, low, large) in same) here
]

none-at : (latches : List (Option ℕ)) → All (λ byte. byte ≡ None) latches → (k : ℕ) → slice_index_or latches k None ≡ None
none-at [] all k = refl
none-at (x ∷ latches) all zero = All-head (λ byte. byte ≡ None) x latches all
none-at (x ∷ latches) all (suc k) = none-at latches (All-tail (λ byte. byte ≡ None) x latches all) k

none-all : (latches : List (Option ℕ)) → ((k : ℕ) → k < length latches → slice_index_or latches k None ≡ None)
    → All (λ byte. byte ≡ None) latches
none-all [] each = λ k d low. absurd (omega (arith, low))
none-all (x ∷ latches) each =
    All-cons (λ byte. byte ≡ None) x latches (each 0 (omega arith)) (none-all latches (λ k low. each (suc k) (omega (arith, low))))

pub empty-is : (latches : List (Option ℕ)) (p : ℕ) → All (λ byte. byte ≡ None) latches → is_empty_at latches p ≡ true
empty-is latches p all =
    and-true _ _ (none-is _ (none-at latches all (4 * p + 0))) (and-true _ _ (none-is _ (none-at latches all (4 * p + 1)))
    (and-true _ _ (none-is _ (none-at latches all (4 * p + 2))) (none-is _ (none-at latches all (4 * p + 3)))))

pub empty-told : (latches : List (Option ℕ)) (count : ℕ) → length latches ≡ 4 * count
    → ((p : ℕ) → p < count → is_empty_at latches p ≡ true) → All (λ byte. byte ≡ None) latches
empty-told latches count size each = none-all latches (λ k low.
    let four = each (k / 4) (omega (arith, low, size)) in
    let one = both (is_none (latch_at latches (k / 4) 0)) _ four in
    let two = both (is_none (latch_at latches (k / 4) 1)) _ one.1 in
    let three = both (is_none (latch_at latches (k / 4) 2)) _ two.1 in
    let here : latch_at latches (k / 4) (k % 4) ≡ None = each_link (λ l. latch_at latches (k / 4) l ≡ None) (none-true _ one.0)
    (none-true _ two.0) (none-true _ three.0) (none-true _ three.1) (k % 4) (omega arith) in
    let place : k ≡ 4 * (k / 4) + k % 4 = omega arith in
    ap (λ j. slice_index_or latches j None) place ∙ here)

-- ---- the whole

pub not-done : (s : BoardState (NodeState (List ℕ))) (targets : List Target) → is_done s.host ≡ false
    → IsLoaded (λ m. m) s targets → ⊥
not-done s targets bad h =
    let left : length s.host.left == 0 ≡ true = same-number (length s.host.left) 0 (ap length h.left) in
    let done : is_done s.host ≡ true = and-true _ _ left (and-true _ _ (not-false _ h.sent) (none-is _ h.host_latch)) in
    let clash : false ≡ true = sym bad ∙ done in
    cc

pub all-loaded : (s : BoardState (NodeState (List ℕ))) (targets : List Target) → is_done s.host ≡ true
    → All (λ byte. byte ≡ None) s.latches → AreLoadedNodes (λ m. m) s.nodes targets → IsLoaded (λ m. m) s targets
all-loaded s targets done latches nodes =
    let one = both (length s.host.left == 0) _ done in
    let two = both (not s.host.sent) (is_none s.host.latch) one.1 in
    record {
      left = no-bytes s.host.left one.0;
      sent = not-true _ two.0;
      host_latch = none-true _ two.1;
      latches = latches;
      nodes = nodes;
    }

-- ---- the test of a whole board

nodes-told : (nodes : List (NodeState (List ℕ))) (targets : List Target) → are_loaded_nodes nodes targets ≡ true
    → AreLoadedNodes (λ m. m) nodes targets
unfolding are_loaded_nodes
nodes-told [] [] e = tt
nodes-told [] (t ∷ targets) e = absurd (let clash : false ≡ true = e in cc)
nodes-told (n ∷ nodes) [] e = absurd (let clash : false ≡ true = e in cc)
nodes-told (n ∷ nodes) (t ∷ targets) e =
    let parts = both (is_loaded_node t n) (are_loaded_nodes nodes targets) e in
    (node-told t n parts.0, nodes-told nodes targets parts.1)

nodes-are : (nodes : List (NodeState (List ℕ))) (targets : List Target) → AreLoadedNodes (λ m. m) nodes targets
    → are_loaded_nodes nodes targets ≡ true
unfolding are_loaded_nodes
nodes-are [] [] all = refl
nodes-are [] (t ∷ targets) all = absurd all
nodes-are (n ∷ nodes) [] all = absurd all
nodes-are (n ∷ nodes) (t ∷ targets) all =
    and-true (is_loaded_node t n) (are_loaded_nodes nodes targets) (node-is t n all.0) (nodes-are nodes targets all.1)

latches-told : (latches : List (Option ℕ)) → list_all is_none latches ≡ true → All (λ byte. byte ≡ None) latches
latches-told [] e = λ k d low. absurd (omega (arith, low))
latches-told (x ∷ latches) e =
    let parts = both (is_none x) (list_all is_none latches) e in
    All-cons (λ byte. byte ≡ None) x latches (none-true x parts.0) (latches-told latches parts.1)

latches-are : (latches : List (Option ℕ)) → All (λ byte. byte ≡ None) latches → list_all is_none latches ≡ true
latches-are [] all = refl
latches-are (x ∷ latches) all =
    and-true (is_none x) (list_all is_none latches) (none-is x (All-head (λ byte. byte ≡ None) x latches all))
    (latches-are latches (All-tail (λ byte. byte ≡ None) x latches all))

pub board-told : (s : BoardState (NodeState (List ℕ))) (targets : List Target) → is_loaded s targets ≡ true
    → IsLoaded (λ m. m) s targets
board-told s targets e =
    let one = both (is_done s.host) (list_all is_none s.latches && are_loaded_nodes s.nodes targets) e in
    let two = both (list_all is_none s.latches) (are_loaded_nodes s.nodes targets) one.1 in
    all-loaded s targets one.0 (latches-told s.latches two.0) (nodes-told s.nodes targets two.1)

pub board-is : (s : BoardState (NodeState (List ℕ))) (targets : List Target) → IsLoaded (λ m. m) s targets
    → is_loaded s targets ≡ true
board-is s targets h =
    let left : length s.host.left == 0 ≡ true = same-number (length s.host.left) 0 (ap length h.left) in
    let done : is_done s.host ≡ true = and-true _ _ left (and-true _ _ (not-false _ h.sent) (none-is _ h.host_latch)) in
    and-true (is_done s.host) (list_all is_none s.latches && are_loaded_nodes s.nodes targets) done
    (and-true (list_all is_none s.latches) (are_loaded_nodes s.nodes targets) (latches-are s.latches h.latches)
    (nodes-are s.nodes targets h.nodes))

-- the answer of a test that tells exactly whether a board is loaded
pub tested-is : (b : Bool) (s : BoardState (NodeState (List ℕ))) (targets : List Target) → (b ≡ true → IsLoaded (λ m. m) s targets)
    → (IsLoaded (λ m. m) s targets → b ≡ true) → b ≡ is_loaded s targets
tested-is true s targets to from = sym (board-is s targets (to refl))
tested-is false s targets to from = go (is_loaded s targets) refl
  where
    go : (l : Bool) → is_loaded s targets ≡ l → false ≡ l
    go false e = refl
    go true e = from (board-told s targets e)
