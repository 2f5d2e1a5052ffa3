-- Lists of nodes of which one is changed, and lists of latches of which one is set.
use Rattle.std.proofs.Common.{◌≡◌, ◌≢◌, ℕ, zero, suc, ◌+◌, ◌*◌, ◌<◌, ◌⊎◌, inl, inr, Bool, true, false, List, [], ◌∷◌, length, get_or}
use Rattle.std.proofs.Common.{get_or-set_same, get_or-set_other, Option, Some, None, refl, sym, ap, subst, ◌∙◌, arith}
use Rattle.std.specs.Prelude.{slice_get, slice_set, slice_index_or}
use Rattle.std.proofs.lemmas.Bool.{cases_eq}
use Rattle.std.proofs.lemmas.Option.{slice_get_read, slice_get_within, same_Some}
use Rattle.tn_network.specs.Boards.{given, at_node, changed, latch_at}

-- ---- one node

pub slice_get-changed_same : {N : Type 0} (f : N → N) (nodes : List N) (p : ℕ) (n : N) → slice_get nodes p ≡ Some n
    → slice_get (changed f nodes p) p ≡ Some (f n)
unfolding changed
slice_get-changed_same f [] p n is = cc
slice_get-changed_same f (x ∷ nodes) zero n is = ap (λ m. Some (f m)) (let e : x ≡ n = cc in e)
slice_get-changed_same f (x ∷ nodes) (suc p) n is = slice_get-changed_same f nodes p n is

pub slice_get-changed_other : {N : Type 0} (f : N → N) (nodes : List N) (p q : ℕ) → q ≢ p
    → slice_get (changed f nodes p) q ≡ slice_get nodes q
unfolding changed
slice_get-changed_other f [] p q apart = refl
slice_get-changed_other f (x ∷ nodes) zero zero apart = absurd (apart refl)
slice_get-changed_other f (x ∷ nodes) zero (suc q) apart = refl
slice_get-changed_other f (x ∷ nodes) (suc p) zero apart = refl
slice_get-changed_other f (x ∷ nodes) (suc p) (suc q) apart = slice_get-changed_other f nodes p q (λ e. apart (ap suc e))

-- the changed one was there before
pub slice_get-changed_was : {N : Type 0} (f : N → N) (nodes : List N) (p : ℕ) (m : N) → slice_get (changed f nodes p) p ≡ Some m
    → (n : N) × (slice_get nodes p ≡ Some n) × (m ≡ f n)
unfolding changed
slice_get-changed_was f [] p m is = cc
slice_get-changed_was f (x ∷ nodes) zero m is = (x, refl, cc)
slice_get-changed_was f (x ∷ nodes) (suc p) m is = slice_get-changed_was f nodes p m is

pub length-changed : {N : Type 0} (f : N → N) (nodes : List N) (p : ℕ) → length (changed f nodes p) ≡ length nodes
unfolding changed
length-changed f [] p = refl
length-changed f (x ∷ nodes) zero = refl
length-changed f (x ∷ nodes) (suc p) = ap suc (length-changed f nodes p)

pub changed-set : {N : Type 0} (f : N → N) (nodes : List N) (p : ℕ) (n : N) → slice_get nodes p ≡ Some n
    → changed f nodes p ≡ slice_set nodes p (f n)
unfolding changed
changed-set f [] p n is = cc
changed-set f (x ∷ nodes) zero n is = ap (λ m. f m ∷ nodes) (let e : x ≡ n = cc in e)
changed-set f (x ∷ nodes) (suc p) n is = ap (λ ns. x ∷ ns) (changed-set f nodes p n is)

-- a node that was read is at its place, and in its place its change
pub slice_get-at : {N : Type 0} (nodes : List N) (p : ℕ) (x : N) → p < length nodes → x ≡ slice_index_or nodes p x
    → slice_get nodes p ≡ Some x
slice_get-at nodes p x within read = slice_get_read nodes (length nodes) p x refl within read

pub changed_at : {N : Type 0} (f : N → N) (nodes : List N) (p : ℕ) (x y : N) → p < length nodes → x ≡ slice_index_or nodes p x → y ≡ f x
    → slice_set nodes p y ≡ changed f nodes p
changed_at f nodes p x y within read is =
    ap (λ z. slice_set nodes p z) is ∙ sym (changed-set f nodes p x (slice_get-at nodes p x within read))

-- ---- what holds of each node

-- of each below a place and of the one there
pub each_more : {N : Type 0} (P : N → Type 0) (nodes : List N) (i : ℕ) (x : N) → i < length nodes → x ≡ slice_index_or nodes i x → P x
    → ((p : ℕ) (n : N) → p < i → slice_get nodes p ≡ Some n → P n) → (p : ℕ) (n : N) → p < i + 1 → slice_get nodes p ≡ Some n → P n
each_more {N = N} P nodes i x within read here below p n small at = elim (cases_eq p i) [
  | inl e ↦
      let there : slice_get nodes i ≡ Some n = ap (λ k. slice_get nodes k) (sym e) ∙ at in
      let same : Some x ≡ Some n = sym (slice_get-at nodes i x within read) ∙ there in
      subst P (same_Some x n same) here
  | inr other ↦ below p n (omega arith) at
]

-- of each below the length
pub each_all : {N : Type 0} (P : N → Type 0) (nodes : List N) → ((p : ℕ) (n : N) → p < length nodes → slice_get nodes p ≡ Some n → P n)
    → (p : ℕ) (n : N) → slice_get nodes p ≡ Some n → P n
each_all P nodes below p n at = below p n (slice_get_within nodes p n at) at

-- ---- what holds of one node

-- a test that is met at a place is met by the node there
pub at_node-met : {N : Type 0} (test : N → Bool) (nodes : List N) (p : ℕ) → at_node false test nodes p ≡ true
    → (n : N) × (slice_get nodes p ≡ Some n) × (test n ≡ true)
at_node-met {N = N} test nodes p met = go (slice_get nodes p) refl met
  where
    go : (o : Option N) → slice_get nodes p ≡ o → given false test o ≡ true → (n : N) × (slice_get nodes p ≡ Some n) × (test n ≡ true)
    go None is h = cc
    go (Some n) is h = (n, is, h)

-- and a value that is given there is that of the node
pub at_node-given : {N Y : Type 0} (f : N → Option Y) (nodes : List N) (p : ℕ) (y : Y) → at_node None f nodes p ≡ Some y
    → (n : N) × (slice_get nodes p ≡ Some n) × (f n ≡ Some y)
at_node-given {N = N} {Y = Y} f nodes p y met = go (slice_get nodes p) refl met
  where
    go : (o : Option N) → slice_get nodes p ≡ o → given None f o ≡ Some y → (n : N) × (slice_get nodes p ≡ Some n) × (f n ≡ Some y)
    go None is h = cc
    go (Some n) is h = (n, is, h)

-- a change that leaves what a function gives of the node leaves it at every place
pub at_node-changed : {N Y : Type 0} (other : Y) (g : N → Y) (f : N → N) (nodes : List N) (p q : ℕ)
    → ((n : N) → slice_get nodes p ≡ Some n → g (f n) ≡ g n) → at_node other g (changed f nodes p) q ≡ at_node other g nodes q
unfolding changed
at_node-changed other g f [] p q same = refl
at_node-changed other g f (x ∷ nodes) zero zero same = same x refl
at_node-changed other g f (x ∷ nodes) zero (suc q) same = refl
at_node-changed other g f (x ∷ nodes) (suc p) zero same = refl
at_node-changed other g f (x ∷ nodes) (suc p) (suc q) same = at_node-changed other g f nodes p q same

pub at_node-changed_other : {N Y : Type 0} (other : Y) (g : N → Y) (f : N → N) (nodes : List N) (p q : ℕ) → q ≢ p
    → at_node other g (changed f nodes p) q ≡ at_node other g nodes q
at_node-changed_other other g f nodes p q apart = ap (λ o. given other g o) (slice_get-changed_other f nodes p q apart)

-- what holds of every node holds of each after one is changed
pub each-changed : {N : Type 0} (P : N → Type 0) (f : N → N) (nodes : List N) (p : ℕ)
    → ((n : N) → slice_get nodes p ≡ Some n → P n → P (f n)) → ((q : ℕ) (n : N) → slice_get nodes q ≡ Some n → P n)
    → (q : ℕ) (n : N) → slice_get (changed f nodes p) q ≡ Some n → P n
each-changed {N = N} P f nodes p keeps each q n is = elim (cases_eq q p) [
  | inl e ↦
      let at : slice_get (changed f nodes p) p ≡ Some n = ap (λ k. slice_get (changed f nodes p) k) (sym e) ∙ is in
      let was = slice_get-changed_was f nodes p n at in
      let kept : P (f was.0) = keeps was.0 was.1 (each p was.0 was.1) in
      subst P (sym was.2) kept
  | inr apart ↦ each q n (sym (slice_get-changed_other f nodes p q apart) ∙ is)
]

-- ---- ends of links

-- two ends are the same or not
pub cases_end : (p l q m : ℕ) → ((q ≡ p) × (m ≡ l)) ⊎ ((q ≡ p) × (m ≡ l) → ⊥)
cases_end p l q m = elim (cases_eq q p) [
  | inl e ↦ elim (cases_eq m l) [ inl f ↦ inl (e, f) | inr g ↦ inr (λ both. g both.1) ]
  | inr g ↦ inr (λ both. g both.0)
]

pub latch-set_same : (latches : List (Option ℕ)) (p l : ℕ) (x : Option ℕ) → 4 * p + l < length latches
    → latch_at (slice_set latches (4 * p + l) x) p l ≡ x
latch-set_same latches p l x within = get_or-set_same latches (4 * p + l) x None within

pub latch-set_other : (latches : List (Option ℕ)) (p l q m : ℕ) (x : Option ℕ) → l < 4 → m < 4 → ((q ≡ p) × (m ≡ l) → ⊥)
    → latch_at (slice_set latches (4 * p + l) x) q m ≡ latch_at latches q m
latch-set_other latches p l q m x low below apart =
    let places : 4 * q + m ≢ 4 * p + l = λ e. apart (omega arith, omega arith) in
    get_or-set_other latches (4 * p + l) (4 * q + m) x None places

-- what a list of latches of which one is set holds at a place is what was set, or what it held there
pub latch-set : (latches : List (Option ℕ)) (i j : ℕ) (x : Option ℕ)
    → (slice_index_or (slice_set latches i x) j None ≡ x) ⊎ (slice_index_or (slice_set latches i x) j None ≡ slice_index_or latches j None)
latch-set [] i j x = inr refl
latch-set (y ∷ latches) zero zero x = inl refl
latch-set (y ∷ latches) zero (suc j) x = inr refl
latch-set (y ∷ latches) (suc i) zero x = inr refl
latch-set (y ∷ latches) (suc i) (suc j) x = latch-set latches i j x
