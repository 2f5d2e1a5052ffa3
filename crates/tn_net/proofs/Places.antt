-- Names and their places, and ends.
use Rattle.std.proofs.Common.{◌≡◌, ℕ, ◌+◌, ◌<◌, ◌≤◌, List, length, take, sym, ◌∙◌, ap, subst, arith, true, false, Option, Some, None}
use Rattle.std.proofs.Common.{get_or, below_more}
use Rattle.std.proofs.lemmas.List.{get_or-take, length-take-le, get_or_read}
use Rattle.std.specs.Option.{is_some, MatchOption}
use Rattle.tn_net.specs.declared.lines.LinkEnd.{LinkEnd}
use Rattle.tn_net.specs.Lines.{name_at, IsNamed, IsKnown, IsRepeated, AreDistinct}
use Rattle.tn_net.specs.Networks.{end_of}

-- the first names are those of the list
pub name_before : (names : List (List ℕ × ℕ × ℕ)) (i j : ℕ) → j < i → name_at (take i names) j ≡ name_at names j
name_before names i j h = ap (λ (x : List ℕ × ℕ × ℕ). x.0) (get_or-take i names j _ h)

-- a name among those before is repeated
pub repeated_before : (names : List (List ℕ × ℕ × ℕ)) (i p : ℕ) → i ≤ length names → IsNamed (take i names) (name_at names i) p
    → IsRepeated names i
repeated_before names i p h named =
    let below : p < i = omega (arith, named.here, length-take-le i names h) in
    (p, below, sym (name_before names i p below) ∙ named.called)

-- a name that is not among those before is not repeated
pub distinct_more : (names : List (List ℕ × ℕ × ℕ)) (i : ℕ) → i ≤ length names → AreDistinct names i
    → (IsKnown (take i names) (name_at names i) → ⊥) → AreDistinct names (i + 1)
distinct_more names i h before none =
    below_more (λ k. IsRepeated names k → ⊥) i before
    (λ r. none (r.0, record { here = omega (arith, r.1, length-take-le i names h); called = name_before names i r.0 r.1 ∙ r.2 }))

-- a name stands at one place
pub one_place : (names : List (List ℕ × ℕ × ℕ)) (p q : ℕ) → AreDistinct names (length names) → p < length names → q < length names
    → name_at names p ≡ name_at names q → p ≡ q
one_place names p q distinct hp hq same =
    let a : p < q → ⊥ = λ h. distinct q hq (p, h, same) in
    let b : q < p → ⊥ = λ h. distinct p hp (q, h, sym same) in
    omega (arith, a, b)

-- an end, by the place of its processor
pub end_is : (names : List (List ℕ × ℕ × ℕ)) (end : LinkEnd) (p : ℕ) → IsNamed names end.name p → end ≡ end_of names p end.link
end_is names end p named = ap (λ (n : List ℕ). let e : LinkEnd = record { name = n; link = end.link } in e) (sym named.called)

-- an end is one link of one processor
pub one_end : (names : List (List ℕ × ℕ × ℕ)) (end : LinkEnd) (p q m : ℕ) → AreDistinct names (length names) → IsNamed names end.name p
    → q < length names → end ≡ end_of names q m → (q ≡ p) × (m ≡ end.link)
one_end names end p q m distinct named hq same = (
  one_place names q p distinct hq named.here (sym (named.called ∙ ap (λ (e : LinkEnd). e.name) same)),
  sym (ap (λ (e : LinkEnd). e.link) same),
)

pub some_same : {A : Type 0} (a b : A) → Some a ≡ Some b → a ≡ b
some_same a b h = cc

-- what a read of a processor tells of its name
pub name_read : (names : List (List ℕ × ℕ × ℕ)) (i : ℕ) (x : List ℕ × ℕ × ℕ) → i < length names → x ≡ get_or names i x
    → x.0 ≡ name_at names i
name_read names i x h is = ap (λ (y : List ℕ × ℕ × ℕ). y.0) (get_or_read names i x h is _)

-- a name found among those before is repeated
pub found_before : (names : List (List ℕ × ℕ × ℕ)) (i : ℕ) (x : List ℕ × ℕ × ℕ) (found : Option ℕ) → i < length names
    → x ≡ get_or names i x → is_some found ≡ true → MatchOption found (IsKnown (take i names) x.0 → ⊥) (λ p. IsNamed (take i names) x.0 p)
    → IsRepeated names i
found_before names i x None h is some told = cc
found_before names i x (Some p) h is some told =
    repeated_before names i p (omega (arith, h)) (subst (λ n. IsNamed (take i names) n p) (name_read names i x h is) told)

-- one not found is not
pub found_none : (names : List (List ℕ × ℕ × ℕ)) (i : ℕ) (x : List ℕ × ℕ × ℕ) (found : Option ℕ) → i < length names → x ≡ get_or names i x
    → is_some found ≡ false → MatchOption found (IsKnown (take i names) x.0 → ⊥) (λ p. IsNamed (take i names) x.0 p) → AreDistinct names i
    → AreDistinct names (i + 1)
found_none names i x None h is none told before =
    distinct_more names i (omega (arith, h)) before (subst (λ n. IsKnown (take i names) n → ⊥) (name_read names i x h is) told)
found_none names i x (Some p) h is none told before = cc
