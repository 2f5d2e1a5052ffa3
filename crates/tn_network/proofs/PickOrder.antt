-- The order of picks by their numbers, and the first that is enabled.
use Rattle.std.proofs.Common.{◌≡◌, ◌≢◌, ℕ, zero, suc, ◌+◌, ◌-◌, ◌*◌, ◌/◌, ◌%◌, ◌<◌, ◌≤◌, ◌==◌, ◌⊎◌, inl, inr, Bool, true, false, cond}
use Rattle.std.proofs.Common.{List, [], ◌∷◌, ◌++◌, length, get_or, reverse, Option, Some, None, refl, sym, ap, subst, ◌∙◌, arith, add-zero}
use Rattle.std.specs.Prelude.{slice_get, find, nat_lt, nat_le, if◌then◌else◌}
use Rattle.std.proofs.lemmas.Bool.{cases_lt}
use Rattle.std.proofs.lemmas.Bool.Decides.{nat_tests}
use Rattle.std.proofs.lemmas.List.{length-append, length-reverse, get_or-reverse}
use Rattle.std.proofs.lemmas.Option.{slice_get_within, slice_get-get_or, get_or_from_slice_get}
use Rattle.tn_network.specs.declared.picks.Pick.{Pick}
use Rattle.tn_network.specs.declared.picks.Pick.TheVariants.{HostSend, HostTake, Proc, Send, Take}
use Rattle.tn_network.specs.PickLists.{picks_of, picks_from, picks}
use Rattle.tn_network.specs.Inner.PickBits.{pick_of, numbered, first_number}

-- ---- numbers

pub numbered-pick : (p kind : ℕ) → kind < 9 → numbered (first_number p + kind) ≡ pick_of p kind
unfolding numbered
numbered-pick p kind small =
    let k : ℕ = first_number p + kind in
    let zero : (first_number p + kind) == 0 ≡ false = grind (arith, nat_tests) in
    let one : (first_number p + kind) == 1 ≡ false = grind (arith, nat_tests) in
    let processor : (first_number p + kind - 2) / 9 ≡ p = omega arith in
    let same : (first_number p + kind - 2) % 9 ≡ kind = omega arith in
    rw (zero, one, processor, same) refl

-- a number from 2 on is that of a pick of a processor
pub parts : (k : ℕ) → 2 ≤ k → (p : ℕ) × (kind : ℕ) × (kind < 9) × (k ≡ first_number p + kind)
parts k large = ((k - 2) / 9, (k - 2) % 9, omega arith, omega arith)

-- ---- the list of all picks

length-picks_from : (p count : ℕ) → length (picks_from p count) ≡ 9 * count
unfolding picks_from
length-picks_from p zero = refl
length-picks_from p (suc count) = let rest = length-picks_from (p + 1) count in omega arith

pub length-picks : (count : ℕ) → length (picks count) ≡ first_number count
unfolding picks
length-picks count = let rest = length-picks_from 0 count in omega arith

picks_from-get : (p count k : ℕ) → k < 9 * count → slice_get (picks_from p count) k ≡ Some (pick_of (p + k / 9) (k % 9))
unfolding picks_from
picks_from-get p zero k within = absurd (omega arith)
picks_from-get p (suc count) zero within = rw add-zero refl
picks_from-get p (suc count) (suc zero) within = rw add-zero refl
picks_from-get p (suc count) (suc (suc zero)) within = rw add-zero refl
picks_from-get p (suc count) (suc (suc (suc zero))) within = rw add-zero refl
picks_from-get p (suc count) (suc (suc (suc (suc zero)))) within = rw add-zero refl
picks_from-get p (suc count) (suc (suc (suc (suc (suc zero))))) within = rw add-zero refl
picks_from-get p (suc count) (suc (suc (suc (suc (suc (suc zero)))))) within = rw add-zero refl
picks_from-get p (suc count) (suc (suc (suc (suc (suc (suc (suc zero))))))) within = rw add-zero refl
picks_from-get p (suc count) (suc (suc (suc (suc (suc (suc (suc (suc zero)))))))) within = rw add-zero refl
picks_from-get p (suc count) (suc (suc (suc (suc (suc (suc (suc (suc (suc k))))))))) within =
    let next : ℕ = suc (suc (suc (suc (suc (suc (suc (suc (suc k)))))))) in
    let processor : p + 1 + k / 9 ≡ p + suc (suc (suc (suc (suc (suc (suc (suc (suc k)))))))) / 9 = omega arith in
    let kind : k % 9 ≡ suc (suc (suc (suc (suc (suc (suc (suc (suc k)))))))) % 9 = omega arith in
    rw (sym processor, sym kind) (picks_from-get (p + 1) count k (omega arith))

pub picks-get : (count k : ℕ) → k < first_number count → slice_get (picks count) k ≡ Some (numbered k)
unfolding picks numbered
picks-get count zero within = refl
picks-get count (suc zero) within = refl
picks-get count (suc (suc k)) within =
    let other : suc (suc k) == 0 ≡ false = grind (arith, nat_tests) in
    let another : suc (suc k) == 1 ≡ false = grind (arith, nat_tests) in
    let same : suc (suc k) - 2 ≡ k = omega arith in
    let first : 0 + k / 9 ≡ k / 9 = omega arith in
    rw (other, another, same) (rw first at (picks_from-get 0 count k (omega arith)))

-- ---- the first that passes a test

pub find-place : {X : Type 0} (test : X → Bool) (xs : List X) (k : ℕ) (x : X) → slice_get xs k ≡ Some x → test x ≡ true
    → ((j : ℕ) (y : X) → j < k → slice_get xs j ≡ Some y → test y ≡ false) → find test xs ≡ Some x
find-place test [] k x at met before = cc
find-place test (y ∷ xs) zero x at met before =
    let same : y ≡ x = cc in
    let here : test y ≡ true = ap test same ∙ met in
    rw here at
find-place test (y ∷ xs) (suc k) x at met before =
    let here : test y ≡ false = before 0 y (omega arith) refl in
    rw here (find-place test xs k x at met (λ j z low is. before (suc j) z (omega arith) is))

pub find-none : {X : Type 0} (test : X → Bool) (xs : List X) → ((j : ℕ) (y : X) → slice_get xs j ≡ Some y → test y ≡ false)
    → find test xs ≡ None
find-none test [] none = refl
find-none test (y ∷ xs) none = let here : test y ≡ false = none 0 y refl in rw here (find-none test xs (λ j z is. none (suc j) z is))

-- ---- from the last to the first

pub reverse-get : {X : Type 0} (xs : List X) (j : ℕ) (y : X) → slice_get (reverse xs) j ≡ Some y
    → (i : ℕ) × (slice_get xs i ≡ Some y) × (i + j + 1 ≡ length xs)
reverse-get xs j y at =
    let within : j < length xs = omega (arith, slice_get_within (reverse xs) j y at, length-reverse xs) in
    let i : ℕ = length xs - 1 - j in
    let value : get_or xs (length xs - 1 - j) y ≡ y = sym (get_or-reverse xs j y within) ∙ get_or_from_slice_get (reverse xs) j y y at in
    (length xs - 1 - j, slice_get-get_or xs (length xs - 1 - j) y (omega arith) ∙ ap Some value, omega arith)

pub get-reverse : {X : Type 0} (xs : List X) (i : ℕ) (y : X) → slice_get xs i ≡ Some y
    → slice_get (reverse xs) (length xs - 1 - i) ≡ Some y
get-reverse xs i y at =
    let within : i < length xs = slice_get_within xs i y at in
    let j : ℕ = length xs - 1 - i in
    let back : length xs - 1 - (length xs - 1 - i) ≡ i = omega arith in
    let value : get_or (reverse xs) (length xs - 1 - i) y ≡ y =
    get_or-reverse xs (length xs - 1 - i) y (omega arith) ∙ ap (λ k. get_or xs k y) back ∙ get_or_from_slice_get xs i y y at in
    slice_get-get_or (reverse xs) (length xs - 1 - i) y (omega (arith, length-reverse xs)) ∙ ap Some value
