-- What a child takes is what its parent sends by the link that leads to it.
use Rattle.std.proofs.Common.{◌≡◌, ◌≢◌, ℕ, ◌==◌, true, false, List, [], refl, sym, ◌∙◌, append_assoc, append-nil, arith}
use Rattle.std.proofs.lemmas.Bool.Decides.{nat_tests}
use Rattle.tn_stream.specs.Branches.{Children}
use Rattle.tn_stream.specs.Branches.Children.{none, child}
use Rattle.tn_stream.specs.Streams.{Site, own_load, wave, nothing, nop_of, run_of}
use Rattle.tn_load.specs.LoneRuns.{takes_of, sends_of}
use Rattle.tn_load.specs.Inner.Lives.{part, part_at, life}
use Rattle.tn_load.proofs.LoaderActs.{takes_of-life, sends_of-life}

-- no child hangs at a link
abbrev pub IsFree : {A : Type 0} → ℕ → Children A → Type 0
IsFree l none = Unit {0}
IsFree l (child m here below others) = (m ≢ l) × IsFree l others

-- no two children hang at one link
abbrev pub AreApart : {A : Type 0} → Children A → Type 0
AreApart none = Unit {0}
AreApart (child m here below others) = IsFree m others × AreApart others

-- a child hangs at a link, with its own children below it
pub data IsChild {A : Type 0} (l : ℕ) (at : A) (its : Children A) : Children A → Type 0 where
  first : {others : Children A} → IsChild l at its (child l at its others)
  later : {m : ℕ} {here : A} {below others : Children A} → m ≢ l → IsChild l at its others → IsChild l at its (child m here below others)

module _ {A : Type 0} (front back : A → List ℕ) where
  pub part_at-free : (l : ℕ) (children : Children A) → IsFree l children → part_at front back l children ≡ []
  unfolding part_at
  part_at-free l none free = refl
  part_at-free l (child m here below others) free =
      let other : m == l ≡ false = differs m l free.0 in
      rw other (part_at-free l others free.1)
    where
      differs : (x y : ℕ) → x ≢ y → x == y ≡ false
      differs x y e = grind (arith, nat_tests)

  same : (l : ℕ) → l == l ≡ true
  same l = grind (arith, nat_tests)

  other : (m l : ℕ) → m ≢ l → m == l ≡ false
  other m l e = grind (arith, nat_tests)

  pub part_at-child : (l : ℕ) (at : A) (its children : Children A) → IsChild l at its children → AreApart children
      → part_at front back l children ≡ part front back at its
  unfolding part_at
  part_at-child l at its none x apart = elim x [ ]
  part_at-child l at its (child m here below others) first apart =
      rw (same l, part_at-free l others apart.0) (append-nil (part front back at its))
  part_at-child l at its (child m here below others) (later e h) apart = rw (other m l e) (part_at-child l at its others h apart.1)

-- a child takes what its parent sends to it
pub child-fits : (site : Site) (below : Children Site) (l : ℕ) (at : Site) (its : Children Site) → IsChild l at its below → AreApart below
    → takes_of (life at its) ≡ sends_of l (life site below)
unfolding wave
child-fits site below l at its h apart =
    takes_of-life at its
    ∙ (append_assoc (part own_load nothing at its) (part nothing nop_of at its) (part nothing run_of at its)
    ∙ sym (sends_of-life l site below ∙ rw (
      part_at-child own_load nothing l at its below h apart,
      part_at-child nothing nop_of l at its
          below h apart,
      part_at-child nothing run_of l at its below h apart,
    ) refl))

-- by any other link a processor sends nothing
pub free-sends : (site : Site) (below : Children Site) (l : ℕ) → IsFree l below → sends_of l (life site below) ≡ []
free-sends site below l free =
    sends_of-life l site below ∙ rw (
      part_at-free own_load nothing l below free,
      part_at-free nothing nop_of l below free,
      part_at-free
          nothing run_of l below free,
    ) refl
