-- Of outputs over a file: going on is from a value to itself, and over two steps.
use Rattle.std.specs.Prelude.{◌≡◌, ℕ, ◌<◌, ◌≤◌, ◌⊎◌, Option, Some, IsSome, refl}
use Rattle.std.proofs.Common.{inl, inr, sym, subst, ◌∙◌, arith}
use Rattle.tn_io.specs.declared.faults.PutKind.{PutKind}
use Rattle.tn_io.specs.declared.faults.PutKind.TheVariants.{Failed}
use Rattle.tn_text.specs.Counts.{Rose}
use Rattle.tn_io.specs.FileOuts.{OverFile, IsLater, GoesOn}

-- a count that rose in the first of two steps rose over both
rose-first : (a b c : ℕ) → a ≤ b → b ≤ c → Rose a b → Rose a c
rose-first a b c h k (inl r) = inl (omega arith)
rose-first a b c h k (inr r) = grind arith

-- and so did one that rose in the second
rose-second : (a b c : ℕ) → a ≤ b → b ≤ c → Rose b c → Rose a c
rose-second a b c h k (inl r) = inl (omega arith)
rose-second a b c h k (inr r) = inr r

-- a failure over two steps
failed-joined : (first second third : Option PutKind) (a b c : ℕ) → a ≤ b → b ≤ c
    → (second ≡ Some Failed → (first ≡ Some Failed) ⊎ Rose a b) → (third ≡ Some Failed → (second ≡ Some Failed) ⊎ Rose b c)
    → third ≡ Some Failed → (first ≡ Some Failed) ⊎ Rose a c
failed-joined first second third a b c h k one two is = by_two (two is)
  where
    by_one : (first ≡ Some Failed) ⊎ Rose a b → (first ≡ Some Failed) ⊎ Rose a c
    by_one (inl e) = inl e
    by_one (inr r) = inr (rose-first a b c h k r)

    by_two : (second ≡ Some Failed) ⊎ Rose b c → (first ≡ Some Failed) ⊎ Rose a c
    by_two (inl e) = by_one (one e)
    by_two (inr r) = inr (rose-second a b c h k r)

-- a kind over two steps, by the counts of refusals
marked-joined : (second third : Option PutKind) (a b c : ℕ) → (IsSome second → IsSome third) → (a < b → IsSome second)
    → (b < c → IsSome third) → a < c → IsSome third
marked-joined second third a b c keeps one two h = by_count (grind arith)
  where
    by_count : (a < b) ⊎ (b < c) → IsSome third
    by_count (inl l) = keeps (one l)
    by_count (inr l) = two l

-- a value goes on from itself
pub goes_on-itself : (out : OverFile) → GoesOn out out
goes_on-itself out = λ _. record {
  same_reference = refl;
  still_open = refl;
  there = λ h. h;
  others = λ _ _. refl;
  reading = refl;
  count = omega arith;
  kept = λ h. h;
  marked = λ h. absurd (omega arith);
  failed = λ e. inl e;
}

-- what goes on from a value that goes on goes on
pub goes_on-joined : (first second third : OverFile) → GoesOn first second → GoesOn second third → GoesOn first third
goes_on-joined first second third f g = λ is.
    let one : IsLater first second = f is in
    let two : IsLater second third = g (subst IsSome (sym one.still_open) is) in
    record {
      same_reference = two.same_reference ∙ one.same_reference;
      still_open = two.still_open ∙ one.still_open;
      there = λ h. two.there (one.there h);
      others = λ name n. two.others name (λ e. n (sym one.still_open ∙ e)) ∙ one.others name n;
      reading = two.reading ∙ one.reading;
      count = omega (arith, one.count, two.count);
      kept = λ h. two.kept (one.kept h);
      marked = marked-joined second.kind third.kind first.refused second.refused third.refused two.kept one.marked two.marked;
      failed = failed-joined first.kind second.kind third.kind first.stored.write_faults second.stored.write_faults
          third.stored.write_faults one.count two.count one.failed two.failed;
    }
