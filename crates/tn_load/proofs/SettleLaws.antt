-- Steps one after the other.
use Rattle.std.proofs.Common.{◌≡◌, ◌⊎◌, inl, inr, ℕ, zero, suc, ◌+◌, ◌<◌, ◌≤◌, Bool, true, refl, sym, ap, subst, ◌∙◌, arith}
use Rattle.std.specs.Prelude.{IsTrue}
use Rattle.tn_load.specs.Settles.{walked, IsSettled}

module _ {S : Type 0} (next : S → S) where
  -- one step more
  pub walked-more : (n : ℕ) (s : S) → walked next (suc n) s ≡ next (walked next n s)
  unfolding walked
  walked-more zero s = refl
  walked-more (suc n) s = walked-more n (next s)

  pub walked-none : (s : S) → s ≡ walked next 0 s
  unfolding walked
  walked-none s = refl

  pub walked-next : (n : ℕ) (old now new : S) → now ≡ walked next n old → new ≡ next now → new ≡ walked next (n + 1) old
  walked-next n old now new is after =
      let more : suc n ≡ n + 1 = omega arith in
      after ∙ ap next is ∙ sym (walked-more n old) ∙ ap (λ k. walked next k old) more

-- what a loop holds to
pub record IsGoing {S : Type 0} (AtRest : S → Type 0) (next : S → S) (most : ℕ) (old now : S) (steps : ℕ) : Type 0 where
  pub few : steps ≤ most
  pub state : now ≡ walked next steps old
  pub going : (k : ℕ) → k < steps → AtRest (walked next k old) → ⊥

module _ {S : Type 0} (AtRest : S → Type 0) (next : S → S) (most : ℕ) (old : S) where
  pub going-first : IsGoing AtRest next most old old 0
  going-first = record { few = omega arith; state = walked-none next old; going = λ k low. absurd (omega (arith, low)) }

  pub going-more : (now new : S) (steps : ℕ) → IsGoing AtRest next most old now steps → steps < most → (AtRest now → ⊥)
      → new ≡ next now → IsGoing AtRest next most old new (steps + 1)
  going-more now new steps g more awake after = record {
    few = omega (arith, more);
    state = walked-next next steps old now new g.state after;
    going = λ k low. earlier k low;
  }
    where
      earlier : (k : ℕ) → k < steps + 1 → AtRest (walked next k old) → ⊥
      earlier k low = elim (cases_lt k low) [
        | inl small ↦ g.going k small
        | inr same ↦ λ rest. awake (subst AtRest (ap (λ j. walked next j old) same ∙ sym g.state) rest)
      ]
        where
          cases_lt : (k : ℕ) → k < steps + 1 → (k < steps) ⊎ (k ≡ steps)
          cases_lt k low = grind arith

  -- it ends where the state is at rest, or where no step is left
  pub settled-rest : (now : S) (steps : ℕ) → IsGoing AtRest next most old now steps → AtRest now
      → IsSettled AtRest next most old now steps true
  settled-rest now steps g rest = record {
    few = g.few;
    state = g.state;
    going = g.going;
    rest = (λ _. rest, λ _. refl);
    short = λ _. rest;
  }

  pub settled-most : (now : S) (steps : ℕ) (rested : Bool) → IsGoing AtRest next most old now steps → most ≤ steps
      → (IsTrue rested → AtRest now) × (AtRest now → IsTrue rested) → IsSettled AtRest next most old now steps rested
  settled-most now steps rested g all told = record {
    few = g.few;
    state = g.state;
    going = g.going;
    rest = told;
    short = λ low. absurd (omega (arith, all, low));
  }
