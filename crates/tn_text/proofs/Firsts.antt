-- What is wrong first is one thing at one place.
use Rattle.std.proofs.Common.{◌≡◌, ◌⊎◌, inl, inr, subst}
use Rattle.tn_text.specs.Firsts.{IsFirstWrong, NothingIsWrong, AreInOrder, AreSingle}

module _ {P C : Type 0} (IsBefore : P → P → Type 0) (IsWrong : P → C → Type 0) where
  -- where places are in order and one thing is wrong at each at most, one is the first
  pub one_first : AreInOrder IsBefore IsWrong → AreSingle IsWrong → (p q : P) (c d : C) → IsFirstWrong IsBefore IsWrong p c
      → IsFirstWrong IsBefore IsWrong q d → (p ≡ q) × (c ≡ d)
  one_first order single p q c d h k = at (order p q c d h.wrong k.wrong)
    where
      at : IsBefore p q ⊎ (IsBefore q p ⊎ (p ≡ q)) → (p ≡ q) × (c ≡ d)
      at (inl before) = absurd (k.before p c before h.wrong)
      at (inr (inl before)) = absurd (h.before q d before k.wrong)
      at (inr (inr same)) = (same, single q c d (subst (λ r. IsWrong r c) same h.wrong) k.wrong)

  -- where nothing is wrong nothing is first
  pub none_first : (p : P) (c : C) → NothingIsWrong IsWrong → IsFirstWrong IsBefore IsWrong p c → ⊥
  none_first p c none h = none p c h.wrong
