-- One thing is wrong first with the names of modules.
use Rattle.std.proofs.Common.{◌≡◌, ◌⊎◌, inl, inr, ℕ, ◌<◌, List, refl, sym, ◌∙◌, arith}
use Rattle.std.proofs.lemmas.Option.{same_Some}
use Rattle.tn_text.specs.Firsts.{AreInOrder, AreSingle}
use Rattle.tn_text.proofs.Firsts.{one_first, none_first}
use Rattle.tn_module.specs.Modules.{Parts}
use Rattle.tn_symbols.specs.declared.choices.ChooseFault.{ChooseFault}
use Rattle.tn_symbols.specs.Faults.{ExportAt, ImportAt}
use Rattle.tn_symbols.specs.Faults.{IsBefore, IsWrong, AreSound, IsFirstFault}

three : (a b : ℕ) → (a < b) ⊎ ((b < a) ⊎ (a ≡ b))
three a b = grind arith

module _ (modules : List Parts) where
  -- the places are in order
  in-order : AreInOrder IsBefore (IsWrong modules)
  in-order (ExportAt m i) (ImportAt n j) c d v w = inl (inl (omega arith))
  in-order (ImportAt m i) (ExportAt n j) c d v w = inr (inl (inl (omega arith)))
  in-order (ExportAt m i) (ExportAt n j) c d v w = elim (three m n) [
    | inl less ↦ inl (inr (refl, inl less))
    | inr (inl more) ↦ inr (inl (inr (refl, inl more)))
    | inr (inr same) ↦ elim (three i j) [
      | inl less ↦ inl (inr (refl, inr (same, less)))
      | inr (inl more) ↦ inr (inl (inr (refl, inr (sym same, more))))
      | inr (inr also) ↦ inr (inr (λ k. ExportAt (same k) (also k)))
    ]
  ]
  in-order (ImportAt m i) (ImportAt n j) c d v w = elim (three m n) [
    | inl less ↦ inl (inr (refl, inl less))
    | inr (inl more) ↦ inr (inl (inr (refl, inl more)))
    | inr (inr same) ↦ elim (three i j) [
      | inl less ↦ inl (inr (refl, inr (same, less)))
      | inr (inl more) ↦ inr (inl (inr (refl, inr (sym same, more))))
      | inr (inr also) ↦ inr (inr (λ k. ImportAt (same k) (also k)))
    ]
  ]

  -- one thing is wrong at each
  single : AreSingle (IsWrong modules)
  single p c d v w = same_Some c d (sym v ∙ w)

  pub one-fault : (c d : ChooseFault) → IsFirstFault modules c → IsFirstFault modules d → c ≡ d
  one-fault c d f g = (one_first IsBefore (IsWrong modules) in-order single f.site g.site c d f.first g.first).1

  pub sound-or-fault : (c : ChooseFault) → AreSound modules → IsFirstFault modules c → ⊥
  sound-or-fault c sound f = none_first IsBefore (IsWrong modules) f.site c sound f.first
