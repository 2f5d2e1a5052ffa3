-- Reading that keeps what lines say has the faults of reading that keeps where the next line stands.
use Rattle.std.proofs.Common.{◌≡◌, ℕ, ◌⊎◌, inl, inr, Bool, List, [], ◌∷◌, Result, Ok, Err, refl, sym, ap, ◌∙◌, subst}
use Rattle.tn_text.specs.declared.faults.Cause.{Cause}
use Rattle.tn_text.specs.declared.faults.Fault.{Fault}
use Rattle.tn_text.specs.Reading.{result_then, read_lines, Walks, IsFirstBadLine, IsLacking}
use Rattle.tn_text.proofs.Walking.{first_fault, of_first_bad, of_lacking}
use Rattle.tn_modtext.specs.Pieces.{strict_tokens}
use Rattle.tn_modtext.proofs.Results.{then-ok}

-- a line is told by its tokens and the section, and leads to a section; what is kept has its section
module _ {S K L : Type 0} (section : S → K) (line_at : K → List (List ℕ) → Result L Cause) (after : S → L → S) (behind : L → K)
    (moves : (s : S) (l : L) → section (after s l) ≡ behind l) where
  abbrev kept_said : S → List (List ℕ) → Result S Cause
  kept_said s words = result_then (line_at (section s) words) (λ l. Ok (after s l))

  abbrev told_said : K → List (List ℕ) → Result K Cause
  told_said k words = result_then (line_at k words) (λ l. Ok (behind l))

  abbrev kept_step : S → List ℕ × Bool → Result S Cause
  kept_step s piece = result_then (strict_tokens piece) (kept_said s)

  abbrev told_step : K → List ℕ × Bool → Result K Cause
  told_step k piece = result_then (strict_tokens piece) (told_said k)

  told_ok : (s t : S) (p : List ℕ × Bool) → kept_step s p ≡ Ok t → told_step (section s) p ≡ Ok (section t)
  told_ok s t p e =
      let tokens = then-ok (strict_tokens p) (kept_said s) t e in
      let said = then-ok (line_at (section s) tokens.0) (λ l. Ok (after s l)) t tokens.2 in
      let same : after s said.0 ≡ t = cc in
      ap (λ r. result_then r (told_said (section s))) tokens.1
      ∙ (ap (λ r. result_then r (λ l. Ok (behind l))) said.1 ∙ ap Ok (sym (moves s said.0) ∙ ap section same))

  told_err : (s : S) (cause : Cause) (p : List ℕ × Bool) → kept_step s p ≡ Err cause → told_step (section s) p ≡ Err cause
  told_err s cause p q = at (strict_tokens p) q
    where
      by : (r : Result L Cause) → result_then r (λ l. Ok (after s l)) ≡ Err cause → result_then r (λ l. Ok (behind l)) ≡ Err cause
      by (Ok l) e = absurd cc
      by (Err c) e = cc

      at : (r : Result (List (List ℕ)) Cause) → result_then r (kept_said s) ≡ Err cause → result_then r (told_said (section s)) ≡ Err cause
      at (Ok words) e = by (line_at (section s) words) e
      at (Err c) e = cc

  kept_ok : (s : S) (k : K) (p : List ℕ × Bool) → told_step (section s) p ≡ Ok k → (t : S) × (kept_step s p ≡ Ok t) × (section t ≡ k)
  kept_ok s k p e =
      let tokens = then-ok (strict_tokens p) (told_said (section s)) k e in
      let said = then-ok (line_at (section s) tokens.0) (λ l. Ok (behind l)) k tokens.2 in
      let same : behind said.0 ≡ k = cc in (
        after s said.0,
        ap (λ r. result_then r (kept_said s)) tokens.1 ∙ ap (λ r. result_then r (λ l. Ok (after s l))) said.1,
        moves s said.0 ∙ same,
      )

  kept_err : (s : S) (cause : Cause) (p : List ℕ × Bool) → told_step (section s) p ≡ Err cause → kept_step s p ≡ Err cause
  kept_err s cause p q = at (strict_tokens p) q
    where
      by : (r : Result L Cause) → result_then r (λ l. Ok (behind l)) ≡ Err cause → result_then r (λ l. Ok (after s l)) ≡ Err cause
      by (Ok l) e = absurd cc
      by (Err c) e = cc

      at : (r : Result (List (List ℕ)) Cause) → result_then r (told_said (section s)) ≡ Err cause → result_then r (kept_said s) ≡ Err cause
      at (Ok words) e = by (line_at (section s) words) e
      at (Err c) e = cc

  told_walk : (ps : List (List ℕ × Bool)) (s t : S) → Walks kept_step s ps t → Walks told_step (section s) ps (section t)
  unfolding Walks
  told_walk [] s t w = ap section w
  told_walk (p ∷ ps) s t (u, first, rest) = (section u, told_ok s u p first, told_walk ps u t rest)

  kept_walk : (ps : List (List ℕ × Bool)) (s : S) (k : K) → Walks told_step (section s) ps k
      → (t : S) × Walks kept_step s ps t × (section t ≡ k)
  unfolding Walks
  kept_walk [] s k w = (s, refl, w)
  kept_walk (p ∷ ps) s k (j, first, rest) =
      let step = kept_ok s j p first in
      let more = kept_walk ps step.0 k (subst (λ u. Walks told_step u ps k) (sym step.2) rest) in
      (more.0, (step.0, step.1, more.1), more.2)

  -- the faults of the end too
  module _ {A : Type 0} (finish : S → Result A Cause) (ends_at : K → Result (Unit {0}) Cause) (s : S) (ps : List (List ℕ × Bool)) where
    abbrev IsToldFault : Fault → Type 0
    IsToldFault fault = IsFirstBadLine told_step (section s) ps fault ⊎ IsLacking {A = Unit {0}} told_step ends_at (section s) ps fault

    pub told-fault : ((t : S) (cause : Cause) → Walks kept_step s ps t → finish t ≡ Err cause → ends_at (section t) ≡ Err cause)
        → (fault : Fault) → read_lines kept_step finish s 0 ps ≡ Err fault → IsToldFault fault
    told-fault lacks fault e = at (first_fault kept_step finish s ps fault e)
      where
        at : IsFirstBadLine kept_step s ps fault ⊎ IsLacking kept_step finish s ps fault → IsToldFault fault
        at (inl h) =
            inl (record {
              before = h.before;
              line = h.line;
              after = h.after;
              state = section h.state;
              cause = h.cause;
              lines = h.lines;
              walks = told_walk h.before s h.state h.walks;
              refused = told_err h.state h.cause h.line h.refused;
              placed = h.placed;
            })
        at (inr h) =
            inr (record {
              state = section h.state;
              cause = h.cause;
              walks = told_walk ps s h.state h.walks;
              refused = lacks h.state h.cause h.walks h.refused;
              placed = h.placed;
            })

    pub kept-fault : ((t : S) (cause : Cause) → ends_at (section t) ≡ Err cause → finish t ≡ Err cause)
        → (fault : Fault) → IsToldFault fault → read_lines kept_step finish s 0 ps ≡ Err fault
    kept-fault lacks fault (inl h) =
        let walk = kept_walk h.before s h.state h.walks in
        of_first_bad kept_step finish s ps fault (record {
          before = h.before;
          line = h.line;
          after = h.after;
          state = walk.0;
          cause = h.cause;
          lines = h.lines;
          walks = walk.1;
          refused = kept_err walk.0 h.cause h.line (ap (λ k. told_step k h.line) walk.2 ∙ h.refused);
          placed = h.placed;
        })
    kept-fault lacks fault (inr h) =
        let walk = kept_walk ps s h.state h.walks in
        of_lacking kept_step finish s ps fault (record {
          state = walk.0;
          cause = h.cause;
          walks = walk.1;
          refused = lacks walk.0 h.cause (ap ends_at walk.2 ∙ h.refused);
          placed = h.placed;
        })
