-- What reading lines gives, by the lines that were walked.
use Rattle.std.proofs.Common.{◌≡◌, ℕ, ◌+◌, ◌⊎◌, inl, inr, List, [], ◌∷◌, ◌++◌, length, Result, Ok, Err, refl, sym, ap, ◌∙◌, append-nil}
use Rattle.std.proofs.Common.{arith}
use Rattle.tn_text.specs.declared.faults.Cause.{Cause}
use Rattle.tn_text.specs.declared.faults.Fault.{Fault}
use Rattle.tn_text.specs.Faults.{fault_at}
use Rattle.tn_text.specs.Reading.{result_then, placed, read_lines, Walks, IsFirstBadLine, IsLacking}

module _ {L S A : Type 0} (step : S → L → Result S Cause) (finish : S → Result A Cause) where
  -- one line is read
  pub read_line : (s t : S) (n : ℕ) (line : L) (ls : List L) → step s line ≡ Ok t
      → read_lines step finish s n (line ∷ ls) ≡ read_lines step finish t (n + 1) ls
  unfolding read_lines
  read_line s t n line ls e = ap (λ r. result_then (placed (n + 1) r) (λ u. read_lines step finish u (n + 1) ls)) e

  -- one line is refused
  pub bad_line : (s : S) (n : ℕ) (line : L) (ls : List L) (cause : Cause) → step s line ≡ Err cause
      → read_lines step finish s n (line ∷ ls) ≡ Err (fault_at (n + 1) cause)
  unfolding read_lines
  bad_line s n line ls cause e = ap (λ r. result_then (placed (n + 1) r) (λ u. read_lines step finish u (n + 1) ls)) e

  -- no line is left
  pub no_line : (s : S) (n : ℕ) → read_lines step finish s n [] ≡ placed (n + 1) (finish s)
  unfolding read_lines
  no_line s n = refl

  -- lines that are walked are read
  pub read-walked : (s t : S) (n : ℕ) (before after : List L) → Walks step s before t
      → read_lines step finish s n (before ++ after) ≡ read_lines step finish t (n + length before) after
  unfolding Walks
  read-walked s t n [] after w = ap (λ u. read_lines step finish u n after) w ∙ ap (λ k. read_lines step finish t k after) (omega arith)
  read-walked s t n (line ∷ before) after w =
      let at : (n + 1) + length before ≡ n + length (line ∷ before) = omega arith in
      read_line s w.0 n line (before ++ after) w.1
      ∙ (read-walked w.0 t (n + 1) before after w.2 ∙ ap (λ k. read_lines step finish t k after) at)

  -- where all lines are walked, the end decides
  pub of_walk : (s t : S) (n : ℕ) (ls : List L) → Walks step s ls t → read_lines step finish s n ls ≡ placed (n + length ls + 1) (finish t)
  of_walk s t n ls w =
      ap (read_lines step finish s n) (sym (append-nil ls)) ∙ (read-walked s t n ls [] w ∙ no_line t (n + length ls))

  -- what was read was walked
  pub walk_of : (s : S) (n : ℕ) (ls : List L) (a : A) → read_lines step finish s n ls ≡ Ok a
      → (t : S) × Walks step s ls t × (finish t ≡ Ok a)
  unfolding Walks read_lines
  walk_of s n [] a e = (s, refl, at (finish s) e)
    where
      at : (r : Result A Cause) → placed (n + 1) r ≡ Ok a → r ≡ Ok a
      at (Ok b) e = let same : b ≡ a = cc in ap Ok same
      at (Err cause) e = absurd cc
  walk_of s n (line ∷ ls) a e = at (step s line) refl e (λ t. walk_of t (n + 1) ls a)
    where
      at : (r : Result S Cause) → step s line ≡ r
          → result_then (placed (n + 1) r) (λ t. read_lines step finish t (n + 1) ls) ≡ Ok a
          → ((t : S) → read_lines step finish t (n + 1) ls ≡ Ok a → (u : S) × Walks step t ls u × (finish u ≡ Ok a))
          → (u : S) × Walks step s (line ∷ ls) u × (finish u ≡ Ok a)
      at (Ok t) is e more = let rest = more t e in (rest.0, (t, is, rest.1), rest.2)
      at (Err cause) is e more = absurd cc

  -- reading lines, of which n stand before, ends with a fault: of a line, or of the end
  record Refuses (s : S) (n : ℕ) (ls : List L) (fault : Fault) : Type 0 where
    before : List L
    line : L
    after : List L
    state : S
    cause : Cause
    lines : ls ≡ before ++ line ∷ after
    walks : Walks step s before state
    refused : step state line ≡ Err cause
    told : fault ≡ fault_at (n + length before + 1) cause

  record Lacks (s : S) (n : ℕ) (ls : List L) (fault : Fault) : Type 0 where
    state : S
    cause : Cause
    walks : Walks step s ls state
    refused : finish state ≡ Err cause
    told : fault ≡ fault_at (n + length ls + 1) cause

  fault_of : (s : S) (n : ℕ) (ls : List L) (fault : Fault) → read_lines step finish s n ls ≡ Err fault
      → Refuses s n ls fault ⊎ Lacks s n ls fault
  unfolding read_lines Walks
  fault_of s n [] fault e = inr (at (finish s) refl e)
    where
      at : (r : Result A Cause) → finish s ≡ r → placed (n + 1) r ≡ Err fault → Lacks s n [] fault
      at (Ok a) is e = absurd cc
      at (Err cause) is e =
          let same : fault ≡ fault_at (n + 1) cause = cc in
          let line : n + 1 ≡ n + 0 + 1 = omega arith in
          record { state = s; cause = cause; walks = refl; refused = is; told = same ∙ ap (λ k. fault_at k cause) line }
  fault_of s n (line ∷ ls) fault e = at (step s line) refl e (λ t. fault_of t (n + 1) ls fault)
    where
      more : (t : S) → step s line ≡ Ok t → Refuses t (n + 1) ls fault ⊎ Lacks t (n + 1) ls fault
          → Refuses s n (line ∷ ls) fault ⊎ Lacks s n (line ∷ ls) fault
      more t is (inl r) =
          let at : (n + 1) + length r.before + 1 ≡ n + length (line ∷ r.before) + 1 = omega arith in
          inl (record {
            before = line ∷ r.before;
            line = r.line;
            after = r.after;
            state = r.state;
            cause = r.cause;
            lines = ap (λ rest. line ∷ rest) r.lines;
            walks = (t, is, r.walks);
            refused = r.refused;
            told = r.told ∙ ap (λ k. fault_at k r.cause) at;
          })
      more t is (inr r) =
          let at : (n + 1) + length ls + 1 ≡ n + length (line ∷ ls) + 1 = omega arith in
          inr (record {
            state = r.state;
            cause = r.cause;
            walks = (t, is, r.walks);
            refused = r.refused;
            told = r.told ∙ ap (λ k. fault_at k r.cause) at;
          })

      at : (r : Result S Cause) → step s line ≡ r
          → result_then (placed (n + 1) r) (λ t. read_lines step finish t (n + 1) ls) ≡ Err fault
          → ((t : S) → read_lines step finish t (n + 1) ls ≡ Err fault → Refuses t (n + 1) ls fault ⊎ Lacks t (n + 1) ls fault)
          → Refuses s n (line ∷ ls) fault ⊎ Lacks s n (line ∷ ls) fault
      at (Ok t) is e again = more t is (again t e)
      at (Err cause) is e again =
          let same : fault ≡ fault_at (n + 1) cause = cc in
          let line_at : n + 1 ≡ n + 0 + 1 = omega arith in
          inl (record {
            before = [];
            line = line;
            after = ls;
            state = s;
            cause = cause;
            lines = refl;
            walks = refl;
            refused = is;
            told = same ∙ ap (λ k. fault_at k cause) line_at;
          })

  -- a fault that was read is that of the first line that the step refuses, or is lacking at the end
  pub first_fault : (s : S) (ls : List L) (fault : Fault) → read_lines step finish s 0 ls ≡ Err fault
      → IsFirstBadLine step s ls fault ⊎ IsLacking step finish s ls fault
  first_fault s ls fault e = at (fault_of s 0 ls fault e)
    where
      at : Refuses s 0 ls fault ⊎ Lacks s 0 ls fault → IsFirstBadLine step s ls fault ⊎ IsLacking step finish s ls fault
      at (inl r) =
          let line : 0 + length r.before + 1 ≡ length r.before + 1 = omega arith in
          inl (record {
            before = r.before;
            line = r.line;
            after = r.after;
            state = r.state;
            cause = r.cause;
            lines = r.lines;
            walks = r.walks;
            refused = r.refused;
            placed = r.told ∙ ap (λ k. fault_at k r.cause) line;
          })
      at (inr r) =
          let line : 0 + length ls + 1 ≡ length ls + 1 = omega arith in
          inr (record {
            state = r.state;
            cause = r.cause;
            walks = r.walks;
            refused = r.refused;
            placed = r.told ∙ ap (λ k. fault_at k r.cause) line;
          })

  -- the fault of the first line that the step refuses is read
  pub of_first_bad : (s : S) (ls : List L) (fault : Fault) → IsFirstBadLine step s ls fault → read_lines step finish s 0 ls ≡ Err fault
  of_first_bad s ls fault h =
      let line : 0 + length h.before + 1 ≡ length h.before + 1 = omega arith in
      ap (read_lines step finish s 0) h.lines
      ∙ (read-walked s h.state 0 h.before (h.line ∷ h.after) h.walks
      ∙ (bad_line h.state (0 + length h.before) h.line h.after h.cause h.refused
      ∙ ap Err (ap (λ k. fault_at k h.cause) line ∙ sym h.placed)))

  -- what is lacking at the end is read
  pub of_lacking : (s : S) (ls : List L) (fault : Fault) → IsLacking step finish s ls fault → read_lines step finish s 0 ls ≡ Err fault
  of_lacking s ls fault h =
      let line : 0 + length ls + 1 ≡ length ls + 1 = omega arith in
      of_walk s h.state 0 ls h.walks ∙ (ap (placed (0 + length ls + 1)) h.refused
      ∙ ap Err (ap (λ k. fault_at k h.cause) line ∙ sym h.placed))
