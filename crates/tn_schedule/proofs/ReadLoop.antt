-- The loop that reads a schedule.
use Rattle.std.proofs.Common.{◌≡◌, ℕ, ◌+◌, ◌⊎◌, inl, inr, List, ◌∷◌, Result, Ok, Err, refl, sym, ap, ◌∙◌, subst}
use Rattle.std.specs.Str.Lines.{lines}
use Rattle.tn_text.specs.declared.faults.Cause.{Cause}
use Rattle.tn_text.specs.declared.faults.Fault.{Fault}
use Rattle.tn_text.specs.declared.faults.ReadFault.{ReadFault}
use Rattle.tn_text.specs.declared.faults.ReadFault.TheVariants as read
use Rattle.tn_text.specs.Faults.{fault_at}
use Rattle.tn_text.specs.Reading.{placed, Gives}
use Rattle.tn_text.proofs.ReadingLoops.{ReadsOn, reads-line, reads-bad}
use Rattle.tn_text.proofs.Results.{ok-ok, ok-err}
use Rattle.tn_schedule.specs.Schedules.{ScheduleState}
use Rattle.tn_schedule.specs.ScheduleReading.{ReaderState, take, counted, schedule_line, finish}
use Rattle.tn_schedule.proofs.Lines.{Silent, Telling, Wrong, line_read}
use Rattle.tn_schedule.proofs.Said.{take_line}

-- a line is one line more
line_counts : (names : List (List ℕ)) (s t : ReaderState) (line : List ℕ) → schedule_line names s line ≡ Ok t → t.lines ≡ s.lines + 1
line_counts names s t line e = at (line_read names s line)
  where
    at : Silent names s line ⊎ (Telling names s line ⊎ Wrong names s line) → t.lines ≡ s.lines + 1
    at (inl q) = ap (λ (u : ReaderState). u.lines) (ok-ok (schedule_line names s line) t (counted s) e q.read)
    at (inr (inl q)) =
        ap (λ (u : ReaderState). u.lines) (ok-ok (schedule_line names s line) t (take (counted s) q.told) e q.read)
        ∙ take_line (counted s) q.told
    at (inr (inr w)) = ok-err (schedule_line names s line) t w.cause e w.read

placed_ok : {A : Type 0} (n : ℕ) (r : Result A Cause) (a : A) → Ok a ≡ placed n r → r ≡ Ok a
placed_ok n (Ok b) a e = let same : a ≡ b = cc in ap Ok (sym same)
placed_ok n (Err cause) a e = absurd cc

module _ (names : List (List ℕ)) (s : ReaderState) (rest : List ℕ) (whole : Result ScheduleState Fault)
    (on : ReadsOn (schedule_line names) finish s s.lines rest whole) (line behind : List ℕ) (cut : lines rest ≡ line ∷ lines behind) where
  -- the next line is read
  pub line_good : (t : ReaderState) → Ok t ≡ placed (s.lines + 1) (schedule_line names s line)
      → ReadsOn (schedule_line names) finish t t.lines behind whole
  line_good t e =
      let read : schedule_line names s line ≡ Ok t = placed_ok (s.lines + 1) (schedule_line names s line) t e in
      subst (λ k. ReadsOn (schedule_line names) finish t k behind whole) (sym (line_counts names s t line read))
      (reads-line (schedule_line names) finish s s.lines rest whole on line behind t cut read)

  pub line_longer : (t : ReaderState) → Ok t ≡ placed (s.lines + 1) (schedule_line names s line) → t.lines ≡ s.lines + 1
  line_longer t e = line_counts names s t line (placed_ok (s.lines + 1) (schedule_line names s line) t e)

  line_refused : (fault : Fault) → Err fault ≡ placed (s.lines + 1) (schedule_line names s line) → Err fault ≡ whole
  line_refused fault e = at (schedule_line names s line) refl e
    where
      at : (r : Result ReaderState Cause) → schedule_line names s line ≡ r → Err fault ≡ placed (s.lines + 1) r → Err fault ≡ whole
      at (Ok t) is q = absurd cc
      at (Err cause) is q =
          let same : fault ≡ fault_at (s.lines + 1) cause = cc in
          ap Err same ∙ sym (reads-bad (schedule_line names) finish s s.lines rest whole on line behind cause cut is)

  -- the next line is refused, or there is no memory
  pub line_stopped : {T U : Type 0} (seen : T → ReaderState) (gives : U → ScheduleState) (why : ReadFault)
      → Gives seen (Err why) (placed (s.lines + 1) (schedule_line names s line)) → Gives gives (Err why) whole
  line_stopped seen gives (read.Fault fault) h = line_refused fault h
  line_stopped seen gives read.NoMemory h = tt
