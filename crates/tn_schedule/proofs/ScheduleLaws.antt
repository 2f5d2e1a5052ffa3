-- Reading the lines of a schedule gives what they say, or the first fault.
use Rattle.std.proofs.Common.{◌≡◌, ℕ, ◌+◌, ◌⊎◌, inl, inr, List, length, Some, Ok, Err, refl, sym, ap, ◌∙◌}
use Rattle.std.specs.Str.Lines.{lines}
use Rattle.tn_text.specs.declared.faults.Cause.{Cause}
use Rattle.tn_text.specs.declared.faults.Fault.{Fault}
use Rattle.tn_text.specs.Reading.{IsFirstBadLine, IsLacking, IsReading}
use Rattle.tn_text.proofs.Results.{ok-ok, ok-err, err-err, none-some}
use Rattle.tn_text.proofs.Walking.{walk_of, of_walk, first_fault, of_first_bad}
use Rattle.tn_schedule.specs.declared.statements.Statement.{Statement}
use Rattle.tn_schedule.specs.Schedules.{ScheduleState, SaysSchedule}
use Rattle.tn_schedule.specs.ScheduleFaults.{is_silent, line_cause, IsFirstFault}
use Rattle.tn_schedule.specs.ScheduleReading.{ReaderState, nothing_read, finish, schedule_line, schedule_read}
use Rattle.tn_schedule.proofs.Lines.{Silent, Telling, Wrong, line_read}
use Rattle.tn_schedule.proofs.Said.{at_line, taken, says_of_walk, walk_of_says, all_acts, all_power, all_first}

-- a line that is refused has this cause, and the other way round
wrong_on : (names : List (List ℕ)) (s : ReaderState) (line : List ℕ) (cause : Cause) → schedule_line names s line ≡ Err cause
    → line_cause names s.first line ≡ Some cause
wrong_on names s line cause e = at (line_read names s line)
  where
    at : Silent names s line ⊎ (Telling names s line ⊎ Wrong names s line) → line_cause names s.first line ≡ Some cause
    at (inl q) = ok-err (schedule_line names s line) (record s { lines = s.lines + 1 }) cause q.read e
    at (inr (inl q)) = absurd (ok-err (schedule_line names s line) _ cause q.read e)
    at (inr (inr q)) = q.wrong ∙ ap Some (err-err (schedule_line names s line) q.cause cause q.read e)

refused_on : (names : List (List ℕ)) (s : ReaderState) (line : List ℕ) (cause : Cause) → line_cause names s.first line ≡ Some cause
    → schedule_line names s line ≡ Err cause
refused_on names s line cause e = at (line_read names s line)
  where
    at : Silent names s line ⊎ (Telling names s line ⊎ Wrong names s line) → schedule_line names s line ≡ Err cause
    at (inl q) = none-some (line_cause names s.first line) cause q.fine e
    at (inr (inl q)) = none-some (line_cause names s.first line) cause q.fine e
    at (inr (inr q)) =
        let one : Some q.cause ≡ Some cause = sym q.wrong ∙ e in let same : q.cause ≡ cause = cc in q.read ∙ ap Err same

-- what was said so far
abbrev stands_at : ℕ → List (ℕ × Statement) → ReaderState
stands_at n said = at_line n (taken nothing_read said)

pub schedule_found : (names : List (List ℕ)) (text : List ℕ) (s : ScheduleState) → schedule_read names text ≡ Ok s
    → SaysSchedule names text s
schedule_found names text s e =
    let w = walk_of (schedule_line names) finish nothing_read 0 (lines text) s e in
    let q = says_of_walk names (lines text) nothing_read w.0 w.1 in
    let is : s ≡ record { power = w.0.power; lines = w.0.acts } = ok-ok (finish w.0) s (record { power = w.0.power; lines = w.0.acts })
    w.2 refl in
    record {
      said = q.0;
      say = q.1;
      stand = q.2;
      power = ap (λ (s : ScheduleState). s.power) is ∙ (ap (λ (u : ReaderState). u.power) q.3 ∙ all_power q.0 q.2);
      acts = ap (λ (s : ScheduleState). s.lines) is ∙ (ap (λ (u : ReaderState). u.acts) q.3 ∙ all_acts q.0);
    }

pub schedule_only : (names : List (List ℕ)) (text : List ℕ) (s : ScheduleState) → SaysSchedule names text s
    → schedule_read names text ≡ Ok s
schedule_only names text s h =
    of_walk (schedule_line names) finish nothing_read (stands_at (0 + length (lines text)) h.said) 0 (lines text)
    (walk_of_says names (lines text) nothing_read h.said h.say h.stand)
    ∙ rw (all_power h.said h.stand, all_acts h.said, h.power, h.acts) refl

pub schedule_fault : (names : List (List ℕ)) (text : List ℕ) (fault : Fault) → schedule_read names text ≡ Err fault
    → IsFirstFault names text fault
schedule_fault names text fault e = at (first_fault (schedule_line names) finish nothing_read (lines text) fault e)
  where
    bad : IsFirstBadLine (schedule_line names) nothing_read (lines text) fault → IsFirstFault names text fault
    bad h =
        let q = says_of_walk names h.before nothing_read h.state h.walks in
        let first : h.state.first ≡ is_silent q.0 = ap (λ (u : ReaderState). u.first) q.3 ∙ all_first q.0 in
        record {
          before = h.before;
          line = h.line;
          after = h.after;
          said = q.0;
          cause = h.cause;
          lines = h.lines;
          say = q.1;
          stand = q.2;
          bad = ap (λ b. line_cause names b h.line) (sym first) ∙ wrong_on names h.state h.line h.cause h.refused;
          placed = h.placed;
        }

    at : IsFirstBadLine (schedule_line names) nothing_read (lines text) fault
        ⊎ IsLacking {A = ScheduleState} (schedule_line names) finish nothing_read (lines text) fault → IsFirstFault names text fault
    at (inl h) = bad h
    at (inr h) = ok-err (finish h.state) (record { power = h.state.power; lines = h.state.acts }) h.cause refl h.refused

pub schedule_refused : (names : List (List ℕ)) (text : List ℕ) (fault : Fault) → IsFirstFault names text fault
    → schedule_read names text ≡ Err fault
schedule_refused names text fault h =
    let s : ReaderState = stands_at (0 + length h.before) h.said in
    of_first_bad (schedule_line names) finish nothing_read (lines text) fault (record {
      before = h.before;
      line = h.line;
      after = h.after;
      state = s;
      cause = h.cause;
      lines = h.lines;
      walks = walk_of_says names h.before nothing_read h.said h.say h.stand;
      refused = refused_on names s h.line h.cause (ap (λ b. line_cause names b h.line) (all_first h.said) ∙ h.bad);
      placed = h.placed;
    })

-- reading gives exactly what the lines say, or the first fault
pub schedule_reading : (names : List (List ℕ)) (text : List ℕ)
    → IsReading (SaysSchedule names text) (IsFirstFault names text) (schedule_read names text)
schedule_reading names text =
    record {
      found = schedule_found names text;
      only = schedule_only names text;
      fault = schedule_fault names text;
      refused = schedule_refused names text;
    }
