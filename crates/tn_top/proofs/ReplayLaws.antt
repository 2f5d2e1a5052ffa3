-- Of replays: what their lines look up, and how they end.
use Rattle.std.proofs.Common.{◌≡◌, ℕ, Bool, true, false, zero, suc, ◌+◌, ◌-◌, ◌<◌, List, [], ◌∷◌, ◌++◌, length}
use Rattle.std.proofs.Common.{map, take, Option, Some, None, Result, Ok, Err}
use Rattle.std.proofs.Common.{Bor, get_or, refl, sym, ap, ap₂, ◌∙◌, arith, append-nil}
use Rattle.std.specs.Prelude.{slice_index_or, nat_lt, if◌then◌else◌}
use Rattle.std.specs.List.{flat_map}
use Rattle.std.proofs.lemmas.Grind.{flat_map-append}
use Rattle.std.proofs.lemmas.List.{append_assoc, map-append, take_more}
use Rattle.std.specs.Option.{option_map}
use Rattle.std.specs.Str.Lines.{lines}
use Rattle.tn_text.specs.declared.faults.Fault.{Fault}
use Rattle.tn_text.specs.declared.limits.Limit.TheVariants.{Lines}
use Rattle.tn_text.specs.declared.limits.TheConstants.{LINE_LIMIT}
use Rattle.tn_text.specs.WordTexts.{spaced}
use Rattle.tn_io.specs.Outs.{Printed, told_then}
use Rattle.tn_schedule.specs.declared.acts.Line.{Line}
use Rattle.tn_schedule.specs.declared.acts.ScheduleFault.{ScheduleFault}
use Rattle.tn_schedule.specs.declared.acts.ScheduleFault.TheVariants as reading
use Rattle.tn_schedule.specs.Schedules.{ScheduleState}
use Rattle.tn_schedule.specs.ScheduleReading.{schedule_read, faulted, limited}
use Rattle.tn_replay.specs.declared.replays.Summary.{Summary}
use Rattle.tn_replay.specs.declared.replays.ReplayFault.TheVariants as replaying
use Rattle.tn_replay.specs.Replays.{Known, beginning, ReplayState, Left, Replayed, then_lines, line_done, replayed}
use Rattle.tn_replay.specs.ReplayEnds.{Replays}
use Rattle.tn_network.specs.Nets.{NetState}
use Rattle.tn_top.specs.declared.refusals.Refusal.{Refusal}
use Rattle.tn_top.specs.declared.refusals.Refusal.TheVariants as refusal
use Rattle.tn_top.specs.Plans.{Answer, fault, limit, refused}
use Rattle.tn_top.specs.ModulePlans.{or_fault}
use Rattle.tn_top.specs.Outcomes.{Begins, printed_by}
use Rattle.tn_top.specs.ReplayPlans.{ReplaySources, known_of, schedule_in, with_text, line_of, tokens_at}
use Rattle.tn_top.specs.ReplayPlans.{replay_of, said_of}
use Rattle.tn_top.specs.SystemNets.{system_net}
use Rattle.tn_top.specs.Inner.Ends.{Prints}
use Rattle.tn_top.specs.Inner.Replays.{IsStepRefusal, WhyCut, Replies}
use Rattle.tn_top.proofs.TreeTexts.{none-of-it}

-- ---- answers

-- an answer of a replay prints its text
pub said-text : (file text : List ℕ) (acts : List Line) (printed : List ℕ) (o : Option ℕ)
    → printed_by (said_of file text acts printed o) ≡ printed
said-text file text acts printed None = refl
said-text file text acts printed (Some i) = refl

pub said-prints : (file text : List ℕ) (acts : List Line) (printed : List ℕ) (o : Option ℕ)
    → Prints (printed_by (said_of file text acts printed o)) (said_of file text acts printed o)
said-prints file text acts printed None = refl
said-prints file text acts printed (Some i) = refl

-- what a replay comes to, by what its lines look up and the network that it begins in
pub replay-is : (r : ReplaySources) (k : Known) (net : NetState) → k ≡ known_of r → net ≡ system_net r.schedule.power r.system
    → replay_of r ≡ replayed k r.schedule.lines (beginning net)
unfolding replay_of
replay-is r k net same_k same_net = ap₂ (λ x n. replayed x r.schedule.lines (beginning n)) (sym same_k) (sym same_net)

-- ---- schedules

module _ (file : List ℕ) (names : List (List ℕ)) (text : List ℕ) where
  abbrev Read : Bool → Result ScheduleState Fault → Result ScheduleState ScheduleFault
  Read b r = if b then Err (reading.Lines (length (lines text))) else faulted r

  abbrev Answered : Bool → Result ScheduleState Fault → Result ScheduleState Answer
  Answered b r = if b then Err (limit Lines (length (lines text))) else or_fault file r

  given : (b : Bool) (r : Result ScheduleState Fault) (s : ScheduleState) → Ok s ≡ Read b r → Answered b r ≡ Ok s
  given true r s e = absurd cc
  given false (Ok t) s e = cc
  given false (Err first) s e = absurd cc

  bad : (b : Bool) (r : Result ScheduleState Fault) (first : Fault) → Err (reading.Fault first) ≡ Read b r
      → Answered b r ≡ Err (fault file first)
  bad true r first e = absurd cc
  bad false (Ok t) first e = absurd cc
  bad false (Err other) first e =
      let same : other ≡ first = cc in ap (λ f. Err (fault file f)) same

  long : (b : Bool) (r : Result ScheduleState Fault) (n : ℕ) → Err (reading.Lines n) ≡ Read b r → Answered b r ≡ Err (limit Lines n)
  long true r n e = let same : length (lines text) ≡ n = cc in ap (λ m. Err (limit Lines m)) same
  long false (Ok t) n e = absurd cc
  long false (Err other) n e = absurd cc

  pub schedule-given : (s : ScheduleState) → Ok s ≡ limited text (schedule_read names text)
      → with_text text (schedule_in file names text) ≡ Ok (text, s)
  unfolding schedule_in
  schedule-given s e = ap (with_text text) (given (nat_lt LINE_LIMIT (length (lines text))) (schedule_read names text) s e)

  pub schedule-fault : (first : Fault) → Err (reading.Fault first) ≡ limited text (schedule_read names text)
      → with_text text (schedule_in file names text) ≡ Err (fault file first)
  unfolding schedule_in
  schedule-fault first e = ap (with_text text) (bad (nat_lt LINE_LIMIT (length (lines text))) (schedule_read names text) first e)

  pub schedule-long : (n : ℕ) → Err (reading.Lines n) ≡ limited text (schedule_read names text)
      → with_text text (schedule_in file names text) ≡ Err (limit Lines n)
  unfolding schedule_in
  schedule-long n e = ap (with_text text) (long (nat_lt LINE_LIMIT (length (lines text))) (schedule_read names text) n e)

-- ---- where a replay ends

-- the first line that may not be done is one of the lines
pub refused-within : (k : Known) (ls : List Line) (s : ReplayState) (i : ℕ) → (replayed k ls s).refused ≡ Some i → i < length ls
unfolding replayed
refused-within k [] s i e = absurd cc
refused-within k (line ∷ ls) s i e = at (λ t j. refused-within k ls t j) (line_done k line.act s) e
  where
    more : (o : Option ℕ) → ((j : ℕ) → o ≡ Some j → j < length ls) → option_map suc o ≡ Some i → i < suc (length ls)
    more None within q = absurd cc
    more (Some j) within q =
        let below : j < length ls = within j refl in
        let same : suc j ≡ i = cc in
        omega (arith, below, same)

    at : ((t : ReplayState) (j : ℕ) → (replayed k ls t).refused ≡ Some j → j < length ls) → (left : Option Left)
        → (then_lines left s (λ t. replayed k ls t)).refused ≡ Some i → i < suc (length ls)
    at behind None q = let first : 0 ≡ i = cc in omega (arith, first)
    at behind (Some left) q = more (replayed k ls left.state).refused (λ j. behind left.state j) q

-- ---- how it ends

module _ (file text : List ℕ) (ls : List Line) (r : Replayed) (k : Known) (s : ReplayState) (is : r ≡ replayed k ls s) (net : NetState)
    (old new : Printed) where
  abbrev answer : Answer
  answer = said_of file text ls r.text r.refused

  whole : new.bytes ≡ told_then (replayed k ls s).text old.bytes → new.bytes ≡ told_then (printed_by answer) old.bytes
  whole printed =
      printed ∙ ap (λ t. told_then t old.bytes) (ap (λ (x : Replayed). x.text) (sym is) ∙ sym (said-text file text ls r.text r.refused))

  front : (count : ℕ) × (new.bytes ≡ told_then (take count (replayed k ls s).text) old.bytes) → Begins (printed_by answer) old new
  unfolding Begins
  front part = (
    part.0,
    part.1 ∙ ap (λ t. told_then (take part.0 t) old.bytes)
        (ap (λ (x : Replayed). x.text) (sym is) ∙ sym (said-text file text ls r.text r.refused)),
  )

  ended : (o : Option ℕ) → (replayed k ls s).refused ≡ o → answer ≡ said_of file text ls (printed_by answer) o
  ended o e =
      ap (λ t. said_of file text ls t r.refused) (sym (said-text file text ls r.text r.refused))
      ∙ ap (said_of file text ls (printed_by answer)) (ap (λ (x : Replayed). x.refused) is ∙ e)

  pub replied-done : (summary : Summary) (u : Unit {0}) → Replays k ls s (Ok summary) net old new
      → Replies {T = Unit {0}} answer old new (Ok u)
  replied-done summary u h = record { ok = (ended None h.done.0.refused, whole h.done.0.printed); err = tt }

  refused-as : (i : ℕ) → (replayed k ls s).refused ≡ Some i → new.bytes ≡ told_then (replayed k ls s).text old.bytes
      → (count : ℕ) × (new.bytes ≡ told_then (take count (replayed k ls s).text) old.bytes) → (why : Refusal)
      → IsStepRefusal file (line_of ls i) (tokens_at text (line_of ls i)) why → WhyCut answer old new why
  refused-as i e printed part (refusal.NotEnabled name number words) h = (
    ended (Some i) e
        ∙ (ap (λ f. refused f (line_of ls i) (tokens_at text (line_of ls i)) (printed_by answer)) (sym h.0)
        ∙ (ap (λ n. refused name n (tokens_at text (line_of ls i)) (printed_by answer)) (sym h.1)
        ∙ ap (λ t. refused name number t (printed_by answer)) (sym h.2))),
    whole printed,
  )
  refused-as i e printed part refusal.NoMemory h = front part
  refused-as i e printed part (refusal.Fault name first) h = absurd h
  refused-as i e printed part (refusal.Limit word count) h = absurd h
  refused-as i e printed part (refusal.Unread name) h = absurd h
  refused-as i e printed part (refusal.Unwritten name) h = absurd h
  refused-as i e printed part refusal.Unprinted h = absurd h

  pub replied-refused : (i : ℕ) (why : Refusal) → Replays k ls s (Err (replaying.NotEnabled i)) net old new
      → IsStepRefusal file (line_of ls i) (tokens_at text (line_of ls i)) why → Replies {T = Unit {0}} answer old new (Err why)
  replied-refused i why h step =
      let told = h.not_enabled i refl in
      record { ok = tt; err = refused-as i told.refused told.printed h.part why step }

  pub replied-unprinted : Replays k ls s (Err replaying.Out) net old new → Replies {T = Unit {0}} answer old new (Err refusal.Unprinted)
  replied-unprinted h = record { ok = tt; err = (front h.part, (h.out refl).failed) }

  pub replied-want : Replays k ls s (Err replaying.NoMemory) net old new → Replies {T = Unit {0}} answer old new (Err refusal.NoMemory)
  replied-want h = record { ok = tt; err = front h.part }

-- there was no memory for the network
pub replied-none : (said : Answer) (old : Printed) → Replies {T = Unit {0}} said old old (Err refusal.NoMemory)
unfolding Begins
replied-none said old = record { ok = tt; err = (0, none-of-it old.bytes) }

-- ---- lines and tokens

-- the line at a place behind the first
index-step : (x : List ℕ) (xs : List (List ℕ)) (n : ℕ) → 0 < n → slice_index_or (x ∷ xs) n [] ≡ slice_index_or xs (n - 1) []
index-step x xs zero h = absurd (omega (arith, h))
index-step x xs (suc n) h = let e : suc n - 1 ≡ n = omega arith in rw e refl

module _ (rest behind line wanted : List ℕ) (left : ℕ) (are : lines rest ≡ line ∷ lines behind)
    (at : slice_index_or (lines rest) left [] ≡ wanted) where
  pub line-here : left ≡ 0 → line ≡ wanted
  line-here zero_left = ap (λ (ls : List (List ℕ)). slice_index_or ls 0 []) (sym are) ∙
      (ap (λ n. slice_index_or (lines rest) n []) (sym zero_left) ∙ at)

  pub line-behind : 0 < left → slice_index_or (lines behind) (left - 1) [] ≡ wanted
  line-behind more =
      sym (index-step line (lines behind) left more) ∙ (ap (λ (ls : List (List ℕ)). slice_index_or ls left []) (sym are) ∙ at)

pub line-missing : (rest wanted : List ℕ) (left : ℕ) → lines rest ≡ [] → slice_index_or (lines rest) left [] ≡ wanted → [] ≡ wanted
line-missing rest wanted left none at = ap (λ (ls : List (List ℕ)). slice_index_or ls left []) (sym none) ∙ at

-- one token more
pub tokens-more : (tokens : List (Bor (List ℕ))) (i : ℕ) (token : Bor (List ℕ)) (before now blank new : List ℕ) → i < length tokens
    → token ≡ get_or tokens i token → now ≡ before ++ flat_map spaced (map (λ (t : Bor (List ℕ)). t.now) (take i tokens))
    → blank ≡ now ++ 32 ∷ [] → new ≡ blank ++ token.now
    → new ≡ before ++ flat_map spaced (map (λ (t : Bor (List ℕ)). t.now) (take (i + 1) tokens))
unfolding spaced
tokens-more tokens i token before now blank new inside is so_far more put =
    let front : List ℕ = flat_map spaced (map (λ (t : Bor (List ℕ)). t.now) (take i tokens)) in
    let joined : flat_map spaced (map (λ (t : Bor (List ℕ)). t.now) (take (i + 1) tokens)) ≡ front ++ spaced token.now =
    ap (λ (xs : List (Bor (List ℕ))). flat_map spaced (map (λ (t : Bor (List ℕ)). t.now) xs))
    (take_more tokens i token inside ∙ ap (λ (y : Bor (List ℕ)). take i tokens ++ y ∷ []) (sym is))
    ∙ (ap (flat_map spaced) (map-append (λ (t : Bor (List ℕ)). t.now) (take i tokens) (token ∷ []))
    ∙ (flat_map-append spaced (map (λ (t : Bor (List ℕ)). t.now) (take i tokens)) (token.now ∷ [])
    ∙ ap (λ (t : List ℕ). front ++ t) (append-nil (spaced token.now)))) in
    put
    ∙ (ap (λ (b : List ℕ). b ++ token.now) more
    ∙ (ap (λ (n : List ℕ). (n ++ 32 ∷ []) ++ token.now) so_far
    ∙ (append_assoc (before ++ front) (32 ∷ []) token.now
    ∙ (append_assoc before front (spaced token.now)
    ∙ ap (λ (x : List ℕ). before ++ x) (sym joined)))))
