-- What follows of a command from how it ended.
use Rattle.std.proofs.Common.{◌≡◌, ◌≢◌, ℕ, ◌⊎◌, inl, inr, List, [], append-nil, Option, Some, None, IfSome, Result, Ok, Err}
use Rattle.std.proofs.Common.{refl, sym, ap, ◌∙◌, subst}
use Rattle.tn_text.specs.Counts.{Rose}
use Rattle.tn_io.specs.FileLists.{Files, held}
use Rattle.tn_io.specs.Outs.{Printed, told_then}
use Rattle.tn_io.specs.Stores.{Stored, told}
use Rattle.tn_text.specs.declared.faults.Fault.{Fault}
use Rattle.tn_text.specs.declared.limits.Limit.{Limit}
use Rattle.tn_top.specs.declared.refusals.Refusal.{Refusal}
use Rattle.tn_top.specs.declared.refusals.Refusal.TheVariants as refusal
use Rattle.tn_top.specs.declared.statuses.Status.{Status}
use Rattle.tn_top.specs.declared.statuses.Status.TheVariants as status
use Rattle.tn_top.specs.Plans.{Answer, usage, unread, fault, limit, refused, done, Plan, gives, stops, reads, then_plan, Goes}
use Rattle.tn_top.specs.Plans.{Reaches, at_end, at_stop, at_gap}
use Rattle.tn_top.specs.Inner.Stages.{Unreadable, Unable, Staged}
use Rattle.tn_top.specs.Outcomes.{Told, SameFiles, Holds, HoldsPart, without, Begins, printed_by, status_of, IsDone, IsPrinted, AllGiven}
use Rattle.tn_top.specs.Outcomes.{WritesTo, AnswersLike, IsUnread, CannotRead, HasCause, HasStatus, Unless}
use Rattle.tn_top.specs.Outcomes.{NothingFailed, FilesAfter, PrintedAfter, PrintsWhole, PrintsPart}
use Rattle.tn_top.specs.Refusals.{end_status, refused_line, end_line}
use Rattle.tn_top.specs.ErrLines.{ComesToRead, IsLine}
use Rattle.tn_top.specs.Inner.Ends.{Prints, Ends, wrote_all, showed_all, unable, wrote_part, wrote_for_want, showed_part, showed_for_want}
use Rattle.tn_top.specs.Inner.Ends.{not_enabled, Puts, Shows}
use Rattle.tn_top.specs.Inner.Replays.{Replies}
use Rattle.tn_top.proofs.PlanLaws.{goes-then, given-goes, without-goes, one_answer}
use Rattle.tn_top.proofs.StageLaws.{unable-then}

more : {P Q : Files → Type 0} (files : Option Files) → ((fs : Files) → P fs → Q fs) → IfSome files P → IfSome files Q
more None f h = tt
more (Some fs) f h = f fs h

always : {P : Files → Type 0} (files : Option Files) → ((fs : Files) → P fs) → IfSome files P
always None f = tt
always (Some fs) f = f fs

-- the answer where a plan was followed to its end
given : (files : Option Files) (plan : Plan Answer) (a : Answer) → Goes files plan (gives a) → IfSome files (λ fs. Reaches fs plan a)
given None plan a g = tt
given (Some fs) plan a g = at_end a g

-- or to where it stops
stopped : (files : Option Files) (plan : Plan Answer) (a : Answer) → Goes files plan (stops a) → IfSome files (λ fs. Reaches fs plan a)
stopped None plan a g = tt
stopped (Some fs) plan a g = at_stop a g

-- or to a file that cannot be read
without_it : (files : Option Files) (plan : Plan Answer) (file : List ℕ) (next : List ℕ → Plan Answer) → Goes files plan (reads file next)
    → IfSome files (λ fs. Reaches (without fs file) plan (unread file))
without_it None plan file next g = tt
without_it (Some fs) plan file next g = without-goes fs file next plan (reads file next) refl g

missing_it : (files : Option Files) (plan : Plan Answer) (file : List ℕ) (next : List ℕ → Plan Answer) → told files file ≡ Some None
    → Goes files plan (reads file next) → IsUnread (Some plan) files file
missing_it None plan file next e g = absurd cc
missing_it (Some fs) plan file next e g = let gone : held fs file ≡ None = cc in at_gap file next g gone

-- or to where it lacks one of its own
lacking_it : (files : Option Files) (plan : Plan Answer) (file : List ℕ) → Goes files plan (stops (unread file))
    → IsUnread (Some plan) files file
lacking_it None plan file g = g
lacking_it (Some fs) plan file g = at_stop (unread file) g

-- an answer of a kind
like : (plan : Plan Answer) (P : Answer → Type 0) (files : Option Files) (a : Answer) → P a → IfSome files (λ fs. Reaches fs plan a)
    → IfSome files (λ fs. AnswersLike (Some plan) fs P)
like plan P files a p = more files (λ fs h. (a, h, p))

nothing : (o : Option (List ℕ)) → told_then [] o ≡ o
nothing None = refl
nothing (Some bs) = ap Some (append-nil bs)

none_of_it : (text : List ℕ) (old new : Printed) → new.bytes ≡ old.bytes → Begins text old new
unfolding Begins
none_of_it text old new e = (0, e ∙ sym (nothing old.bytes))

printed_is : (text : List ℕ) (a : Answer) → Prints text a → IsPrinted a
printed_is text (done None said) h = tt
printed_is text (done (Some file) said) h = tt
printed_is text (refused file line tokens said) h = tt
printed_is text usage h = absurd h
printed_is text (unread file) h = absurd h
printed_is text (fault file first) h = absurd h
printed_is text (limit word count) h = absurd h

text_is : (text : List ℕ) (a : Answer) → Prints text a → text ≡ printed_by a
text_is text (done None said) h = h
text_is text (done (Some file) said) h = absurd h
text_is text (refused file line tokens said) h = h
text_is text usage h = absurd h
text_is text (unread file) h = absurd h
text_is text (fault file first) h = absurd h
text_is text (limit word count) h = absurd h

-- what an end says of the answer, where no read failed
data Says (a : Answer) (before after : Stored) (old new : Printed) : Status → Type 0 where
  same : {s : Status} → s ≡ status_of a → Says a before after old new s
  not_written : Rose before.write_faults after.write_faults → IsDone a → Says a before after old new status.WriteFault
  not_printed : Rose old.faults new.faults → IsPrinted a → Says a before after old new status.OutFault

kept : (plan : Plan Answer) (s : Status) (fs : Files) → s ≢ status.Done → s ≢ status.WriteFault → FilesAfter (Some plan) s fs fs
kept plan status.Done fs n m = absurd (n refl)
kept plan status.WriteFault fs n m = absurd (m refl)
kept plan status.NoMemory fs n m = inl (λ name. refl)
kept plan status.Fault fs n m = λ name. refl
kept plan status.Usage fs n m = λ name. refl
kept plan status.Limit fs n m = λ name. refl
kept plan status.ReadFault fs n m = λ name. refl
kept plan status.OutFault fs n m = λ name. refl
kept plan status.NotEnabled fs n m = λ name. refl

module _ (plan : Plan Answer) (before after : Stored) (old new : Printed) where
  cannot_read : (file : List ℕ) → Unreadable plan before after file → CannotRead (Some plan) before after file
  cannot_read file (inl u) = at u.2
    where
      at : Rose before.read_faults after.read_faults ⊎ (told before.files file ≡ Some None) → CannotRead (Some plan) before after file
      at (inl rose) = inr (rose, without_it before.files plan file u.0 u.1)
      at (inr e) = inl (missing_it before.files plan file u.0 e u.1)
  cannot_read file (inr g) = inl (lacking_it before.files plan file g)

  came_to_read : (file : List ℕ) → Unreadable plan before after file → ComesToRead (Some plan) before.files file
  came_to_read file (inl u) = inl (u.0, u.1)
  came_to_read file (inr g) = inr g

  unable_cause : (T : Type 0) (why : Refusal) → Unable plan before after why
      → HasCause (Some plan) before after old new (end_status {T = T} (Err why))
  unfolding Unable
  unable_cause T (refusal.Fault file first) u =
      more before.files (λ fs h. (file, first, h)) (stopped before.files plan (fault file first) u)
  unable_cause T (refusal.Limit word count) u =
      more before.files (λ fs h. (word, count, h)) (stopped before.files plan (limit word count) u)
  unable_cause T (refusal.Unread file) u = (file, cannot_read file u)
  unable_cause T (refusal.Unwritten file) u = absurd u
  unable_cause T refusal.Unprinted u = absurd u
  unable_cause T (refusal.NotEnabled file line tokens) u = absurd u
  unable_cause T refusal.NoMemory u = tt

  -- each status has its cause
  pub ends_cause : {T : Type 0} (r : Result T Refusal) → Ends plan before after old new r
      → HasCause (Some plan) before after old new (end_status r)
  ends_cause r (wrote_all x file bytes g t o p) =
      like plan IsDone before.files (done (Some (file, bytes)) []) tt (given before.files plan (done (Some (file, bytes)) []) g)
  ends_cause r (showed_all x text g f p) =
      like plan IsDone before.files (done None text) tt (given before.files plan (done None text) g)
  ends_cause {T} r (unable why u f p) = unable_cause T why u
  ends_cause r (wrote_part file bytes g t rose p) =
      (rose, like plan IsDone before.files (done (Some (file, bytes)) []) tt (given before.files plan (done (Some (file, bytes)) []) g))
  ends_cause r (wrote_for_want file bytes g t p) = tt
  ends_cause r (showed_part text answer is g f rose b) =
      (rose, like plan IsPrinted before.files answer (printed_is text answer is) (given before.files plan answer g))
  ends_cause r (showed_for_want text answer is g f b) = tt
  ends_cause r (not_enabled file line tokens text g f p) =
      more before.files (λ fs h. (file, line, tokens.items, text, h)) (given before.files plan (refused file line tokens.items text) g)

  -- over files: want of memory, or an answer and what the end says of it
  Ended : Status → Files → Type 0
  Ended s fs = (s ≡ status.NoMemory) ⊎ ((a : Answer) × Reaches fs plan a × Says a before after old new s)

  ended : (s : Status) (a : Answer) → Says a before after old new s → IfSome before.files (λ fs. Reaches fs plan a)
      → IfSome before.files (Ended s)
  unfolding Ended
  ended s a said = more before.files (λ fs h. inr (a, h, said))

  wanting : IfSome before.files (Ended status.NoMemory)
  unfolding Ended
  wanting = always before.files (λ fs. inl refl)

  unread_says : (file : List ℕ) → Unreadable plan before after file → (Rose before.read_faults after.read_faults → ⊥)
      → IfSome before.files (Ended status.ReadFault)
  unread_says file (inl u) calm = at u.2
    where
      reached : (files : Option Files) → IsUnread (Some plan) files file → IfSome files (λ fs. Reaches fs plan (unread file))
      reached None h = tt
      reached (Some fs) h = h

      at : Rose before.read_faults after.read_faults ⊎ (told before.files file ≡ Some None) → IfSome before.files (Ended status.ReadFault)
      at (inl rose) = absurd (calm rose)
      at (inr e) = ended status.ReadFault (unread file) (same refl)
          (reached before.files (missing_it before.files plan file u.0 e u.1))
  unread_says file (inr g) calm =
      ended status.ReadFault (unread file) (same refl) (stopped before.files plan (unread file) g)

  unable_says : (T : Type 0) (why : Refusal) → Unable plan before after why → (Rose before.read_faults after.read_faults → ⊥)
      → IfSome before.files (Ended (end_status {T = T} (Err why)))
  unfolding Unable
  unable_says T (refusal.Fault file first) u calm =
      ended status.Fault (fault file first) (same refl) (stopped before.files plan (fault file first) u)
  unable_says T (refusal.Limit word count) u calm =
      ended status.Limit (limit word count) (same refl) (stopped before.files plan (limit word count) u)
  unable_says T (refusal.Unread file) u calm = unread_says file u calm
  unable_says T (refusal.Unwritten file) u calm = absurd u
  unable_says T refusal.Unprinted u calm = absurd u
  unable_says T (refusal.NotEnabled file line tokens) u calm = absurd u
  unable_says T refusal.NoMemory u calm = wanting

  says : {T : Type 0} (r : Result T Refusal) → Ends plan before after old new r → (Rose before.read_faults after.read_faults → ⊥)
      → IfSome before.files (Ended (end_status r))
  says r (wrote_all x file bytes g t o p) calm =
      ended status.Done (done (Some (file, bytes)) []) (same refl) (given before.files plan (done (Some (file, bytes)) []) g)
  says r (showed_all x text g f p) calm =
      ended status.Done (done None text) (same refl) (given before.files plan (done None text) g)
  says {T} r (unable why u f p) calm = unable_says T why u calm
  says r (wrote_part file bytes g t rose p) calm = ended status.WriteFault (done (Some (file, bytes)) []) (not_written rose tt)
      (given before.files plan (done (Some (file, bytes)) []) g)
  says r (wrote_for_want file bytes g t p) calm = wanting
  says r (showed_part text answer is g f rose b) calm =
      ended status.OutFault answer (not_printed rose (printed_is text answer is)) (given before.files plan answer g)
  says r (showed_for_want text answer is g f b) calm = wanting
  says r (not_enabled file line tokens text g f p) calm = ended status.NotEnabled (refused file line tokens.items text) (same refl)
      (given before.files plan (refused file line tokens.items text) g)

  -- where no call failed, the status is the answer's
  status_said : (a : Answer) (s : Status) → NothingFailed before after old new → Says a before after old new s → s ≡ status_of a
  status_said a s calm (same e) = e
  status_said a s calm (not_written rose d) = absurd (calm.writing rose)
  status_said a s calm (not_printed rose d) = absurd (calm.printing rose)

  -- an answer that neither writes nor prints has its status, where no read failed
  refusal_said : (a : Answer) (s : Status) → (IsPrinted a → ⊥) → (IsDone a → ⊥) → Says a before after old new s → s ≡ status_of a
  refusal_said a s n m (same e) = e
  refusal_said a s n m (not_written rose d) = absurd (m d)
  refusal_said a s n m (not_printed rose d) = absurd (n d)

  enabled_said : (a : Answer) (s : Status) → (IsDone a → ⊥) → (Rose old.faults new.faults → ⊥) → Says a before after old new s
      → s ≡ status_of a
  enabled_said a s m calm (same e) = e
  enabled_said a s m calm (not_written rose d) = absurd (m d)
  enabled_said a s m calm (not_printed rose d) = absurd (calm rose)

  -- of an answer that is told, where the end says so of each answer
  said_of : (s : Status) (fs : Files) (b : Answer) → ((a : Answer) → a ≡ b → Says a before after old new s → s ≡ status_of a)
      → Ended s fs → Reaches fs plan b → Unless s (status_of b)
  unfolding Ended
  said_of s fs b said (inl e) h = inl e
  said_of s fs b said (inr t) h =
      let same_answer : t.0 ≡ b = one_answer fs plan t.0 b t.1 h in inr (said t.0 same_answer t.2 ∙ ap status_of same_answer)

  status_ended : (s : Status) (fs : Files) → NothingFailed before after old new → Ended s fs → HasStatus (Some plan) fs s
  unfolding Ended
  status_ended s fs calm (inl e) = inl e
  status_ended s fs calm (inr t) = inr (t.0, t.1, status_said t.0 s calm t.2)

  pub ends_status : {T : Type 0} (r : Result T Refusal) → Ends plan before after old new r → NothingFailed before after old new
      → IfSome before.files (λ fs. HasStatus (Some plan) fs (end_status r))
  ends_status r h calm = more before.files (λ fs t. status_ended (end_status r) fs calm t) (says r h calm.reading)

  pub ends_fault : {T : Type 0} (r : Result T Refusal) → Ends plan before after old new r
      → (Rose before.read_faults after.read_faults → ⊥) → IfSome before.files (λ fs. (file : List ℕ) (first : Fault)
      → Reaches fs plan (fault file first) → Unless (end_status r) status.Fault)
  ends_fault r h calm = more before.files (λ fs t file first k. said_of (end_status r) fs (fault file first)
      (λ a e s. refusal_said a (end_status r) (λ p. subst IsPrinted e p) (λ p. subst IsDone e p) s) t k) (says r h calm)

  pub ends_limit : {T : Type 0} (r : Result T Refusal) → Ends plan before after old new r
      → (Rose before.read_faults after.read_faults → ⊥) → IfSome before.files (λ fs. (word : Limit) (count : ℕ)
      → Reaches fs plan (limit word count) → Unless (end_status r) status.Limit)
  ends_limit r h calm = more before.files (λ fs t word count k. said_of (end_status r) fs (limit word count)
      (λ a e s. refusal_said a (end_status r) (λ p. subst IsPrinted e p) (λ p. subst IsDone e p) s) t k) (says r h calm)

  pub ends_not_enabled : {T : Type 0} (r : Result T Refusal) → Ends plan before after old new r
      → (Rose before.read_faults after.read_faults → ⊥) → (Rose old.faults new.faults → ⊥)
      → IfSome before.files (λ fs. (file : List ℕ) (line : ℕ) (tokens text : List ℕ) → Reaches fs plan (refused file line tokens text)
      → Unless (end_status r) status.NotEnabled)
  ends_not_enabled r h calm quiet =
      more before.files (λ fs t file line tokens text k. said_of (end_status r) fs (refused file line tokens text)
      (λ a e s. enabled_said a (end_status r) (λ p. subst IsDone e p) quiet s) t k) (says r h calm)

  kept_told : (s : Status) → after.files ≡ before.files → s ≢ status.Done → s ≢ status.WriteFault
      → IfSome before.files (λ fs. Told before.files after.files (FilesAfter (Some plan) s))
  kept_told s e n m = at before.files after.files e
    where
      at : (one two : Option Files) → two ≡ one → IfSome one (λ fs. Told one two (FilesAfter (Some plan) s))
      at None two q = tt
      at (Some fs) two q = subst (λ f. Told (Some fs) f (FilesAfter (Some plan) s)) (sym q) (kept plan s fs n m)

  put_told : (s : Status) (a : Answer) (P : Files → Files → Type 0)
      → ((fs gs : Files) → Reaches fs plan a → P fs gs → FilesAfter (Some plan) s fs gs) → Told before.files after.files P
      → IfSome before.files (λ fs. Reaches fs plan a) → IfSome before.files (λ fs. Told before.files after.files (FilesAfter (Some plan) s))
  put_told s a P f = at before.files after.files
    where
      at : (one two : Option Files) → Told one two P → IfSome one (λ fs. Reaches fs plan a)
          → IfSome one (λ fs. Told one two (FilesAfter (Some plan) s))
      at None two t h = tt
      at (Some fs) None t h = absurd t
      at (Some fs) (Some gs) t h = f fs gs h t

  unable_files : (T : Type 0) (why : Refusal) → Unable plan before after why → after.files ≡ before.files
      → IfSome before.files (λ fs. Told before.files after.files (FilesAfter (Some plan) (end_status {T = T} (Err why))))
  unfolding Unable
  unable_files T (refusal.Fault file first) u e = kept_told status.Fault e (λ q. cc) (λ q. cc)
  unable_files T (refusal.Limit word count) u e = kept_told status.Limit e (λ q. cc) (λ q. cc)
  unable_files T (refusal.Unread file) u e = kept_told status.ReadFault e (λ q. cc) (λ q. cc)
  unable_files T (refusal.Unwritten file) u e = absurd u
  unable_files T refusal.Unprinted u e = absurd u
  unable_files T (refusal.NotEnabled file line tokens) u e = absurd u
  unable_files T refusal.NoMemory u e = kept_told status.NoMemory e (λ q. cc) (λ q. cc)

  same_told : after.files ≡ before.files → Told before.files after.files SameFiles
  same_told e = at before.files after.files e
    where
      at : (one two : Option Files) → two ≡ one → Told one two SameFiles
      at None two q = subst (λ f. Told None f SameFiles) (sym q) tt
      at (Some fs) two q = subst (λ f. Told (Some fs) f SameFiles) (sym q) (λ name. refl)

  -- what each name holds
  pub ends_files : {T : Type 0} (r : Result T Refusal) → Ends plan before after old new r
      → IfSome before.files (λ fs. Told before.files after.files (FilesAfter (Some plan) (end_status r)))
  ends_files r (wrote_all x file bytes g t o p) =
      put_told status.Done (done (Some (file, bytes)) []) (Holds file bytes) (λ fs gs h l. (done (Some (file, bytes)) [], h, l)) t
      (given before.files plan (done (Some (file, bytes)) []) g)
  ends_files r (showed_all x text g e p) =
      put_told status.Done (done None text) SameFiles (λ fs gs h l. (done None text, h, l)) (same_told e)
      (given before.files plan (done None text) g)
  ends_files {T} r (unable why u e p) = unable_files T why u e
  ends_files r (wrote_part file bytes g t rose p) =
      put_told status.WriteFault (done (Some (file, bytes)) []) (HoldsPart file bytes) (λ fs gs h l. (done (Some (file, bytes)) [], h, l)) t
      (given before.files plan (done (Some (file, bytes)) []) g)
  ends_files r (wrote_for_want file bytes g t p) =
      put_told status.NoMemory (done (Some (file, bytes)) []) (HoldsPart file bytes)
      (λ fs gs h l. inr (done (Some (file, bytes)) [], h, l)) t (given before.files plan (done (Some (file, bytes)) []) g)
  ends_files r (showed_part text answer is g e rose b) = kept_told status.OutFault e (λ q. cc) (λ q. cc)
  ends_files r (showed_for_want text answer is g e b) = kept_told status.NoMemory e (λ q. cc) (λ q. cc)
  ends_files r (not_enabled file line tokens text g e p) = kept_told status.NotEnabled e (λ q. cc) (λ q. cc)

  unable_print : (T : Type 0) (why : Refusal) → Unable plan before after why → new.bytes ≡ old.bytes
      → IfSome before.files (λ fs. PrintedAfter (Some plan) fs (end_status {T = T} (Err why)) old new)
  unfolding Unable
  unable_print T (refusal.Fault file first) u p = always before.files (λ fs. p)
  unable_print T (refusal.Limit word count) u p = always before.files (λ fs. p)
  unable_print T (refusal.Unread file) u p = always before.files (λ fs. p)
  unable_print T (refusal.Unwritten file) u p = absurd u
  unable_print T refusal.Unprinted u p = absurd u
  unable_print T (refusal.NotEnabled file line tokens) u p = absurd u
  unable_print T refusal.NoMemory u p = always before.files (λ fs. inl p)

  -- what was printed
  pub ends_print : {T : Type 0} (r : Result T Refusal) → Ends plan before after old new r
      → IfSome before.files (λ fs. PrintedAfter (Some plan) fs (end_status r) old new)
  ends_print r (wrote_all x file bytes g t o p) =
      like plan (PrintsWhole old new) before.files (done (Some (file, bytes)) []) (p ∙ sym (nothing old.bytes))
      (given before.files plan (done (Some (file, bytes)) []) g)
  ends_print r (showed_all x text g f p) =
      like plan (PrintsWhole old new) before.files (done None text) p (given before.files plan (done None text) g)
  ends_print {T} r (unable why u f p) = unable_print T why u p
  ends_print r (wrote_part file bytes g t rose p) = always before.files (λ fs. p)
  ends_print r (wrote_for_want file bytes g t p) = always before.files (λ fs. inl p)
  ends_print r (showed_part text answer is g f rose b) = like plan (PrintsPart old new) before.files answer
      (subst (λ t. Begins t old new) (text_is text answer is) b) (given before.files plan answer g)
  ends_print r (showed_for_want text answer is g f b) = more before.files (λ fs h. inr h)
      (like plan (PrintsPart old new) before.files answer (subst (λ t. Begins t old new) (text_is text answer is) b)
      (given before.files plan answer g))
  ends_print r (not_enabled file line tokens text g f p) = like plan (PrintsWhole old new) before.files
      (refused file line tokens.items text) p (given before.files plan (refused file line tokens.items text) g)

  unable_line : (T : Type 0) (why : Refusal) → Unable plan before after why
      → IsLine (Some plan) before after (end_status {T = T} (Err why)) (end_line {T = T} (Err why))
  unfolding Unable refused_line
  unable_line T (refusal.Fault file first) u = (file, first, refl, inr u)
  unable_line T (refusal.Limit which count) u = (which, count, refl, inr u)
  unable_line T (refusal.Unread file) u = (file, refl, cannot_read file u, came_to_read file u)
  unable_line T (refusal.Unwritten file) u = absurd u
  unable_line T refusal.Unprinted u = absurd u
  unable_line T (refusal.NotEnabled file line tokens) u = absurd u
  unable_line T refusal.NoMemory u = refl

  -- what is told
  pub ends_line : {T : Type 0} (r : Result T Refusal) → Ends plan before after old new r
      → IsLine (Some plan) before after (end_status r) (end_line r)
  unfolding refused_line
  ends_line r (wrote_all x file bytes g t o p) = refl
  ends_line r (showed_all x text g f p) = refl
  ends_line {T} r (unable why u f p) = unable_line T why u
  ends_line r (wrote_part file bytes g t rose p) = (file, bytes, refl, inl g)
  ends_line r (wrote_for_want file bytes g t p) = refl
  ends_line r (showed_part text answer is g f rose b) = refl
  ends_line r (showed_for_want text answer is g f b) = refl
  ends_line r (not_enabled file line tokens text g f p) = (file, line, tokens.items, text, refl, inl g)

  -- where every answer writes a file, no file is open after Done
  pub ends_closed : {T : Type 0} (target : List ℕ) (r : Result T Refusal) → AllGiven (WritesTo target) plan
      → Ends plan before after old new r → end_status r ≡ status.Done → after.opened ≡ None
  unfolding AllGiven Unable
  ends_closed target r all (wrote_all x file bytes g t o p) e = o
  ends_closed target r all (showed_all x text g f p) e =
      absurd (given-goes before.files (WritesTo target) plan (gives (done None text)) g all)
  ends_closed target r all (unable (refusal.Fault file first) u f p) e = absurd cc
  ends_closed target r all (unable (refusal.Limit word count) u f p) e = absurd cc
  ends_closed target r all (unable (refusal.Unread file) u f p) e = absurd cc
  ends_closed target r all (unable (refusal.Unwritten file) u f p) e = absurd cc
  ends_closed target r all (unable refusal.Unprinted u f p) e = absurd cc
  ends_closed target r all (unable (refusal.NotEnabled file line tokens) u f p) e = absurd cc
  ends_closed target r all (unable refusal.NoMemory u f p) e = absurd cc
  ends_closed target r all (wrote_part file bytes g t rose p) e = absurd cc
  ends_closed target r all (wrote_for_want file bytes g t p) e = absurd cc
  ends_closed target r all (showed_part text answer is g f rose b) e = absurd cc
  ends_closed target r all (showed_for_want text answer is g f b) e = absurd cc
  ends_closed target r all (not_enabled file line tokens text g f p) e = absurd cc

-- a command for which there was no memory, before it read, wrote or printed anything
pub ends_none : {T : Type 0} (plan : Plan Answer) (s : Stored) (said : Printed) → Ends {T = T} plan s s said said (Err refusal.NoMemory)
unfolding Unable
ends_none plan s said = unable refusal.NoMemory tt refl refl

-- a command whose stages gave nothing
pub ends_stopped : {T U A : Type 0} (seen : T → A) (k : A → Plan Answer) (p : Plan A) (before after : Stored) (shown : Printed)
    (why : Refusal) → Staged seen p before after (Err why) → Ends {T = U} (then_plan p k) before after shown shown (Err why)
ends_stopped seen k p before after shown why s = unable why (unable-then k p before after why s.err) (ap (λ m. m.files) s.same) refl

-- a command whose stages gave a value, and what follows
module _ {T A : Type 0} (seen : T → A) (k : A → Plan Answer) (p : Plan A) (before mid after : Stored) (old new : Printed) (x : T)
    (s : Staged seen p before mid (Ok x)) where
  same_files : mid.files ≡ before.files
  same_files = ap (λ m. m.files) s.same

  there : (a : Answer) → k (seen x) ≡ gives a → Goes before.files (then_plan p k) (gives a)
  unfolding then_plan
  there a e = subst (λ q. Goes before.files (then_plan p k) q) e (goes-then before.files k p (gives (seen x)) s.ok)

  from_before : (P : Files → Files → Type 0) → Told mid.files after.files P → Told before.files after.files P
  from_before P t = subst (λ f. Told f after.files P) same_files t

  from_start : Rose mid.write_faults after.write_faults → Rose before.write_faults after.write_faults
  from_start h = subst (λ n. Rose n after.write_faults) (ap (λ m. m.write_faults) s.same) h

  -- it wrote a file
  pub ends_written : {U : Type 0} (file bytes : List ℕ) (r : Result U Refusal) → k (seen x) ≡ gives (done (Some (file, bytes)) [])
      → Puts file bytes mid after r → Ends (then_plan p k) before after old old r
  ends_written {U} file bytes (Ok y) e h =
      wrote_all y file bytes (there (done (Some (file, bytes)) []) e) (from_before (Holds file bytes) h.ok.0) h.ok.1 refl
  ends_written {U} file bytes (Err (refusal.Unwritten name)) e h =
      subst (λ n. Ends {T = U} (then_plan p k) before after old old (Err (refusal.Unwritten n))) (sym h.err.1.0)
      (wrote_part file bytes (there (done (Some (file, bytes)) []) e) (from_before (HoldsPart file bytes) h.err.0)
      (from_start h.err.1.1) refl)
  ends_written file bytes (Err refusal.NoMemory) e h =
      wrote_for_want file bytes (there (done (Some (file, bytes)) []) e) (from_before (HoldsPart file bytes) h.err.0) refl
  ends_written file bytes (Err (refusal.Fault name first)) e h = absurd h.err.1
  ends_written file bytes (Err (refusal.Limit word count)) e h = absurd h.err.1
  ends_written file bytes (Err (refusal.Unread name)) e h = absurd h.err.1
  ends_written file bytes (Err refusal.Unprinted) e h = absurd h.err.1
  ends_written file bytes (Err (refusal.NotEnabled name line tokens)) e h = absurd h.err.1

  -- it printed a text
  pub ends_shown : {U : Type 0} (text : List ℕ) (r : Result U Refusal) → k (seen x) ≡ gives (done None text) → Shows text old new r
      → Ends (then_plan p k) before mid old new r
  ends_shown {U} text (Ok y) e h = showed_all y text (there (done None text) e) same_files h.ok
  ends_shown text (Err refusal.Unprinted) e h = showed_part text (done None text) refl (there (done None text) e) same_files h.err.1 h.err.0
  ends_shown text (Err refusal.NoMemory) e h = showed_for_want text (done None text) refl (there (done None text) e) same_files h.err.0
  ends_shown text (Err (refusal.Unwritten name)) e h = absurd h.err.1
  ends_shown text (Err (refusal.Fault name first)) e h = absurd h.err.1
  ends_shown text (Err (refusal.Limit word count)) e h = absurd h.err.1
  ends_shown text (Err (refusal.Unread name)) e h = absurd h.err.1
  ends_shown text (Err (refusal.NotEnabled name line tokens)) e h = absurd h.err.1

  -- it printed the text of an answer, which may tell of a step that is not enabled
  pub ends_replied : {U : Type 0} (answer : Answer) (r : Result U Refusal) → k (seen x) ≡ gives answer → Prints (printed_by answer) answer
      → Replies answer old new r → Ends (then_plan p k) before mid old new r
  ends_replied answer (Ok y) e is h =
      showed_all y (printed_by answer) (there (done None (printed_by answer)) (e ∙ ap gives h.ok.0)) same_files h.ok.1
  ends_replied answer (Err refusal.Unprinted) e is h =
      showed_part (printed_by answer) answer is (there answer e) same_files h.err.1 h.err.0
  ends_replied answer (Err refusal.NoMemory) e is h = showed_for_want (printed_by answer) answer is (there answer e) same_files h.err
  ends_replied answer (Err (refusal.NotEnabled file line tokens)) e is h =
      not_enabled file line tokens (printed_by answer)
      (there (refused file line tokens.items (printed_by answer)) (e ∙ ap gives h.err.0)) same_files h.err.1
  ends_replied answer (Err (refusal.Unwritten name)) e is h = absurd h.err
  ends_replied answer (Err (refusal.Fault name first)) e is h = absurd h.err
  ends_replied answer (Err (refusal.Limit word count)) e is h = absurd h.err
  ends_replied answer (Err (refusal.Unread name)) e is h = absurd h.err

  -- there was no memory for what it had to write or to print
  pub ends_wanting : {U : Type 0} → Ends {T = U} (then_plan p k) before mid old old (Err refusal.NoMemory)
  unfolding Unable
  ends_wanting = unable refusal.NoMemory tt same_files refl
