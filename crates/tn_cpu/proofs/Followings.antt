-- A turn over a space ends as over a guarded space that it follows.
use Rattle.std.proofs.Common.{◌≡◌, ℕ, ◌==◌, Bool, true, false, Option, Some, None, Result, Ok, Err, refl, ap, ◌∙◌}
use Rattle.std.specs.Prelude.{if◌then◌else◌, ◌&&◌, ◌+◌, ◌%◌, not}
use Rattle.std.specs.Result.{result_err}
use Rattle.tn_mem.specs.declared.touches.Touch.{Touch}
use Rattle.tn_mem.specs.declared.touches.Touch.TheVariants.{Outside, Code}
use Rattle.tn_mem.specs.Spaces.{Access, IsSpace, SameExtents, first_refusal}
use Rattle.tn_mem.proofs.SpaceLemmas.{extents-none, extents-more}
use Rattle.tn_isa.specs.declared.functions.Fun.{Fun}
use Rattle.tn_isa.specs.declared.functions.Fun.TheVariants.{J, Call, Opr}
use Rattle.tn_isa.specs.declared.operations.Op.{Op}
use Rattle.tn_isa.specs.declared.operations.Op.TheVariants.{Endp, In, Out, Startp, Stopp, Lend, Runp}
use Rattle.tn_isa.specs.Operations.{operation_with}
use Rattle.tn_isa.specs.OperandRegister.{is_prefix, function_of, loaded}
use Rattle.tn_cpu.specs.Steps.{executed, execute_byte, step}
use Rattle.tn_cpu.specs.Effects.{operate, operate_found, effect}
use Rattle.tn_word.specs.Words.{not_process}
use Rattle.tn_cpu.specs.declared.registers.Reg.{Reg}
use Rattle.tn_cpu.specs.declared.registers.Reg.TheVariants.{Undefined, Word}
use Rattle.tn_cpu.specs.States.{State, over_memory, wrap, below, words_above, cleared}
use Rattle.tn_cpu.specs.Turns.{Ended, ran, with_word, with_answer, unless_refused, unless_outside, setting_error, goes_on, why_of}
use Rattle.tn_cpu.specs.Queues.{storable, loadable, block_refusal, source_refusal, stored, copied, word_at, is_waiting}
use Rattle.tn_cpu.specs.Queues.{enqueue_refusal, enqueued_behind, enqueued, next_refusal, idle, resumed, next_from, next, saved}
use Rattle.tn_cpu.specs.Queues.{slice_refusal, timesliced, ran_or_sliced, gave_way, woken_idle, woken_running, woken_behind}
use Rattle.tn_cpu.specs.Queues.{woken_by, woken}
use Rattle.tn_cpu.specs.Rows.{is_loop_taken, frame_refusal, frame_stored, loop_refusal, loop_stored, loop_end, call_row}
use Rattle.tn_cpu.specs.Rows.{startp_row, endp_row, runp_row, stopp_row, lend_row, endp_last, endp_other}
use Rattle.tn_cpu.specs.Channels.{is_outside, bytes_refusal, other_way, linked, waiting, waits, exchanged, partner_refusal, met}
use Rattle.tn_cpu.specs.Channels.{on_channel, transfer_row, channel_at, opens}
use Rattle.tn_cpu.specs.declared.channels.Way.{Way}
use Rattle.tn_cpu.specs.declared.channels.Way.TheVariants.{Input, Output}
use Rattle.tn_cpu.specs.declared.channels.Channel.{Channel}
use Rattle.tn_cpu.specs.declared.channels.Channel.TheVariants.{Link, Internal, NoChannel}
use Rattle.tn_cpu.specs.declared.turns.Turn.{Turn}
use Rattle.tn_cpu.specs.declared.outcomes.Outcome.TheVariants.{Ran}
use Rattle.tn_cpu.proofs.Words.{stored-storable, word_at-loadable, loadable-storable, copied-blocks, extents-stored}
use Rattle.tn_cpu.proofs.Words.{extents-copied, storable-after, loadable-after, block_refusal-after, source_refusal-after}
use Rattle.tn_cpu.proofs.FollowingRefusals.{refusal_like, Refusal, both, in_turn, tested, unrefused, outside_both, err, same-outside}
use Rattle.tn_cpu.proofs.FollowingRefusals.{first-none, then-none, stored-made, copied-made}
use Rattle.tn_cpu.specs.declared.outcomes.Life.{Life}
use Rattle.tn_cpu.specs.declared.outcomes.Life.TheVariants.{Running, Idle, Stopped as IsStopped}
use Rattle.tn_cpu.specs.Following.WokenLike.{halts, wakes}
use Rattle.tn_cpu.specs.Following.{WokenLike, answers_like, AnswersLike, Follows, ended_over, EndsLike}
use Rattle.tn_cpu.specs.Following.EndsLike.{code, same}

module _ {M N : Type 0} (access : Access M) (guard : Access N) (Like : M → N → Type 0) (sim : Follows access guard Like)
    (laws : IsSpace guard) (m : M) (u : State N) (like : Like m u.memory) where
  -- the state before the turn
  abbrev s : State M
  s = over_memory m u

  -- a row that needs a register, an answer or a test
  word :
      (r : Reg) (p : ℕ → Ended M) (g : ℕ → Ended N) → ((w : ℕ) → r ≡ Word w → EndsLike Like (p w) (g w))
      → EndsLike Like (with_word r s p) (with_word r u g)
  word Undefined p g h = same m like refl
  word (Word w) p g h = h w refl

  value_like :
      (r q : Result ℕ Touch) (p : ℕ → Ended M) (g : ℕ → Ended N) → answers_like (λ (x y : ℕ). x ≡ y) r q
      → ((x : ℕ) → EndsLike Like (p x) (g x)) → EndsLike Like (with_answer r s p) (with_answer q u g)
  value_like r (Ok y) p g a h = rw (a.1, a.2) (h y)
  value_like r (Err Outside) p g a h = rw a (same m like refl)
  value_like r (Err Code) p g a h = code refl

  value :
      {r q : Result ℕ Touch} (p : ℕ → Ended M) (g : ℕ → Ended N) → AnswersLike (λ (x y : ℕ). x ≡ y) r q
      → ((x : ℕ) → EndsLike Like (p x) (g x)) → EndsLike Like (with_answer r s p) (with_answer q u g)
  value {r} {q} p g a h = value_like r q p g a.says h

  made_like :
      (r : Result M Touch) (q : Result N Touch) (p : M → Ended M) (g : N → Ended N) → answers_like Like r q
      → ((k : M) (v : N) → Like k v → EndsLike Like (p k) (g v)) → EndsLike Like (with_answer r s p) (with_answer q u g)
  made_like r (Ok v) p g a h = rw a.1 (h a.0 v a.2)
  made_like r (Err Outside) p g a h = rw a (same m like refl)
  made_like r (Err Code) p g a h = code refl

  made :
      {r : Result M Touch} {q : Result N Touch} (p : M → Ended M) (g : N → Ended N) → AnswersLike Like r q
      → ((k : M) (v : N) → Like k v → EndsLike Like (p k) (g v)) → EndsLike Like (with_answer r s p) (with_answer q u g)
  made {r} {q} p g a h = made_like r q p g a.says h

  refused_like :
      (p g : Option Touch) (d : Ended M) (e : Ended N) → refusal_like p g → (g ≡ None → EndsLike Like d e)
      → EndsLike Like (unless_refused p s d) (unless_refused g u e)
  refused_like p None d e r h = rw r (h refl)
  refused_like p (Some Outside) d e r h = rw r (same m like refl)
  refused_like p (Some Code) d e r h = code refl

  refused :
      {p g : Option Touch} (d : Ended M) (e : Ended N) → Refusal p g → (g ≡ None → EndsLike Like d e)
      → EndsLike Like (unless_refused p s d) (unless_refused g u e)
  refused {p} {g} d e r h = refused_like p g d e r.says h

  outside :
      (test : Bool) (d : Ended M) (e : Ended N) → EndsLike Like d e → EndsLike Like (unless_outside test s d) (unless_outside test u e)
  outside true d e h = same m like refl
  outside false d e h = h

  either :
      (test : Bool) (d d' : Ended M) (e e' : Ended N) → EndsLike Like d e → EndsLike Like d' e'
      → EndsLike Like (if test then d else d') (if test then e else e')
  either true d d' e e' h g = h
  either false d d' e e' h g = g

  set_error :
      (test : Bool) (at : ℕ) (v : State N) → Like m v.memory
      → EndsLike Like (setting_error test at s (over_memory m v)) (setting_error test at u v)
  set_error test at v h = either (test && u.halt) _ _ _ _ (same m like refl) (same m h refl)

  byte-follows : (a : ℕ) → AnswersLike (λ (x y : ℕ). x ≡ y) (access.byte m a) (guard.byte u.memory a)
  byte-follows a = sim.byte m u.memory a like

  set_byte-follows : (a v : ℕ) → AnswersLike Like (access.set_byte m a v) (guard.set_byte u.memory a v)
  set_byte-follows a v = sim.set_byte m u.memory a v like

  word-follows : (a : ℕ) → AnswersLike (λ (x y : ℕ). x ≡ y) (access.word m a) (guard.word u.memory a)
  word-follows a = sim.word m u.memory a like

  set_word-follows : (a v : ℕ) → AnswersLike Like (access.set_word m a v) (guard.set_word u.memory a v)
  set_word-follows a v = sim.set_word m u.memory a v like

  copy-follows : (from to k : ℕ) → AnswersLike Like (access.copy m from to k) (guard.copy u.memory from to k)
  copy-follows from to k = sim.copy m u.memory from to k like

  ruleset ways = (
    word,
    value,
    made,
    outside,
    either,
    set_error,
    byte-follows,
    set_byte-follows,
    word-follows,
    set_word-follows,
    copy-follows,
  )

  -- ---- tests of words

  storable-follows : (a : ℕ) → Refusal (storable access m a) (storable guard u.memory a)
  unfolding storable
  storable-follows a = tested (a % 4 == 0) (err (sim.block m u.memory a 4 like)) outside_both

  loadable-follows : (a : ℕ) → Refusal (loadable access m a) (loadable guard u.memory a)
  unfolding loadable
  loadable-follows a = err (sim.word m u.memory a like)

  block-follows : (a k : ℕ) → Refusal (block_refusal access m a k) (block_refusal guard u.memory a k)
  unfolding block_refusal
  block-follows a k = err (sim.block m u.memory a k like)

  source-follows : (a k : ℕ) → Refusal (source_refusal access m a k) (source_refusal guard u.memory a k)
  unfolding source_refusal
  source-follows a k = err (sim.source m u.memory a k like)

  bytes-follows : (way : Way) (a k : ℕ) → Refusal (bytes_refusal access way m a k) (bytes_refusal guard way u.memory a k)
  bytes-follows Input a k = block-follows a k
  bytes-follows Output a k = source-follows a k

  enqueue-follows : (front : Reg) (back : ℕ) → Refusal (enqueue_refusal access m front back) (enqueue_refusal guard u.memory front back)
  unfolding enqueue_refusal
  enqueue-follows Undefined back = unrefused
  enqueue-follows (Word front) back = tested (front == not_process) unrefused (storable-follows (below back 8))

  next-follows : (front : Reg) (back : ℕ) → Refusal (next_refusal access m front back) (next_refusal guard u.memory front back)
  unfolding next_refusal
  next-follows Undefined back = unrefused
  next-follows (Word front) back =
      tested (front == not_process) unrefused
      (both (loadable-follows (below front 4)) (tested (front == back) unrefused (loadable-follows (below front 8))))

  slice-follows : (slice : Bool) → Refusal (slice_refusal access slice s) (slice_refusal guard slice u)
  unfolding slice_refusal
  slice-follows slice =
      tested (is_waiting u.front && slice)
      (both (storable-follows (below u.wptr 4)) (both (enqueue-follows u.front u.back) (next-follows u.front u.wptr))) unrefused

  -- ---- words that are stored, loaded and copied behind the tests

  -- memories that a row makes of those before the turn
  pub record After (k : M) (v : N) : Type 0 where
    pub alike : Like k v
    pub extents : SameExtents guard u.memory v

  start : After m u.memory
  start = record { alike = like; extents = extents-none guard u.memory }

  stored-after : (k : M) (v : N) (a w : ℕ) → After k v → storable guard u.memory a ≡ None → After (stored access k a w) (stored guard v a w)
  stored-after k v a w h none =
      let allowed = stored-storable guard v a w laws (storable-after guard u.memory v a h.extents ∙ none) in
      let made_of = rw allowed at (sim.set_word k v a w h.alike).says in
      record {
        alike = rw (stored-made access k made_of.0 a w made_of.1) made_of.2;
        extents = extents-more guard u.memory v
            (stored guard v a w) h.extents (extents-stored guard v a w laws);
      }

  word-after : (k : M) (v : N) (a : ℕ) → After k v → loadable guard u.memory a ≡ None → word_at access k a ≡ word_at guard v a
  unfolding word_at
  word-after k v a h none =
      let allowed = word_at-loadable guard v a (loadable-after guard u.memory v a h.extents ∙ none) in
      let got = rw allowed at (sim.word k v a h.alike).says in
      rw got.1 got.2

  copied-after :
      (k : M) (v : N) (from to n : ℕ) → After k v → source_refusal guard u.memory from n ≡ None → block_refusal guard u.memory to n ≡ None
      → After (copied access k from to n) (copied guard v from to n)
  copied-after k v from to n h none none' =
      let allowed = copied-blocks guard v from to n laws (source_refusal-after guard u.memory v from n h.extents ∙ none)
      (block_refusal-after guard u.memory v to n h.extents ∙ none') in
      let made_of = rw allowed at (sim.copy k v from to n h.alike).says in
      record {
        alike = rw (copied-made access k made_of.0 from to n made_of.1) made_of.2;
        extents = extents-more guard u.memory v
            (copied guard v from to n) h.extents (extents-copied guard v from to n laws);
      }

  -- states that a row makes
  pub record StateAfter (t : State M) (v : State N) : Type 0 where
    pub memory : M
    pub after : After memory v.memory
    pub over : t ≡ over_memory memory v

  over : (k : M) (v : State N) → After k v.memory → StateAfter (over_memory k v) v
  over k v h = record { memory = k; after = h; over = refl }

  clears : (t : State M) (v : State N) → StateAfter t v → StateAfter (cleared t) (cleared v)
  clears t v h = record { memory = h.memory; after = h.after; over = ap cleared h.over }

  chosen :
      (test : Bool) (t t' : State M) (v v' : State N) → StateAfter t v → StateAfter t' v'
      → StateAfter (if test then t else t') (if test then v else v')
  chosen true t t' v v' h g = h
  chosen false t t' v v' h g = g

  ends : (at : ℕ) (t : State M) (v : State N) → StateAfter t v → EndsLike Like (ran at t) (ran at v)
  ends at t v h = same h.memory h.after.alike (ap (ran at) h.over)

  -- what the queue makes of them
  behind :
      (front : Reg) (process : ℕ) (k : M) (v : State N) → After k v.memory → enqueue_refusal guard u.memory front v.back ≡ None
      → StateAfter (enqueued_behind access front process (over_memory k v)) (enqueued_behind guard front process v)
  unfolding enqueue_refusal
  behind Undefined process k v h none = over k v h
  behind (Word front) process k v h none = by_test (front == not_process) none
    where
      by_test :
          (test : Bool) → (if test then None else storable guard u.memory (below v.back 8)) ≡ None
          → StateAfter
          (if test then record (over_memory k v) { front = Word process; back = process } else record
          (over_memory k v) { memory = stored access k (below v.back 8) process; back = process })
          (if test then record v { front = Word process; back = process }
          else record v { memory = stored guard v.memory (below v.back 8) process; back = process })
      by_test true e = over k (record v { front = Word process; back = process }) h
      by_test false e =
          over _ (record v { memory = stored guard v.memory (below v.back 8) process; back = process })
          (stored-after k v.memory (below v.back 8) process h e)

  enqueues :
      (process : ℕ) (k : M) (v : State N) → After k v.memory → enqueue_refusal guard u.memory v.front v.back ≡ None
      → StateAfter (enqueued access process (over_memory k v)) (enqueued guard process v)
  unfolding enqueued
  enqueues process k v h none = behind v.front process k v h none

  resumes :
      (front : ℕ) (k : M) (v : State N) → After k v.memory
      → first_refusal (loadable guard u.memory (below front 4)) (if front == v.back then None else loadable guard u.memory (below front 8))
      ≡ None
      → StateAfter (resumed access front (over_memory k v)) (resumed guard front v)
  resumes front k v h none =
      let none_of = first-none _ _ none in
      rw (word-after k v.memory (below front 4) h none_of.0, by_test (front == v.back) none_of.1) (over k (resumed guard front v) h)
    where
      by_test :
          (test : Bool) → (if test then None else loadable guard u.memory (below front 8)) ≡ None
          → (if test then not_process else word_at access k (below front 8)) ≡
          (if test then not_process else word_at guard v.memory (below front 8))
      by_test true e = refl
      by_test false e = word-after k v.memory (below front 8) h e

  goes_from :
      (front : Reg) (k : M) (v : State N) → After k v.memory → next_refusal guard u.memory front v.back ≡ None
      → StateAfter (next_from access front (over_memory k v)) (next_from guard front v)
  unfolding next_refusal
  goes_from Undefined k v h none = over k v h
  goes_from (Word front) k v h none = by_test (front == not_process) none
    where
      by_test :
          (test : Bool)
          → (if test then None else first_refusal (loadable guard u.memory (below front 4))
          (if front == v.back then None else loadable guard u.memory (below front 8))) ≡ None
          → StateAfter (if test then idle (over_memory k v) else resumed access front (over_memory k v))
          (if test then idle v else resumed guard front v)
      by_test true e = over k (idle v) h
      by_test false e = resumes front k v h e

  nexts :
      (k : M) (v : State N) → After k v.memory → next_refusal guard u.memory v.front v.back ≡ None
      → StateAfter (next access (over_memory k v)) (next guard v)
  unfolding next
  nexts k v h none = goes_from v.front k v h none

  gives_way :
      (k : M) (v : State N) → After k v.memory → next_refusal guard u.memory v.front v.back ≡ None
      → EndsLike Like (gave_way access (over_memory k v)) (gave_way guard v)
  gives_way k v h none =
      let t = nexts k v h none in
      same t.memory t.after.alike (ap (λ (x : State M). record { state = x; outcome = Ran }) t.over)

  -- ---- the rows of several steps

  -- j and lend: the process goes behind the queue, and the next one runs
  turns :
      (front process : ℕ) (k : M) (v : State N) → After k v.memory → (front == not_process) ≡ false
      → enqueue_refusal guard u.memory (Word front) v.back ≡ None → next_refusal guard u.memory (Word front) process ≡ None
      → StateAfter (next access (enqueued access process (over_memory k (record v { front = Word front }))))
      (next guard (enqueued guard process (record v { front = Word front })))
  unfolding enqueued enqueue_refusal
  turns front process k v h is_one e f =
      let g : storable guard u.memory (below v.back 8) ≡ None = rw is_one at e in
      rw is_one
      (nexts (stored access k (below v.back 8) process)
      (record v { memory = stored guard v.memory (below v.back 8) process; front = Word front; back = process })
      (stored-after k v.memory (below v.back 8) process h g) f)

  slices :
      (slice : Bool) (at : ℕ) (k : M) (v : N) → After k v → slice_refusal guard slice u ≡ None
      → EndsLike Like (ran_or_sliced access slice at (cleared (record s { memory = k })))
      (ran_or_sliced guard slice at (cleared (record u { memory = v })))
  unfolding slice_refusal timesliced
  slices slice at k v h none =
      let t = by_front u.front none in
      same t.memory t.after.alike (ap (λ (x : State M). record { state = x; outcome = Ran }) t.over)
    where
      before : Reg → State N
      before front = goes_on at (cleared (record u { memory = v; front = front }))

      by_test :
          (front : ℕ) (test slicing : Bool) → (front == not_process) ≡ test
          → (if not test && slicing then first_refusal (storable guard u.memory (below u.wptr 4))
          (first_refusal (enqueue_refusal guard u.memory (Word front) u.back) (next_refusal guard u.memory (Word front) u.wptr))
          else None) ≡ None
          → StateAfter
          (if not test && slicing then next access (enqueued access u.wptr (saved access at (over_memory k (before (Word front)))))
          else over_memory k (before (Word front)))
          (if not test && slicing then next guard (enqueued guard u.wptr (saved guard at (before (Word front)))) else before (Word front))
      by_test front true slicing is e = over k (before (Word front)) h
      by_test front false false is e = over k (before (Word front)) h
      by_test front false true is e =
          let f = first-none _ _ e in
          let g = first-none _ _ f.1 in
          turns front u.wptr _ (saved guard at (before (Word front))) (stored-after k v (below u.wptr 4) at h f.0) is g.0 g.1

      by_front :
          (front : Reg)
          → (if is_waiting front && slice then first_refusal (storable guard u.memory (below u.wptr 4))
          (first_refusal (enqueue_refusal guard u.memory front u.back) (next_refusal guard u.memory front u.wptr)) else None) ≡ None
          → StateAfter (timesliced access slice (over_memory k (before front))) (timesliced guard slice (before front))
      by_front Undefined e = over k (before Undefined) h
      by_front (Word front) e = by_test front (front == not_process) slice refl e

  storable-outside : (a : ℕ) → is_outside (storable access m a) ≡ is_outside (storable guard u.memory a)
  unfolding storable
  storable-outside a = by_test (a % 4 == 0)
    where
      by_test :
          (test : Bool)
          → is_outside (if test then result_err (access.block m a 4) else Some Outside) ≡ is_outside
          (if test then result_err (guard.block u.memory a 4) else Some Outside)
      by_test true = same-outside (sim.block m u.memory a 4 like)
      by_test false = refl

  -- a word that may be stored has one value
  loads : (a : ℕ) → storable guard u.memory a ≡ None → word_at access m a ≡ word_at guard u.memory a
  loads a none = word-after m u.memory a start (loadable-storable guard u.memory a laws none)

  frames :
      (w following : ℕ) (a b c : Reg) → frame_refusal guard u.memory w ≡ None
      → After (frame_stored access w following a b c m) (frame_stored guard w following a b c u.memory)
  frames w following a b c none =
      let n = first-none _ _ none in
      let lower = first-none _ _ n.0 in
      let upper = first-none _ _ n.1 in
      stored-after _ _ _ _
      (stored-after _ _ _ _ (stored-after _ _ _ _ (stored-after m u.memory w following start lower.0) lower.1) upper.0) upper.1

  call-follows : (operand : ℕ) (t : Turn) → EndsLike Like (call_row access operand t s) (call_row guard operand t u)
  call-follows operand t =
      refused _ _ (both (both (storable-follows _) (storable-follows _)) (both (storable-follows _) (storable-follows _)))
      (λ none. same _ (frames (below u.wptr 16) t.following u.a u.b u.c none).alike refl)

  startp-follows : (t : Turn) → EndsLike Like (startp_row access t s) (startp_row guard t u)
  startp-follows t = word u.a _ _ (λ process is. word u.b _ _ (λ offset is. word u.front _ _ (λ front is.
      refused _ _ (both (storable-follows _) (enqueue-follows _ _)) (λ none.
      let n = first-none _ _ none in
      ends t.following _ _
      (clears _ _
      (enqueues process _ (record u { memory = stored guard u.memory (below process 4) (wrap (t.following + offset)) })
      (stored-after _ _ _ _ start n.0) n.1))))))

  endp_last-follows :
      (w count : ℕ) → storable guard u.memory (words_above w 1) ≡ None
      → EndsLike Like (endp_last access w count s) (endp_last guard w count u)
  endp_last-follows w count none =
      refused _ _ (loadable-follows w)
      (λ e. rw (word-after m u.memory w start e)
      (same _ (stored-after m u.memory (words_above w 1) (below count 1) start none).alike refl))

  endp_other-follows :
      (w count : ℕ) → storable guard u.memory (words_above w 1) ≡ None
      → EndsLike Like (endp_other access w count s) (endp_other guard w count u)
  endp_other-follows w count none =
      word u.front _ _
      (λ front is. refused _ _ (next-follows _ _)
      (λ e. gives_way _ (record u { memory = stored guard u.memory (words_above w 1) (below count 1) })
      (stored-after _ _ _ _ start none) e))

  endp_counted :
      (w : ℕ) → storable guard u.memory (words_above w 1) ≡ None
      → EndsLike Like
      (if word_at access m (words_above w 1) == 1 then endp_last access w (word_at access m (words_above w 1)) s else endp_other access w
      (word_at access m (words_above w 1)) s)
      (if word_at guard u.memory (words_above w 1) == 1 then endp_last guard w (word_at guard u.memory (words_above w 1)) u
      else endp_other guard w (word_at guard u.memory (words_above w 1)) u)
  endp_counted w none =
      rw (loads (words_above w 1) none)
      (either (word_at guard u.memory (words_above w 1) == 1) _ _ _ _ (endp_last-follows w _ none) (endp_other-follows w _ none))

  endp-follows : EndsLike Like (endp_row access s) (endp_row guard u)
  endp-follows = word u.a _ _ (λ w is. refused _ _ (storable-follows _) (λ none. endp_counted w none))

  runp-follows : (t : Turn) → EndsLike Like (runp_row access t s) (runp_row guard t u)
  runp-follows t =
      word u.a _ _
      (λ a is. word u.front _ _
      (λ front is. outside _ _ _ (refused _ _ (enqueue-follows _ _) (λ none. ends _ _ _ (clears _ _ (enqueues _ m u start none))))))

  stopp-follows : (t : Turn) → EndsLike Like (stopp_row access t s) (stopp_row guard t u)
  stopp-follows t =
      word u.front _ _
      (λ front is. refused _ _ (both (storable-follows _) (next-follows _ _))
      (λ none. let n = first-none _ _ none in gives_way _ (saved guard t.following u) (stored-after _ _ _ _ start n.0) n.1))

  loop-follows : (w : ℕ) → Refusal (loop_refusal access w m) (loop_refusal guard w u.memory)
  loop-follows w =
      in_turn (storable-follows _)
      (λ none. rw (loads (words_above w 1) none)
      (tested (is_loop_taken (word_at guard u.memory (words_above w 1))) (storable-follows w) unrefused))

  loops :
      (w count : ℕ) → storable guard u.memory (words_above w 1) ≡ None
      → (if is_loop_taken count then storable guard u.memory w else None) ≡ None
      → After (loop_stored access w count m) (loop_stored guard w count u.memory)
  loops w count none = by_test (is_loop_taken count)
    where
      by_test :
          (test : Bool) → (if test then storable guard u.memory w else None) ≡ None
          → After
          (if test then stored access (stored access m (words_above w 1) (below count 1)) w (wrap (word_at access m w + 1))
          else stored access m (words_above w 1) (below count 1))
          (if test then stored guard (stored guard u.memory (words_above w 1) (below count 1)) w (wrap (word_at guard u.memory w + 1))
          else stored guard u.memory (words_above w 1) (below count 1))
      by_test true e = rw (loads w e) (stored-after _ _ _ _ (stored-after m u.memory (words_above w 1) (below count 1) start none) e)
      by_test false e = stored-after _ _ _ _ start none

  lend_counted :
      (t : Turn) (back w : ℕ) → loop_refusal guard w u.memory ≡ None → slice_refusal guard t.slice u ≡ None
      → EndsLike Like
      (ran_or_sliced access t.slice (loop_end (word_at access m (words_above w 1)) back t.following)
      (cleared (record s { memory = loop_stored access w (word_at access m (words_above w 1)) m })))
      (ran_or_sliced guard t.slice (loop_end (word_at guard u.memory (words_above w 1)) back t.following)
      (cleared (record u { memory = loop_stored guard w (word_at guard u.memory (words_above w 1)) u.memory })))
  lend_counted t back w none e =
      let l = then-none _ _ none in
      rw (loads (words_above w 1) l.0) (slices t.slice _ _ _ (loops w (word_at guard u.memory (words_above w 1)) l.0 l.1) e)

  lend-follows : (t : Turn) → EndsLike Like (lend_row access t s) (lend_row guard t u)
  lend-follows t =
      word u.a _ _
      (λ back is. word u.b _ _
      (λ w is. refused _ _ (both (loop-follows w) (slice-follows t.slice))
      (λ none. let n = first-none _ _ none in lend_counted t back w n.0 n.1)))

  -- input and output
  linked-follows :
      (way : Way) (t : Turn) (count pointer link : ℕ)
      → EndsLike Like (linked access way t count pointer link s) (linked guard way t count pointer link u)
  linked-follows way t count pointer link =
      outside _ _ _ (refused _ _ (both (bytes-follows way _ _) (both (storable-follows _) (next-follows _ _))) (λ none.
      let n = first-none _ _ (first-none _ _ none).1 in
      let after = nexts _ (saved guard t.following u) (stored-after _ _ _ _ start n.0) n.1 in
      same after.memory after.after.alike
      (ap (λ (x : State M).
      record {
        state = x;
        outcome = opens way
            (record { link = link; pointer = pointer; count = count; process = u.wptr });
      }) after.over)))

  waits-follows :
      (t : Turn) (channel pointer : ℕ) → storable guard u.memory channel ≡ None
      → EndsLike Like (waits access t channel pointer s) (waits guard t channel pointer u)
  waits-follows t channel pointer none =
      refused _ _ (both (storable-follows _) (both (storable-follows _) (next-follows _ _))) (λ e.
      let n = first-none _ _ e in
      let l = first-none _ _ n.1 in
      gives_way _ (waiting guard t.following channel pointer u)
      (stored-after _ _ _ _ (stored-after _ _ _ _ (stored-after _ _ _ _ start n.0) l.0) none) l.1)

  partner-follows :
      (way : Way) (process count : ℕ)
      → Refusal (partner_refusal access way m process count) (partner_refusal guard way u.memory process count)
  partner-follows way process count =
      in_turn (loadable-follows _) (λ none. rw (word-after m u.memory (below process 12) start none) (bytes-follows (other_way way) _ _))

  exchanges :
      (way : Way) (count pointer partner : ℕ) → bytes_refusal guard (other_way way) u.memory partner count ≡ None
      → bytes_refusal guard way u.memory pointer count ≡ None
      → After (exchanged access way count pointer partner m) (exchanged guard way count pointer partner u.memory)
  exchanges Input count pointer partner e f = copied-after _ _ _ _ _ start e f
  exchanges Output count pointer partner e f = copied-after _ _ _ _ _ start f e

  met-follows :
      (way : Way) (t : Turn) (count channel pointer process : ℕ) → storable guard u.memory channel ≡ None
      → EndsLike Like (met access way t count channel pointer process s) (met guard way t count channel pointer process u)
  met-follows way t count channel pointer process none =
      refused _ _ (both (partner-follows way process count) (both (bytes-follows way _ _) (enqueue-follows _ _))) (λ e.
      let n = first-none _ _ e in
      let p = then-none _ _ n.0 in
      let l = first-none _ _ n.1 in
      rw (word-after m u.memory (below process 12) start p.0)
      (ends _ _ _
      (clears _ _
      (enqueues process _
      (record u {
        memory = stored guard
            (exchanged guard way count pointer (word_at guard u.memory (below process 12)) u.memory) channel not_process;
      })
      (stored-after _ _ _ _ (exchanges way count pointer _ p.1 l.0) none) l.1))))

  on-follows :
      (way : Way) (t : Turn) (count channel pointer : ℕ) (kind : Channel)
      → EndsLike Like (on_channel access way t count channel pointer kind s) (on_channel guard way t count channel pointer kind u)
  on-follows way t count channel pointer NoChannel = same m like refl
  on-follows way t count channel pointer (Link link) = word u.front _ _ (λ front is. linked-follows way t count pointer link)
  on-follows way t count channel pointer Internal =
      rw (storable-outside channel) (outside _ _ _ (word u.front _ _ (λ front is. refused _ _ (storable-follows channel) (λ none.
      rw (loads channel none)
      (either _ _ _ _ _ (waits-follows t channel pointer none) (outside _ _ _ (met-follows way t count channel pointer _ none)))))))

  transfer-follows : (way : Way) (t : Turn) → EndsLike Like (transfer_row access way t s) (transfer_row guard way t u)
  transfer-follows way t =
      word u.a _ _
      (λ count is. word u.b _ _
      (λ channel is. word u.c _ _ (λ pointer is. on-follows way t count channel pointer (channel_at way channel))))

  -- ---- all rows

  done : (d : Ended M) (e : Ended N) → d ≡ ended_over m e → Like m e.state.memory → EndsLike Like d e
  done d e is h = same m h is

  operate-follows : (op : Op) (t : Turn) → EndsLike Like (operate access op t s) (operate guard op t u)
  operate-follows Endp t = endp-follows
  operate-follows In t = transfer-follows Input t
  operate-follows Out t = transfer-follows Output t
  operate-follows Startp t = startp-follows t
  operate-follows Stopp t = stopp-follows t
  operate-follows Lend t = lend-follows t
  operate-follows Runp t = runp-follows t
  operate-follows op t =
      search (ways, same, like) depth 8

  found-follows : (op : Option Op) (t : Turn) → EndsLike Like (operate_found access op t s) (operate_found guard op t u)
  found-follows (Some op) t = operate-follows op t
  found-follows None t = same m like refl

  pub effect-follows : (fun : Fun) (e : ℕ) (t : Turn) → EndsLike Like (effect access fun e t s) (effect guard fun e t u)
  effect-follows J e t = refused _ _ (slice-follows t.slice) (λ none. slices t.slice _ m u.memory start none)
  effect-follows Call e t = call-follows e t
  effect-follows Opr e t = found-follows (operation_with e) t
  effect-follows fun e t =
      search (ways, same, like) depth 8

  -- ---- a byte

  executed-follows :
      (is_one : Bool) (byte busy : ℕ) (slice : Bool) (clock : ℕ)
      → EndsLike Like (executed access is_one byte busy slice clock s) (executed guard is_one byte busy slice clock u)
  executed-follows true byte busy slice clock = same m like refl
  executed-follows false byte busy slice clock = effect-follows (function_of byte) (loaded u.oreg byte) _

  pub execute_byte-follows :
      (byte busy : ℕ) (slice : Bool) (clock : ℕ)
      → EndsLike Like (execute_byte access byte busy slice clock s) (execute_byte guard byte busy slice clock u)
  unfolding execute_byte
  execute_byte-follows byte busy slice clock = executed-follows (is_prefix (function_of byte)) byte busy slice clock

  pub step-follows : (busy : ℕ) (slice : Bool) (clock : ℕ) → EndsLike Like (step access busy slice clock s) (step guard busy slice clock u)
  unfolding step
  step-follows busy slice clock = value _ _ (sim.byte m u.memory u.iptr like) (λ byte. execute_byte-follows byte busy slice clock)

  -- ---- a process whose transfer is done

  wakes_running :
      (process : ℕ) (p g : Option Touch) → refusal_like p g → (g ≡ None → enqueue_refusal guard u.memory u.front u.back ≡ None)
      → WokenLike Like (woken_running p access process s) (woken_running g guard process u)
  wakes_running process p None r h = let t = enqueues process m u start (h refl) in rw r (wakes t.memory t.after.alike t.over)
  wakes_running process p (Some touch) r h = halts (why_of touch) refl

  wakes_behind :
      (process : ℕ) (front : Reg) → u.front ≡ front
      → WokenLike Like (woken_behind access front process s) (woken_behind guard front process u)
  wakes_behind process Undefined is = halts _ refl
  wakes_behind process (Word front) is = wakes_running process _ _ (enqueue-follows (Word front) u.back).says (λ none. rw is none)

  wakes_idle :
      (process : ℕ) (p g : Option Touch) → refusal_like p g
      → (g ≡ None → word_at access m (below process 4) ≡ word_at guard u.memory (below process 4))
      → WokenLike Like (woken_idle p access process s) (woken_idle g guard process u)
  wakes_idle process p None r h = rw (r, h refl) (wakes m like refl)
  wakes_idle process p (Some touch) r h = halts (why_of touch) refl

  wakes_by : (process : ℕ) (life : Life) → u.life ≡ life → WokenLike Like (woken_by access life process s) (woken_by guard life process u)
  wakes_by process Running is = wakes_behind process u.front refl
  wakes_by process Idle is =
      wakes_idle process _ _ (loadable-follows (below process 4)).says (λ none. word-after m u.memory (below process 4) start none)
  wakes_by process (IsStopped why) is = halts why is

  pub woken-follows : (process : ℕ) → WokenLike Like (woken access process s) (woken guard process u)
  unfolding woken
  woken-follows process = wakes_by process u.life refl
