-- The tests of a row stand before its first store. Here is what they give: each of several tests that none refuses is
-- allowed, and what was allowed before stores is so after them.
use Rattle.std.proofs.Common.{◌≡◌, ℕ, Bool, true, false, Option, Some, None, refl, sym, ap, subst, ◌∙◌, ◌≢◌}
use Rattle.std.proofs.lemmas.Bool.{ne_eqb, false≢true}
use Rattle.std.specs.Prelude.{◌==◌, not, ◌&&◌, if◌then◌else◌}
use Rattle.tn_mem.specs.declared.touches.Touch.{Touch}
use Rattle.tn_mem.specs.declared.touches.Touch.TheVariants.{Outside, Code}
use Rattle.tn_mem.specs.Spaces.{Access, SameExtents, IsSpace, first_refusal}
use Rattle.tn_word.specs.Words.{not_process}
use Rattle.tn_cpu.specs.declared.registers.Reg.{Reg}
use Rattle.tn_cpu.specs.declared.registers.Reg.TheVariants.{Undefined, Word}
use Rattle.tn_cpu.specs.States.{State, below, words_above}
use Rattle.tn_cpu.specs.Queues.{or_then, is_waiting, enqueued_behind, enqueued}
use Rattle.tn_cpu.specs.Queues.{resume_refusal, enqueue_refusal, next_refusal, slice_refusal, storable, loadable, stored, word_at}
use Rattle.tn_cpu.specs.Rows.{is_loop_taken, loop_refusal}
use Rattle.tn_cpu.proofs.Words.{storable-after, loadable-after, extents-stored}

-- none of two tests is refused
pub first-allowed : (one other : Option Touch) → first_refusal one other ≡ None → one ≡ None
first-allowed None other e = refl
first-allowed (Some Outside) other e = cc
first-allowed (Some Code) (Some Outside) e = cc
first-allowed (Some Code) (Some Code) e = cc
first-allowed (Some Code) None e = cc

pub second-allowed : (one other : Option Touch) → first_refusal one other ≡ None → other ≡ None
second-allowed None other e = e
second-allowed (Some Outside) other e = cc
second-allowed (Some Code) (Some Outside) e = cc
second-allowed (Some Code) (Some Code) e = cc
second-allowed (Some Code) None e = cc

pub both-allowed : (one other : Option Touch) → one ≡ None → other ≡ None → first_refusal one other ≡ None
both-allowed one other e h = rw (e, h) refl

-- none of a test and the one that follows it
pub then-allowed : (one other : Option Touch) → or_then one other ≡ None → other ≡ None
then-allowed None other e = e
then-allowed (Some touch) other e = cc

pub begun-allowed : (one other : Option Touch) → or_then one other ≡ None → one ≡ None
begun-allowed None other e = refl
begun-allowed (Some touch) other e = cc

-- a test whose condition does not hold is the other one
otherwise : (test : Bool) (one other : Option Touch) → test ≡ false → (if test then one else other) ≡ None → other ≡ None
otherwise true one other e h = cc
otherwise false one other e h = h

then_ : (test : Bool) (one other : Option Touch) → test ≡ true → (if test then one else other) ≡ None → one ≡ None
then_ true one other e h = h
then_ false one other e h = cc

-- ---- what the tests of the queue say

module _ {M : Type 0} (access : Access M) (m : M) where
  -- of a queue that has a process
  pub enqueue-storable :
      (front back : ℕ) → front ≢ not_process → enqueue_refusal access m (Word front) back ≡ None
      → storable access m (below back 8) ≡ None
  unfolding enqueue_refusal
  enqueue-storable front back some e = otherwise (front == not_process) _ _ (ne_eqb front not_process some) e

  pub next-loadable :
      (front back : ℕ) → front ≢ not_process → next_refusal access m (Word front) back ≡ None
      → resume_refusal access m front back ≡ None
  unfolding next_refusal
  next-loadable front back some e = otherwise (front == not_process) _ _ (ne_eqb front not_process some) e

module _ {M : Type 0} (access : Access M) (old new : M) (same : SameExtents access old new) where
  pub storable-kept : (a : ℕ) → storable access old a ≡ None → storable access new a ≡ None
  storable-kept a e = storable-after access old new a same ∙ e

  pub loadable-kept : (a : ℕ) → loadable access old a ≡ None → loadable access new a ≡ None
  loadable-kept a e = loadable-after access old new a same ∙ e

  pub enqueue-kept : (front : Reg) (back : ℕ) → enqueue_refusal access old front back ≡ None → enqueue_refusal access new front back ≡ None
  unfolding enqueue_refusal
  enqueue-kept Undefined back e = refl
  enqueue-kept (Word front) back e =
      ap (λ (r : Option Touch). if front == not_process then None else r) (storable-after access old new (below back 8) same) ∙ e

  pub next-kept : (front : Reg) (back : ℕ) → next_refusal access old front back ≡ None → next_refusal access new front back ≡ None
  unfolding next_refusal
  next-kept Undefined back e = refl
  next-kept (Word front) back e =
      rw (loadable-after access old new (below front 4) same, loadable-after access old new (below front 8) same) e

  slice-kept :
      (front : Reg) (back wptr : ℕ)
      → first_refusal (storable access old (below wptr 4))
      (first_refusal (enqueue_refusal access old front back) (next_refusal access old front wptr)) ≡ None
      → first_refusal (storable access new (below wptr 4))
      (first_refusal (enqueue_refusal access new front back) (next_refusal access new front wptr)) ≡ None
  slice-kept front back wptr h =
      let rest = second-allowed _ _ h in
      both-allowed _ _ (storable-kept (below wptr 4) (first-allowed _ _ h))
      (both-allowed _ _ (enqueue-kept front back (first-allowed _ _ rest)) (next-kept front wptr (second-allowed _ _ rest)))

-- the front of a queue that has one stays when a process goes behind it
pub next-enqueued :
    {M : Type 0} (access : Access M) (process : ℕ) (s : State M) → IsSpace access → is_waiting s.front ≡ true
    → next_refusal access s.memory s.front process ≡ None
    → next_refusal access (enqueued access process s).memory (enqueued access process s).front (enqueued access process s).back ≡ None
unfolding enqueued
next-enqueued {M = M} access process s laws waits e = by_front s.front refl
  where
    Runs : State M → Type 0
    Runs u = next_refusal access u.memory u.front u.back ≡ None

    by_test : (test : Bool) (x y : State M) → not test ≡ true → Runs y → Runs (if test then x else y)
    by_test true x y h run = cc
    by_test false x y h run = run

    by_front : (front : Reg) → s.front ≡ front → Runs (enqueued_behind access front process s)
    by_front Undefined is = absurd (false≢true (sym (ap is_waiting is) ∙ waits))
    by_front (Word front) is =
        by_test (front == not_process) _ _ (sym (ap is_waiting is) ∙ waits)
        (next-kept access s.memory (stored access s.memory (below s.back 8) process)
        (extents-stored access s.memory (below s.back 8) process laws) s.front process e)

-- what the test of a timeslice says where there is one
pub record SliceTests {M : Type 0} (access : Access M) (s : State M) : Type 0 where
  pub saved : storable access s.memory (below s.wptr 4) ≡ None
  pub enqueued : enqueue_refusal access s.memory s.front s.back ≡ None
  pub next : next_refusal access s.memory s.front s.wptr ≡ None

pub slice-tests :
    {M : Type 0} (access : Access M) (slice : Bool) (s : State M) → (is_waiting s.front && slice) ≡ true
    → slice_refusal access slice s ≡ None → SliceTests access s
unfolding slice_refusal
slice-tests access slice s waits e =
    let all = then_ (is_waiting s.front && slice) _ _ waits e in
    let rest = second-allowed _ _ all in
    record { saved = first-allowed _ _ all; enqueued = first-allowed _ _ rest; next = second-allowed _ _ rest }

-- what the test of a loop says: its count may be loaded and stored, and where it goes on its index too
pub loop-count :
    {M : Type 0} (access : Access M) (w : ℕ) (m : M)
    → loop_refusal access w m ≡ None → storable access m (words_above w 1) ≡ None
loop-count access w m e = begun-allowed _ _ e

pub loop-index :
    {M : Type 0} (access : Access M) (w count : ℕ) (m : M) → count ≡ word_at access m (words_above w 1) → is_loop_taken count ≡ true
    → loop_refusal access w m ≡ None → storable access m w ≡ None
loop-index access w count m is taken e =
    then_ (is_loop_taken (word_at access m (words_above w 1))) _ _ (sym (ap is_loop_taken is) ∙ taken) (then-allowed _ _ e)

-- ---- after a step of a row that changed only the memory, where it refuses what it did

module _ {M : Type 0} (access : Access M) (m : M) (old new : State M) (is : new ≡ record old { memory = m })
    (same : SameExtents access old.memory new.memory) where
  kept : SameExtents access old.memory m
  kept = subst (λ (u : State M). SameExtents access old.memory u.memory) is same

  pub enqueue-after :
      enqueue_refusal access old.memory old.front old.back ≡ None
      → enqueue_refusal access new.memory new.front new.back ≡ None
  enqueue-after e =
      subst (λ (u : State M). enqueue_refusal access u.memory u.front u.back ≡ None) (sym is)
      (enqueue-kept access old.memory m kept old.front old.back e)

  pub next-after : next_refusal access old.memory old.front old.back ≡ None → next_refusal access new.memory new.front new.back ≡ None
  next-after e =
      subst (λ (u : State M). next_refusal access u.memory u.front u.back ≡ None) (sym is)
      (next-kept access old.memory m kept old.front old.back e)

-- a timeslice asks only for the words that it uses
pub slice-after :
    {M : Type 0} (access : Access M) (slice : Bool) (old new : State M) → SameExtents access old.memory new.memory → new.front ≡ old.front
    → new.back ≡ old.back → new.wptr ≡ old.wptr → slice_refusal access slice old ≡ None → slice_refusal access slice new ≡ None
unfolding slice_refusal
slice-after access slice old new same front back wptr e =
    rw (front, back, wptr)
    (by_test (is_waiting old.front && slice) _ _ (slice-kept access old.memory new.memory same old.front old.back old.wptr) e)
  where
    by_test :
        (test : Bool) (one other : Option Touch) → (one ≡ None → other ≡ None) → (if test then one else None) ≡ None
        → (if test then other else None) ≡ None
    by_test true one other step h = step h
    by_test false one other step h = refl
