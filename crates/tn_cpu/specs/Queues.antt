-- The queue of processes, and the words below a workspace pointer: word -1 has the saved
-- instruction pointer, word -2 the next process of the queue, word -3 the pointer of a channel.
use Rattle.std.specs.Prelude.{ℕ, ◌%◌, ◌==◌, Bool, false, not, ◌&&◌, if◌then◌else◌, Option, None, Some}
use Rattle.std.specs.Result.{result_err, result_unwrap_or}
use Rattle.tn_mem.specs.declared.touches.Touch.{Touch}
use Rattle.tn_mem.specs.declared.touches.Touch.TheVariants.{Outside}
use Rattle.tn_mem.specs.Spaces.{Access, first_refusal}
use Rattle.tn_word.specs.Words.{not_process}
use Rattle.tn_cpu.specs.declared.registers.Reg.{Reg}
use Rattle.tn_cpu.specs.declared.registers.Reg.TheVariants.{Undefined, Word}
use Rattle.tn_cpu.specs.declared.outcomes.Life.{Life}
use Rattle.tn_cpu.specs.declared.outcomes.Life.TheVariants.{Running, Idle, Stopped}
use Rattle.tn_cpu.specs.declared.outcomes.Outcome.TheVariants.{Ran}
use Rattle.tn_cpu.specs.declared.outcomes.Why.TheVariants.{Undefined as WhyUndefined}
use Rattle.tn_cpu.specs.States.{State, below, cleared}
use Rattle.tn_cpu.specs.Turns.{Ended, halted_for, goes_on, why_of}

-- ---- words that a row tests before its first store, and then loads and stores

-- why a word may not be stored at an address, if it may not
unfoldable pub storable : {M : Type 0} → Access M → M → ℕ → Option Touch
storable access m a = if a % 4 == 0 then result_err (access.block m a 4) else Some Outside

-- why a word may not be loaded, if it may not
unfoldable pub loadable : {M : Type 0} → Access M → M → ℕ → Option Touch
loadable access m a = result_err (access.word m a)

-- why a block may not be stored, if it may not
unfoldable pub block_refusal : {M : Type 0} → Access M → M → ℕ → ℕ → Option Touch
block_refusal access m a n = result_err (access.block m a n)

-- why a block may not be read, if it may not
unfoldable pub source_refusal : {M : Type 0} → Access M → M → ℕ → ℕ → Option Touch
source_refusal access m a n = result_err (access.source m a n)

-- the memory with a word stored where that is allowed
unfoldable pub stored : {M : Type 0} → Access M → M → ℕ → ℕ → M
stored access m a word = result_unwrap_or (access.set_word m a word) m

-- the memory with a block copied where that is allowed
unfoldable pub copied : {M : Type 0} → Access M → M → ℕ → ℕ → ℕ → M
copied access m from to n = result_unwrap_or (access.copy m from to n) m

-- the word at an address where it may be loaded
unfoldable pub word_at : {M : Type 0} → Access M → M → ℕ → ℕ
word_at access m a = result_unwrap_or (access.word m a) 0

-- a refusal, or else that of an access whose address is known only then
abbrev pub or_then : Option Touch → Option Touch → Option Touch
or_then (Some touch) then_ = Some touch
or_then None then_ = then_

-- ---- the queue

-- a process waits in the queue
abbrev pub is_waiting : Reg → Bool
is_waiting Undefined = false
is_waiting (Word front) = not (front == not_process)

-- the refusal of what enqueue stores: nothing where the queue is empty, else word -2 of the back
unfoldable pub enqueue_refusal : {M : Type 0} → Access M → M → Reg → ℕ → Option Touch
enqueue_refusal access m Undefined back = None
enqueue_refusal access m (Word front) back = if front == not_process then None else storable access m (below back 8)

-- a process put behind the back of the queue whose front this is
abbrev pub enqueued_behind : {M : Type 0} → Access M → Reg → ℕ → State M → State M
enqueued_behind access Undefined process s = s
enqueued_behind access (Word front) process s =
    if front == not_process
    then record s { front = Word process; back = process }
    else record s { memory = stored access s.memory (below s.back 8) process; back = process }

unfoldable pub enqueued : {M : Type 0} → Access M → ℕ → State M → State M
enqueued access process s = enqueued_behind access s.front process s

-- the refusal of what next loads of the front: word -1, and where it is not the back, word -2
abbrev pub resume_refusal : {M : Type 0} → Access M → M → ℕ → ℕ → Option Touch
resume_refusal access m front back =
    first_refusal (loadable access m (below front 4)) (if front == back then None else loadable access m (below front 8))

unfoldable pub next_refusal : {M : Type 0} → Access M → M → Reg → ℕ → Option Touch
next_refusal access m Undefined back = None
next_refusal access m (Word front) back =
    if front == not_process then None else resume_refusal access m front back

-- no process runs
abbrev pub idle : {M : Type 0} → State M → State M
idle s = cleared (record s { oreg = 0; iptr = 0; wptr = 0; life = Idle })

-- the front of the queue runs
abbrev pub resumed : {M : Type 0} → Access M → ℕ → State M → State M
resumed access front s =
    cleared
    (record s {
      oreg = 0;
      iptr = word_at access s.memory (below front 4);
      wptr = front;
      front = Word
          (if front == s.back then not_process else word_at access s.memory (below front 8));
    })

-- the next process runs, if any waits
abbrev pub next_from : {M : Type 0} → Access M → Reg → State M → State M
next_from access Undefined s = s
next_from access (Word front) s = if front == not_process then idle s else resumed access front s

unfoldable pub next : {M : Type 0} → Access M → State M → State M
next access s = next_from access s.front s

-- the instruction pointer saved in the current process
abbrev pub saved : {M : Type 0} → Access M → ℕ → State M → State M
saved access iptr s = record s { memory = stored access s.memory (below s.wptr 4) iptr }

-- ---- the end of j and of lend, where another process may take its turn

-- the refusal of what a timeslice stores and loads
unfoldable pub slice_refusal : {M : Type 0} → Access M → Bool → State M → Option Touch
slice_refusal access slice s =
    if is_waiting s.front && slice
    then first_refusal (storable access s.memory (below s.wptr 4))
    (first_refusal (enqueue_refusal access s.memory s.front s.back) (next_refusal access s.memory s.front s.wptr))
    else None

-- the process goes behind the queue, and the next one runs
unfoldable pub timesliced : {M : Type 0} → Access M → Bool → State M → State M
timesliced access slice s =
    if is_waiting s.front && slice then next access (enqueued access s.wptr (saved access s.iptr s)) else s

-- it goes on at an address, or another process does
abbrev pub ran_or_sliced : {M : Type 0} → Access M → Bool → ℕ → State M → Ended M
ran_or_sliced access slice iptr after = record { state = timesliced access slice (goes_on iptr after); outcome = Ran }

-- the next process runs in place of this one
abbrev pub gave_way : {M : Type 0} → Access M → State M → Ended M
gave_way access after = record { state = next access after; outcome = Ran }

-- ---- a process whose transfer is done

-- an idle processor runs it, and a running one puts it into its queue
abbrev pub woken_idle : {M : Type 0} → Option Touch → Access M → ℕ → State M → State M
woken_idle (Some touch) access process s = halted_for (why_of touch) s
woken_idle None access process s = record s { wptr = process; iptr = word_at access s.memory (below process 4); life = Running }

abbrev pub woken_running : {M : Type 0} → Option Touch → Access M → ℕ → State M → State M
woken_running (Some touch) access process s = halted_for (why_of touch) s
woken_running None access process s = enqueued access process s

abbrev pub woken_behind : {M : Type 0} → Access M → Reg → ℕ → State M → State M
woken_behind access Undefined process s = halted_for WhyUndefined s
woken_behind access (Word front) process s = woken_running (enqueue_refusal access s.memory (Word front) s.back) access process s

abbrev pub woken_by : {M : Type 0} → Access M → Life → ℕ → State M → State M
woken_by access Running process s = woken_behind access s.front process s
woken_by access Idle process s = woken_idle (loadable access s.memory (below process 4)) access process s
woken_by access (Stopped why) process s = s

unfoldable pub woken : {M : Type 0} → Access M → ℕ → State M → State M
woken access process s = woken_by access s.life process s
