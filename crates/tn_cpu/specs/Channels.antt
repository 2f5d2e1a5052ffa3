-- Input and output, on the channels of links and between two processes.
use Rattle.std.specs.Prelude.{ℕ, ◌+◌, ◌-◌, ◌/◌, ◌%◌, ◌^◌, ◌==◌, Bool, true, false, not, ◌&&◌, ◌||◌, nat_le, nat_lt, if◌then◌else◌}
use Rattle.std.specs.Prelude.{Option, None, Some}
use Rattle.tn_mem.specs.declared.touches.Touch.{Touch}
use Rattle.tn_mem.specs.declared.touches.Touch.TheVariants.{Outside, Code}
use Rattle.tn_mem.specs.Spaces.{Access, first_refusal}
use Rattle.tn_word.specs.Words.{most_neg, not_process}
use Rattle.tn_cpu.specs.declared.outcomes.Why.TheVariants.{Outside as WhyOutside}
use Rattle.tn_cpu.specs.declared.outcomes.Transfer.{Transfer}
use Rattle.tn_cpu.specs.declared.outcomes.Outcome.{Outcome}
use Rattle.tn_cpu.specs.declared.outcomes.Outcome.TheVariants.{OpensIn, OpensOut}
use Rattle.tn_cpu.specs.declared.turns.Turn.{Turn}
use Rattle.tn_cpu.specs.declared.channels.Way.{Way}
use Rattle.tn_cpu.specs.declared.channels.Way.TheVariants.{Input, Output}
use Rattle.tn_cpu.specs.declared.channels.Channel.{Channel}
use Rattle.tn_cpu.specs.declared.channels.Channel.TheVariants.{Link, Internal, NoChannel}
use Rattle.tn_cpu.specs.States.{State, wrap, below, cleared}
use Rattle.tn_cpu.specs.Turns.{Ended, stopped, ran, with_word, with_three, unless_refused, unless_outside}
use Rattle.tn_cpu.specs.Queues.{storable, loadable, block_refusal, source_refusal, stored, copied, word_at, or_then}
use Rattle.tn_cpu.specs.Queues.{enqueue_refusal, enqueued, next_refusal, next, saved, gave_way}

-- the channel word of link 0; those of links 1 to 3 follow it
abbrev pub first_link : Way → ℕ
first_link Input = most_neg + 16
first_link Output = most_neg

-- a channel word at a multiple of 4 is one of the four links of its direction, or a word of
-- memory; words 0 to 8 are otherwise no channels
abbrev pub aligned_channel : ℕ → ℕ → Channel
aligned_channel first a =
    if nat_le first a && nat_lt a (first + 16)
    then Link ((a - first) / 4)
    else (if nat_le most_neg a && nat_lt a (most_neg + 36) then NoChannel else Internal)

unfoldable pub channel_at : Way → ℕ → Channel
channel_at way a = if a % 4 == 0 then aligned_channel (first_link way) a else NoChannel

-- the engine of a link in this direction is open; bits 0 to 3 are for input, 4 to 7 for output
abbrev pub engine_bit : Way → ℕ → ℕ
engine_bit Input link = link
engine_bit Output link = link + 4

-- a bit of a byte is set; it has eight
abbrev pub is_set : ℕ → ℕ → Bool
is_set bit byte = nat_lt bit 8 && byte / 2 ^ bit % 2 == 1

unfoldable pub is_open : Way → ℕ → ℕ → Bool
is_open way link busy = is_set (engine_bit way link) busy

-- the outcome that opens an engine
abbrev pub opens : Way → Transfer → Outcome
opens Input transfer = OpensIn transfer
opens Output transfer = OpensOut transfer

-- why the block of a transfer may not be used, if it may not: `in` stores it, and `out` reads it
abbrev pub bytes_refusal : {M : Type 0} → Access M → Way → M → ℕ → ℕ → Option Touch
bytes_refusal access Input m pointer count = block_refusal access m pointer count
bytes_refusal access Output m pointer count = source_refusal access m pointer count

-- the direction of the other process on a channel
abbrev pub other_way : Way → Way
other_way Input = Output
other_way Output = Input

-- on a link: the engine opens, and the next process runs
abbrev pub linked : {M : Type 0} → Access M → Way → Turn → ℕ → ℕ → ℕ → State M → Ended M
linked access way t count pointer link s =
    unless_outside (count == 0 || is_open way link t.busy) s
    (unless_refused
    (first_refusal (bytes_refusal access way s.memory pointer count)
    (first_refusal (storable access s.memory (below s.wptr 4)) (next_refusal access s.memory s.front s.back))) s
    (record {
      state = next access (saved access t.following s);
      outcome = opens way
          (record { link = link; pointer = pointer; count = count; process = s.wptr });
    }))

-- on an internal channel where no process waits: this one does, and the next process runs
abbrev pub waiting : {M : Type 0} → Access M → ℕ → ℕ → ℕ → State M → State M
waiting access iptr channel pointer s =
    record s {
      memory = stored access (stored access (stored access s.memory (below s.wptr 4) iptr) (below s.wptr 12) pointer) channel
          (wrap (s.wptr + 1));
    }

abbrev pub waits : {M : Type 0} → Access M → Turn → ℕ → ℕ → State M → Ended M
waits access t channel pointer s =
    unless_refused
    (first_refusal (storable access s.memory (below s.wptr 4))
    (first_refusal (storable access s.memory (below s.wptr 12)) (next_refusal access s.memory s.front s.back))) s
    (gave_way access (waiting access t.following channel pointer s))

-- where a process waits: the bytes are copied towards the inputting one, and both go on
abbrev pub exchanged : {M : Type 0} → Access M → Way → ℕ → ℕ → ℕ → M → M
exchanged access Input count pointer partner m = copied access m partner pointer count
exchanged access Output count pointer partner m = copied access m pointer partner count

abbrev pub partner_refusal : {M : Type 0} → Access M → Way → M → ℕ → ℕ → Option Touch
partner_refusal access way m process count =
    or_then (loadable access m (below process 12))
    (bytes_refusal access (other_way way) m (word_at access m (below process 12)) count)

abbrev pub met : {M : Type 0} → Access M → Way → Turn → ℕ → ℕ → ℕ → ℕ → State M → Ended M
met access way t count channel pointer process s =
    unless_refused
    (first_refusal (partner_refusal access way s.memory process count)
    (first_refusal (bytes_refusal access way s.memory pointer count) (enqueue_refusal access s.memory s.front s.back))) s
    (ran t.following
    (cleared
    (enqueued access process
    (record s {
      memory = stored access
          (exchanged access way count pointer (word_at access s.memory (below process 12)) s.memory) channel not_process;
    }))))

-- on an internal channel, by the word in it: NotProcess.p, or the waiting process with its lowest bit set
abbrev pub internal : {M : Type 0} → Access M → Way → Turn → ℕ → ℕ → ℕ → ℕ → State M → Ended M
internal access way t count channel pointer word s =
    if word == not_process
    then waits access t channel pointer s
    else unless_outside (not (word % 4 == 1)) s (met access way t count channel pointer (word - 1) s)

abbrev pub is_outside : Option Touch → Bool
is_outside (Some Outside) = true
is_outside (Some Code) = false
is_outside None = false

-- by the kind of the channel. A bad channel stops the processor whatever the queue is, and nothing else does before the queue
abbrev pub on_channel : {M : Type 0} → Access M → Way → Turn → ℕ → ℕ → ℕ → Channel → State M → Ended M
on_channel access way t count channel pointer NoChannel s = stopped WhyOutside s
on_channel access way t count channel pointer (Link link) s =
    with_word s.front s (λ front. linked access way t count pointer link s)
on_channel access way t count channel pointer Internal s =
    unless_outside (is_outside (storable access s.memory channel)) s
    (with_word s.front s (λ front. unless_refused (storable access s.memory channel) s
    (internal access way t count channel pointer (word_at access s.memory channel) s)))

-- in and out
abbrev pub transfer_row : {M : Type 0} → Access M → Way → Turn → State M → Ended M
transfer_row access way t s =
    with_three s.a s.b s.c s (λ count channel pointer. on_channel access way t count channel pointer (channel_at way channel) s)
