-- The rows of several steps. Each tests all words that it stores or loads before the first store.
use Rattle.std.specs.Prelude.{ℕ, ◌+◌, ◌%◌, ◌==◌, Bool, not, ◌&&◌, nat_lt, if◌then◌else◌, Option, None}
use Rattle.tn_mem.specs.declared.touches.Touch.{Touch}
use Rattle.tn_mem.specs.Spaces.{Access, first_refusal}
use Rattle.tn_cpu.specs.declared.registers.Reg.{Reg}
use Rattle.tn_cpu.specs.declared.registers.Reg.TheVariants.{Undefined, Word}
use Rattle.tn_cpu.specs.declared.turns.Turn.{Turn}
use Rattle.tn_cpu.specs.States.{State, wrap, below, words_above, cleared, word_or_0}
use Rattle.tn_cpu.specs.Turns.{Ended, ran, with_word, with_two, with_three, with_answer, unless_refused, unless_outside}
use Rattle.tn_cpu.specs.Queues.{storable, loadable, stored, word_at, or_then, enqueue_refusal, enqueued, next_refusal, saved}
use Rattle.tn_cpu.specs.Queues.{slice_refusal, ran_or_sliced, gave_way}

-- ---- call

-- the refusal of the four words of the new workspace
abbrev pub frame_refusal : {M : Type 0} → Access M → M → ℕ → Option Touch
frame_refusal access m w =
    first_refusal (first_refusal (storable access m w) (storable access m (words_above w 1)))
    (first_refusal (storable access m (words_above w 2)) (storable access m (words_above w 3)))

-- the address of the next instruction and the three registers, one after the other; an undefined one is stored as 0
abbrev pub frame_stored : {M : Type 0} → Access M → ℕ → ℕ → Reg → Reg → Reg → M → M
frame_stored access w following a b c m =
    stored access
    (stored access (stored access (stored access m w following) (words_above w 1) (word_or_0 a)) (words_above w 2) (word_or_0 b))
    (words_above w 3) (word_or_0 c)

abbrev pub call_row : {M : Type 0} → Access M → ℕ → Turn → State M → Ended M
call_row access operand t s =
    unless_refused (frame_refusal access s.memory (below s.wptr 16)) s
    (ran (wrap (t.following + operand))
    (record s {
      memory = frame_stored access (below s.wptr 16) t.following s.a s.b s.c s.memory;
      wptr = below s.wptr 16;
      a = Word t.following;
      b = Undefined;
      c = Undefined;
    }))

-- ---- startp, endp, runp, stopp

-- a new process, whose workspace is A, begins B bytes after the next instruction
abbrev pub startp_row : {M : Type 0} → Access M → Turn → State M → Ended M
startp_row access t s =
    with_two s.a s.b s (λ process offset. with_word s.front s (λ front.
    unless_refused (first_refusal (storable access s.memory (below process 4)) (enqueue_refusal access s.memory s.front s.back)) s
    (ran t.following
    (cleared
    (enqueued access process (record s { memory = stored access s.memory (below process 4) (wrap (t.following + offset)) }))))))

-- endp of the last of them
abbrev pub endp_last : {M : Type 0} → Access M → ℕ → ℕ → State M → Ended M
endp_last access w count s =
    unless_refused (loadable access s.memory w) s
    (ran (word_at access s.memory w) (cleared (record s { memory = stored access s.memory (words_above w 1) (below count 1); wptr = w })))

-- endp of any other one
abbrev pub endp_other : {M : Type 0} → Access M → ℕ → ℕ → State M → Ended M
endp_other access w count s =
    with_word s.front s (λ front. unless_refused (next_refusal access s.memory s.front s.back) s
    (gave_way access (record s { memory = stored access s.memory (words_above w 1) (below count 1) })))

-- the last of the processes that share the word at A + 4 goes on at A, and any other one is over
abbrev pub endp_row : {M : Type 0} → Access M → State M → Ended M
endp_row access s =
    with_word s.a s (λ w. unless_refused (storable access s.memory (words_above w 1)) s
    (if word_at access s.memory (words_above w 1) == 1 then endp_last access w (word_at access s.memory (words_above w 1)) s
    else endp_other access w (word_at access s.memory (words_above w 1)) s))

-- a process, told with its lowest bit set, goes into the queue
abbrev pub runp_row : {M : Type 0} → Access M → Turn → State M → Ended M
runp_row access t s =
    with_word s.a s (λ a. with_word s.front s (λ front. unless_outside (not (a % 4 == 1)) s
    (unless_refused (enqueue_refusal access s.memory s.front s.back) s
    (ran t.following (cleared (enqueued access (below a 1) s))))))

-- the current process waits outside the queue
abbrev pub stopp_row : {M : Type 0} → Access M → Turn → State M → Ended M
stopp_row access t s =
    with_word s.front s
    (λ front. unless_refused (first_refusal (storable access s.memory (below s.wptr 4)) (next_refusal access s.memory s.front s.back)) s
    (gave_way access (saved access t.following s)))

-- ---- lend

-- a loop goes on where its count, as a signed word, is above 1
abbrev pub is_loop_taken : ℕ → Bool
is_loop_taken count = nat_lt 1 count && nat_lt count 0x80000000

-- the count falls by 1, and where the loop goes on, the index before it rises by 1
abbrev pub loop_stored : {M : Type 0} → Access M → ℕ → ℕ → M → M
loop_stored access w count m =
    if is_loop_taken count
    then stored access (stored access m (words_above w 1) (below count 1)) w (wrap (word_at access m w + 1))
    else stored access m (words_above w 1) (below count 1)

abbrev pub loop_refusal : {M : Type 0} → Access M → ℕ → M → Option Touch
loop_refusal access w m =
    or_then (storable access m (words_above w 1)) (if is_loop_taken (word_at access m (words_above w 1)) then storable access m w else None)

-- where it goes on
abbrev pub loop_end : ℕ → ℕ → ℕ → ℕ
loop_end count back following = if is_loop_taken count then below following back else following

-- the end of a loop with index and count at B, which goes back by A bytes
abbrev pub lend_row : {M : Type 0} → Access M → Turn → State M → Ended M
lend_row access t s =
    with_two s.a s.b s (λ back w. unless_refused (first_refusal (loop_refusal access w s.memory) (slice_refusal access t.slice s)) s
    (ran_or_sliced access t.slice (loop_end (word_at access s.memory (words_above w 1)) back t.following)
    (cleared (record s { memory = loop_stored access w (word_at access s.memory (words_above w 1)) s.memory }))))

-- ---- move

abbrev pub move_row : {M : Type 0} → Access M → Turn → State M → Ended M
move_row access t s =
    with_three s.a s.b s.c s
    (λ count to from. with_answer (access.copy s.memory from to count) s (λ m. ran t.following (cleared (record s { memory = m }))))
