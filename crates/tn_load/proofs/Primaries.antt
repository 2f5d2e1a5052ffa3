-- The primary bootstrap, from its first byte to the top of the secondary loader.
use Rattle.std.proofs.Common.{◌≡◌, ℕ, ◌+◌, ◌<◌, ◌≤◌, ◌%◌, ◌^◌, Bool, true, List, Ok, refl, sym, ap, ◌∙◌, arith}
use Rattle.std.specs.Prelude.{slice_index, length}
use Rattle.std.specs.Int.{w32, to_le_bytes}
use Rattle.std.proofs.lemmas.Bool.Decides.{nat_tests}
use Rattle.tn_isa.specs.Operations.{operation_with}
use Rattle.tn_mem.specs.Spaces.{Access}
use Rattle.tn_mem.specs.Sizes.{IsMemorySize}
use Rattle.tn_mem.specs.Memories.{allows_word, put, fetch, load}
use Rattle.tn_mem.proofs.Puts.{IsInside, length-put}
use Rattle.tn_mem.proofs.Stored.{load-put_below, fetch-put_below, fetch-put_above}
use Rattle.tn_mem.proofs.Frames.{Changed, changed-put, changed-wider, changed-more}
use Rattle.tn_word.specs.Words.{not_process, bytes_of_word}
use Rattle.tn_word.specs.Channels.{in_channel_of}
use Rattle.tn_loader.specs.Secondary.{secondary_bytes}
use Rattle.tn_cpu.specs.declared.registers.Reg.{Reg}
use Rattle.tn_cpu.specs.declared.registers.Reg.TheVariants.{Undefined, Word}
use Rattle.tn_cpu.specs.declared.outcomes.Outcome.TheVariants.{Ran}
use Rattle.tn_cpu.specs.States.{State, wrap}
use Rattle.tn_cpu.specs.Steps.{execute_byte}
use Rattle.tn_node.specs.Nodes.{NodeState}
use Rattle.tn_load.specs.Inner.PlainSpaces.{IsPlainSpace}
use Rattle.tn_load.specs.Inner.NodeActs.{Kept, Leads}
use Rattle.tn_load.proofs.Leading.{◌⨾◌, one, running, inputting}
use Rattle.tn_load.proofs.Walking.{Code, Walks, byte-steps, walks}
use Rattle.tn_load.proofs.Moving.{HasRoom, room-word, engine, awake, asleep, byte-known, word-known, input-takes, opens-input}
use Rattle.std.specs.Prelude.{not}
use Rattle.tn_word.specs.Words.{mem_start}
use Rattle.tn_loader.specs.Primary.{primary_bytes}
use Rattle.tn_loader.proofs.Tables.{length-primary_bytes, length-secondary_bytes}
use Rattle.tn_mem.proofs.Stored.{fetch-put_inside}
use Rattle.tn_cpu.specs.States.{powered_up, booted}
use Rattle.tn_cpu.specs.Effects.{truth}
use Rattle.tn_load.proofs.Moving.{room-byte}
use Rattle.tn_load.proofs.Leading.{each_link}
use Rattle.tn_load.proofs.Bootstraps.{in_reset, has_booted, boots}
use Rattle.tn_load.proofs.Secondary.{base, IsReady, room, word-stored, to_top}
use Rattle.tn_load.proofs.Commands.{IsTop, saved_at, top-saved}
use Rattle.tn_load.specs.Inner.Lives.{steps, loader_acts}

-- the primary is whole in a memory
pub record IsPrimary (k : ℕ) (Q : List ℕ → Type 0) (m : List ℕ) : Type 0 where
  pub size : IsMemorySize (length m)
  pub code : (i : ℕ) → i < 57 → fetch m (mem_start + i) ≡ Ok (slice_index (primary_bytes k) i)
  pub holds : Q m

-- and both timer queues are empty
pub record HasTimers (m : List ℕ) : Type 0 where
  pub high : load m 0x80000024 ≡ Ok not_process
  pub low : load m 0x80000028 ≡ Ok not_process

inside_page : (m : List ℕ) (a n : ℕ) → IsMemorySize (length m) → 0x80000024 ≤ a → a + n ≤ 0x80001000 → IsInside m a n
inside_page m a n size low high = record { low = omega arith; high = omega (arith, size.0) }

primary-below : (k : ℕ) (Q : List ℕ → Type 0) (page : Kept Q 0x80000024 0x80000400) (m : List ℕ) (a : ℕ) (bytes : List ℕ)
    → IsPrimary k Q m → 0x80000024 ≤ a → a + length bytes ≤ mem_start → IsPrimary k Q (put m a bytes)
primary-below k Q page m a bytes p low high =
    let inside = inside_page m a (length bytes) p.size low (omega arith) in
    record {
      size = rw (length-put m a bytes inside) p.size;
      code = λ i h. fetch-put_above m a bytes (mem_start + i) inside (omega arith) ∙ p.code i h;
      holds = page m a bytes (omega arith) (omega arith) p.holds;
    }

primary-above : (k : ℕ) (Q : List ℕ → Type 0) (page : Kept Q 0x80000024 0x80000400) (m : List ℕ) (a : ℕ) (bytes : List ℕ)
    → IsPrimary k Q m → 0x800000A9 ≤ a → a + length bytes ≤ 0x80000400 → IsPrimary k Q (put m a bytes)
primary-above k Q page m a bytes p low high =
    let inside = inside_page m a (length bytes) p.size (omega arith) (omega arith) in
    record {
      size = rw (length-put m a bytes inside) p.size;
      code = λ i h. fetch-put_below m a bytes (mem_start + i) inside (omega arith) (omega arith) ∙ p.code i h;
      holds = page m a bytes (omega arith) (omega arith) p.holds;
    }

timers-above : (m : List ℕ) (a : ℕ) (bytes : List ℕ) → IsMemorySize (length m) → HasTimers m → 0x8000002C ≤ a
    → a + length bytes ≤ 0x80001000 → HasTimers (put m a bytes)
timers-above m a bytes size t low high =
    let inside = inside_page m a (length bytes) size (omega arith) high in
    record {
      high = load-put_below m a bytes 0x80000024 inside (omega arith) (omega arith) ∙ t.high;
      low = load-put_below m a bytes 0x80000028 inside (omega arith) (omega arith) ∙ t.low;
    }

-- a bootstrap of the primary puts it there
pub primary-put : (k : ℕ) (Q : List ℕ → Type 0) (page : Kept Q 0x80000024 0x80000400) (m : List ℕ) → IsMemorySize (length m) → Q m
    → IsPrimary k Q (put m mem_start (primary_bytes k))
primary-put k Q page m size q =
    let inside = inside_page m mem_start (length (primary_bytes k)) size (omega arith) (omega (arith, length-primary_bytes k)) in
    record {
      size = rw (length-put m mem_start (primary_bytes k) inside) size;
      code = λ i h. fetch-put_inside m mem_start (primary_bytes k) i inside (omega (arith, length-primary_bytes k))
          (room-byte m mem_start 57 i (room m mem_start 57 size (omega arith) (omega arith)) h);
      holds = page m mem_start (primary_bytes k) (omega arith) (omega (arith, length-primary_bytes k)) q;
    }

module _ {M : Type 0} (access : Access M) (space : List ℕ → M) (laws : IsPlainSpace access space) (Q : List ℕ → Type 0)
    (page : Kept Q 0x80000024 0x80000400) (k : ℕ) (link : k < 4) where
  keeps : Kept Q 0x800001FC 0x80000400
  keeps m a bytes low high q = page m a bytes (omega arith) high q

  abbrev U : Reg
  U = Undefined

  -- at a place of the primary, with its workspace
  abbrev pri : Reg → Reg → Reg → ℕ → List ℕ → NodeState M
  pri a b c i m = running (awake space a b c 0 i 0x800000BC m)

  primary_code : (m : List ℕ) → IsPrimary k Q m → Code access (space m) mem_start (primary_bytes k)
  unfolding primary_bytes
  primary_code m p i h = byte-known access space laws m (mem_start + i) (slice_index (primary_bytes k) i) (p.code i h)

  along_primary : (n : ℕ) (s t : State M) (m : List ℕ) → s.memory ≡ space m → IsPrimary k Q m
      → Walks access mem_start (primary_bytes k) n s t → Leads access space Q k (steps n) (running s) (running t)
  along_primary n s t m is p w = walks access space Q k mem_start (primary_bytes k) n s t m is p.holds (rw is (primary_code m p)) w

  -- the first 21 bytes: Error and HaltOnError are cleared, and the queue is empty
  clears : (error halt : Bool) (m : List ℕ) → IsPrimary k Q m
      → Leads access space Q k (steps 21) (has_booted access space laws k error halt 57 m)
      (pri (Word not_process) (Word not_process) (Word (truth (not error))) 0x80000085 m)
  unfolding execute_byte primary_bytes operation_with
  clears error halt m p =
      along_primary 21 (booted 57 (powered_up (space m) error halt))
      (awake space (Word not_process) (Word not_process) (Word (truth (not error))) 0 0x80000085 0x800000BC m) m refl p (assumption)

  -- a byte that makes the address of the boot link's channel
  channel_effect : (b c : Reg) (i w : ℕ) (m : List ℕ) (slice : Bool) (clock : ℕ)
      → execute_byte access (0x54 + k) 0 slice clock (awake space (Word not_process) b c 0 i w m) ≡
      record { state = awake space (Word (in_channel_of k)) b c 0 (wrap (i + 1)) w m; outcome = Ran }
  unfolding execute_byte
  channel_effect b c i w m slice clock =
      each_link (λ l. execute_byte access (0x54 + l) 0 slice clock (awake space (Word not_process) b c 0 i w m) ≡
      record { state = awake space (Word (in_channel_of l)) b c 0 (wrap (i + 1)) w m; outcome = Ran }) refl refl refl refl k link

  makes-channel : (b c : Reg) (i w : ℕ) (m : List ℕ) → IsPrimary k Q m → i < 57 → slice_index (primary_bytes k) i ≡ 0x54 + k
      → Leads access space Q k (steps 1) (running (awake space (Word not_process) b c 0 (mem_start + i) w m))
      (running (awake space (Word (in_channel_of k)) b c 0 (mem_start + i + 1) w m))
  makes-channel b c i w m p within byte =
      let fetched : access.byte (space m) (mem_start + i) ≡ Ok (0x54 + k) =
      byte-known access space laws m (mem_start + i) (0x54 + k) (p.code i within ∙ ap Ok byte) in
      let next : wrap (mem_start + i + 1) ≡ mem_start + i + 1 = omega arith in
      one (byte-steps access k (awake space (Word not_process) b c 0 (mem_start + i) w m) (0x54 + k)
      (record { state = awake space (Word (in_channel_of k)) b c 0 (mem_start + i + 1) w m; outcome = Ran })
      (grind (arith, nat_tests)) fetched
      (λ slice clock. rw next at (channel_effect b c (mem_start + i) w m slice clock))) m refl p.holds

  -- a word of memory
  abbrev empty_at : ℕ → List ℕ → List ℕ
  empty_at a m = put m a (to_le_bytes w32 not_process)

  may_store : (m : List ℕ) (a : ℕ) → IsMemorySize (length m) → a % 4 ≡ 0 → 0x80000024 ≤ a → a + 4 ≤ 0x80001000
      → allows_word (length m) a ≡ true
  may_store m a size aligned low high = room-word m a aligned (room m a 4 size low high)

  empties : (r : Reg) (i byte a : ℕ) (m : List ℕ) → IsPrimary k Q m → i < 57 → slice_index (primary_bytes k) i ≡ byte → a % 4 ≡ 0
      → 0x80000024 ≤ a → a + 4 ≤ 0x80000400 → ((slice : Bool) (clock : ℕ)
      → access.set_word (space m) a not_process ≡ Ok (space (empty_at a m))
      → execute_byte access byte 0 slice clock (awake space (Word not_process) (Word not_process) r 0 (mem_start + i) 0x800000BC m) ≡
      record { state = awake space r U U 0 (wrap (mem_start + i + 1)) 0x800000BC (empty_at a m); outcome = Ran })
      → Leads access space Q k (steps 1) (pri (Word not_process) (Word not_process) r (mem_start + i) m)
      (pri r U U (mem_start + i + 1) (empty_at a m))
  empties r i byte a m p within is aligned low high h =
      let fetched : access.byte (space m) (mem_start + i) ≡ Ok byte =
      byte-known access space laws m (mem_start + i) byte (p.code i within ∙ ap Ok is) in
      let next : wrap (mem_start + i + 1) ≡ mem_start + i + 1 = omega arith in
      one (byte-steps access k (awake space (Word not_process) (Word not_process) r 0 (mem_start + i) 0x800000BC m) byte
      (record { state = awake space r U U 0 (mem_start + i + 1) 0x800000BC (empty_at a m); outcome = Ran }) (grind (arith, nat_tests))
      fetched
      (λ slice clock. rw next at (h slice clock (laws.set_word m a not_process (may_store m a p.size aligned low (omega arith))))))
      (empty_at a m) refl (page m a (to_le_bytes w32 not_process) low (omega arith) p.holds)

  -- offsets 21 to 32: both timer queues are emptied, and the length of the secondary is to come
  abbrev primary_waits : List ℕ → List ℕ
  primary_waits m = put (empty_at 0x80000028 (empty_at 0x80000024 m)) 0x800000B8 (to_le_bytes w32 0x80000091)

  empties-both : (r : Reg) (m : List ℕ) → IsPrimary k Q m
      → Leads access space Q k (steps 12) (pri (Word not_process) (Word not_process) r 0x80000085 m)
      (inputting k (engine 0x800000BC 4 0x800000BC) (asleep space (primary_waits m)))
  unfolding execute_byte primary_bytes operation_with
  empties-both r m p =
      let m2 : List ℕ = empty_at 0x80000024 m in
      let m3 : List ℕ = empty_at 0x80000028 m2 in
      let p2 : IsPrimary k Q m2 = primary-below k Q page m 0x80000024 (to_le_bytes w32 not_process) p (omega arith) (omega arith) in
      let p3 : IsPrimary k Q m3 = primary-below k Q page m2 0x80000028 (to_le_bytes w32 not_process) p2 (omega arith) (omega arith) in
      let W : Reg = Word 0x800000BC in
      let fetched : access.byte (space m3) 0x80000090 ≡ Ok 0xF7 =
      byte-known access space laws m3 0x80000090 0xF7 (p3.code 32 (omega arith)) in
      empties r 21 0xE9 0x80000024 m p (omega arith) refl refl (omega arith) (omega arith) (λ slice clock h. rw h refl) ⨾
      (along_primary 4 (awake space r U U 0 0x80000086 0x800000BC m2)
      (awake space (Word not_process) (Word not_process) r 0 0x8000008A 0x800000BC m2) m2 refl p2 (assumption) ⨾
      (empties r 26 0xEA 0x80000028 m2 p2 (omega arith) refl refl (omega arith) (omega arith) (λ slice clock h. rw h refl) ⨾
      (along_primary 3 (awake space r U U 0 0x8000008B 0x800000BC m3) (awake space (Word not_process) W r 0 0x8000008E 0x800000BC m3) m3
      refl p3 (assumption) ⨾
      (makes-channel W r 30 0x800000BC m3 p3 (omega arith) refl ⨾
      (along_primary 1 (awake space (Word (in_channel_of k)) W r 0 0x8000008F 0x800000BC m3)
      (awake space (Word 4) (Word (in_channel_of k)) W 0 0x80000090 0x800000BC m3) m3 refl p3 (assumption) ⨾
      one (opens-input access space laws k m3 0x800000BC 4 0x80000090 0x800000BC link (omega arith)
      (room m3 0x800000BC 4 p3.size (omega arith) (omega arith)) (may_store m3 0x800000B8 p3.size refl (omega arith) (omega arith))
      refl fetched) (primary_waits m) refl (page m3 0x800000B8 (to_le_bytes w32 0x80000091) (omega arith) (omega arith) p3.holds))))))

  -- offsets 33 to 41: the secondary is to come, of so many bytes as the length said
  second-input : (n : ℕ) (m : List ℕ) → IsPrimary k Q m → load m 0x800000BC ≡ Ok n → 0 < n → HasRoom m base n
      → Leads access space Q k (steps 9) (pri U U U 0x80000091 m)
      (inputting k (engine base n 0x800000BC) (asleep space (put m 0x800000B8 (to_le_bytes w32 0x8000009A))))
  unfolding execute_byte primary_bytes operation_with
  second-input n m p n_is some place =
      let fetched : access.byte (space m) 0x80000099 ≡ Ok 0xF7 = byte-known access space laws m 0x80000099 0xF7 (p.code 41 (omega arith)) in
      let fetched_ldl : access.byte (space m) 0x80000098 ≡ Ok 0x70 =
      byte-known access space laws m 0x80000098 0x70 (p.code 40 (omega arith)) in
      let known : access.word (space m) 0x800000BC ≡ Ok n = word-known access space laws m 0x800000BC n n_is in
      along_primary 6 (awake space U U U 0 0x80000091 0x800000BC m)
      (awake space (Word not_process) (Word base) U 0 0x80000097 0x800000BC m) m refl p (assumption) ⨾
      (makes-channel (Word base) U 39 0x800000BC m p (omega arith) refl ⨾
      (one (byte-steps access k (awake space (Word (in_channel_of k)) (Word base) U 0 0x80000098 0x800000BC m) 0x70
      (record { state = awake space (Word n) (Word (in_channel_of k)) (Word base) 0 0x80000099 0x800000BC m; outcome = Ran }) refl
      fetched_ldl (λ slice clock. rw known refl)) m refl p.holds ⨾
      one (opens-input access space laws k m base n 0x80000099 0x800000BC link some place
      (may_store m 0x800000B8 p.size refl (omega arith) (omega arith)) refl fetched) (put m 0x800000B8 (to_le_bytes w32 0x8000009A))
      refl (page m 0x800000B8 (to_le_bytes w32 0x8000009A) (omega arith) (omega arith) p.holds)))

  -- offsets 42 to 56: the secondary begins
  abbrev channel_at : List ℕ → List ℕ
  channel_at m = put m 0x8000020C (to_le_bytes w32 (in_channel_of k))

  begins : (m : List ℕ) → IsPrimary k Q m → Leads access space Q k (steps 15) (pri U U U 0x8000009A m)
      (running (awake space (Word 0x800000A9) (Word 0x800000BC) U 0 base 0x80000200 (channel_at m)))
  unfolding execute_byte primary_bytes operation_with
  begins m p =
      let W : Reg = Word 0x800000BC in
      let m8 : List ℕ = channel_at m in
      let p8 : IsPrimary k Q m8 = primary-above k Q page m 0x8000020C (to_le_bytes w32 (in_channel_of k)) p (omega arith) (omega arith) in
      let fetched : access.byte (space m) 0x800000A3 ≡ Ok 0xD3 = byte-known access space laws m 0x800000A3 0xD3 (p.code 51 (omega arith)) in
      let stores : access.set_word (space m) 0x8000020C (in_channel_of k) ≡ Ok (space m8) =
      laws.set_word m 0x8000020C (in_channel_of k) (may_store m 0x8000020C p.size refl (omega arith) (omega arith)) in
      along_primary 8 (awake space U U U 0 0x8000009A 0x800000BC m) (awake space (Word not_process) W U 0 0x800000A2 0x80000200 m) m refl
      p (assumption) ⨾
      (makes-channel W U 50 0x80000200 m p (omega arith) refl ⨾
      (one (byte-steps access k (awake space (Word (in_channel_of k)) W U 0 0x800000A3 0x80000200 m) 0xD3
      (record { state = awake space W U U 0 0x800000A4 0x80000200 m8; outcome = Ran }) refl fetched (λ slice clock. rw stores refl))
      m8 refl p8.holds ⨾
      along_primary 5 (awake space W U U 0 0x800000A4 0x80000200 m8) (awake space (Word 0x800000A9) W U 0 base 0x80000200 m8) m8 refl p8
      (assumption)))

  -- from reset to the top of the secondary's loop
  pub record Loads (error halt : Bool) (m : List ℕ) : Type 0 where
    pub after : List ℕ
    pub leads : Leads access space Q k (loader_acts k) (in_reset access space laws k error halt m)
        (inputting k (engine 0x80000200 12 0x80000200) (asleep space after))
    pub top : IsTop k Q after
    pub timers : HasTimers after
    pub changed : Changed m after 0x80000024 0x80000400

  changed-page : (m : List ℕ) (a : ℕ) (bytes : List ℕ) → IsMemorySize (length m) → 0x80000024 ≤ a → a + length bytes ≤ 0x80000400
      → Changed m (put m a bytes) 0x80000024 0x80000400
  changed-page m a bytes size low high =
      changed-wider m (put m a bytes) a (a + length bytes) 0x80000024 0x80000400 low high
      (changed-put m a bytes (inside_page m a (length bytes) size low (omega arith)))

  word_bytes-stored : (m : List ℕ) (a v : ℕ) → v < 2 ^ 32 → a % 4 ≡ 0 → HasRoom m a 4 → load (put m a (bytes_of_word v)) a ≡ Ok v
  word_bytes-stored m a v in_word aligned place = word-stored m a v in_word aligned place

  pub loads : (error halt : Bool) (m : List ℕ) → IsMemorySize (length m) → Q m → Loads error halt m
  loads error halt m size q =
      let m1 : List ℕ = put m mem_start (primary_bytes k) in
      let p1 : IsPrimary k Q m1 = primary-put k Q page m size q in
      let m2 : List ℕ = empty_at 0x80000024 m1 in
      let p2 : IsPrimary k Q m2 = primary-below k Q page m1 0x80000024 (to_le_bytes w32 not_process) p1 (omega arith) (omega arith) in
      let m3 : List ℕ = empty_at 0x80000028 m2 in
      let p3 : IsPrimary k Q m3 = primary-below k Q page m2 0x80000028 (to_le_bytes w32 not_process) p2 (omega arith) (omega arith) in
      let t3 : HasTimers m3 = record {
        high = load-put_below m2 0x80000028 (to_le_bytes w32 not_process) 0x80000024
            (inside_page m2 0x80000028 4 p2.size (omega arith) (omega arith)) (omega arith) (omega arith)
            ∙ word-stored m1 0x80000024 not_process (omega arith) refl (room m1 0x80000024 4 p1.size (omega arith) (omega arith));
        low = word-stored m2 0x80000028 not_process (omega arith) refl (room m2 0x80000028 4 p2.size (omega arith) (omega arith));
      } in
      let m4 : List ℕ = primary_waits m1 in
      let p4 : IsPrimary k Q m4 = primary-above k Q page m3 0x800000B8 (to_le_bytes w32 0x80000091) p3 (omega arith) (omega arith) in
      let t4 : HasTimers m4 = timers-above m3 0x800000B8 (to_le_bytes w32 0x80000091) p3.size t3 (omega arith) (omega arith) in
      let m5 : List ℕ = put m4 0x800000BC (bytes_of_word 55) in
      let p5 : IsPrimary k Q m5 = primary-above k Q page m4 0x800000BC (bytes_of_word 55) p4 (omega arith) (omega arith) in
      let t5 : HasTimers m5 = timers-above m4 0x800000BC (bytes_of_word 55) p4.size t4 (omega arith) (omega arith) in
      let m6 : List ℕ = put m5 0x800000B8 (to_le_bytes w32 0x8000009A) in
      let p6 : IsPrimary k Q m6 = primary-above k Q page m5 0x800000B8 (to_le_bytes w32 0x8000009A) p5 (omega arith) (omega arith) in
      let t6 : HasTimers m6 = timers-above m5 0x800000B8 (to_le_bytes w32 0x8000009A) p5.size t5 (omega arith) (omega arith) in
      let s : 55 ≡ length secondary_bytes = sym length-secondary_bytes in
      let m7 : List ℕ = put m6 base secondary_bytes in
      let p7 : IsPrimary k Q m7 = primary-above k Q page m6 base secondary_bytes p6 (omega arith) (omega arith) in
      let t7 : HasTimers m7 = timers-above m6 base secondary_bytes p6.size t6 (omega arith) (omega arith) in
      let m8 : List ℕ = channel_at m7 in
      let p8 : IsPrimary k Q m8 = primary-above k Q page m7 0x8000020C (to_le_bytes w32 (in_channel_of k)) p7 (omega arith) (omega arith) in
      let t8 : HasTimers m8 = timers-above m7 0x8000020C (to_le_bytes w32 (in_channel_of k)) p7.size t7 (omega arith) (omega arith) in
      let in8 : IsInside m7 0x8000020C 4 = inside_page m7 0x8000020C 4 p7.size (omega arith) (omega arith) in
      let in7 : IsInside m6 base (length secondary_bytes) =
      inside_page m6 base (length secondary_bytes) p6.size (omega arith) (omega arith) in
      let ready : IsReady k Q m8 = record {
        size = p8.size;
        code = λ i h. fetch-put_below m7 0x8000020C (to_le_bytes w32 (in_channel_of k)) (base + i) in8 (omega arith) (omega arith)
            ∙ fetch-put_inside m6 base secondary_bytes i in7 (omega arith)
            (room-byte m6 base 55 i (room m6 base 55 p6.size (omega arith) (omega arith)) h);
        channel = word-stored m7 0x8000020C (in_channel_of k) (omega arith) refl (room m7 0x8000020C 4 p7.size (omega arith) (omega arith));
        holds = p8.holds;
      } in
      let m9 : List ℕ = saved_at 0x80000104 m8 in
      let t9 : HasTimers m9 = timers-above m8 0x800001FC (to_le_bytes w32 0x80000104) p8.size t8 (omega arith) (omega arith) in
      let booted_up = boots access space laws k error halt Q m 57 (primary_bytes k) size (sym (length-primary_bytes k)) (omega arith)
      (omega arith) (λ n a written low high held. page n a written (omega arith) (omega arith) held) q in
      let gets_length = input-takes access space laws Q k m4 0x800000BC 4 0x800000BC 0x80000091 (bytes_of_word 55) link refl (omega arith)
      (room m4 0x800000BC 4 p4.size (omega arith) (omega arith)) (omega arith)
      (word-stored m3 0x800000B8 0x80000091 (omega arith) refl (room m3 0x800000B8 4 p3.size (omega arith) (omega arith)))
      (λ n a written low high held. page n a written (omega arith) (omega arith) held) p4.holds in
      let length_is : load m5 0x800000BC ≡ Ok 55 =
      word_bytes-stored m4 0x800000BC 55 (omega arith) refl (room m4 0x800000BC 4 p4.size (omega arith) (omega arith)) in
      let gets_secondary = input-takes access space laws Q k m6 base 55 0x800000BC 0x8000009A secondary_bytes link s (omega arith)
      (room m6 base 55 p6.size (omega arith) (omega arith)) (omega arith)
      (word-stored m5 0x800000B8 0x8000009A (omega arith) refl (room m5 0x800000B8 4 p5.size (omega arith) (omega arith)))
      (λ n a written low high held. page n a written (omega arith) (omega arith) held) p6.holds in
      record {
        after = m9;
        leads = booted_up ⨾ (clears error halt m1 p1 ⨾
            (empties-both (Word (truth (not error))) m1 p1 ⨾
            (gets_length ⨾ (second-input 55 m5 p5 length_is (omega arith) (room m5 base 55 p5.size (omega arith) (omega arith)) ⨾
            (gets_secondary ⨾ (begins m7 p7 ⨾ to_top access space laws Q keeps k link (Word 0x800000A9) (Word 0x800000BC) U m8
            ready))))));
        top = top-saved k Q keeps m8 ready;
        timers = t9;
        changed =
            changed-more m m1 m9 0x80000024 0x80000400
            (changed-page m mem_start (primary_bytes k) size (omega arith) (omega (arith, length-primary_bytes k)))
            (changed-more m1 m2 m9 0x80000024 0x80000400
            (changed-page m1 0x80000024 (to_le_bytes w32 not_process) p1.size (omega arith) (omega arith))
            (changed-more m2 m3 m9 0x80000024 0x80000400
            (changed-page m2 0x80000028 (to_le_bytes w32 not_process) p2.size (omega arith) (omega arith))
            (changed-more m3 m4 m9 0x80000024 0x80000400
            (changed-page m3 0x800000B8 (to_le_bytes w32 0x80000091) p3.size (omega arith) (omega arith))
            (changed-more m4 m5 m9 0x80000024 0x80000400 (changed-page m4 0x800000BC (bytes_of_word 55) p4.size (omega arith) (omega arith))
            (changed-more m5 m6 m9 0x80000024 0x80000400
            (changed-page m5 0x800000B8 (to_le_bytes w32 0x8000009A) p5.size (omega arith) (omega arith))
            (changed-more m6 m7 m9 0x80000024 0x80000400 (changed-page m6 base secondary_bytes p6.size (omega arith) (omega arith))
            (changed-more m7 m8 m9 0x80000024 0x80000400
            (changed-page m7 0x8000020C (to_le_bytes w32 (in_channel_of k)) p7.size (omega arith) (omega arith))
            (changed-page m8 0x800001FC (to_le_bytes w32 0x80000104) p8.size (omega arith) (omega arith)))))))));
      }
