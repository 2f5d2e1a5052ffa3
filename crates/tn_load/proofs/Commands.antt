-- The commands LOAD, NOP and RUN of the secondary loader.
use Rattle.tn_mem.proofs.Puts.{byte_at}
use Rattle.tn_loader.specs.Commands.{load_command}
use Rattle.std.proofs.Common.{◌≡◌, ℕ, ◌+◌, ◌<◌, ◌≤◌, ◌%◌, ◌^◌, true, List, ◌++◌, Ok, refl, sym, ap, ◌∙◌, arith}
use Rattle.std.specs.Prelude.{length}
use Rattle.std.specs.Int.{w32, to_le_bytes}
use Rattle.std.proofs.lemmas.Nat.{from_le_bytes-to_le_bytes_4}
use Rattle.tn_mem.specs.Spaces.{Access}
use Rattle.tn_mem.specs.Sizes.{IsMemorySize}
use Rattle.tn_mem.specs.Memories.{most_neg, allows_word, put, load}
use Rattle.tn_mem.proofs.Puts.{IsInside, length-put}
use Rattle.tn_mem.proofs.Stored.{load-put_part}
use Rattle.tn_mem.proofs.Frames.{Changed, changed-put, changed-wider, changed-more}
use Rattle.tn_word.specs.Channels.{in_channel_of}
use Rattle.tn_loader.specs.Secondary.{secondary_bytes}
use Rattle.tn_loader.specs.Commands.{command_bytes}
use Rattle.tn_cpu.specs.declared.registers.Reg.{Reg}
use Rattle.tn_cpu.specs.declared.registers.Reg.TheVariants.{Undefined, Word}
use Rattle.tn_cpu.specs.Queues.{slice_refusal, timesliced}
use Rattle.tn_cpu.specs.Steps.{execute_byte}
use Rattle.tn_load.specs.Inner.PlainSpaces.{IsPlainSpace}
use Rattle.tn_load.specs.Acts.{Act}
use Rattle.tn_load.specs.Inner.NodeActs.{Kept, Leads}
use Rattle.tn_load.proofs.Leading.{◌⨾◌, one, inputting}
use Rattle.tn_load.proofs.Moving.{HasRoom, inside-room, room-word, engine, awake, asleep, resumes, byte-known, input-takes, opens-input}
use Rattle.std.proofs.lemmas.List.{places}
use Rattle.tn_load.proofs.Secondary.{base, IsReady, ready-middle, ready-above, room, word-stored, sec, at_top, ldl, walk, to_top}
use Rattle.tn_load.specs.Inner.Lives.{takes, steps}

-- a loader at the top of its loop, which goes on behind its input once a command has come
pub record IsTop (k : ℕ) (Q : List ℕ → Type 0) (m : List ℕ) : Type 0 where
  pub ready : IsReady k Q m
  pub saved : load m 0x800001FC ≡ Ok 0x80000104

-- a command has come
pub record HasCommand (k : ℕ) (Q : List ℕ → Type 0) (op x n : ℕ) (m : List ℕ) : Type 0 where
  pub ready : IsReady k Q m
  pub op_is : load m 0x80000200 ≡ Ok op
  pub x_is : load m 0x80000204 ≡ Ok x
  pub n_is : load m 0x80000208 ≡ Ok n

-- acts lead from the top of the loop to the top of the loop, and leave a memory, but for the loader's workspace
pub record Serves {M : Type 0} (access : Access M) (space : List ℕ → M) (Q : List ℕ → Type 0) (k : ℕ) (acts : List Act)
    (m target : List ℕ) : Type 0 where
  pub after : List ℕ
  pub leads : Leads access space Q k acts (inputting k (engine 0x80000200 12 0x80000200) (asleep space m))
      (inputting k (engine 0x80000200 12 0x80000200) (asleep space after))
  pub top : IsTop k Q after
  pub changed : Changed target after 0x800001FC 0x80000400

-- a write to memories that are the same but for a region leaves them so
byte-put_both : (m n : List ℕ) (x : ℕ) (bytes : List ℕ) (a : ℕ) → IsInside m x (length bytes) → length n ≡ length m → most_neg ≤ a
    → byte_at n a ≡ byte_at m a → byte_at (put n x bytes) a ≡ byte_at (put m x bytes) a
unfolding put
byte-put_both m n x bytes a inside size low same = grind (arith, places)

pub changed-put_both : (m n : List ℕ) (x from to : ℕ) (bytes : List ℕ) → IsInside m x (length bytes) → Changed m n from to
    → Changed (put m x bytes) (put n x bytes) from to
changed-put_both m n x from to bytes inside c =
    let inside_n : IsInside n x (length bytes) = record { low = inside.low; high = omega (arith, c.size) } in
    record {
      size = length-put n x bytes inside_n ∙ (c.size ∙ sym (length-put m x bytes inside));
      below = λ a low h. byte-put_both m n x bytes a inside c.size low (c.below a low h);
      above = λ a low h. byte-put_both m n x bytes a inside c.size low (c.above a low h);
    }

-- a write to the loader's workspace
pub changed-workspace : (m : List ℕ) (a : ℕ) (bytes : List ℕ) → IsMemorySize (length m) → 0x800001FC ≤ a → a + length bytes ≤ 0x80000400
    → Changed m (put m a bytes) 0x800001FC 0x80000400
changed-workspace m a bytes size low high =
    changed-wider m (put m a bytes) a (a + length bytes) 0x800001FC 0x80000400 low high
    (changed-put m a bytes (record { low = omega arith; high = omega arith }))

-- the saved instruction pointer
abbrev pub saved_at : ℕ → List ℕ → List ℕ
saved_at i m = put m 0x800001FC (to_le_bytes w32 i)

pub ready-saved : (k : ℕ) (Q : List ℕ → Type 0) (keeps : Kept Q 0x800001FC 0x80000400) (i : ℕ) (m : List ℕ) → IsReady k Q m
    → IsReady k Q (saved_at i m)
ready-saved k Q keeps i m ready = ready-middle k Q keeps m 0x800001FC (to_le_bytes w32 i) ready (omega arith) (omega arith)

pub load-saved : (k : ℕ) (Q : List ℕ → Type 0) (i : ℕ) (m : List ℕ) → i < 2 ^ 32 → IsReady k Q m → load (saved_at i m) 0x800001FC ≡ Ok i
load-saved k Q i m in_word ready = word-stored m 0x800001FC i in_word refl (room m 0x800001FC 4 ready.size (omega arith) (omega arith))

pub top-saved : (k : ℕ) (Q : List ℕ → Type 0) (keeps : Kept Q 0x800001FC 0x80000400) (m : List ℕ) → IsReady k Q m
    → IsTop k Q (saved_at 0x80000104 m)
top-saved k Q keeps m ready = record {
  ready = ready-saved k Q keeps 0x80000104 m ready;
  saved = load-saved k Q 0x80000104 m (omega arith) ready;
}

-- a command in memory
pub has_command : (k : ℕ) (Q : List ℕ → Type 0) (keeps : Kept Q 0x800001FC 0x80000400) (op x n : ℕ) (m : List ℕ) → IsReady k Q m
    → op < 2 ^ 32 → x < 2 ^ 32 → n < 2 ^ 32 → HasCommand k Q op x n (put m 0x80000200 (command_bytes op x n))
unfolding command_bytes
has_command k Q keeps op x n m ready op_word x_word n_word =
    let inside : IsInside m 0x80000200 12 = inside-room m 0x80000200 12 (room m 0x80000200 12 ready.size (omega arith) (omega arith)) in
    let word : (a : ℕ) → 0x80000200 ≤ a → a ≤ 0x80000208 → a % 4 ≡ 0 → allows_word (length m) a ≡ true =
    λ a low high aligned. room-word m a aligned (room m a 4 ready.size (omega arith) (omega arith)) in
    record {
      ready = ready-middle k Q keeps m 0x80000200 (command_bytes op x n) ready (omega arith) (omega arith);
      op_is = load-put_part m 0x80000200 (command_bytes op x n) 0 inside (omega arith) (word 0x80000200 (omega arith) (omega arith) refl)
          ∙ ap Ok (from_le_bytes-to_le_bytes_4 op op_word);
      x_is = load-put_part m 0x80000200 (command_bytes op x n) 4 inside (omega arith) (word 0x80000204 (omega arith) (omega arith) refl)
          ∙ ap Ok (from_le_bytes-to_le_bytes_4 x x_word);
      n_is = load-put_part m 0x80000200 (command_bytes op x n) 8 inside (omega arith) (word 0x80000208 (omega arith) (omega arith) refl)
          ∙ ap Ok (from_le_bytes-to_le_bytes_4 n n_word);
    }

pub command-length : (op x n : ℕ) → 12 ≡ length (command_bytes op x n)
unfolding command_bytes
command-length op x n = refl

module _ {M : Type 0} (access : Access M) (space : List ℕ → M) (laws : IsPlainSpace access space) (Q : List ℕ → Type 0)
    (keeps : Kept Q 0x800001FC 0x80000400) (k : ℕ) (link : k < 4) where
  -- a command is taken
  pub takes-command : (op x n : ℕ) (m : List ℕ) → IsTop k Q m
      → Leads access space Q k (takes (command_bytes op x n)) (at_top access space laws Q keeps k link m)
      (sec access space laws Q keeps k link Undefined Undefined Undefined 0x80000104 (put m 0x80000200 (command_bytes op x n)))
  takes-command op x n m top =
      input-takes access space laws Q k m 0x80000200 12 0x80000200 0x80000104 (command_bytes op x n) link (command-length op x n)
      (omega arith) (room m 0x80000200 12 top.ready.size (omega arith) (omega arith)) (omega arith) top.saved
      (λ m2 a written low high held. keeps m2 a written (omega arith) (omega arith) held) top.ready.holds

  -- LOAD up to its input: 7 steps
  load-begins : (x n : ℕ) (m : List ℕ) → HasCommand k Q 0 x n m → 0 < n → HasRoom m x n
      → Leads access space Q k (steps 7) (sec access space laws Q keeps k link Undefined Undefined Undefined 0x80000104 m)
      (inputting k (engine x n 0x80000200) (asleep space (saved_at 0x80000135 m)))
  unfolding execute_byte secondary_bytes
  load-begins x n m c some x_room =
      let U : Reg = Undefined in
      let ch : Reg = Word (in_channel_of k) in
      ldl access space laws Q keeps k link U U U 4 0 0 m c.ready (omega arith) refl (omega arith) c.op_is ⨾
      (walk access space laws Q keeps k link 2 (Word 0) U U 0x80000105 m (awake space (Word 0) U U 0 0x80000131 0x80000200 m) c.ready
      (assumption) ⨾
      (ldl access space laws Q keeps k link (Word 0) U U 49 1 x m c.ready (omega arith) refl (omega arith) c.x_is ⨾
      (ldl access space laws Q keeps k link (Word x) (Word 0) U 50 3 (in_channel_of k) m c.ready (omega arith) refl (omega arith)
      c.ready.channel ⨾
      (ldl access space laws Q keeps k link ch (Word x) (Word 0) 51 2 n m c.ready (omega arith) refl (omega arith) c.n_is ⨾
      one (opens-input access space laws k m x n 0x80000134 0x80000200 link some x_room
      (room-word m 0x800001FC refl (room m 0x800001FC 4 c.ready.size (omega arith) (omega arith))) refl
      (byte-known access space laws m 0x80000134 0xF7 (c.ready.code 52 (omega arith)))) (saved_at 0x80000135 m) refl
      (ready-saved k Q keeps 0x80000135 m c.ready).holds))))

  -- and behind it: 6 steps
  load-ends : (m : List ℕ) → IsReady k Q m → Leads access space Q k (steps 6)
      (sec access space laws Q keeps k link Undefined Undefined Undefined 0x80000135 m)
      (at_top access space laws Q keeps k link (saved_at 0x80000104 m))
  unfolding execute_byte secondary_bytes slice_refusal timesliced
  load-ends m ready =
      walk access space laws Q keeps k link 2 Undefined Undefined Undefined 0x80000135 m (resumes space base 0x80000200 m) ready
      (assumption) ⨾
      to_top access space laws Q keeps k link Undefined Undefined Undefined m ready

  pub serves-load : (x : ℕ) (bytes m : List ℕ) → IsTop k Q m → 0 < length bytes → 0x80000400 ≤ x → x + length bytes ≤ most_neg + length m
      → Kept Q x (x + length bytes) → Serves access space Q k
      (takes (load_command x (length bytes)) ++ (steps 7 ++ (takes bytes ++ steps 6))) m (put m x bytes)
  serves-load x bytes m top some low high comes =
      let n : ℕ = length bytes in
      let cmd : List ℕ = load_command x n in
      let size : IsMemorySize (length m) = top.ready.size in
      let cmd_inside : IsInside m 0x80000200 (length cmd) = record { low = omega arith; high = omega (arith, command-length 0 x n) } in
      let m1 : List ℕ = put m 0x80000200 cmd in
      let m1_size : length m1 ≡ length m = length-put m 0x80000200 cmd cmd_inside in
      let c : HasCommand k Q 0 x n m1 = has_command k Q keeps 0 x n m top.ready (omega arith) (omega arith) (omega arith) in
      let m2 : List ℕ = saved_at 0x80000135 m1 in
      let saved_inside : IsInside m1 0x800001FC 4 = record { low = omega arith; high = omega arith } in
      let m2_size : length m2 ≡ length m1 = length-put m1 0x800001FC (to_le_bytes w32 0x80000135) saved_inside in
      let ready2 : IsReady k Q m2 = ready-saved k Q keeps 0x80000135 m1 c.ready in
      let m3 : List ℕ = put m2 x bytes in
      let ready3 : IsReady k Q m3 = ready-above k Q m2 x bytes ready2 (omega arith) (omega arith)
      (comes m2 x bytes (omega arith) (omega arith) ready2.holds) in
      let room1 : HasRoom m1 x n = record { low = omega arith; high = omega arith; small = omega arith } in
      let room2 : HasRoom m2 x n = record { low = omega arith; high = omega arith; small = omega arith } in
      let moved = input-takes access space laws Q k m2 x n 0x80000200 0x80000135 bytes link refl some room2 (omega arith)
      (load-saved k Q 0x80000135 m1 (omega arith) c.ready) comes ready2.holds in
      let changed1 : Changed m m1 0x800001FC 0x80000400 =
      changed-workspace m 0x80000200 cmd size (omega arith) (omega (arith, command-length 0 x n)) in
      let changed2 : Changed m1 m2 0x800001FC 0x80000400 =
      changed-workspace m1 0x800001FC (to_le_bytes w32 0x80000135) c.ready.size (omega arith) (omega arith) in
      let changed3 : Changed (put m x bytes) m3 0x800001FC 0x80000400 =
      changed-put_both m m2 x 0x800001FC 0x80000400 bytes (record { low = omega arith; high = high })
      (changed-more m m1 m2 0x800001FC 0x80000400 changed1 changed2) in
      let changed4 : Changed m3 (saved_at 0x80000104 m3) 0x800001FC 0x80000400 =
      changed-workspace m3 0x800001FC (to_le_bytes w32 0x80000104) ready3.size (omega arith) (omega arith) in
      record {
        after = saved_at 0x80000104 m3;
        leads = takes-command 0 x n m top ⨾ (load-begins x n m1 c some room1 ⨾ (moved ⨾ load-ends m3 ready3));
        top = top-saved k Q keeps m3 ready3;
        changed = changed-more (put m x bytes) m3 (saved_at 0x80000104 m3) 0x800001FC 0x80000400 changed3 changed4;
      }
