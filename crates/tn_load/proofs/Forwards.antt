-- The command FORWARD of the secondary loader.
use Rattle.tn_loader.specs.Commands.{forward_command}
use Rattle.std.proofs.Common.{◌≡◌, ℕ, zero, suc, ◌+◌, ◌*◌, ◌-◌, ◌==◌, ◌<◌, ◌≤◌, ◌^◌, Bool, true, false, List, ◌++◌, Ok, refl, ap, ◌∙◌}
use Rattle.std.proofs.Common.{arith}
use Rattle.std.specs.Prelude.{slice_index, length}
use Rattle.std.specs.Int.{w32, to_le_bytes}
use Rattle.std.proofs.lemmas.Bool.Decides.{nat_tests}
use Rattle.tn_isa.specs.Operations.{operation_with}
use Rattle.tn_mem.specs.Spaces.{Access}
use Rattle.tn_mem.specs.Sizes.{IsMemorySize}
use Rattle.tn_mem.specs.Memories.{allows_word, put, load}
use Rattle.tn_mem.proofs.Puts.{IsInside}
use Rattle.tn_mem.proofs.Stored.{load-put_below, load-put_above, fetch-put_above}
use Rattle.tn_mem.proofs.Frames.{Changed, changed-more}
use Rattle.tn_word.specs.Channels.{in_channel_of, out_channel_of}
use Rattle.tn_loader.specs.Secondary.{secondary_bytes}
use Rattle.tn_cpu.specs.declared.registers.Reg.{Reg}
use Rattle.tn_cpu.specs.declared.registers.Reg.TheVariants.{Undefined, Word}
use Rattle.tn_cpu.specs.declared.outcomes.Outcome.TheVariants.{Ran}
use Rattle.tn_cpu.specs.States.{wrap, below}
use Rattle.tn_cpu.specs.Queues.{slice_refusal, timesliced}
use Rattle.tn_cpu.specs.Steps.{execute_byte}
use Rattle.tn_load.specs.Inner.PlainSpaces.{IsPlainSpace}
use Rattle.tn_load.specs.Inner.NodeActs.{Kept, Leads}
use Rattle.tn_load.proofs.Leading.{◌⨾◌, one, inputting, outputting}
use Rattle.tn_load.proofs.Walking.{Code, byte-steps}
use Rattle.tn_load.proofs.Moving.{HasRoom, inside-room, room-word, engine, awake, asleep, byte-known, input-takes, output-sends}
use Rattle.tn_load.proofs.Moving.{opens-input, opens-output}
use Rattle.std.proofs.Common.{take, drop}
use Rattle.tn_load.proofs.Secondary.{base, IsReady, ready-middle, ready-above, room, word-stored, each_local, sec, at_top, ldl, walk}
use Rattle.tn_load.proofs.Secondary.{to_top}
use Rattle.tn_load.proofs.Commands.{IsTop, HasCommand, Serves, changed-workspace, saved_at, ready-saved, load-saved, top-saved}
use Rattle.tn_load.proofs.Commands.{has_command, command-length, takes-command}
use Rattle.std.specs.Prelude.{int_lt, if◌then◌else◌}
use Rattle.std.proofs.lemmas.Int.{ints}
use Rattle.std.proofs.Common.{length-take, length-drop}
use Rattle.tn_alu.specs.SignedWords.{signed}
use Rattle.tn_mem.proofs.Stored.{fetch-put_inside}
use Rattle.tn_load.proofs.Moving.{room-byte}
use Rattle.tn_load.specs.Inner.Lives.{takes, sends, steps, forward_loop}

-- a chunk of so many bytes is under way, of r bytes that are still to go out by link l
pub record IsRound (k : ℕ) (Q : List ℕ → Type 0) (l r chunk : ℕ) (m : List ℕ) : Type 0 where
  pub ready : IsReady k Q m
  pub x_is : load m 0x80000204 ≡ Ok (out_channel_of l)
  pub n_is : load m 0x80000208 ≡ Ok r
  pub chunk_is : load m 0x80000210 ≡ Ok chunk

-- the same before the size of the chunk is known
pub record IsForwarding (k : ℕ) (Q : List ℕ → Type 0) (l r : ℕ) (m : List ℕ) : Type 0 where
  pub ready : IsReady k Q m
  pub x_is : load m 0x80000204 ≡ Ok (out_channel_of l)
  pub n_is : load m 0x80000208 ≡ Ok r

abbrev pub chunk_at : ℕ → List ℕ → List ℕ
chunk_at r m = put m 0x80000210 (to_le_bytes w32 r)

abbrev pub left_at : ℕ → List ℕ → List ℕ
left_at r m = put m 0x80000208 (to_le_bytes w32 r)

inside_word : (k : ℕ) (Q : List ℕ → Type 0) (m : List ℕ) (a : ℕ) → IsReady k Q m → 0x80000024 ≤ a → a + 4 ≤ 0x80001000 → IsInside m a 4
inside_word k Q m a ready low high = record { low = omega arith; high = omega (arith, ready.size.0) }

chosen : (k : ℕ) (Q : List ℕ → Type 0) (keeps : Kept Q 0x800001FC 0x80000400) (l r chunk : ℕ) (m : List ℕ) → IsForwarding k Q l r m
    → chunk < 2 ^ 32 → IsRound k Q l r chunk (chunk_at chunk m)
chosen k Q keeps l r chunk m f in_word =
    let inside = inside_word k Q m 0x80000210 f.ready (omega arith) (omega arith) in
    record {
      ready = ready-above k Q m 0x80000210 (to_le_bytes w32 chunk) f.ready (omega arith) (omega (arith, f.ready.size.0))
          (keeps m 0x80000210 (to_le_bytes w32 chunk) (omega arith) (omega arith) f.ready.holds);
      x_is = load-put_below m 0x80000210 (to_le_bytes w32 chunk) 0x80000204 inside (omega arith) (omega arith) ∙ f.x_is;
      n_is = load-put_below m 0x80000210 (to_le_bytes w32 chunk) 0x80000208 inside (omega arith) (omega arith) ∙ f.n_is;
      chunk_is = word-stored m 0x80000210 chunk in_word refl (room m 0x80000210 4 f.ready.size (omega arith) (omega arith));
    }

round-saved : (k : ℕ) (Q : List ℕ → Type 0) (keeps : Kept Q 0x800001FC 0x80000400) (l r chunk i : ℕ) (m : List ℕ)
    → IsRound k Q l r chunk m → IsRound k Q l r chunk (saved_at i m)
round-saved k Q keeps l r chunk i m f =
    let inside = inside_word k Q m 0x800001FC f.ready (omega arith) (omega arith) in
    record {
      ready = ready-saved k Q keeps i m f.ready;
      x_is = load-put_above m 0x800001FC (to_le_bytes w32 i) 0x80000204 inside (omega arith) ∙ f.x_is;
      n_is = load-put_above m 0x800001FC (to_le_bytes w32 i) 0x80000208 inside (omega arith) ∙ f.n_is;
      chunk_is = load-put_above m 0x800001FC (to_le_bytes w32 i) 0x80000210 inside (omega arith) ∙ f.chunk_is;
    }

round-buffer : (k : ℕ) (Q : List ℕ → Type 0) (keeps : Kept Q 0x800001FC 0x80000400) (l r chunk : ℕ) (bytes m : List ℕ)
    → IsRound k Q l r chunk m → length bytes ≤ 128 → IsRound k Q l r chunk (put m 0x80000214 bytes)
round-buffer k Q keeps l r chunk bytes m f small =
    let inside : IsInside m 0x80000214 (length bytes) = record { low = omega arith; high = omega (arith, f.ready.size.0) } in
    record {
      ready = ready-above k Q m 0x80000214 bytes f.ready (omega arith) (omega (arith, f.ready.size.0))
          (keeps m 0x80000214 bytes (omega arith) (omega arith) f.ready.holds);
      x_is = load-put_below m 0x80000214 bytes 0x80000204 inside (omega arith) (omega arith) ∙ f.x_is;
      n_is = load-put_below m 0x80000214 bytes 0x80000208 inside (omega arith) (omega arith) ∙ f.n_is;
      chunk_is = load-put_below m 0x80000214 bytes 0x80000210 inside (omega arith) (omega arith) ∙ f.chunk_is;
    }

-- once the chunk is out
counted : (k : ℕ) (Q : List ℕ → Type 0) (keeps : Kept Q 0x800001FC 0x80000400) (l r chunk left : ℕ) (m : List ℕ) → IsRound k Q l r chunk m
    → left < 2 ^ 32 → IsForwarding k Q l left (left_at left m)
counted k Q keeps l r chunk left m f in_word =
    let inside = inside_word k Q m 0x80000208 f.ready (omega arith) (omega arith) in
    record {
      ready = ready-middle k Q keeps m 0x80000208 (to_le_bytes w32 left) f.ready (omega arith) (omega arith);
      x_is = load-put_below m 0x80000208 (to_le_bytes w32 left) 0x80000204 inside (omega arith) (omega arith) ∙ f.x_is;
      n_is = word-stored m 0x80000208 left in_word refl (room m 0x80000208 4 f.ready.size (omega arith) (omega arith));
    }

-- the comparison of the loader
is_greater : (r : ℕ) → 128 < r → r < 2 ^ 31 → int_lt (signed 128) (signed r) ≡ true
is_greater r above small = grind (arith, nat_tests, ints)

is_not_greater : (r : ℕ) → r ≤ 128 → int_lt (signed 128) (signed r) ≡ false
is_not_greater r few = grind (arith, nat_tests, ints)

front-size : (n : ℕ) (bytes : List ℕ) → n ≤ length bytes → n ≡ length (take n bytes)
front-size n bytes within = grind (arith, length-take)

module _ {M : Type 0} (access : Access M) (space : List ℕ → M) (laws : IsPlainSpace access space) (Q : List ℕ → Type 0)
    (keeps : Kept Q 0x800001FC 0x80000400) (k : ℕ) (link : k < 4) where
  abbrev U : Reg
  U = Undefined

  -- stl of a local
  stl_effect : (v : ℕ) (b c : Reg) (i : ℕ) (m : List ℕ) (slice : Bool) (clock e : ℕ) → e < 5
      → access.set_word (space m) (0x80000200 + 4 * e) v ≡ Ok (space (put m (0x80000200 + 4 * e) (to_le_bytes w32 v)))
      → execute_byte access (0xD0 + e) 0 slice clock (awake space (Word v) b c 0 i 0x80000200 m) ≡
      record { state = awake space b c U 0 (wrap (i + 1)) 0x80000200 (put m (0x80000200 + 4 * e) (to_le_bytes w32 v)); outcome = Ran }
  unfolding execute_byte
  stl_effect v b c i m slice clock =
      each_local (λ e. access.set_word (space m) (0x80000200 + 4 * e) v ≡ Ok (space (put m (0x80000200 + 4 * e) (to_le_bytes w32 v)))
      → execute_byte access (0xD0 + e) 0 slice clock (awake space (Word v) b c 0 i 0x80000200 m) ≡
      record {
        state = awake space b c U 0 (wrap (i + 1)) 0x80000200 (put m (0x80000200 + 4 * e) (to_le_bytes w32 v));
        outcome = Ran;
      })
      (λ h. rw h refl) (λ h. rw h refl) (λ h. rw h refl) (λ h. rw h refl) (λ h. rw h refl)

  stl : (v : ℕ) (b c : Reg) (i e : ℕ) (m : List ℕ) → IsReady k Q m → i < 55 → slice_index secondary_bytes i ≡ 0xD0 + e → e < 5
      → Leads access space Q k (steps 1) (sec access space laws Q keeps k link (Word v) b c (base + i) m)
      (sec access space laws Q keeps k link b c U (base + i + 1) (put m (0x80000200 + 4 * e) (to_le_bytes w32 v)))
  stl v b c i e m ready within byte local =
      let fetched : access.byte (space m) (base + i) ≡ Ok (0xD0 + e) =
      byte-known access space laws m (base + i) (0xD0 + e) (ready.code i within ∙ ap Ok byte) in
      let next : wrap (base + i + 1) ≡ base + i + 1 = omega arith in
      let stores = laws.set_word m (0x80000200 + 4 * e) v
      (room-word m (0x80000200 + 4 * e) (omega arith) (room m (0x80000200 + 4 * e) 4 ready.size (omega arith) (omega arith))) in
      one (byte-steps access k (awake space (Word v) b c 0 (base + i) 0x80000200 m) (0xD0 + e)
      (record {
        state = awake space b c U 0 (base + i + 1) 0x80000200 (put m (0x80000200 + 4 * e) (to_le_bytes w32 v));
        outcome = Ran;
      }) (grind (arith, nat_tests)) fetched
      (λ slice clock. rw next at (stl_effect v b c (base + i) m slice clock e local stores)))
      (put m (0x80000200 + 4 * e) (to_le_bytes w32 v)) refl
      (keeps m (0x80000200 + 4 * e) (to_le_bytes w32 v) (omega arith) (omega arith) ready.holds)

  -- up to offset 11: 7 steps
  forward-begins : (x n : ℕ) (m : List ℕ) → HasCommand k Q 1 x n m
      → Leads access space Q k (steps 7) (sec access space laws Q keeps k link U U U 0x80000104 m)
      (sec access space laws Q keeps k link U U U 0x8000010B m)
  unfolding execute_byte secondary_bytes
  forward-begins x n m c =
      ldl access space laws Q keeps k link U U U 4 0 1 m c.ready (omega arith) refl (omega arith) c.op_is ⨾
      (walk access space laws Q keeps k link 2 (Word 1) U U 0x80000105 m (awake space U U U 0 0x80000107 0x80000200 m) c.ready
      (assumption) ⨾
      (ldl access space laws Q keeps k link U U U 7 0 1 m c.ready (omega arith) refl (omega arith) c.op_is ⨾
      walk access space laws Q keeps k link 3 (Word 1) U U 0x80000108 m (awake space U U U 0 0x8000010B 0x80000200 m) c.ready (assumption)))

  -- the comparison
  compares : (r t : ℕ) (test : Bool) (m : List ℕ) → IsReady k Q m → load m 0x80000208 ≡ Ok r → int_lt (signed 128) (signed r) ≡ test
      → wrap (if test then 1 else 0) ≡ t → Leads access space Q k (steps 4) (sec access space laws Q keeps k link U U U 0x8000010B m)
      (sec access space laws Q keeps k link (Word t) U U 0x8000010F m)
  unfolding execute_byte secondary_bytes operation_with
  compares r t test m ready n_is tested is =
      let fetched : access.byte (space m) 0x8000010E ≡ Ok 0xF9 =
      byte-known access space laws m 0x8000010E 0xF9 (ready.code 14 (omega arith)) in
      ldl access space laws Q keeps k link U U U 11 2 r m ready (omega arith) refl (omega arith) n_is ⨾
      (walk access space laws Q keeps k link 2 (Word r) U U 0x8000010C m (awake space (Word 128) (Word r) U 0 0x8000010E 0x80000200 m)
      ready (assumption) ⨾
      one (byte-steps access k (awake space (Word 128) (Word r) U 0 0x8000010E 0x80000200 m) 0xF9
      (record { state = awake space (Word t) U U 0 0x8000010F 0x80000200 m; outcome = Ran }) refl fetched
      (λ slice clock. rw (tested, is) refl)) m refl ready.holds)

  -- with more than 128 bytes left: 9 steps
  chooses-full : (l r : ℕ) (m : List ℕ) → IsForwarding k Q l r m → 128 < r → r < 2 ^ 31
      → Leads access space Q k (steps 9) (sec access space laws Q keeps k link U U U 0x8000010B m)
      (sec access space laws Q keeps k link U U U 0x80000116 (chunk_at 128 m))
  unfolding execute_byte secondary_bytes slice_refusal timesliced
  chooses-full l r m f above small =
      let c : IsRound k Q l r 128 (chunk_at 128 m) = chosen k Q keeps l r 128 m f (omega arith) in
      compares r 1 true m f.ready f.n_is (is_greater r above small) refl ⨾
      (walk access space laws Q keeps k link 3 (Word 1) U U 0x8000010F m (awake space (Word 128) U U 0 0x80000112 0x80000200 m) f.ready
      (assumption) ⨾
      (stl 128 U U 18 4 m f.ready (omega arith) refl (omega arith) ⨾
      walk access space laws Q keeps k link 1 U U U 0x80000113 (chunk_at 128 m)
      (awake space U U U 0 0x80000116 0x80000200 (chunk_at 128 m)) c.ready (assumption)))

  -- with fewer: 7 steps
  chooses-last : (l r : ℕ) (m : List ℕ) → IsForwarding k Q l r m → r ≤ 128
      → Leads access space Q k (steps 7) (sec access space laws Q keeps k link U U U 0x8000010B m)
      (sec access space laws Q keeps k link (Word 0) U U 0x80000116 (chunk_at r m))
  unfolding execute_byte secondary_bytes
  chooses-last l r m f few =
      compares r 0 false m f.ready f.n_is (is_not_greater r few) refl ⨾
      (walk access space laws Q keeps k link 1 (Word 0) U U 0x8000010F m (awake space (Word 0) U U 0 0x80000114 0x80000200 m) f.ready
      (assumption) ⨾
      (ldl access space laws Q keeps k link (Word 0) U U 20 2 r m f.ready (omega arith) refl (omega arith) f.n_is ⨾
      stl r (Word 0) U 21 4 m f.ready (omega arith) refl (omega arith)))

  -- a chunk comes in: 4 steps, and goes out: 4 steps
  chunk_room : (c : ℕ) (m : List ℕ) → IsReady k Q m → c ≤ 128 → HasRoom m 0x80000214 c
  chunk_room c m ready small = room m 0x80000214 c ready.size (omega arith) (omega arith)

  saved_word : (m : List ℕ) → IsReady k Q m → allows_word (length m) 0x800001FC ≡ true
  saved_word m ready = room-word m 0x800001FC refl (room m 0x800001FC 4 ready.size (omega arith) (omega arith))

  takes-chunk : (l r c : ℕ) (a b : Reg) (m : List ℕ) → IsRound k Q l r c m → 0 < c → c ≤ 128
      → Leads access space Q k (steps 4) (sec access space laws Q keeps k link a b U 0x80000116 m)
      (inputting k (engine 0x80000214 c 0x80000200) (asleep space (saved_at 0x8000011A m)))
  unfolding execute_byte secondary_bytes
  takes-chunk l r c a b m f some small =
      walk access space laws Q keeps k link 1 a b U 0x80000116 m (awake space (Word 0x80000214) a b 0 0x80000117 0x80000200 m) f.ready
      (assumption) ⨾
      (ldl access space laws Q keeps k link (Word 0x80000214) a b 23 3 (in_channel_of k) m f.ready (omega arith) refl (omega arith)
      f.ready.channel ⨾
      (ldl access space laws Q keeps k link (Word (in_channel_of k)) (Word 0x80000214) a 24 4 c m f.ready (omega arith) refl (omega arith)
      f.chunk_is ⨾
      one (opens-input access space laws k m 0x80000214 c 0x80000119 0x80000200 link some (chunk_room c m f.ready small)
      (saved_word m f.ready) refl (byte-known access space laws m 0x80000119 0xF7 (f.ready.code 25 (omega arith))))
      (saved_at 0x8000011A m) refl (ready-saved k Q keeps 0x8000011A m f.ready).holds))

  sends-chunk : (l r c : ℕ) (m : List ℕ) → l < 4 → IsRound k Q l r c m → 0 < c → c ≤ 128
      → Leads access space Q k (steps 4) (sec access space laws Q keeps k link U U U 0x8000011A m)
      (outputting l (engine 0x80000214 c 0x80000200) (asleep space (saved_at 0x8000011E m)))
  unfolding execute_byte secondary_bytes
  sends-chunk l r c m to f some small =
      walk access space laws Q keeps k link 1 U U U 0x8000011A m (awake space (Word 0x80000214) U U 0 0x8000011B 0x80000200 m) f.ready
      (assumption) ⨾
      (ldl access space laws Q keeps k link (Word 0x80000214) U U 27 1 (out_channel_of l) m f.ready (omega arith) refl (omega arith)
      f.x_is ⨾
      (ldl access space laws Q keeps k link (Word (out_channel_of l)) (Word 0x80000214) U 28 4 c m f.ready (omega arith) refl
      (omega arith) f.chunk_is ⨾
      one (opens-output access space laws k l m 0x80000214 c 0x8000011D 0x80000200 to some (chunk_room c m f.ready small)
      (saved_word m f.ready) refl (byte-known access space laws m 0x8000011D 0xFB (f.ready.code 29 (omega arith))))
      (saved_at 0x8000011E m) refl (ready-saved k Q keeps 0x8000011E m f.ready).holds))

  -- what is left is counted: 4 steps
  counts : (l r c left : ℕ) (m : List ℕ) → IsRound k Q l r c m → c ≤ r → r < 2 ^ 32 → left ≡ r - c
      → Leads access space Q k (steps 4) (sec access space laws Q keeps k link U U U 0x8000011E m)
      (sec access space laws Q keeps k link U U U 0x80000122 (left_at left m))
  unfolding execute_byte operation_with secondary_bytes
  counts l r c left m f fewer small is =
      let fetched : access.byte (space m) 0x80000120 ≡ Ok 0xF4 =
      byte-known access space laws m 0x80000120 0xF4 (f.ready.code 32 (omega arith)) in
      let difference : wrap (r + (2 ^ 32 - c)) ≡ left = omega arith in
      ldl access space laws Q keeps k link U U U 30 2 r m f.ready (omega arith) refl (omega arith) f.n_is ⨾
      (ldl access space laws Q keeps k link (Word r) U U 31 4 c m f.ready (omega arith) refl (omega arith) f.chunk_is ⨾
      (one (byte-steps access k (awake space (Word c) (Word r) U 0 0x80000120 0x80000200 m) 0xF4
      (record { state = awake space (Word left) U U 0 0x80000121 0x80000200 m; outcome = Ran }) refl fetched
      (λ slice clock. rw difference refl)) m refl f.ready.holds ⨾
      stl left U U 33 2 m f.ready (omega arith) refl (omega arith)))

  -- the loop ends: 7 steps, or goes on: 5 steps
  loop-ends : (l : ℕ) (m : List ℕ) → IsForwarding k Q l 0 m
      → Leads access space Q k (steps 7) (sec access space laws Q keeps k link U U U 0x80000122 m)
      (at_top access space laws Q keeps k link (saved_at 0x80000104 m))
  unfolding execute_byte secondary_bytes
  loop-ends l m f =
      ldl access space laws Q keeps k link U U U 34 2 0 m f.ready (omega arith) refl (omega arith) f.n_is ⨾
      (walk access space laws Q keeps k link 2 (Word 0) U U 0x80000123 m (awake space (Word 0) U U 0 base 0x80000200 m) f.ready
      (assumption) ⨾
      to_top access space laws Q keeps k link (Word 0) U U m f.ready)

  loop-goes_on : (l r : ℕ) (m : List ℕ) → IsForwarding k Q l r m → 0 < r
      → Leads access space Q k (steps 5) (sec access space laws Q keeps k link U U U 0x80000122 m)
      (sec access space laws Q keeps k link U U U 0x8000010B m)
  unfolding execute_byte secondary_bytes slice_refusal timesliced
  loop-goes_on l r m f some =
      let fetched : access.byte (space m) 0x80000124 ≡ Ok 0xAB =
      byte-known access space laws m 0x80000124 0xAB (f.ready.code 36 (omega arith)) in
      let is_some : r == 0 ≡ false = grind (arith, nat_tests) in
      ldl access space laws Q keeps k link U U U 34 2 r m f.ready (omega arith) refl (omega arith) f.n_is ⨾
      (walk access space laws Q keeps k link 1 (Word r) U U 0x80000123 m (awake space (Word r) U U 0xFFFFFFD0 0x80000124 0x80000200 m)
      f.ready (assumption) ⨾
      (one (byte-steps access k (awake space (Word r) U U 0xFFFFFFD0 0x80000124 0x80000200 m) 0xAB
      (record { state = awake space U U U 0 0x80000125 0x80000200 m; outcome = Ran }) refl fetched (λ slice clock. rw is_some refl)) m
      refl f.ready.holds ⨾
      walk access space laws Q keeps k link 2 U U U 0x80000125 m (awake space U U U 0 0x8000010B 0x80000200 m) f.ready (assumption)))

  -- the memory once a chunk has come in
  abbrev came : List ℕ → List ℕ → List ℕ
  came bytes m = put (saved_at 0x8000011A m) 0x80000214 bytes

  round-came : (l r c : ℕ) (bytes m : List ℕ) → IsRound k Q l r c m → length bytes ≤ 128 → IsRound k Q l r c (came bytes m)
  round-came l r c bytes m f small = round-buffer k Q keeps l r c bytes (saved_at 0x8000011A m)
      (round-saved k Q keeps l r c 0x8000011A m f) small

  changed-saved : (i : ℕ) (m : List ℕ) → IsMemorySize (length m) → Changed m (saved_at i m) 0x800001FC 0x80000400
  changed-saved i m size = changed-workspace m 0x800001FC (to_le_bytes w32 i) size (omega arith) (omega arith)

  changed-came : (l r c : ℕ) (bytes m : List ℕ) → IsRound k Q l r c m → length bytes ≤ 128
      → Changed m (saved_at 0x8000011E (came bytes m)) 0x800001FC 0x80000400
  changed-came l r c bytes m f small =
      let m2 : List ℕ = saved_at 0x8000011A m in
      let f2 : IsRound k Q l r c m2 = round-saved k Q keeps l r c 0x8000011A m f in
      let f3 : IsRound k Q l r c (came bytes m) = round-came l r c bytes m f small in
      changed-more m m2 (saved_at 0x8000011E (came bytes m)) 0x800001FC 0x80000400 (changed-saved 0x8000011A m f.ready.size)
      (changed-more m2 (came bytes m) (saved_at 0x8000011E (came bytes m)) 0x800001FC 0x80000400
      (changed-workspace m2 0x80000214 bytes f2.ready.size (omega arith) (omega arith))
      (changed-saved 0x8000011E (came bytes m) f3.ready.size))

  -- its bytes are in the buffer
  buffered : (l r c : ℕ) (bytes m : List ℕ) → IsRound k Q l r c m → length bytes ≤ 128
      → Code access (space (saved_at 0x8000011E (came bytes m))) 0x80000214 bytes
  buffered l r c bytes m f small i below =
      let m2 : List ℕ = saved_at 0x8000011A m in
      let f2 : IsRound k Q l r c m2 = round-saved k Q keeps l r c 0x8000011A m f in
      let f3 : IsRound k Q l r c (came bytes m) = round-came l r c bytes m f small in
      let buffer : HasRoom m2 0x80000214 (length bytes) = chunk_room (length bytes) m2 f2.ready small in
      let inside : IsInside m2 0x80000214 (length bytes) = inside-room m2 0x80000214 (length bytes) buffer in
      let saved_inside : IsInside (came bytes m) 0x800001FC 4 =
      inside_word k Q (came bytes m) 0x800001FC f3.ready (omega arith) (omega arith) in
      byte-known access space laws (saved_at 0x8000011E (came bytes m)) (0x80000214 + i) (slice_index bytes i)
      (fetch-put_above (came bytes m) 0x800001FC (to_le_bytes w32 0x8000011E) (0x80000214 + i) saved_inside (omega arith)
      ∙ fetch-put_inside m2 0x80000214 bytes i inside below (room-byte m2 0x80000214 (length bytes) i buffer below))

  -- the chunk comes and goes
  moves-in : (l r c : ℕ) (bytes m : List ℕ) → IsRound k Q l r c m → c ≡ length bytes → 0 < c → c ≤ 128
      → Leads access space Q k (takes bytes) (inputting k (engine 0x80000214 c 0x80000200) (asleep space (saved_at 0x8000011A m)))
      (sec access space laws Q keeps k link U U U 0x8000011A (came bytes m))
  moves-in l r c bytes m f size some small =
      let f2 : IsRound k Q l r c (saved_at 0x8000011A m) = round-saved k Q keeps l r c 0x8000011A m f in
      input-takes access space laws Q k (saved_at 0x8000011A m) 0x80000214 c 0x80000200 0x8000011A bytes link size some
      (chunk_room c (saved_at 0x8000011A m) f2.ready small) (omega arith) (load-saved k Q 0x8000011A m (omega arith) f.ready)
      (λ m2 a written low high held. keeps m2 a written (omega arith) (omega arith) held) f2.ready.holds

  moves-out : (l r c : ℕ) (bytes m : List ℕ) → l < 4 → IsRound k Q l r c m → c ≡ length bytes → 0 < c → c ≤ 128
      → Leads access space Q k (sends l bytes) (outputting l (engine 0x80000214 c 0x80000200)
      (asleep space (saved_at 0x8000011E (came bytes m))))
      (sec access space laws Q keeps k link U U U 0x8000011E (saved_at 0x8000011E (came bytes m)))
  moves-out l r c bytes m to f size some small =
      let few : length bytes ≤ 128 = omega arith in
      let f3 : IsRound k Q l r c (came bytes m) = round-came l r c bytes m f few in
      output-sends access space laws Q k l (saved_at 0x8000011E (came bytes m)) 0x80000214 c 0x80000200 0x8000011E bytes to size some
      (omega arith) (buffered l r c bytes m f few) (load-saved k Q 0x8000011E (came bytes m) (omega arith) f3.ready)
      (ready-saved k Q keeps 0x8000011E (came bytes m) f3.ready).holds

  -- where the loop has come through: at the top, with the memory as it was but for the workspace
  pub record Loops (q l : ℕ) (bytes m : List ℕ) : Type 0 where
    pub after : List ℕ
    pub leads : Leads access space Q k (forward_loop q l bytes) (sec access space laws Q keeps k link U U U 0x8000010B m)
        (at_top access space laws Q keeps k link after)
    pub top : IsTop k Q after
    pub changed : Changed m after 0x800001FC 0x80000400

  -- the last chunk
  last-round : (l : ℕ) (bytes m : List ℕ) → l < 4 → IsForwarding k Q l (length bytes) m → 0 < length bytes → length bytes ≤ 128
      → Loops zero l bytes m
  unfolding forward_loop
  last-round l bytes m to f some few =
      let n : ℕ = length bytes in
      let m1 : List ℕ = chunk_at n m in
      let f1 : IsRound k Q l n n m1 = chosen k Q keeps l n n m f (omega arith) in
      let m4 : List ℕ = saved_at 0x8000011E (came bytes m1) in
      let f4 : IsRound k Q l n n m4 = round-saved k Q keeps l n n 0x8000011E (came bytes m1) (round-came l n n bytes m1 f1 few) in
      let m5 : List ℕ = left_at 0 m4 in
      let f5 : IsForwarding k Q l 0 m5 = counted k Q keeps l n n 0 m4 f4 (omega arith) in
      let c1 : Changed m m1 0x800001FC 0x80000400 =
      changed-workspace m 0x80000210 (to_le_bytes w32 n) f.ready.size (omega arith) (omega arith) in
      let c4 : Changed m1 m4 0x800001FC 0x80000400 = changed-came l n n bytes m1 f1 few in
      let c5 : Changed m4 m5 0x800001FC 0x80000400 =
      changed-workspace m4 0x80000208 (to_le_bytes w32 0) f4.ready.size (omega arith) (omega arith) in
      let c6 : Changed m5 (saved_at 0x80000104 m5) 0x800001FC 0x80000400 = changed-saved 0x80000104 m5 f5.ready.size in
      record {
        after = saved_at 0x80000104 m5;
        leads = chooses-last l n m f few ⨾ (takes-chunk l n n (Word 0) U m1 f1 some few ⨾
            (moves-in l n n bytes m1 f1 refl some few ⨾
            (sends-chunk l n n (came bytes m1) to (round-came l n n bytes m1 f1 few) some few ⨾
            (moves-out l n n bytes m1 to f1 refl some few ⨾
            (counts l n n 0 m4 f4 (omega arith) (omega arith) (omega arith) ⨾ loop-ends l m5 f5)))));
        top = top-saved k Q keeps m5 f5.ready;
        changed = changed-more m m1 (saved_at 0x80000104 m5) 0x800001FC 0x80000400 c1
            (changed-more m1 m4 (saved_at 0x80000104 m5) 0x800001FC 0x80000400 c4
            (changed-more m4 m5 (saved_at 0x80000104 m5) 0x800001FC 0x80000400 c5 c6));
      }

  loops : (q l : ℕ) (bytes m : List ℕ) → l < 4 → IsForwarding k Q l (length bytes) m → 128 * q < length bytes
      → length bytes ≤ 128 * q + 128 → length bytes < 2 ^ 31 → Loops q l bytes m
  unfolding forward_loop
  loops zero l bytes m to f some few bounded = last-round l bytes m to f (omega arith) (omega arith)
  loops (suc q) l bytes m to f some few bounded =
      let n : ℕ = length bytes in
      let front : List ℕ = take 128 bytes in
      let rest : List ℕ = drop 128 bytes in
      let front_size : 128 ≡ length front = front-size 128 bytes (omega arith) in
      let rest_size : length rest ≡ n - 128 = length-drop 128 bytes in
      let m1 : List ℕ = chunk_at 128 m in
      let f1 : IsRound k Q l n 128 m1 = chosen k Q keeps l n 128 m f (omega arith) in
      let small : length front ≤ 128 = omega arith in
      let m4 : List ℕ = saved_at 0x8000011E (came front m1) in
      let f4 : IsRound k Q l n 128 m4 = round-saved k Q keeps l n 128 0x8000011E (came front m1) (round-came l n 128 front m1 f1 small) in
      let m5 : List ℕ = left_at (length rest) m4 in
      let f5 : IsForwarding k Q l (length rest) m5 = counted k Q keeps l n 128 (length rest) m4 f4 (omega arith) in
      let c1 : Changed m m1 0x800001FC 0x80000400 =
      changed-workspace m 0x80000210 (to_le_bytes w32 128) f.ready.size (omega arith) (omega arith) in
      let c4 : Changed m1 m4 0x800001FC 0x80000400 = changed-came l n 128 front m1 f1 small in
      let c5 : Changed m4 m5 0x800001FC 0x80000400 =
      changed-workspace m4 0x80000208 (to_le_bytes w32 (length rest)) f4.ready.size (omega arith) (omega arith) in
      let others : Loops q l rest m5 = loops q l rest m5 to f5 (omega arith) (omega arith) (omega arith) in
      record {
        after = others.after;
        leads = chooses-full l n m f (omega arith) bounded ⨾
            (takes-chunk l n 128 U U m1 f1 (omega arith) (omega arith) ⨾
            (moves-in l n 128 front m1 f1 front_size (omega arith) (omega arith) ⨾
            (sends-chunk l n 128 (came front m1) to (round-came l n 128 front m1 f1 small) (omega arith) (omega arith) ⨾
            (moves-out l n 128 front m1 to f1 front_size (omega arith) (omega arith) ⨾
            (counts l n 128 (length rest) m4 f4 (omega arith) (omega arith) rest_size ⨾
            (loop-goes_on l (length rest) m5 f5 (omega arith) ⨾ others.leads))))));
        top = others.top;
        changed = changed-more m m1 others.after 0x800001FC 0x80000400 c1
            (changed-more m1 m4 others.after 0x800001FC 0x80000400 c4
            (changed-more m4 m5 others.after 0x800001FC 0x80000400 c5 others.changed));
      }

  -- the whole command
  pub serves-forward : (q l : ℕ) (bytes m : List ℕ) → l < 4 → IsTop k Q m → 128 * q < length bytes → length bytes ≤ 128 * q + 128
      → length bytes < 2 ^ 31 → Serves access space Q k
      (takes (forward_command (out_channel_of l) (length bytes)) ++ (steps 7 ++ forward_loop q l bytes)) m m
  serves-forward q l bytes m to top some few bounded =
      let n : ℕ = length bytes in
      let x : ℕ = out_channel_of l in
      let cmd : List ℕ = forward_command x n in
      let m1 : List ℕ = put m 0x80000200 cmd in
      let c : HasCommand k Q 1 x n m1 = has_command k Q keeps 1 x n m top.ready (omega arith) (omega arith) (omega arith) in
      let looped : Loops q l bytes m1 = loops q l bytes m1 to (record { ready = c.ready; x_is = c.x_is; n_is = c.n_is }) some few bounded in
      record {
        after = looped.after;
        leads = takes-command access space laws Q keeps k link 1 x n m top ⨾ (forward-begins x n m1 c ⨾ looped.leads);
        top = looped.top;
        changed = changed-more m m1 looped.after 0x800001FC 0x80000400
            (changed-workspace m 0x80000200 cmd top.ready.size (omega arith) (omega (arith, command-length 1 x n))) looped.changed;
      }
