-- The secondary loader: what it needs of the memory, and its instructions one by one.
use Rattle.std.proofs.Common.{◌≡◌, ℕ, zero, suc, ◌+◌, ◌*◌, ◌<◌, ◌≤◌, ◌%◌, ◌^◌, Bool, List, Ok, refl, ap, ◌∙◌, arith}
use Rattle.std.specs.Prelude.{slice_index, length}
use Rattle.std.specs.Int.{w32, to_le_bytes}
use Rattle.std.proofs.lemmas.Bool.Decides.{nat_tests}
use Rattle.tn_mem.specs.Spaces.{Access}
use Rattle.tn_mem.specs.Sizes.{IsMemorySize}
use Rattle.tn_mem.specs.Memories.{most_neg, put, fetch, load}
use Rattle.tn_mem.proofs.Puts.{IsInside, length-put}
use Rattle.tn_mem.proofs.Stored.{load-put, load-put_below, load-put_above, fetch-put_below}
use Rattle.tn_word.specs.Channels.{in_channel_of}
use Rattle.tn_loader.specs.Secondary.{secondary_bytes}
use Rattle.tn_cpu.specs.declared.registers.Reg.{Reg}
use Rattle.tn_cpu.specs.declared.registers.Reg.TheVariants.{Word}
use Rattle.tn_cpu.specs.declared.outcomes.Outcome.TheVariants.{Ran}
use Rattle.tn_cpu.specs.States.{State, wrap}
use Rattle.tn_cpu.specs.Steps.{execute_byte}
use Rattle.tn_node.specs.Nodes.{NodeState}
use Rattle.tn_load.specs.Inner.PlainSpaces.{IsPlainSpace}
use Rattle.tn_load.specs.Inner.NodeActs.{Kept, Leads}
use Rattle.tn_load.proofs.Leading.{◌⨾◌, one, running, inputting}
use Rattle.tn_load.proofs.Walking.{Code, Walks, byte-steps, walks}
use Rattle.tn_load.proofs.Moving.{HasRoom, inside-room, room-word, engine, awake, asleep, byte-known, word-known, opens-input}
use Rattle.tn_load.specs.Inner.Lives.{steps}

-- where the secondary stands
abbrev pub base : ℕ
base = 0x80000100

-- it is whole in a memory, and knows its boot link
pub record IsReady (k : ℕ) (Q : List ℕ → Type 0) (m : List ℕ) : Type 0 where
  pub size : IsMemorySize (length m)
  pub code : (i : ℕ) → i < 55 → fetch m (base + i) ≡ Ok (slice_index secondary_bytes i)
  pub channel : load m 0x8000020C ≡ Ok (in_channel_of k)
  pub holds : Q m

pub room : (m : List ℕ) (a n : ℕ) → IsMemorySize (length m) → 0x80000024 ≤ a → a + n ≤ 0x80001000 → HasRoom m a n
room m a n size low high = record { low = low; high = omega arith; small = size.1 }

-- a write between its code and its channel, or above its channel
pub ready-middle : (k : ℕ) (Q : List ℕ → Type 0) (keeps : Kept Q 0x800001FC 0x80000400) (m : List ℕ) (a : ℕ) (bytes : List ℕ)
    → IsReady k Q m → 0x800001FC ≤ a → a + length bytes ≤ 0x8000020C → IsReady k Q (put m a bytes)
ready-middle k Q keeps m a bytes ready low high =
    let inside : IsInside m a (length bytes) =
    inside-room m a (length bytes) (room m a (length bytes) ready.size (omega arith) (omega arith)) in
    record {
      size = rw (length-put m a bytes inside) ready.size;
      code = λ i h. fetch-put_below m a bytes (base + i) inside (omega arith) (omega arith) ∙ ready.code i h;
      channel = load-put_above m a bytes 0x8000020C inside high ∙ ready.channel;
      holds = keeps m a bytes low (omega arith) ready.holds;
    }

pub ready-above : (k : ℕ) (Q : List ℕ → Type 0) (m : List ℕ) (a : ℕ) (bytes : List ℕ) → IsReady k Q m → 0x80000210 ≤ a
    → a + length bytes ≤ most_neg + length m → Q (put m a bytes) → IsReady k Q (put m a bytes)
ready-above k Q m a bytes ready low high q =
    let inside : IsInside m a (length bytes) = record { low = omega arith; high = high } in
    record {
      size = rw (length-put m a bytes inside) ready.size;
      code = λ i h. fetch-put_below m a bytes (base + i) inside (omega arith) (omega arith) ∙ ready.code i h;
      channel = load-put_below m a bytes 0x8000020C inside (omega arith) (omega arith) ∙ ready.channel;
      holds = q;
    }

-- a fact of each of the five locals
pub each_local : (P : ℕ → Type 0) → P 0 → P 1 → P 2 → P 3 → P 4 → (e : ℕ) → e < 5 → P e
each_local P a b c d f zero h = a
each_local P a b c d f (suc zero) h = b
each_local P a b c d f (suc (suc zero)) h = c
each_local P a b c d f (suc (suc (suc zero))) h = d
each_local P a b c d f (suc (suc (suc (suc zero)))) h = f
each_local P a b c d f (suc (suc (suc (suc (suc e))))) h = absurd (omega arith)

-- a word that was stored is there; the words of a command are there
pub word-stored : (m : List ℕ) (a v : ℕ) → v < 2 ^ 32 → a % 4 ≡ 0 → HasRoom m a 4 → load (put m a (to_le_bytes w32 v)) a ≡ Ok v
word-stored m a v in_word aligned room = load-put m a v in_word (room-word m a aligned room)

module _ {M : Type 0} (access : Access M) (space : List ℕ → M) (laws : IsPlainSpace access space) (Q : List ℕ → Type 0)
    (keeps : Kept Q 0x800001FC 0x80000400) (k : ℕ) (link : k < 4) where
  -- at a place of the secondary
  abbrev pub sec : Reg → Reg → Reg → ℕ → List ℕ → NodeState M
  sec a b c i m = running (awake space a b c 0 i 0x80000200 m)

  -- at the top of its loop, where a command is to come
  abbrev pub at_top : List ℕ → NodeState M
  at_top m = inputting k (engine 0x80000200 12 0x80000200) (asleep space m)

  pub secondary_code : (m : List ℕ) → IsReady k Q m → Code access (space m) base secondary_bytes
  unfolding secondary_bytes
  secondary_code m ready i h = byte-known access space laws m (base + i) (slice_index secondary_bytes i) (ready.code i h)

  -- ldl of a local
  ldl_effect : (a b c : Reg) (i : ℕ) (m : List ℕ) (slice : Bool) (clock x e : ℕ) → e < 5
      → access.word (space m) (0x80000200 + 4 * e) ≡ Ok x
      → execute_byte access (0x70 + e) 0 slice clock (awake space a b c 0 i 0x80000200 m) ≡
      record { state = awake space (Word x) a b 0 (wrap (i + 1)) 0x80000200 m; outcome = Ran }
  unfolding execute_byte
  ldl_effect a b c i m slice clock x =
      each_local (λ e. access.word (space m) (0x80000200 + 4 * e) ≡ Ok x
      → execute_byte access (0x70 + e) 0 slice clock (awake space a b c 0 i 0x80000200 m) ≡
      record { state = awake space (Word x) a b 0 (wrap (i + 1)) 0x80000200 m; outcome = Ran })
      (λ h. rw h refl) (λ h. rw h refl) (λ h. rw h refl) (λ h. rw h refl) (λ h. rw h refl)

  pub ldl : (a b c : Reg) (i e x : ℕ) (m : List ℕ) → IsReady k Q m → i < 55 → slice_index secondary_bytes i ≡ 0x70 + e → e < 5
      → load m (0x80000200 + 4 * e) ≡ Ok x → Leads access space Q k (steps 1) (sec a b c (base + i) m) (sec (Word x) a b (base + i + 1) m)
  ldl a b c i e x m ready within byte local h =
      let fetched : access.byte (space m) (base + i) ≡ Ok (0x70 + e) =
      byte-known access space laws m (base + i) (0x70 + e) (ready.code i within ∙ ap Ok byte) in
      let next : wrap (base + i + 1) ≡ base + i + 1 = omega arith in
      one (byte-steps access k (awake space a b c 0 (base + i) 0x80000200 m) (0x70 + e)
      (record { state = awake space (Word x) a b 0 (base + i + 1) 0x80000200 m; outcome = Ran }) (grind (arith, nat_tests)) fetched
      (λ slice clock. rw next at (ldl_effect a b c (base + i) m slice clock x e local
      (word-known access space laws m (0x80000200 + 4 * e) x h)))) m refl ready.holds

  -- bytes that use no memory
  pub walk : (n : ℕ) (a b c : Reg) (i : ℕ) (m : List ℕ) (t : State M) → IsReady k Q m
      → Walks access base secondary_bytes n (awake space a b c 0 i 0x80000200 m) t
      → Leads access space Q k (steps n) (sec a b c i m) (running t)
  walk n a b c i m t ready w = walks access space Q k base secondary_bytes n (awake space a b c 0 i 0x80000200 m) t m refl ready.holds
      (secondary_code m ready) w

  -- the top of the loop
  pub to_top : (a b c : Reg) (m : List ℕ) → IsReady k Q m
      → Leads access space Q k (steps 4) (sec a b c base m) (at_top (put m 0x800001FC (to_le_bytes w32 0x80000104)))
  unfolding execute_byte secondary_bytes
  to_top a b c m ready =
      let first : Leads access space Q k (steps 1) (sec a b c base m) (sec (Word 0x80000200) a b 0x80000101 m) =
      walk 1 a b c base m (awake space (Word 0x80000200) a b 0 0x80000101 0x80000200 m) ready assumption in
      let second : Leads access space Q k (steps 1) (sec (Word 0x80000200) a b 0x80000101 m)
      (sec (Word (in_channel_of k)) (Word 0x80000200) a 0x80000102 m) =
      ldl (Word 0x80000200) a b 1 3 (in_channel_of k) m ready (omega arith) refl (omega arith) ready.channel in
      let third : Leads access space Q k (steps 1) (sec (Word (in_channel_of k)) (Word 0x80000200) a 0x80000102 m)
      (sec (Word 12) (Word (in_channel_of k)) (Word 0x80000200) 0x80000103 m) =
      walk 1 (Word (in_channel_of k)) (Word 0x80000200) a 0x80000102 m
      (awake space (Word 12) (Word (in_channel_of k)) (Word 0x80000200) 0 0x80000103 0x80000200 m) ready assumption in
      let last = opens-input access space laws k m 0x80000200 12 0x80000103 0x80000200 link (omega arith)
      (room m 0x80000200 12 ready.size (omega arith) (omega arith))
      (room-word m 0x800001FC refl (room m 0x800001FC 4 ready.size (omega arith) (omega arith))) refl
      (byte-known access space laws m 0x80000103 0xF7 (ready.code 3 (omega arith))) in
      first ⨾ (second ⨾ (third ⨾ one last (put m 0x800001FC (to_le_bytes w32 0x80000104)) refl
      (keeps m 0x800001FC (to_le_bytes w32 0x80000104) (omega arith) (omega arith) ready.holds)))
