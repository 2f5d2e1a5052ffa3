-- Inputs and outputs of the loader's process: how each begins, moves its bytes and ends.
use Rattle.std.proofs.Common.{add-zero, ◌≡◌, ℕ, suc, ◌+◌, ◌==◌, ◌<◌, ◌≤◌, ◌%◌, ◌^◌, true, false, List, [], ◌∷◌, Some, None, Ok, refl, ◌∙◌}
use Rattle.std.proofs.Common.{subst, arith}
use Rattle.std.specs.Prelude.{nat_lt, ◌-◌, length}
use Rattle.std.specs.Int.{w32, to_le_bytes}
use Rattle.std.proofs.lemmas.Bool.Decides.{nat_tests}
use Rattle.tn_isa.specs.Operations.{operation_with}
use Rattle.tn_mem.specs.Spaces.{Access}
use Rattle.tn_mem.specs.Memories.{most_neg, reachable, allows_block, allows_word, put, fetch, load}
use Rattle.tn_mem.proofs.Puts.{IsInside, length-put, put-append}
use Rattle.tn_mem.proofs.Allowed.{allowed-load, allowed-fetch}
use Rattle.tn_mem.proofs.Stored.{load-put_below}
use Rattle.tn_load.proofs.AccessTests.{reachable-fits, fits-reachable, reachable-allows_word}
use Rattle.tn_word.specs.Words.{load_base, not_process}
use Rattle.tn_word.specs.Channels.{in_channel_of, out_channel_of}
use Rattle.tn_cpu.specs.declared.registers.Reg.{Reg}
use Rattle.tn_cpu.specs.declared.registers.Reg.TheVariants.{Undefined, Word}
use Rattle.tn_cpu.specs.declared.outcomes.Life.TheVariants.{Running, Idle}
use Rattle.tn_cpu.specs.declared.outcomes.Outcome.TheVariants.{OpensIn, OpensOut}
use Rattle.tn_cpu.specs.declared.channels.Way.TheVariants.{Input, Output}
use Rattle.tn_cpu.specs.declared.channels.Channel.TheVariants.{Link}
use Rattle.tn_cpu.specs.States.{State, wrap, below}
use Rattle.tn_cpu.specs.Queues.{storable, loadable, block_refusal, source_refusal, stored, word_at, next_refusal, next, woken}
use Rattle.tn_cpu.specs.Channels.{channel_at, is_open}
use Rattle.tn_cpu.specs.Steps.{execute_byte}
use Rattle.tn_node.specs.declared.engines.Engine.{Engine}
use Rattle.tn_node.specs.Links.{taken, offers, marked_sent, acknowledged}
use Rattle.tn_load.specs.Inner.PlainSpaces.{IsPlainSpace}
use Rattle.tn_load.specs.Inner.NodeActs.{NodeDoes, Kept, Leads}
use Rattle.tn_load.specs.Acts.Act.{Step, Takes, Sends, Acks}
use Rattle.tn_load.specs.Inner.NodeActs.Leads.{done, more}
use Rattle.tn_load.proofs.Leading.{running, inputting, outputting, each_link, only-open, engine-open, set-open, set-closed}
use Rattle.tn_load.proofs.Walking.{Code, byte-steps}
use Rattle.tn_load.specs.Inner.Lives.{takes, sends}

-- an engine none of whose bytes is unacknowledged, and one that waits for an acknowledge
abbrev pub engine : ℕ → ℕ → ℕ → Engine
engine pointer left process = record { pointer = pointer; left = left; process = process; sent = false }

abbrev pub engine_waits : ℕ → ℕ → ℕ → Engine
engine_waits pointer left process = record { pointer = pointer; left = left; process = process; sent = true }

pub input_channel : (k : ℕ) → k < 4 → channel_at Input (in_channel_of k) ≡ Link k
unfolding channel_at
input_channel = each_link (λ k. channel_at Input (in_channel_of k) ≡ Link k) refl refl refl refl

pub output_channel : (l : ℕ) → l < 4 → channel_at Output (out_channel_of l) ≡ Link l
unfolding channel_at
output_channel = each_link (λ k. channel_at Output (out_channel_of k) ≡ Link k) refl refl refl refl

pub input_closed : (k : ℕ) → k < 4 → is_open Input k 0 ≡ false
unfolding is_open
input_closed = each_link (λ k. is_open Input k 0 ≡ false) refl refl refl refl

pub output_closed : (k : ℕ) → k < 4 → is_open Output k 0 ≡ false
unfolding is_open
output_closed = each_link (λ k. is_open Output k 0 ≡ false) refl refl refl refl

-- a block that lies in a memory above word 8
pub record HasRoom (m : List ℕ) (a n : ℕ) : Type 0 where
  pub low : most_neg + 36 ≤ a
  pub high : a + n ≤ most_neg + length m
  pub small : length m ≤ 1048576

pub inside-room : (m : List ℕ) (a n : ℕ) → HasRoom m a n → IsInside m a n
inside-room m a n room = record { low = omega arith; high = omega arith }

pub room-put : (m : List ℕ) (x : ℕ) (bytes : List ℕ) (a n : ℕ) → HasRoom m x (length bytes) → HasRoom m a n → HasRoom (put m x bytes) a n
room-put m x bytes a n put_open room =
    let e = length-put m x bytes (inside-room m x (length bytes) put_open) in
    record { low = room.low; high = omega arith; small = omega arith }

pub room-byte : (m : List ℕ) (a n i : ℕ) → HasRoom m a n → i < n → reachable (length m) (a + i) 1 ≡ true
room-byte m a n i room h = reachable-fits (length m) (a + i) 1 (omega arith) (omega arith) (omega (arith, room.small))

room-first : (m : List ℕ) (a n : ℕ) → HasRoom m a n → 0 < n → reachable (length m) a 1 ≡ true
room-first m a n room h = reachable-fits (length m) a 1 (omega arith) (omega arith) (omega (arith, room.small))

pub room-block : (m : List ℕ) (a n : ℕ) → HasRoom m a n → allows_block (length m) a n ≡ true
room-block m a n room = grind (arith, nat_tests)

pub room-word : (m : List ℕ) (a : ℕ) → a % 4 ≡ 0 → HasRoom m a 4 → allows_word (length m) a ≡ true
room-word m a aligned room = grind (arith, nat_tests)

-- a processor of the loader that executes, and one whose process waits
abbrev pub awake : {M : Type 0} → (List ℕ → M) → Reg → Reg → Reg → ℕ → ℕ → ℕ → List ℕ → State M
awake space a b c oreg iptr wptr m =
    record {
      memory = space m;
      a = a;
      b = b;
      c = c;
      oreg = oreg;
      iptr = iptr;
      wptr = wptr;
      front = Word not_process;
      back = 0;
      error = false;
      halt = false;
      life = Running;
    }

abbrev pub asleep : {M : Type 0} → (List ℕ → M) → List ℕ → State M
asleep space m =
    record {
      memory = space m;
      a = Undefined;
      b = Undefined;
      c = Undefined;
      oreg = 0;
      iptr = 0;
      wptr = 0;
      front = Word not_process;
      back = 0;
      error = false;
      halt = false;
      life = Idle;
    }

abbrev pub resumes : {M : Type 0} → (List ℕ → M) → ℕ → ℕ → List ℕ → State M
resumes space iptr wptr m = awake space Undefined Undefined Undefined 0 iptr wptr m

module _ {M : Type 0} (access : Access M) (space : List ℕ → M) (laws : IsPlainSpace access space) where
  pub word-known : (m : List ℕ) (a v : ℕ) → load m a ≡ Ok v → access.word (space m) a ≡ Ok v
  word-known m a v e = laws.word m a (allowed-load m a v e).0 ∙ e

  pub byte-known : (m : List ℕ) (a v : ℕ) → fetch m a ≡ Ok v → access.byte (space m) a ≡ Ok v
  byte-known m a v e = laws.byte m a (allowed-fetch m a v e).0 ∙ e

  pub wakes : (m : List ℕ) (w i : ℕ) → load m (below w 4) ≡ Ok i → woken access w (asleep space m) ≡ resumes space i w m
  unfolding woken loadable word_at
  wakes m w i e = let known = word-known m (below w 4) i e in rw (known, known) refl

  -- the saved instruction pointer stays where a byte comes in above it
  word-kept : (m : List ℕ) (p w i byte : ℕ) {n : ℕ} → HasRoom m p n → below w 4 + 4 ≤ p → 0 < n → load m (below w 4) ≡ Ok i
      → load (put m p (byte ∷ [])) (below w 4) ≡ Ok i
  word-kept m p w i byte room above some e =
      let low = (fits-reachable (length m) (below w 4) 4
      (reachable-allows_word (length m) (below w 4) (allowed-load m (below w 4) i e).0).1).0 in
      load-put_below m p (byte ∷ []) (below w 4) (record { low = omega arith; high = omega arith }) (omega arith) above ∙ e

  -- ---- inputs

  take-one : (k : ℕ) (m : List ℕ) (p left w byte : ℕ) → k < 4 → left == 1 ≡ false → reachable (length m) p 1 ≡ true
      → NodeDoes access k (Takes byte) (inputting k (engine p left w) (asleep space m))
      (inputting k (engine (wrap (p + 1)) (left - 1) w) (asleep space (put m p (byte ∷ []))))
  unfolding taken
  take-one k m p left w byte link more_left reach =
      let e = engine p left w in (
        only-open e k link,
        rw (
          engine-open (Some e) k link,
          more_left,
          laws.set_byte m p byte reach,
          set-open (Some e)
              (Some (engine (wrap (p + 1)) (left - 1) w)) k link,
        ) refl,
      )

  take-last : (k : ℕ) (m : List ℕ) (p w byte : ℕ) → k < 4 → reachable (length m) p 1 ≡ true
      → NodeDoes access k (Takes byte) (inputting k (engine p 1 w) (asleep space m))
      (running (woken access w (asleep space (put m p (byte ∷ [])))))
  unfolding taken
  take-last k m p w byte link reach =
      let e = engine p 1 w in (
        only-open e k link,
        rw (
          engine-open (Some e) k link,
          laws.set_byte m p byte reach,
          set-open (Some e) None k link,
          set-closed k
              link,
        ) refl,
      )

  pub input-takes : (Q : List ℕ → Type 0) (k : ℕ) (m : List ℕ) (p n w i : ℕ) (bytes : List ℕ) → k < 4 → n ≡ length bytes → 0 < n
      → HasRoom m p n → below w 4 + 4 ≤ p → load m (below w 4) ≡ Ok i → Kept Q p (p + n) → Q m
      → Leads access space Q k (takes bytes) (inputting k (engine p n w) (asleep space m)) (running (resumes space i w (put m p bytes)))
  input-takes Q k m p n w i [] link size some room above e keeps q = absurd (omega arith)
  input-takes Q k m p n w i (byte ∷ []) link size some room above e keeps q =
      let is_one : n ≡ 1 = omega arith in
      let m1 : List ℕ = put m p (byte ∷ []) in
      let last = subst (λ s. NodeDoes access k (Takes byte) (inputting k (engine p 1 w) (asleep space m)) (running s))
      (wakes m1 w i (word-kept m p w i byte room above (omega arith) e))
      (take-last k m p w byte link (room-first m p n room (omega arith))) in
      rw is_one (more last (record { memory = m1; is = refl; fact = keeps m p (byte ∷ []) (omega arith) (omega arith) q }) done)
  input-takes Q k m p n w i (byte ∷ (next ∷ bytes)) link size some room above e keeps q =
      let m1 : List ℕ = put m p (byte ∷ []) in
      let room_one : HasRoom m p (length (byte ∷ [])) = record { low = room.low; high = omega arith; small = room.small } in
      let rest_room : HasRoom m1 (p + 1) (n - 1) =
      room-put m p (byte ∷ []) (p + 1) (n - 1) room_one (record { low = omega arith; high = omega arith; small = room.small }) in
      let q1 : Q m1 = keeps m p (byte ∷ []) (omega arith) (omega arith) q in
      let keeps_rest : Kept Q (p + 1) (p + 1 + (n - 1)) =
      λ m2 a written low high held. keeps m2 a written (omega arith) (omega arith) held in
      let rest = input-takes Q k m1 (p + 1) (n - 1) w i (next ∷ bytes) link (omega arith) (omega arith) rest_room (omega arith)
      (word-kept m p w i byte room above (omega arith) e) keeps_rest q1 in
      let joined = put-append m p (byte ∷ []) (next ∷ bytes) (record { low = omega arith; high = omega arith }) in
      let at : wrap (p + 1) ≡ p + 1 = omega arith in
      let first = take-one k m p n w byte link (grind (arith, nat_tests)) (room-first m p n room (omega arith)) in
      more (rw at at first) (record { memory = m1; is = refl; fact = q1 }) (rw joined at rest)

  -- the input begins
  pub opens-input : (k : ℕ) (m : List ℕ) (p n i w : ℕ) → k < 4 → 0 < n → HasRoom m p n → allows_word (length m) (below w 4) ≡ true
      → nat_lt i load_base ≡ true → access.byte (space m) i ≡ Ok 0xF7
      → NodeDoes access k Step (running (awake space (Word n) (Word (in_channel_of k)) (Word p) 0 i w m))
      (inputting k (engine p n w) (asleep space (put m (below w 4) (to_le_bytes w32 (wrap (i + 1))))))
  unfolding execute_byte operation_with block_refusal storable stored next_refusal next
  opens-input k m p n i w link some room word low fetched =
      let is_some : n == 0 ≡ false = grind (arith, nat_tests) in
      let aligned : (below w 4 % 4 == 0) ≡ true = grind (arith, nat_tests) in
      let may_save : access.block (space m) (below w 4) 4 ≡ Ok tt = laws.block m (below w 4) 4 (grind (arith, nat_tests)) in
      byte-steps access k (awake space (Word n) (Word (in_channel_of k)) (Word p) 0 i w m) 0xF7
      (record {
        state = asleep space (put m (below w 4) (to_le_bytes w32 (wrap (i + 1))));
        outcome = OpensIn (record { link = k; pointer = p; count = n; process = w });
      }) low fetched
      (λ slice clock. rw (
        input_channel k link,
        is_some,
        input_closed k link,
        laws.block m p n (room-block m p n room),
        aligned,
        may_save,
        laws.set_word m (below w 4) (wrap (i + 1)) word,
      ) refl)

  -- ---- outputs

  send-one : (k l : ℕ) (m : List ℕ) (p left w byte : ℕ) → l < 4 → nat_lt 0 left ≡ true → access.byte (space m) p ≡ Ok byte
      → NodeDoes access k (Sends l byte) (outputting l (engine p left w) (asleep space m))
      (outputting l (engine_waits (wrap (p + 1)) (left - 1) w) (asleep space m))
  unfolding offers marked_sent
  send-one k l m p left w byte link some reads =
      let e = engine p left w in (
        link,
        only-open e l link,
        rw (engine-open (Some e) l link, some, reads) refl,
        rw (engine-open (Some e) l link, set-open (Some e) (Some (engine_waits (wrap (p + 1)) (left - 1) w)) l link) refl,
      )

  ack-one : (k l : ℕ) (m : List ℕ) (p left w : ℕ) → l < 4 → left == 0 ≡ false
      → NodeDoes access k (Acks l) (outputting l (engine_waits p left w) (asleep space m))
      (outputting l (engine p left w) (asleep space m))
  unfolding acknowledged
  ack-one k l m p left w link more_left =
      let e = engine_waits p left w in (
        link,
        only-open e l link,
        rw (engine-open (Some e) l link) refl,
        rw (engine-open (Some e) l link, more_left, set-open (Some e) (Some (engine p left w)) l link) refl,
      )

  ack-last : (k l : ℕ) (m : List ℕ) (p w : ℕ) → l < 4
      → NodeDoes access k (Acks l) (outputting l (engine_waits p 0 w) (asleep space m)) (running (woken access w (asleep space m)))
  unfolding acknowledged
  ack-last k l m p w link =
      let e = engine_waits p 0 w in (
        link,
        only-open e l link,
        rw (engine-open (Some e) l link) refl,
        rw (engine-open (Some e) l link, set-open (Some e) None l link, set-closed l link) refl,
      )

  pub output-sends : (Q : List ℕ → Type 0) (k l : ℕ) (m : List ℕ) (p n w i : ℕ) (bytes : List ℕ) → l < 4 → n ≡ length bytes → 0 < n
      → p + n < 2 ^ 32 → Code access (space m) p bytes → load m (below w 4) ≡ Ok i → Q m
      → Leads access space Q k (sends l bytes) (outputting l (engine p n w) (asleep space m)) (running (resumes space i w m))
  output-sends Q k l m p n w i [] link size some small reads e q = absurd (omega arith)
  output-sends Q k l m p n w i (byte ∷ []) link size some small reads e q =
      let is_one : n ≡ 1 = omega arith in
      let first : access.byte (space m) p ≡ Ok byte = rw add-zero at (reads 0 (omega arith)) in
      rw is_one (more (send-one k l m p 1 w byte link refl first) (record { memory = m; is = refl; fact = q })
      (more (subst (λ s. NodeDoes access k (Acks l) (outputting l (engine_waits (wrap (p + 1)) 0 w) (asleep space m)) (running s))
      (wakes m w i e) (ack-last k l m (wrap (p + 1)) w link)) (record { memory = m; is = refl; fact = q }) done))
  output-sends Q k l m p n w i (byte ∷ (next ∷ bytes)) link size some small reads e q =
      let first : access.byte (space m) p ≡ Ok byte = rw add-zero at (reads 0 (omega arith)) in
      let behind : Code access (space m) (p + 1) (next ∷ bytes) = λ j h. let same : p + 1 + j ≡ p + suc j =
      omega arith in rw same (reads (suc j) (omega arith)) in
      let at : wrap (p + 1) ≡ p + 1 = omega arith in
      let rest = output-sends Q k l m (p + 1) (n - 1) w i (next ∷ bytes) link (omega arith) (omega arith) (omega arith) behind e q in
      more (rw at at (send-one k l m p n w byte link (grind (arith, nat_tests)) first)) (record { memory = m; is = refl; fact = q })
      (more (ack-one k l m (p + 1) (n - 1) w link (grind (arith, nat_tests))) (record { memory = m; is = refl; fact = q }) rest)

  pub opens-output : (k l : ℕ) (m : List ℕ) (p n i w : ℕ) → l < 4 → 0 < n → HasRoom m p n → allows_word (length m) (below w 4) ≡ true
      → nat_lt i load_base ≡ true → access.byte (space m) i ≡ Ok 0xFB
      → NodeDoes access k Step (running (awake space (Word n) (Word (out_channel_of l)) (Word p) 0 i w m))
      (outputting l (engine p n w) (asleep space (put m (below w 4) (to_le_bytes w32 (wrap (i + 1))))))
  unfolding execute_byte operation_with source_refusal storable stored next_refusal next
  opens-output k l m p n i w link some room word low fetched =
      let is_some : n == 0 ≡ false = grind (arith, nat_tests) in
      let aligned : (below w 4 % 4 == 0) ≡ true = grind (arith, nat_tests) in
      let may_save : access.block (space m) (below w 4) 4 ≡ Ok tt = laws.block m (below w 4) 4 (grind (arith, nat_tests)) in
      byte-steps access k (awake space (Word n) (Word (out_channel_of l)) (Word p) 0 i w m) 0xFB
      (record {
        state = asleep space (put m (below w 4) (to_le_bytes w32 (wrap (i + 1))));
        outcome = OpensOut (record { link = l; pointer = p; count = n; process = w });
      }) low fetched
      (λ slice clock. rw (
        output_channel l link,
        is_some,
        output_closed l link,
        laws.source m p n (room-block m p n room),
        aligned,
        may_save,
        laws.set_word m (below w 4) (wrap (i + 1)) word,
      ) refl)
