-- A transfer of n bytes, in by an input engine and out by an output engine, over any space that holds a memory.
use Rattle.std.proofs.Common.{◌≡◌, ℕ, zero, suc, ◌+◌, ◌-◌, ◌^◌, ◌==◌, ◌<◌, ◌≤◌, true, false, List, [], ◌∷◌, length}
use Rattle.std.proofs.Common.{Option, Some, None, Ok, refl, sym, ap, ◌∙◌, subst, arith}
use Rattle.std.specs.Prelude.{slice_set, nat_lt}
use Rattle.std.proofs.Common.{drop-cons}
use Rattle.std.proofs.lemmas.Bool.Decides.{nat_tests}
use Rattle.std.proofs.lemmas.List.{set-set}
use Rattle.tn_mem.specs.Spaces.{Access, IsSpace}
use Rattle.tn_mem.specs.Memories.{most_neg, allows_block, fetch, put, block}
use Rattle.tn_mem.specs.Holdings.{HoldsMemory}
use Rattle.tn_mem.proofs.Puts.{IsInside, byte_at, length-put, put-append, block-none}
use Rattle.tn_mem.proofs.Allowed.{fetch-allowed, allowed-test_block}
use Rattle.tn_cpu.specs.States.{State, wrap}
use Rattle.tn_cpu.specs.Queues.{woken}
use Rattle.tn_node.specs.declared.engines.Engine.{Engine}
use Rattle.tn_node.specs.declared.modes.Stage.TheVariants.{Over}
use Rattle.tn_node.specs.Engines.{engine_of, moved}
use Rattle.tn_node.specs.Nodes.{NodeState, nothing_expected}
use Rattle.tn_node.specs.Links.{wants, taken, offers, marked_sent, acknowledged}
use Rattle.tn_node.specs.WholeActs.{TakesAll, SendsAll}
use Rattle.tn_node.proofs.Awaiting.{set_same}
use Rattle.tn_node.proofs.Boots.{inside_held, byte_held}

-- the byte of a block that a memory allows
fetch_block : (m : List ℕ) (a : ℕ) → allows_block (length m) a 1 ≡ true → fetch m a ≡ Ok (byte_at m a)
fetch_block m a allowed = fetch-allowed m a allowed

-- the first byte of a block, and the rest
block-cons : (m : List ℕ) (a n : ℕ) → most_neg ≤ a → a < most_neg + length m → block m a (suc n) ≡ byte_at m a ∷ block m (a + 1) n
unfolding block
block-cons m a n low inside =
    let here : a - most_neg < length m = omega (arith, low, inside) in
    let next : a + 1 - most_neg ≡ suc (a - most_neg) = omega (arith, low) in
    rw (drop-cons m (a - most_neg) 0, next) refl

module _ {M : Type 0} (access : Access M) (memory : M → List ℕ) (over : M → List ℕ → M) (laws : IsSpace access)
    (holds : HoldsMemory access memory over) (l : ℕ) (cpu : State M) where
  -- a node that was booted
  abbrev pub running_node : State M → List (Option Engine) → List (Option Engine) → NodeState M
  running_node now inputs outputs = record { cpu = now; stage = Over; expects = nothing_expected; inputs = inputs; outputs = outputs }

  -- its processor with another memory in its space
  abbrev pub with_memory : List ℕ → State M
  with_memory m = record cpu { memory = over cpu.memory m }

  -- no address in an allowed block wraps
  block_end : (a n : ℕ) → 0 < n → access.block cpu.memory a n ≡ Ok tt → a + n ≤ 2 ^ 32
  block_end a n some allowed = laws.source_end cpu.memory a n some (laws.source_of_block cpu.memory a n allowed)

  -- ---- in

  in_goes_on : (e : Engine) (inputs outputs : List (Option Engine)) (m : List ℕ) (a n k byte : ℕ) → engine_of inputs l ≡ Some e
      → access.block cpu.memory a n ≡ Ok tt → k < n → e.pointer ≡ a + k → length m ≡ length (memory cpu.memory) → e.left == 1 ≡ false
      → taken access l byte (running_node (with_memory m) inputs outputs) ≡ running_node (with_memory (put m (a + k) (byte ∷ [])))
      (slice_set inputs l (Some (moved e))) outputs
  unfolding taken
  in_goes_on e inputs outputs m a n k byte is allowed inside at same more =
      rw (is, more, at, byte_held access memory over laws holds cpu.memory m a n k byte allowed inside same) refl

  in_ends : (e : Engine) (inputs outputs : List (Option Engine)) (m : List ℕ) (a n k byte : ℕ) → engine_of inputs l ≡ Some e
      → access.block cpu.memory a n ≡ Ok tt → k < n → e.pointer ≡ a + k → length m ≡ length (memory cpu.memory) → e.left == 1 ≡ true
      → taken access l byte (running_node (with_memory m) inputs outputs) ≡ running_node
      (woken access e.process (with_memory (put m (a + k) (byte ∷ [])))) (slice_set inputs l None) outputs
  unfolding taken
  in_ends e inputs outputs m a n k byte is allowed inside at same one =
      rw (is, one, at, byte_held access memory over laws holds cpu.memory m a n k byte allowed inside same) refl

  wanted : (e : Engine) (inputs outputs : List (Option Engine)) (now : State M) → engine_of inputs l ≡ Some e
      → wants l (running_node now inputs outputs) ≡ true
  wanted e inputs outputs now is = rw is refl

  in_rest : (e : Engine) (inputs outputs : List (Option Engine)) (m : List ℕ) (a n k byte : ℕ) (bytes : List ℕ)
      → engine_of inputs l ≡ Some e
      → access.block cpu.memory a n ≡ Ok tt → a + n ≤ 2 ^ 32 → k + e.left ≡ n → e.left ≡ length (byte ∷ bytes) → e.pointer ≡ a + k
      → length m ≡ length (memory cpu.memory)
      → TakesAll access l (byte ∷ bytes) (running_node (with_memory m) inputs outputs)
      (running_node (woken access e.process (with_memory (put m (a + k) (byte ∷ bytes)))) (slice_set inputs l None) outputs)
  in_rest e inputs outputs m a n k byte [] is allowed fits all count at same = (
    wanted e inputs outputs (with_memory m) is,
    in_ends e inputs outputs m a n k byte is allowed (omega (arith, all, count)) at same
        (grind (arith, nat_tests)),
  )
  in_rest e inputs outputs m a n k byte (next ∷ bytes) is allowed fits all count at same =
      let whole = inside_held access memory over holds cpu.memory a n (omega (arith, all, count)) allowed in
      let inside : IsInside m (a + k) (length (byte ∷ next ∷ bytes)) = record {
        low = omega (arith, whole.low);
        high = omega (arith, whole.high, same, all, count);
      } in
      let after : List ℕ = put m (a + k) (byte ∷ []) in
      let size : length after ≡ length (memory cpu.memory) = length-put m (a + k) (byte ∷ [])
      (record { low = inside.low; high = omega (arith, inside.high) }) ∙ same in
      let joined : put after (a + k + 1) (next ∷ bytes) ≡ put m (a + k) (byte ∷ next ∷ bytes) = put-append m (a + k) (byte ∷ [])
      (next ∷ bytes) (record { low = inside.low; high = omega (arith, inside.high) }) in
      let place : a + (k + 1) ≡ a + k + 1 = omega arith in
      let behind : (moved e).pointer ≡ a + (k + 1) = omega (arith, at, fits, all, count) in
      let rest = in_rest (moved e) (slice_set inputs l (Some (moved e))) outputs after a n (k + 1) next bytes
      (set_same inputs l e (Some (moved e)) is) allowed fits (omega (arith, all, count)) (omega (arith, count)) behind size in (
        wanted e inputs outputs (with_memory m) is,
        subst (λ x. TakesAll access l (next ∷ bytes) x
            (running_node (woken access e.process (with_memory (put m (a + k) (byte ∷ next ∷ bytes)))) (slice_set inputs l None) outputs))
            (sym (in_goes_on e inputs outputs m a n k byte is allowed (omega (arith, all, count)) at same (grind (arith, nat_tests))))
            (rw (place, joined, set-set inputs l (Some (moved e)) None) at rest),
      )

  -- The bytes that an input engine waits for go from its pointer on, where the space allows that. Behind
  -- the last the engine is closed, and its process is woken.
  pub transfers_in : (e : Engine) (inputs outputs : List (Option Engine)) (bytes : List ℕ) → engine_of inputs l ≡ Some e
      → 1 ≤ e.left → e.left ≡ length bytes → access.block cpu.memory e.pointer e.left ≡ Ok tt
      → TakesAll access l bytes (running_node cpu inputs outputs)
      (running_node (woken access e.process (with_memory (put (memory cpu.memory) e.pointer bytes))) (slice_set inputs l None) outputs)
  transfers_in e inputs outputs [] is some count allowed = absurd (omega (arith, some, count))
  transfers_in e inputs outputs (byte ∷ bytes) is some count allowed =
      let fits : e.pointer + e.left ≤ 2 ^ 32 = block_end e.pointer e.left some allowed in
      let own : with_memory (memory cpu.memory) ≡ cpu = ap (λ m. record cpu { memory = m }) (holds.over_own cpu.memory) in
      let first : e.pointer + 0 ≡ e.pointer = omega arith in
      let rest = in_rest e inputs outputs (memory cpu.memory) e.pointer e.left 0 byte bytes is allowed fits (omega arith) count
      (omega arith) refl in
      rw (own, first) at rest

  -- ---- out

  -- an engine none of whose bytes is unacknowledged, and one that has sent one
  abbrev engine : ℕ → ℕ → ℕ → Engine
  engine pointer left process = record { pointer = pointer; left = left; process = process; sent = false }

  abbrev engine_waits : ℕ → ℕ → ℕ → Engine
  engine_waits pointer left process = record { pointer = pointer; left = left; process = process; sent = true }

  out_offers : (p left w byte : ℕ) (inputs outputs : List (Option Engine)) → engine_of outputs l ≡ Some (engine p left w)
      → nat_lt 0 left ≡ true
      → access.byte cpu.memory p ≡ Ok byte → offers access l (running_node cpu inputs outputs) ≡ Some byte
  unfolding offers
  out_offers p left w byte inputs outputs is some read = rw (is, some, read) refl

  out_goes_on : (p left w : ℕ) (inputs outputs : List (Option Engine)) → engine_of outputs l ≡ Some (engine p left w)
      → (left - 1) == 0 ≡ false
      → acknowledged access l (marked_sent l (running_node cpu inputs outputs))
      ≡ running_node cpu inputs (slice_set outputs l (Some (engine (wrap (p + 1)) (left - 1) w)))
  unfolding acknowledged marked_sent
  out_goes_on p left w inputs outputs is more =
      let e : Engine = engine_waits (wrap (p + 1)) (left - 1) w in
      rw (
        is,
        set_same outputs l (engine p left w) (Some e) is,
        more,
        set-set outputs l (Some e) (Some (engine (wrap (p + 1)) (left - 1) w)),
      ) refl

  out_ends : (p left w : ℕ) (inputs outputs : List (Option Engine)) → engine_of outputs l ≡ Some (engine p left w) → (left - 1) == 0 ≡ true
      → acknowledged access l (marked_sent l (running_node cpu inputs outputs)) ≡ running_node (woken access w cpu) inputs
      (slice_set outputs l None)
  unfolding acknowledged marked_sent
  out_ends p left w inputs outputs is last =
      let e : Engine = engine_waits (wrap (p + 1)) (left - 1) w in
      rw (is, set_same outputs l (engine p left w) (Some e) is, last, set-set outputs l (Some e) None) refl

  -- the first byte of an allowed block is that of the memory
  byte_read : (a n : ℕ) → access.block cpu.memory a (suc n) ≡ Ok tt → access.byte cpu.memory a ≡ Ok (byte_at (memory cpu.memory) a)
  byte_read a n allowed =
      let at : a + 0 ≡ a = omega arith in
      let one : access.block cpu.memory a 1 ≡ Ok tt = subst (λ x. access.block cpu.memory x 1 ≡ Ok tt) at
      (laws.part cpu.memory a (suc n) 0 1 allowed (omega arith)) in
      holds.byte cpu.memory a one ∙ fetch_block (memory cpu.memory) a
      (allowed-test_block (memory cpu.memory) a 1 (holds.allowed cpu.memory a 1 one))

  out_rest : (n p w : ℕ) (inputs outputs : List (Option Engine)) → engine_of outputs l ≡ Some (engine p (suc n) w)
      → access.block cpu.memory p (suc n) ≡ Ok tt → p + suc n ≤ 2 ^ 32
      → SendsAll access l (block (memory cpu.memory) p (suc n)) (running_node cpu inputs outputs)
      (running_node (woken access w cpu) inputs (slice_set outputs l None))
  out_rest zero p w inputs outputs is allowed fits =
      let whole = inside_held access memory over holds cpu.memory p 1 (omega arith) allowed in
      let bytes : block (memory cpu.memory) p 1 ≡ byte_at (memory cpu.memory) p ∷ [] = block-cons (memory cpu.memory) p 0 whole.low
      (omega (arith, whole.low, whole.high)) ∙ ap (λ x. byte_at (memory cpu.memory) p ∷ x) (block-none (memory cpu.memory) (p + 1)) in
      rw bytes (
        out_offers p 1 w (byte_at (memory cpu.memory) p) inputs outputs is refl (byte_read p 0 allowed),
        out_ends p 1 w inputs outputs is refl,
      )
  out_rest (suc n) p w inputs outputs is allowed fits =
      let whole = inside_held access memory over holds cpu.memory p (suc (suc n)) (omega arith) allowed in
      let next : wrap (p + 1) ≡ p + 1 = omega (arith, fits) in
      let less : suc (suc n) - 1 ≡ suc n = omega arith in
      let bytes : block (memory cpu.memory) p (suc (suc n)) ≡ byte_at (memory cpu.memory) p ∷ block (memory cpu.memory) (p + 1)
      (suc n) = block-cons (memory cpu.memory) p (suc n) whole.low (omega (arith, whole.low, whole.high)) in
      let after : List (Option Engine) = slice_set outputs l (Some (engine (p + 1) (suc n) w)) in
      let goes_on : acknowledged access l (marked_sent l (running_node cpu inputs outputs))
      ≡ running_node cpu inputs after = out_goes_on p (suc (suc n)) w inputs outputs is (grind (arith, nat_tests))
      ∙ ap (λ x. running_node cpu inputs (slice_set outputs l (Some x)))
      (ap (λ a. engine a (suc (suc n) - 1) w) next ∙ ap (λ k. engine (p + 1) k w) less) in
      let rest : SendsAll access l (block (memory cpu.memory) (p + 1) (suc n)) (running_node cpu inputs after)
      (running_node (woken access w cpu) inputs (slice_set after l None)) = out_rest n (p + 1) w inputs after
      (set_same outputs l (engine p (suc (suc n)) w) (Some (engine (p + 1) (suc n) w)) is)
      (laws.part cpu.memory p (suc (suc n)) 1 (suc n) allowed (omega arith)) (omega (arith, fits)) in
      let closed : slice_set after l None ≡ slice_set outputs l None = set-set outputs l (Some (engine (p + 1) (suc n) w)) None in
      rw bytes (
        out_offers p (suc (suc n)) w (byte_at (memory cpu.memory) p) inputs outputs is (grind (arith, nat_tests))
            (byte_read p (suc n) allowed),
        subst (λ x. SendsAll access l (block (memory cpu.memory) (p + 1) (suc n)) x
            (running_node (woken access w cpu) inputs (slice_set outputs l None))) (sym goes_on)
            (subst (λ x. SendsAll access l (block (memory cpu.memory) (p + 1) (suc n)) (running_node cpu inputs after)
            (running_node (woken access w cpu) inputs x)) closed rest),
      )

  -- The bytes that an output engine waits to send are those of the memory from its pointer on. Behind the
  -- last acknowledge the engine is closed, and its process is woken.
  pub transfers_out : (pointer count process : ℕ) (inputs outputs : List (Option Engine))
      → engine_of outputs l ≡ Some (engine pointer count process)
      → 1 ≤ count → access.block cpu.memory pointer count ≡ Ok tt
      → SendsAll access l (block (memory cpu.memory) pointer count) (running_node cpu inputs outputs)
      (running_node (woken access process cpu) inputs (slice_set outputs l None))
  transfers_out pointer zero process inputs outputs is some allowed = absurd (omega (arith, some))
  transfers_out pointer (suc n) process inputs outputs is some allowed =
      out_rest n pointer process inputs outputs is allowed (block_end pointer (suc n) some allowed)
