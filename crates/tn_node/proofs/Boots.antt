-- A bootstrap of n bytes comes to Running with its registers, over any space that holds a memory.
use Rattle.std.proofs.Common.{◌≡◌, ℕ, ◌+◌, ◌-◌, ◌==◌, ◌<◌, ◌≤◌, true, false, List, [], ◌∷◌, length}
use Rattle.std.proofs.Common.{Option, Ok, inl, inr, refl, sym, ap, ◌∙◌, subst, arith}
use Rattle.std.proofs.lemmas.Bool.Decides.{nat_tests}
use Rattle.tn_mem.specs.Spaces.{Access, IsSpace}
use Rattle.tn_mem.specs.Memories.{put}
use Rattle.tn_mem.specs.Holdings.{HoldsMemory}
use Rattle.tn_mem.proofs.Puts.{IsInside, length-put, put-append}
use Rattle.tn_mem.proofs.Allowed.{inside-reachable, block_cases, allowed-test_block}
use Rattle.tn_word.specs.Words.{mem_start}
use Rattle.tn_cpu.specs.States.{State, booted}
use Rattle.tn_node.specs.declared.engines.Engine.{Engine}
use Rattle.tn_node.specs.declared.modes.Stage.TheVariants.{Booting, Over}
use Rattle.tn_node.specs.declared.modes.Mode.TheVariants as mode
use Rattle.tn_node.specs.Nodes.{NodeState, nothing_expected, mode_of}
use Rattle.tn_node.specs.Bootstraps.{bootstrapped}
use Rattle.tn_node.specs.Links.{taken}
use Rattle.tn_node.specs.WholeActs.{TakesAll}
use Rattle.tn_node.proofs.Pokes.{in_reset}

-- a block that a space allows lies inside its memory
pub inside_held : {M : Type 0} (access : Access M) (memory : M → List ℕ) (over : M → List ℕ → M) (holds : HoldsMemory access memory over)
    (s : M)
    (a n : ℕ) → 1 ≤ n → access.block s a n ≡ Ok tt → IsInside (memory s) a n
inside_held access memory over holds s a n some allowed =
    elim (block_cases (length (memory s)) a n (allowed-test_block (memory s) a n (holds.allowed s a n allowed))) [
      | inl none ↦ absurd (omega (arith, none, some))
      | inr reach ↦ inside-reachable (memory s) a n reach
    ]

-- a byte of an allowed block can be stored, whatever was stored before it
pub byte_held : {M : Type 0} (access : Access M) (memory : M → List ℕ) (over : M → List ℕ → M) (laws : IsSpace access)
    (holds : HoldsMemory access memory over) (s : M) (m : List ℕ) (a n k v : ℕ) → access.block s a n ≡ Ok tt → k < n
    → length m ≡ length (memory s)
    → access.set_byte (over s m) (a + k) v ≡ Ok (over s (put m (a + k) (v ∷ [])))
byte_held access memory over laws holds s m a n k v allowed inside same =
    holds.set_byte (over s m) (a + k) v (holds.same_blocks s m (a + k) 1 same ∙ laws.part s a n k 1 allowed (omega arith))
    ∙ ap (λ x. Ok x) (ap (λ x. over (over s m) (put x (a + k) (v ∷ []))) (holds.memory_of s m)
    ∙ holds.over_twice s m (put m (a + k) (v ∷ [])))

module _ {M : Type 0} (access : Access M) (memory : M → List ℕ) (over : M → List ℕ → M) (laws : IsSpace access)
    (holds : HoldsMemory access memory over) (l : ℕ) (cpu : State M) (inputs outputs : List (Option Engine)) where
  abbrev booting : ℕ → ℕ → List ℕ → NodeState M
  booting got left m =
      record {
        cpu = record cpu { memory = over cpu.memory m };
        stage = Booting;
        expects = record nothing_expected { link = l; got = got; left = left };
        inputs = inputs;
        outputs = outputs;
      }

  -- after a bootstrap of so many bytes
  abbrev pub has_booted : ℕ → List ℕ → NodeState M
  has_booted bytes m =
      record {
        cpu = booted bytes (record cpu { memory = over cpu.memory m });
        stage = Over;
        expects = nothing_expected;
        inputs = inputs;
        outputs = outputs;
      }

  same_link : l == l ≡ true
  same_link = grind (arith, nat_tests)

  boot_goes_on : (n got left byte : ℕ) (m : List ℕ) → access.block cpu.memory mem_start n ≡ Ok tt → got < n
      → length m ≡ length (memory cpu.memory)
      → left == 1 ≡ false → taken access l byte (booting got left m) ≡ booting (got + 1) (left - 1) (put m (mem_start + got) (byte ∷ []))
  unfolding taken bootstrapped
  boot_goes_on n got left byte m allowed inside same more =
      rw (byte_held access memory over laws holds cpu.memory m mem_start n got byte allowed inside same, more) refl

  boot_ends : (n got byte : ℕ) (m : List ℕ) → access.block cpu.memory mem_start n ≡ Ok tt → got < n → length m ≡ length (memory cpu.memory)
      → taken access l byte (booting got 1 m) ≡ has_booted (got + 1) (put m (mem_start + got) (byte ∷ []))
  unfolding taken bootstrapped
  boot_ends n got byte m allowed inside same =
      rw (byte_held access memory over laws holds cpu.memory m mem_start n got byte allowed inside same) refl

  boot_rest : (n got left byte : ℕ) (bytes m : List ℕ) → access.block cpu.memory mem_start n ≡ Ok tt → got + left ≡ n
      → left ≡ length (byte ∷ bytes)
      → length m ≡ length (memory cpu.memory)
      → TakesAll access l (byte ∷ bytes) (booting got left m) (has_booted n (put m (mem_start + got) (byte ∷ bytes)))
  boot_rest n got left byte [] m allowed all is same =
      let one : left ≡ 1 = is in
      let last : got + 1 ≡ n = omega (arith, all, one) in (
        same_link,
        ap (λ x. taken access l byte (booting got x m)) one ∙ boot_ends n got byte m allowed (omega (arith, last)) same
            ∙ ap (λ x. has_booted x (put m (mem_start + got) (byte ∷ []))) last,
      )
  boot_rest n got left byte (next ∷ bytes) m allowed all is same =
      let more : left == 1 ≡ false = grind (arith, nat_tests) in
      let whole = inside_held access memory over holds cpu.memory mem_start n (omega (arith, all, is)) allowed in
      let inside : IsInside m (mem_start + got) (length (byte ∷ next ∷ bytes)) = record {
        low = omega arith;
        high = omega (arith, whole.high, same, all, is);
      } in
      let first : IsInside m (mem_start + got) 1 = record { low = omega arith; high = omega (arith, inside.high) } in
      let after : List ℕ = put m (mem_start + got) (byte ∷ []) in
      let size : length after ≡ length (memory cpu.memory) = length-put m (mem_start + got) (byte ∷ []) first ∙ same in
      let joined : put after (mem_start + got + 1) (next ∷ bytes) ≡ put m (mem_start + got) (byte ∷ next ∷ bytes) = put-append m
      (mem_start + got) (byte ∷ []) (next ∷ bytes) (record { low = inside.low; high = omega (arith, inside.high) }) in
      let place : mem_start + (got + 1) ≡ mem_start + got + 1 = omega arith in
      let rest = boot_rest n (got + 1) (left - 1) next bytes after allowed (omega (arith, all, is)) (omega (arith, is)) size in (
        same_link,
        subst (λ x. TakesAll access l (next ∷ bytes) x (has_booted n (put m (mem_start + got) (byte ∷ next ∷ bytes))))
            (sym (boot_goes_on n got left byte m allowed (omega (arith, all, is)) same more))
            (rw (place, joined) at rest),
      )

  boot_begins : (n : ℕ) → n == 0 ≡ false → n == 1 ≡ false → taken access l n (in_reset cpu inputs outputs) ≡ booting 0 n (memory cpu.memory)
  unfolding taken bootstrapped
  boot_begins n no_poke no_peek = rw (no_poke, no_peek, holds.over_own cpu.memory) refl

  -- A control byte of 2 to 255 and so many bytes, from reset, are stored from MemStart on, where the
  -- space allows that, and run.
  pub boots : (bytes : List ℕ) → 2 ≤ length bytes → length bytes ≤ 255 → access.block cpu.memory mem_start (length bytes) ≡ Ok tt
      → TakesAll access l (length bytes ∷ bytes) (in_reset cpu inputs outputs)
      (has_booted (length bytes) (put (memory cpu.memory) mem_start bytes))
  boots [] some few allowed = absurd (omega (arith, some))
  boots (byte ∷ bytes) some few allowed =
      let n : ℕ = length (byte ∷ bytes) in
      let rest : TakesAll access l (byte ∷ bytes) (booting 0 n (memory cpu.memory))
      (has_booted n (put (memory cpu.memory) mem_start (byte ∷ bytes))) = boot_rest n 0 n byte bytes (memory cpu.memory) allowed
      (omega arith) refl refl in (
        refl,
        subst (λ x. TakesAll access l (byte ∷ bytes) x (has_booted n (put (memory cpu.memory) mem_start (byte ∷ bytes))))
            (sym (boot_begins n (not_zero n some) (not_one n some))) rest,
      )
    where
      not_zero : (x : ℕ) → 2 ≤ x → x == 0 ≡ false
      not_zero x h = grind (arith, nat_tests)

      not_one : (x : ℕ) → 2 ≤ x → x == 1 ≡ false
      not_one x h = grind (arith, nat_tests)

  -- what it does then
  pub booted-runs : (bytes : ℕ) (m : List ℕ) → mode_of (has_booted bytes m) ≡ mode.Running
  booted-runs bytes m = refl
