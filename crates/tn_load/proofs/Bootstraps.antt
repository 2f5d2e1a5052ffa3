-- The bootstrap: a control byte, and so many bytes, from any power-up.
use Rattle.std.proofs.Common.{◌≡◌, ℕ, ◌+◌, ◌-◌, ◌==◌, ◌<◌, ◌≤◌, Bool, true, false, List, [], ◌∷◌, refl, arith}
use Rattle.std.specs.Prelude.{◌&&◌, length}
use Rattle.std.proofs.lemmas.Bool.Decides.{nat_tests}
use Rattle.tn_mem.specs.Spaces.{Access}
use Rattle.tn_mem.specs.Sizes.{IsMemorySize}
use Rattle.tn_mem.specs.Memories.{reachable, put}
use Rattle.tn_mem.proofs.Puts.{IsInside, length-put, put-append}
use Rattle.tn_load.proofs.AccessTests.{reachable-fits}
use Rattle.tn_word.specs.Words.{mem_start}
use Rattle.tn_cpu.specs.States.{powered_up, booted}
use Rattle.tn_node.specs.declared.modes.Stage.TheVariants.{Booting}
use Rattle.tn_node.specs.Nodes.{NodeState, nothing_expected, all_closed, reset_node}
use Rattle.tn_node.specs.Links.{taken}
use Rattle.tn_node.specs.Bootstraps.{bootstrapped}
use Rattle.tn_load.specs.Inner.PlainSpaces.{IsPlainSpace}
use Rattle.tn_load.specs.Inner.NodeActs.{NodeDoes, Kept, Leads}
use Rattle.tn_load.specs.Acts.Act.{Takes}
use Rattle.tn_load.specs.Inner.NodeActs.Leads.{done, more}
use Rattle.tn_load.proofs.Leading.{running}
use Rattle.tn_load.specs.Inner.Lives.{takes}

module _ {M : Type 0} (access : Access M) (space : List ℕ → M) (laws : IsPlainSpace access space) (k : ℕ) (error halt : Bool) where
  -- in reset, over a memory
  abbrev pub in_reset : List ℕ → NodeState M
  in_reset m = reset_node (powered_up (space m) error halt)

  abbrev booting : ℕ → ℕ → List ℕ → NodeState M
  booting got left m =
      record {
        cpu = powered_up (space m) error halt;
        stage = Booting;
        expects = record nothing_expected { link = k; got = got; left = left };
        inputs = all_closed;
        outputs = all_closed;
      }

  -- behind the last byte
  abbrev pub has_booted : ℕ → List ℕ → NodeState M
  has_booted n m = running (booted n (powered_up (space m) error halt))

  same_link : (k == k) && true ≡ true
  same_link = grind (arith, nat_tests)

  reaches : (m : List ℕ) (got : ℕ) → IsMemorySize (length m) → got < 255 → reachable (length m) (mem_start + got) 1 ≡ true
  reaches m got size few = reachable-fits (length m) (mem_start + got) 1 (omega arith) (omega arith) (omega (arith, size.1))

  boot-one : (m : List ℕ) (got left byte : ℕ) → reachable (length m) (mem_start + got) 1 ≡ true → left == 1 ≡ false
      → NodeDoes access k (Takes byte) (booting got left m) (booting (got + 1) (left - 1) (put m (mem_start + got) (byte ∷ [])))
  unfolding taken bootstrapped
  boot-one m got left byte reach more_left = (same_link, rw (laws.set_byte m (mem_start + got) byte reach, more_left) refl)

  boot-last : (m : List ℕ) (got byte : ℕ) → reachable (length m) (mem_start + got) 1 ≡ true
      → NodeDoes access k (Takes byte) (booting got 1 m) (has_booted (got + 1) (put m (mem_start + got) (byte ∷ [])))
  unfolding taken bootstrapped
  boot-last m got byte reach = (same_link, rw (laws.set_byte m (mem_start + got) byte reach) refl)

  boot-all : (Q : List ℕ → Type 0) (m : List ℕ) (got left byte : ℕ) (bytes : List ℕ) → IsMemorySize (length m)
      → left ≡ length (byte ∷ bytes) → got + left ≤ 255 → Kept Q (mem_start + got) (mem_start + got + left) → Q m
      → Leads access space Q k (takes (byte ∷ bytes)) (booting got left m)
      (has_booted (got + left) (put m (mem_start + got) (byte ∷ bytes)))
  boot-all Q m got left byte [] size is few keeps q =
      let one : left ≡ 1 = omega arith in
      rw one (more (boot-last m got byte (reaches m got size (omega arith)))
      (record {
        memory = put m (mem_start + got) (byte ∷ []);
        is = refl;
        fact = keeps m (mem_start + got) (byte ∷ []) (omega arith) (omega arith) q;
      }) done)
  boot-all Q m got left byte (next ∷ bytes) size is few keeps q =
      let m1 : List ℕ = put m (mem_start + got) (byte ∷ []) in
      let inside : IsInside m (mem_start + got) 1 = record { low = omega arith; high = omega arith } in
      let size1 : IsMemorySize (length m1) = rw (length-put m (mem_start + got) (byte ∷ []) inside) size in
      let joined = put-append m (mem_start + got) (byte ∷ []) (next ∷ bytes) (record { low = omega arith; high = omega arith }) in
      let q1 : Q m1 = keeps m (mem_start + got) (byte ∷ []) (omega arith) (omega arith) q in
      let keeps_rest : Kept Q (mem_start + (got + 1)) (mem_start + (got + 1) + (left - 1)) =
      λ m2 a written low high held. keeps m2 a written (omega arith) (omega arith) held in
      let rest = boot-all Q m1 (got + 1) (left - 1) next bytes size1 (omega arith) (omega arith) keeps_rest q1 in
      let count : got + 1 + (left - 1) ≡ got + left = omega arith in
      let place : mem_start + (got + 1) ≡ mem_start + got + 1 = omega arith in
      more (boot-one m got left byte (reaches m got size (omega arith)) (grind (arith, nat_tests)))
      (record { memory = m1; is = refl; fact = q1 }) (rw (count, place, joined) at rest)

  boot-begins : (m : List ℕ) (n : ℕ) → n == 0 ≡ false → n == 1 ≡ false → NodeDoes access k (Takes n) (in_reset m) (booting 0 n m)
  unfolding taken bootstrapped
  boot-begins m n not_poke not_peek = (refl, rw (not_poke, not_peek) refl)

  -- a bootstrap of 2 to 255 bytes is stored at MemStart, and runs
  pub boots : (Q : List ℕ → Type 0) (m : List ℕ) (n : ℕ) (bytes : List ℕ) → IsMemorySize (length m) → n ≡ length bytes → 2 ≤ n → n ≤ 255
      → Kept Q mem_start (mem_start + n) → Q m → Leads access space Q k (Takes n ∷ takes bytes) (in_reset m)
      (has_booted n (put m mem_start bytes))
  boots Q m n [] size is some few keeps q = absurd (omega arith)
  boots Q m n (byte ∷ bytes) size is some few keeps q =
      let same : 0 + n ≡ n = omega arith in
      more (boot-begins m n (grind (arith, nat_tests)) (grind (arith, nat_tests))) (record { memory = m; is = refl; fact = q })
      (rw same at (boot-all Q m 0 n byte bytes size is (omega arith) keeps q))
