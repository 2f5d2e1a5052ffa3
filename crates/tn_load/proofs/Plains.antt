-- Spaces that are plain: a memory, and any space that holds one and allows what the memory allows.
use Rattle.std.proofs.Common.{◌≡◌, ℕ, List, [], ◌∷◌, length, true, Ok, refl, ap, ◌∙◌, arith}
use Rattle.std.proofs.lemmas.Bool.Decides.{nat_tests}
use Rattle.tn_mem.specs.Spaces.{Access, IsSpace}
use Rattle.tn_mem.specs.Memories.{allows_word, allows_block, put, fetch, load, test_block, plain_access}
use Rattle.tn_load.proofs.AccessTests.{reachable-allows_word}
use Rattle.tn_mem.proofs.Allowed.{store_byte-allowed, store-allowed, test_block-allowed}
use Rattle.tn_mem.specs.Holdings.{HoldsMemory}
use Rattle.tn_load.specs.Inner.PlainSpaces.{IsPlainSpace}

pub plain_is_plain : IsPlainSpace plain_access (λ (m : List ℕ). m)
plain_is_plain =
    record {
      byte = λ m a h. refl;
      set_byte = λ m a v h. store_byte-allowed m a v h;
      word = λ m a h. refl;
      set_word = λ m a v h. store-allowed m a v h;
      block = λ m a n h. test_block-allowed m a n h;
      source = λ m a n h. test_block-allowed m a n h;
    }

-- a space that holds a memory, and allows each block that the memory allows
pub holds_is_plain : {M : Type 0} (access : Access M) (laws : IsSpace access) (memory : M → List ℕ) (over : M → List ℕ → M)
    → HoldsMemory access memory over → ((s : M) (a n : ℕ) → test_block (memory s) a n ≡ Ok tt → access.block s a n ≡ Ok tt) → (s : M)
    → IsPlainSpace access (over s)
holds_is_plain access laws memory over holds all s =
    record {
      byte = λ m a h. holds.byte (over s m) a (allows m a 1 (grind (arith, nat_tests))) ∙ ap (λ n. fetch n a) (holds.memory_of s m);
      set_byte = λ m a v h. holds.set_byte (over s m) a v (allows m a 1 (grind (arith, nat_tests)))
          ∙ rw (holds.memory_of s m, holds.over_twice s m (put m a (v ∷ []))) refl;
      word = λ m a h. holds.word (over s m) a (reachable-allows_word (length m) a h).0 (allows m a 4 (word m a h))
          ∙ ap (λ n. load n a) (holds.memory_of s m);
      set_word = λ m a v h. holds.set_word (over s m) a v (reachable-allows_word (length m) a h).0 (allows m a 4 (word m a h))
          ∙ rw (holds.memory_of s m, holds.over_twice s m _) refl;
      block = allows;
      source = λ m a n h. laws.source_of_block (over s m) a n (allows m a n h);
    }
  where
    word : (m : List ℕ) (a : ℕ) → allows_word (length m) a ≡ true → allows_block (length m) a 4 ≡ true
    word m a h = let r = (reachable-allows_word (length m) a h).1 in grind (arith, nat_tests)

    allows : (m : List ℕ) (a n : ℕ) → allows_block (length m) a n ≡ true → access.block (over s m) a n ≡ Ok tt
    allows m a n h = all (over s m) a n (rw (holds.memory_of s m) (test_block-allowed m a n h))
