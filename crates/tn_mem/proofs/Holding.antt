-- A memory, and a guarded memory, hold a memory.
use Rattle.std.proofs.Common.{◌≡◌, ℕ, List, length, Result, refl, ap, ◌∙◌}
use Rattle.tn_mem.specs.declared.touches.Touch.{Touch}
use Rattle.tn_mem.specs.Memories.{fetch, store_byte, load, store, test_block, copy_block, plain_access}
use Rattle.tn_mem.specs.Guards.{Guarded, unless_met, over, guarded}
use Rattle.tn_mem.specs.Inner.GuardLaws.{allowed-unless_met, unless_met-apart}
use Rattle.tn_mem.specs.Inner.AccessTests.{allows_word-reachable}
use Rattle.tn_mem.specs.Holdings.{HoldsMemory}
use Rattle.tn_mem.proofs.Allowed.{allowed-test_block, store_byte-allowed, store-allowed, copy_block-allowed}

-- memories of one length allow the same blocks
same_test : (m n : List ℕ) (a k : ℕ) → length m ≡ length n → test_block m a k ≡ test_block n a k
unfolding test_block
same_test m n a k sizes = rw sizes refl

pub plain_holds : HoldsMemory plain_access (λ (m : List ℕ). m) (λ (s : List ℕ) (m : List ℕ). m)
plain_holds =
    record {
      memory_of = λ s m. refl;
      over_own = λ s. refl;
      over_twice = λ s m n. refl;
      same_blocks = λ s m a n sizes. same_test m s a n sizes;
      allowed = λ s a n h. h;
      byte = λ s a h. refl;
      set_byte = λ s a v h. store_byte-allowed s a v (allowed-test_block s a 1 h);
      word = λ s a aligned h. refl;
      set_word = λ s a v aligned h. store-allowed s a v (allows_word-reachable (length s) a aligned (allowed-test_block s a 4 h));
      copy =
          λ s from to n source target. copy_block-allowed s from to n (allowed-test_block s from n source)
          (allowed-test_block s to n target);
    }

pub guarded_holds : HoldsMemory guarded (λ (s : Guarded). s.bytes) (λ (s : Guarded) (m : List ℕ). record s { bytes = m })
guarded_holds =
    record {
      memory_of = λ s m. refl;
      over_own = λ s. refl;
      over_twice = λ s m n. refl;
      same_blocks = λ s m a n sizes. ap (λ (r : Result (Unit {0}) Touch). unless_met s a n r) (same_test m s.bytes a n sizes);
      allowed = λ s a n h. (allowed-unless_met s a n (test_block s.bytes a n) tt h).1;
      byte = λ s a h. unless_met-apart s a 1 (fetch s.bytes a) (allowed-unless_met s a 1 (test_block s.bytes a 1) tt h).0;
      set_byte = λ s a v h.
          let apart = allowed-unless_met s a 1 (test_block s.bytes a 1) tt h in
          unless_met-apart s a 1 (over s (store_byte s.bytes a v)) apart.0 ∙ ap (over s) (plain_holds.set_byte s.bytes a v apart.1);
      word = λ s a aligned h. unless_met-apart s a 4 (load s.bytes a) (allowed-unless_met s a 4 (test_block s.bytes a 4) tt h).0;
      set_word = λ s a v aligned h.
          let apart = allowed-unless_met s a 4 (test_block s.bytes a 4) tt h in
          unless_met-apart s a 4 (over s (store s.bytes a v)) apart.0 ∙ ap (over s) (plain_holds.set_word s.bytes a v aligned apart.1);
      copy = λ s from to n source target.
          let source_apart = allowed-unless_met s from n (test_block s.bytes from n) tt source in
          let target_apart = allowed-unless_met s to n (test_block s.bytes to n) tt target in
          unless_met-apart s from n (unless_met s to n (over s (copy_block s.bytes from to n))) source_apart.0
          ∙ (unless_met-apart s to n (over s (copy_block s.bytes from to n)) target_apart.0
          ∙ ap (over s) (plain_holds.copy s.bytes from to n source_apart.1 target_apart.1));
    }
