-- A memory with a region of addresses that no access may meet.
use Rattle.std.specs.Prelude.{ℕ, ◌+◌, Bool, nat_lt, min, max, if◌then◌else◌, List, Result, Ok, Err}
use Rattle.tn_mem.specs.declared.touches.Touch.{Touch}
use Rattle.tn_mem.specs.declared.touches.Touch.TheVariants.{Code}
use Rattle.tn_mem.specs.Spaces.{Access}
use Rattle.tn_mem.specs.Memories.{fetch, store_byte, load, store, test_block, copy_block}

-- the bytes of a memory, and the region from one address up to, but not including, another
pub record Guarded : Type 0 where
  pub bytes : List ℕ
  pub from : ℕ
  pub to : ℕ

-- some byte of the n bytes at an address lies in a region
abbrev pub meets : ℕ → ℕ → ℕ → ℕ → Bool
meets from to a n = nat_lt (max from a) (min to (a + n))

-- what an access of n bytes answers: Code where the memory allows it and it meets the region
abbrev pub unless_met : {X : Type 0} → Guarded → ℕ → ℕ → Result X Touch → Result X Touch
unless_met s a n (Ok x) = if meets s.from s.to a n then Err Code else Ok x
unless_met s a n (Err touch) = Err touch

-- the same region over the memory that a store leaves
abbrev pub over : Guarded → Result (List ℕ) Touch → Result Guarded Touch
over s (Ok bytes) = Ok (record s { bytes = bytes })
over s (Err touch) = Err touch

-- what each access of a guarded memory answers
abbrev pub guarded : Access Guarded
guarded =
    record {
      byte = λ s a. unless_met s a 1 (fetch s.bytes a);
      set_byte = λ s a v. unless_met s a 1 (over s (store_byte s.bytes a v));
      word = λ s a. unless_met s a 4 (load s.bytes a);
      set_word = λ s a v. unless_met s a 4 (over s (store s.bytes a v));
      block = λ s a n. unless_met s a n (test_block s.bytes a n);
      source = λ s a n. unless_met s a n (test_block s.bytes a n);
      copy = λ s from to n. unless_met s from n (unless_met s to n (over s (copy_block s.bytes from to n)));
    }
