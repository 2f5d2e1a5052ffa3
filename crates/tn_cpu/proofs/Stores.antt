-- The memory that a row leaves comes of stores that the space allowed.
use Rattle.std.proofs.Common.{◌≡◌, ℕ, ◌==◌, Bool, true, false, Result, Ok, Err, refl}
use Rattle.std.specs.Prelude.{if◌then◌else◌, ◌&&◌}
use Rattle.std.specs.Result.{result_unwrap_or}
use Rattle.tn_mem.specs.declared.touches.Touch.{Touch}
use Rattle.tn_mem.specs.Spaces.{Access, SameExtents, IsSpace}
use Rattle.tn_mem.proofs.SpaceLemmas.{extents-none, extents-more}
use Rattle.tn_word.specs.Words.{not_process}
use Rattle.tn_cpu.specs.declared.registers.Reg.{Reg}
use Rattle.tn_cpu.specs.declared.registers.Reg.TheVariants.{Undefined, Word}
use Rattle.tn_cpu.specs.declared.channels.Way.{Way}
use Rattle.tn_cpu.specs.declared.channels.Way.TheVariants.{Input, Output}
use Rattle.tn_cpu.specs.States.{State, below}
use Rattle.tn_cpu.specs.Queues.{stored, copied, enqueued_behind, enqueued, next_from, next, timesliced, is_waiting}
use Rattle.tn_cpu.specs.Channels.{exchanged}

-- one memory is another after stores
pub data Stores {M : Type 0} (access : Access M) : M → M → Type 0 where
  no_store : {m : M} → Stores access m m
  then_byte : {m n k : M} {a v : ℕ} → Stores access m n → access.set_byte n a v ≡ Ok k → Stores access m k
  then_word : {m n k : M} {a v : ℕ} → Stores access m n → access.set_word n a v ≡ Ok k → Stores access m k
  then_copy : {m n k : M} {from to count : ℕ} → Stores access m n → access.copy n from to count ≡ Ok k → Stores access m k

module _ {M : Type 0} (access : Access M) (m : M) where
  pub byte-set : (n : M) (a v : ℕ) → access.set_byte m a v ≡ Ok n → Stores access m n
  byte-set n a v e = then_byte no_store e

  pub word-set : (n : M) (a v : ℕ) → access.set_word m a v ≡ Ok n → Stores access m n
  word-set n a v e = then_word no_store e

  pub block-copied : (n : M) (from to count : ℕ) → access.copy m from to count ≡ Ok n → Stores access m n
  block-copied n from to count e = then_copy no_store e

  pub stores-stored : (n : M) (a v : ℕ) → Stores access m n → Stores access m (stored access n a v)
  unfolding stored
  stores-stored n a v h = made (access.set_word n a v) refl
    where
      made : (r : Result M Touch) → access.set_word n a v ≡ r → Stores access m (result_unwrap_or r n)
      made (Ok k) e = then_word h e
      made (Err touch) e = h

  pub stores-copied : (n : M) (from to count : ℕ) → Stores access m n → Stores access m (copied access n from to count)
  unfolding copied
  stores-copied n from to count h = made (access.copy n from to count) refl
    where
      made : (r : Result M Touch) → access.copy n from to count ≡ r → Stores access m (result_unwrap_or r n)
      made (Ok k) e = then_copy h e
      made (Err touch) e = h

  pub stores-either : (test : Bool) (n k : M) → Stores access m n → Stores access m k → Stores access m (if test then n else k)
  stores-either true n k h g = h
  stores-either false n k h g = g

  pub stores-exchanged :
      (way : Way) (count pointer partner : ℕ) (n : M) → Stores access m n → Stores access m (exchanged access way count pointer partner n)
  stores-exchanged Input count pointer partner n h = stores-copied n partner pointer count h
  stores-exchanged Output count pointer partner n h = stores-copied n pointer partner count h

  pub stores-enqueued : (process : ℕ) (s : State M) → Stores access m s.memory → Stores access m (enqueued access process s).memory
  unfolding enqueued
  stores-enqueued process s h = by_front s.front
    where
      by_test :
          (test : Bool) (x y : State M) → Stores access m x.memory → Stores access m y.memory
          → Stores access m (if test then x else y).memory
      by_test true x y h g = h
      by_test false x y h g = g

      by_front : (front : Reg) → Stores access m (enqueued_behind access front process s).memory
      by_front Undefined = h
      by_front (Word front) = by_test (front == not_process) _ _ h (stores-stored s.memory (below s.back 8) process h)

  pub stores-next : (s : State M) → Stores access m s.memory → Stores access m (next access s).memory
  unfolding next
  stores-next s h = by_front s.front
    where
      by_test :
          (test : Bool) (x y : State M) → Stores access m x.memory → Stores access m y.memory
          → Stores access m (if test then x else y).memory
      by_test true x y h g = h
      by_test false x y h g = g

      by_front : (front : Reg) → Stores access m (next_from access front s).memory
      by_front Undefined = h
      by_front (Word front) = by_test (front == not_process) _ _ h h

  pub stores-timesliced : (slice : Bool) (s : State M) → Stores access m s.memory → Stores access m (timesliced access slice s).memory
  unfolding timesliced
  stores-timesliced slice s h =
      by_test (is_waiting s.front && slice) _ _
      (stores-next _ (stores-enqueued s.wptr _ (stores-stored s.memory (below s.wptr 4) s.iptr h))) h
    where
      by_test :
          (test : Bool) (x y : State M) → Stores access m x.memory → Stores access m y.memory
          → Stores access m (if test then x else y).memory
      by_test true x y h g = h
      by_test false x y h g = g

-- no store changes what is refused
pub extents-stores : {M : Type 0} (access : Access M) (m n : M) → IsSpace access → Stores access m n → SameExtents access m n
extents-stores access m n laws no_store = extents-none access m
extents-stores access m n laws (then_byte {n = k} {a = a} {v = v} h e) = extents-more access m k n (extents-stores access m k laws h)
    (laws.set_byte_keeps k n a v e)
extents-stores access m n laws (then_word {n = k} {a = a} {v = v} h e) = extents-more access m k n (extents-stores access m k laws h)
    (laws.set_word_keeps k n a v e)
extents-stores access m n laws (then_copy {n = k} {from = from} {to = to} {count = count} h e) = extents-more access m k n
    (extents-stores access m k laws h) (laws.copy_keeps k n from to count e)
