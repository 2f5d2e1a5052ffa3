-- Of which kind the refusals are that the tests of a row can give.
use Rattle.std.proofs.Common.{◌≡◌, ℕ, ◌==◌, Bool, true, false, Option, Some, None, Result, Ok, Err, refl}
use Rattle.std.specs.Prelude.{⊤, if◌then◌else◌, ◌&&◌, ◌%◌}
use Rattle.std.specs.Result.{result_err}
use Rattle.tn_mem.specs.declared.touches.Touch.{Touch}
use Rattle.tn_mem.specs.declared.touches.Touch.TheVariants.{Outside, Code}
use Rattle.tn_mem.specs.Spaces.{Access, first_refusal}
use Rattle.tn_mem.specs.Memories.{plain_access, answer_if, fetch, store_byte, load, store, test_block, copy_block}
use Rattle.tn_word.specs.Words.{not_process}
use Rattle.tn_cpu.specs.declared.registers.Reg.{Reg}
use Rattle.tn_cpu.specs.declared.registers.Reg.TheVariants.{Undefined, Word}
use Rattle.tn_cpu.specs.declared.channels.Way.{Way}
use Rattle.tn_cpu.specs.declared.channels.Way.TheVariants.{Input, Output}
use Rattle.tn_cpu.specs.States.{State, below, words_above}
use Rattle.tn_cpu.specs.Queues.{storable, loadable, block_refusal, source_refusal, word_at, or_then, is_waiting, enqueue_refusal}
use Rattle.tn_cpu.specs.Queues.{next_refusal, slice_refusal}
use Rattle.tn_cpu.specs.Channels.{bytes_refusal, other_way, partner_refusal}
use Rattle.tn_cpu.specs.Rows.{is_loop_taken, loop_refusal}

-- each refusal of an answer is of a kind
abbrev pub Answers : {X : Type 0} → (Touch → Type 0) → Result X Touch → Type 0
Answers Kind (Ok x) = ⊤
Answers Kind (Err touch) = Kind touch

-- so is a refusal among the tests of a row, if there is one
abbrev IsOfKind : (Touch → Type 0) → Option Touch → Type 0
IsOfKind Kind None = ⊤
IsOfKind Kind (Some touch) = Kind touch

pub record Refuses (Kind : Touch → Type 0) (r : Option Touch) : Type 0 where
  pub is : IsOfKind Kind r

-- so are all refusals of a space, that of an unaligned address among them
pub record AllRefusals {M : Type 0} (access : Access M) (Kind : Touch → Type 0) : Type 0 where
  pub outside : Kind Outside
  pub byte : (m : M) (a : ℕ) → Answers Kind (access.byte m a)
  pub set_byte : (m : M) (a v : ℕ) → Answers Kind (access.set_byte m a v)
  pub word : (m : M) (a : ℕ) → Answers Kind (access.word m a)
  pub set_word : (m : M) (a v : ℕ) → Answers Kind (access.set_word m a v)
  pub block : (m : M) (a n : ℕ) → Answers Kind (access.block m a n)
  pub source : (m : M) (a n : ℕ) → Answers Kind (access.source m a n)
  pub copy : (m : M) (from to n : ℕ) → Answers Kind (access.copy m from to n)

module _ (Kind : Touch → Type 0) where
  none : Refuses Kind None
  none = record { is = tt }

  err : {X : Type 0} (r : Result X Touch) → Answers Kind r → Refuses Kind (result_err r)
  err (Ok x) h = record { is = tt }
  err (Err touch) h = record { is = h }

  pub both : (one other : Option Touch) → Refuses Kind one → Refuses Kind other → Refuses Kind (first_refusal one other)
  both (Some Outside) other h g = record { is = h.is }
  both (Some Code) (Some Outside) h g = record { is = g.is }
  both (Some Code) (Some Code) h g = record { is = h.is }
  both (Some Code) None h g = record { is = h.is }
  both None other h g = g

  in_turn : (one other : Option Touch) → Refuses Kind one → Refuses Kind other → Refuses Kind (or_then one other)
  in_turn (Some touch) other h g = record { is = h.is }
  in_turn None other h g = g

  either : (test : Bool) (one other : Option Touch) → Refuses Kind one → Refuses Kind other → Refuses Kind (if test then one else other)
  either true one other h g = h
  either false one other h g = g

module _ {M : Type 0} (access : Access M) (Kind : Touch → Type 0) (refusals : AllRefusals access Kind) where
  pub byte_answers : (m : M) (a : ℕ) → Answers Kind (access.byte m a)
  byte_answers = refusals.byte

  pub set_byte_answers : (m : M) (a v : ℕ) → Answers Kind (access.set_byte m a v)
  set_byte_answers = refusals.set_byte

  pub word_answers : (m : M) (a : ℕ) → Answers Kind (access.word m a)
  word_answers = refusals.word

  pub set_word_answers : (m : M) (a v : ℕ) → Answers Kind (access.set_word m a v)
  set_word_answers = refusals.set_word

  pub copy_answers : (m : M) (from to n : ℕ) → Answers Kind (access.copy m from to n)
  copy_answers = refusals.copy

  pub storable_refuses : (m : M) (a : ℕ) → Refuses Kind (storable access m a)
  unfolding storable
  storable_refuses m a = either Kind (a % 4 == 0) _ _ (err Kind _ (refusals.block m a 4)) (record { is = refusals.outside })

  pub loadable_refuses : (m : M) (a : ℕ) → Refuses Kind (loadable access m a)
  unfolding loadable
  loadable_refuses m a = err Kind _ (refusals.word m a)

  pub bytes_refuse : (way : Way) (m : M) (a n : ℕ) → Refuses Kind (bytes_refusal access way m a n)
  unfolding block_refusal source_refusal
  bytes_refuse Input m a n = err Kind _ (refusals.block m a n)
  bytes_refuse Output m a n = err Kind _ (refusals.source m a n)

  pub enqueue_refuses : (m : M) (front : Reg) (back : ℕ) → Refuses Kind (enqueue_refusal access m front back)
  unfolding enqueue_refusal
  enqueue_refuses m Undefined back = none Kind
  enqueue_refuses m (Word front) back = either Kind (front == not_process) _ _ (none Kind) (storable_refuses m (below back 8))

  pub next_refuses : (m : M) (front : Reg) (back : ℕ) → Refuses Kind (next_refusal access m front back)
  unfolding next_refusal
  next_refuses m Undefined back = none Kind
  next_refuses m (Word front) back =
      either Kind (front == not_process) _ _ (none Kind)
      (both Kind _ _ (loadable_refuses m (below front 4))
      (either Kind (front == back) _ _ (none Kind) (loadable_refuses m (below front 8))))

  pub slice_refuses : (slice : Bool) (s : State M) → Refuses Kind (slice_refusal access slice s)
  unfolding slice_refusal
  slice_refuses slice s =
      either Kind (is_waiting s.front && slice) _ _
      (both Kind _ _ (storable_refuses s.memory (below s.wptr 4))
      (both Kind _ _ (enqueue_refuses s.memory s.front s.back) (next_refuses s.memory s.front s.wptr)))
      (none Kind)

  pub loop_refuses : (w : ℕ) (m : M) → Refuses Kind (loop_refusal access w m)
  loop_refuses w m =
      in_turn Kind _ _ (storable_refuses m (words_above w 1))
      (either Kind (is_loop_taken (word_at access m (words_above w 1))) _ _ (storable_refuses m w) (none Kind))

  pub partner_refuses : (way : Way) (m : M) (process count : ℕ) → Refuses Kind (partner_refusal access way m process count)
  partner_refuses way m process count =
      in_turn Kind _ _ (loadable_refuses m (below process 12)) (bytes_refuse (other_way way) m (word_at access m (below process 12)) count)

-- any refusal is one
pub any_refusal : {M : Type 0} (access : Access M) → AllRefusals access (λ touch. ⊤)
any_refusal access =
    record {
      outside = tt;
      byte = λ m a. any (access.byte m a);
      set_byte = λ m a v. any (access.set_byte m a v);
      word = λ m a. any (access.word m a);
      set_word = λ m a v. any (access.set_word m a v);
      block = λ m a n. any (access.block m a n);
      source = λ m a n. any (access.source m a n);
      copy = λ m from to n. any (access.copy m from to n);
    }
  where
    any : {X : Type 0} (r : Result X Touch) → Answers (λ touch. ⊤) r
    any (Ok x) = tt
    any (Err touch) = tt

-- a memory with no guarded region refuses no access for one
abbrev pub IsOutside : Touch → Type 0
IsOutside touch = touch ≡ Outside

pub outside_refusals : AllRefusals plain_access IsOutside
unfolding fetch store_byte load store test_block copy_block
outside_refusals =
    record {
      outside = refl;
      byte = λ m a. if_outside _ _;
      set_byte = λ m a v. if_outside _ _;
      word = λ m a. if_outside _ _;
      set_word = λ m a v. if_outside _ _;
      block = λ m a n. if_outside _ _;
      source = λ m a n. if_outside _ _;
      copy = λ m from to n. if_outside _ _;
    }
  where
    if_outside : {X : Type 0} (test : Bool) (x : X) → Answers IsOutside (answer_if test x)
    if_outside true x = tt
    if_outside false x = refl
