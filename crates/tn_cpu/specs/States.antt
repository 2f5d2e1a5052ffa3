-- The state of a processor over a space of addresses.
use Rattle.std.specs.Prelude.{ℕ, ◌+◌, ◌-◌, ◌*◌, ◌/◌, ◌%◌, ◌^◌, Bool, Option, None, Some}
use Rattle.tn_word.specs.Words.{mem_start}
use Rattle.tn_cpu.specs.declared.registers.Reg.{Reg}
use Rattle.tn_cpu.specs.declared.registers.Reg.TheVariants.{Undefined, Word}
use Rattle.tn_cpu.specs.declared.outcomes.Life.{Life}
use Rattle.tn_cpu.specs.declared.outcomes.Life.TheVariants.{Running, Idle}

-- the memory; Areg, Breg and Creg; the operand register, the instruction pointer and the workspace
-- pointer; the front and the back of the queue; Error and HaltOnError; and whether it runs
pub record State (M : Type 0) : Type 0 where
  pub memory : M
  pub a : Reg
  pub b : Reg
  pub c : Reg
  pub oreg : ℕ
  pub iptr : ℕ
  pub wptr : ℕ
  pub front : Reg
  pub back : ℕ
  pub error : Bool
  pub halt : Bool
  pub life : Life

-- a number modulo 2 ^ 32
abbrev pub wrap : ℕ → ℕ
wrap n = n % 2 ^ 32

-- the address so many bytes below
abbrev pub below : ℕ → ℕ → ℕ
below a n = wrap (a + (2 ^ 32 - n))

-- the address so many words above
abbrev pub words_above : ℕ → ℕ → ℕ
words_above a n = wrap (a + 4 * n)

-- the first multiple of 4 at or above a number
abbrev pub aligned_up : ℕ → ℕ
aligned_up n = (n + 3) / 4 * 4

-- after power-up, with these values of Error and HaltOnError
abbrev pub powered_up : {M : Type 0} → M → Bool → Bool → State M
powered_up memory error halt =
    record {
      memory = memory;
      a = Undefined;
      b = Undefined;
      c = Undefined;
      oreg = 0;
      iptr = 0;
      wptr = 0;
      front = Undefined;
      back = 0;
      error = error;
      halt = halt;
      life = Idle;
    }

-- Areg, Breg and Creg undefined
abbrev pub cleared : {M : Type 0} → State M → State M
cleared s = record s { a = Undefined; b = Undefined; c = Undefined }

-- after a bootstrap of so many bytes: it runs from MemStart, its workspace behind its bytes
abbrev pub booted : {M : Type 0} → ℕ → State M → State M
booted bytes s = cleared (record s { oreg = 0; iptr = mem_start; wptr = aligned_up (mem_start + bytes); front = Undefined; life = Running })

-- the same processor over another memory
abbrev pub over_memory : {M N : Type 0} → N → State M → State N
over_memory memory s =
    record {
      memory = memory;
      a = s.a;
      b = s.b;
      c = s.c;
      oreg = s.oreg;
      iptr = s.iptr;
      wptr = s.wptr;
      front = s.front;
      back = s.back;
      error = s.error;
      halt = s.halt;
      life = s.life;
    }

-- ---- the stack of three registers

-- a word on top
abbrev pub pushed : {M : Type 0} → ℕ → State M → State M
pushed word s = record s { a = Word word; b = s.a; c = s.b }

-- the top taken away
abbrev pub popped : {M : Type 0} → State M → State M
popped s = record s { a = s.b; b = s.c; c = Undefined }

-- the upper two taken away
abbrev pub popped_twice : {M : Type 0} → State M → State M
popped_twice s = record s { a = s.c; b = Undefined; c = Undefined }

-- a value in place of the upper two
abbrev pub joined : {M : Type 0} → Reg → State M → State M
joined value s = record s { a = value; b = s.c; c = Undefined }

-- a word in place of the top
abbrev pub replaced : {M : Type 0} → ℕ → State M → State M
replaced word s = record s { a = Word word }

-- two words in place of all three
abbrev pub filled : {M : Type 0} → ℕ → ℕ → State M → State M
filled a b s = record s { a = Word a; b = Word b; c = Undefined }

-- the register that holds a result, which may be undefined
abbrev pub register_of : Option ℕ → Reg
register_of (Some word) = Word word
register_of None = Undefined

-- what a register is stored as by a row that doesn't read it
abbrev pub word_or_0 : Reg → ℕ
word_or_0 (Word word) = word
word_or_0 Undefined = 0
