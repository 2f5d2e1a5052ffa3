-- A processor over bytes beside one over whole items, whose memory guards the code.
use Rattle.std.specs.Prelude.{◌≡◌, ℕ, ◌+◌, ◌≤◌, ℤ, Bool, false, List, take, length, Option, Some, None, Result, Ok, Err}
use Rattle.std.specs.Int.{w32}
use Rattle.std.specs.Int.RustNames.{FitsSigned}
use Rattle.tn_isa.specs.declared.functions.Fun.{Fun}
use Rattle.tn_mem.specs.declared.touches.Touch.{Touch}
use Rattle.tn_mem.specs.Memories.{plain_access}
use Rattle.tn_mem.specs.Guards.{Guarded, guarded}
use Rattle.tn_isa.specs.OperandRegister.{is_prefix, IsCoded, function_of, register_after}
use Rattle.tn_prefix.specs.Coding.{coding}
use Rattle.tn_prefix.specs.Operand.{word_of}
use Rattle.tn_cpu.specs.declared.outcomes.Why.{Why}
use Rattle.tn_cpu.specs.declared.outcomes.Why.TheVariants.{Stray}
use Rattle.tn_cpu.specs.declared.outcomes.Outcome.TheVariants.{Stopped}
use Rattle.tn_cpu.specs.States.{State, wrap, over_memory}
use Rattle.tn_cpu.specs.Turns.{Ended, stopped}
use Rattle.tn_cpu.specs.Codes.{StandsAt, placed}
use Rattle.tn_cpu.specs.Effects.{effect}
use Rattle.tn_cpu.specs.Following.{ended_over}
use Rattle.tn_sym.specs.Inner.Covers.{Covers}

-- a function with its operand, coded in a region of a memory from an address on
pub record IsItem (code : List ℕ) (from to : ℕ) (f : Fun) (e : ℤ) (a : ℕ) : Type 0 where
  pub fits : FitsSigned w32 e
  pub coded : IsCoded f
  pub low : from ≤ a
  pub high : a + length (coding f e) ≤ to
  pub bytes : StandsAt plain_access code a (coding f e)

-- what begins at an address, if anything does, is an item there
abbrev pub AreItems : List ℕ → ℕ → ℕ → (ℕ → Option (Fun × ℤ)) → Type 0
AreItems code from to items = (a : ℕ) (f : Fun) (e : ℤ) → items a ≡ Some (f, e) → IsItem code from to f e a

-- the first k bytes of the coding of f with e have been read
abbrev pub reading : {M : Type 0} → Fun → ℤ → ℕ → State M → State M
reading f e k s = placed (register_after 0 (take k (coding f e))) (wrap (s.iptr + k)) s

-- a whole item, where one begins at the instruction pointer
abbrev pub item_step : Option (Fun × ℤ) → ℕ → Bool → ℕ → State Guarded → Ended Guarded
item_step None busy slice clock u = stopped Stray u
item_step (Some item) busy slice clock u =
    effect guarded item.0 (word_of item.1)
    (record { following = wrap (u.iptr + length (coding item.0 item.1)); busy = busy; slice = slice; clock = clock }) u

-- the byte at the instruction pointer is a prefix
abbrev pub is_prefix_byte : Result ℕ Touch → Bool
is_prefix_byte (Ok byte) = is_prefix (function_of byte)
is_prefix_byte (Err touch) = false

-- a running processor over bytes has read k bytes of the item at which the other one stands, less
-- than all of it. Where none begins there, it may stand anywhere
abbrev pub StandsAs : Option (Fun × ℤ) → State (List ℕ) → List ℕ → State Guarded → Type 0
StandsAs None s m u = (oreg : ℕ) × (iptr : ℕ) × (s ≡ placed oreg iptr (over_memory m u))
StandsAs (Some item) s m u = (k : ℕ) × (k + 1 ≤ length (coding item.0 item.1)) × (s ≡ reading item.0 item.1 k (over_memory m u))

pub record SameRunning (code : List ℕ) (from to : ℕ) (items : ℕ → Option (Fun × ℤ)) (s : State (List ℕ)) (u : State Guarded) : Type 0 where
  pub memory : List ℕ
  pub covers : Covers code from to memory u.memory
  pub clear : u.oreg ≡ 0
  pub stands : StandsAs (items u.iptr) s memory u

-- what a byte step made that was no prefix, where the other processor takes a whole item: that one
-- stops, or both did the same
pub data ItemFollows (code : List ℕ) (from to : ℕ) (r : Ended (List ℕ)) (g : Ended Guarded) : Type 0 where
  stops : (why : Why) → g.outcome ≡ Stopped why → ItemFollows code from to r g
  goes :
      (memory : List ℕ) → Covers code from to memory g.state.memory → g.state.oreg ≡ 0 → r ≡ ended_over memory g
      → ItemFollows code from to r g
