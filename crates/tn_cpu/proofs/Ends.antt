-- Laws of all turns.
use Rattle.std.proofs.Common.{◌≡◌, ◌≢◌, ℕ, ◌==◌, Bool, true, false, List, Ok, Err, Result, refl, sym, ap, subst, ◌∙◌}
use Rattle.std.specs.Prelude.{⊤, if◌then◌else◌, ◌&&◌}
use Rattle.tn_mem.specs.declared.touches.Touch.{Touch}
use Rattle.tn_mem.specs.declared.touches.Touch.TheVariants.{Outside, Code}
use Rattle.tn_mem.specs.Spaces.{Access, IsSpace}
use Rattle.tn_mem.specs.Memories.{plain_access}
use Rattle.tn_mem.proofs.SpaceLemmas.{extents-none}
use Rattle.tn_isa.specs.declared.functions.Fun.{Fun}
use Rattle.tn_isa.specs.OperandRegister.{is_prefix, function_of, loaded}
use Rattle.tn_word.specs.Words.{not_process}
use Rattle.tn_cpu.specs.declared.registers.Reg.{Reg}
use Rattle.tn_cpu.specs.declared.registers.Reg.TheVariants.{Undefined, Word}
use Rattle.tn_cpu.specs.declared.outcomes.Why.TheVariants.{Code as WhyCode, Stray}
use Rattle.tn_cpu.specs.declared.outcomes.Transfer.{Transfer}
use Rattle.tn_cpu.specs.declared.outcomes.Outcome.{Outcome}
use Rattle.tn_cpu.specs.declared.outcomes.Outcome.TheVariants.{Prefix, Ran, OpensIn, OpensOut, Stopped}
use Rattle.tn_cpu.specs.declared.channels.Way.{Way}
use Rattle.tn_cpu.specs.declared.channels.Way.TheVariants.{Input, Output}
use Rattle.tn_cpu.specs.declared.turns.Turn.{Turn}
use Rattle.tn_cpu.specs.States.{State, below}
use Rattle.tn_cpu.specs.Turns.{Ended, stopped, why_of, goes_on, with_answer}
use Rattle.tn_cpu.specs.Queues.{is_waiting, enqueued, enqueued_behind, next_from, next, saved, timesliced}
use Rattle.tn_cpu.specs.Channels.{opens}
use Rattle.tn_cpu.specs.Effects.{effect}
use Rattle.tn_cpu.specs.Steps.{executed, execute_byte, step}
use Rattle.tn_cpu.specs.Codes.{changes_nothing, StopsAlone}
use Rattle.tn_cpu.specs.TurnEnds.{IsOpening, ByOutcome, EndsTurn}
use Rattle.tn_cpu.specs.OutcomeLaws.{OpensLink, IsNotStray}
use Rattle.tn_cpu.proofs.Refusals.{Answers, IsOutside, any_refusal, outside_refusals}
use Rattle.tn_cpu.proofs.Stores.{Stores, stores-stored, stores-next, stores-timesliced, extents-stores}
use Rattle.tn_cpu.proofs.Stores.Stores.{no_store}
use Rattle.tn_cpu.proofs.TurnLaws.{TurnLaw, effect-law}

module _ {M : Type 0} (access : Access M) where
  chosen-clear : (test : Bool) (x y : State M) → x.oreg ≡ 0 → y.oreg ≡ 0 → (if test then x else y).oreg ≡ 0
  chosen-clear true x y h g = h
  chosen-clear false x y h g = g

  -- the next process begins with a clear operand register
  next-clear : (front : ℕ) (s : State M) → s.front ≡ Word front → (next access s).oreg ≡ 0
  unfolding next
  next-clear front s is = ap (λ (r : Reg). (next_from access r s).oreg) is ∙ chosen-clear (front == not_process) _ _ refl refl

  -- a queue that is defined stays so
  record HasFront (s : State M) : Type 0 where
    front : ℕ
    is : s.front ≡ Word front

  chosen-front : (test : Bool) (x y : State M) → HasFront x → HasFront y → HasFront (if test then x else y)
  chosen-front true x y h g = h
  chosen-front false x y h g = g

  enqueued-front : (process front : ℕ) (s : State M) → s.front ≡ Word front → HasFront (enqueued access process s)
  unfolding enqueued
  enqueued-front process front s is =
      subst (λ (r : Reg). HasFront (enqueued_behind access r process s)) (sym is)
      (chosen-front (front == not_process) _ _ (record { front = process; is = refl }) (record { front = front; is = is }))

  undefined-clear : (slice : Bool) (s : State M) → s.oreg ≡ 0 → s.front ≡ Undefined → (timesliced access slice s).oreg ≡ 0
  unfolding timesliced
  undefined-clear slice s clear is = rw is clear

  word-clear : (slice : Bool) (front : ℕ) (s : State M) → s.oreg ≡ 0 → s.front ≡ Word front → (timesliced access slice s).oreg ≡ 0
  unfolding timesliced
  word-clear slice front s clear is =
      let queue = enqueued-front s.wptr front (saved access s.iptr s) is in
      chosen-clear (is_waiting s.front && slice) _ _ (next-clear queue.front _ queue.is) clear

  -- and the one that goes on, or that takes its turn
  sliced-clear : (slice : Bool) (s : State M) → s.oreg ≡ 0 → (timesliced access slice s).oreg ≡ 0
  sliced-clear slice s clear = by_front s.front refl
    where
      by_front : (r : Reg) → s.front ≡ r → (timesliced access slice s).oreg ≡ 0
      by_front Undefined is = undefined-clear slice s clear is
      by_front (Word front) is = word-clear slice front s clear is

-- what the outcome of a turn tells
record TellsOutcome {M : Type 0} (access : Access M) (busy : ℕ) (s : State M) (ended : Ended M) : Type 0 where
  outcome : ByOutcome access busy s ended.state ended.outcome

why-not_stray : (touch : Touch) → why_of touch ≢ Stray
why-not_stray Outside e = cc
why-not_stray Code e = cc

module _ {M : Type 0} (access : Access M) (t : Turn) (s : State M) where
  opening-tells :
      (way : Way) (transfer : Transfer) (u : State M) → IsOpening access t.busy s way transfer → u.oreg ≡ 0
      → TellsOutcome access t.busy s (record { state = u; outcome = opens way transfer })
  opening-tells Input transfer u opening clear = record { outcome = (opening, clear) }
  opening-tells Output transfer u opening clear = record { outcome = (opening, clear) }

  tells : TurnLaw access (λ touch. ⊤) t s (TellsOutcome access t.busy s)
  tells =
      record {
        undefined = record { outcome = (refl, λ e. cc) };
        outside = record { outcome = (refl, λ e. cc) };
        halted = record { outcome = (refl, λ e. cc) };
        bad_op = record { outcome = (refl, λ e. cc) };
        refused = λ touch kind. record { outcome = (refl, why-not_stray touch) };
        ran = λ at u stores. record { outcome = refl };
        gave_way = λ front u is stores. record { outcome = next-clear access front u is };
        sliced = λ at u stores. record { outcome = sliced-clear access t.slice (goes_on at u) refl };
        opened = λ way front transfer is opening.
            opening-tells way transfer (next access (saved access t.following s)) opening
            (next-clear access front (saved access t.following s) is);
      }

  pub effect-tells : (fun : Fun) (e : ℕ) → ByOutcome access t.busy s (effect access fun e t s).state (effect access fun e t s).outcome
  effect-tells fun e = (effect-law access (λ touch. ⊤) (any_refusal access) t s (TellsOutcome access t.busy s) tells fun e).outcome

  -- the memory that a turn leaves comes of stores
  record LeavesStores (ended : Ended M) : Type 0 where
    stores : Stores access s.memory ended.state.memory

  leaves : TurnLaw access (λ touch. ⊤) t s LeavesStores
  leaves =
      record {
        undefined = record { stores = no_store };
        outside = record { stores = no_store };
        halted = record { stores = no_store };
        bad_op = record { stores = no_store };
        refused = λ touch kind. record { stores = no_store };
        ran = λ at u stores. record { stores = stores };
        gave_way = λ front u is stores. record { stores = stores-next access s.memory u stores };
        sliced = λ at u stores. record { stores = stores-timesliced access s.memory t.slice (goes_on at u) stores };
        opened = λ way front transfer is opening.
            record {
              stores = stores-next access s.memory (saved access t.following s)
                  (stores-stored access s.memory s.memory (below s.wptr 4) t.following no_store);
            };
      }

  pub effect-stores : (fun : Fun) (e : ℕ) → Stores access s.memory (effect access fun e t s).state.memory
  effect-stores fun e = (effect-law access (λ touch. ⊤) (any_refusal access) t s LeavesStores leaves fun e).stores

  pub effect-ends : (fun : Fun) (e : ℕ) → IsSpace access → EndsTurn access t.busy s (effect access fun e t s)
  effect-ends fun e laws =
      record {
        outcome = effect-tells fun e;
        extents = extents-stores access s.memory (effect access fun e t s).state.memory laws (effect-stores fun e);
      }

  -- no function but pfix and nfix makes an operand
  never-prefix : TurnLaw access (λ touch. ⊤) t s (λ (ended : Ended M). ended.outcome ≢ Prefix)
  never-prefix =
      record {
        undefined = λ e. cc;
        outside = λ e. cc;
        halted = λ e. cc;
        bad_op = λ e. cc;
        refused = λ touch kind e. cc;
        ran = λ at u stores e. cc;
        gave_way = λ front u is stores e. cc;
        sliced = λ at u stores e. cc;
        opened = λ way front transfer is opening. opens-not_prefix way transfer;
      }
    where
      opens-not_prefix : (way : Way) (transfer : Transfer) → opens way transfer ≢ Prefix
      opens-not_prefix Input transfer e = cc
      opens-not_prefix Output transfer e = cc

  pub effect-not_prefix : (fun : Fun) (e : ℕ) → (effect access fun e t s).outcome ≢ Prefix
  effect-not_prefix fun e =
      effect-law access (λ touch. ⊤) (any_refusal access) t s (λ (ended : Ended M). ended.outcome ≢ Prefix) never-prefix fun e

-- a memory with no guarded region refuses no access for one
why-not_code : (touch : Touch) → touch ≡ Outside → Stopped (why_of touch) ≢ Stopped WhyCode
why-not_code Outside kind e = cc
why-not_code Code kind e = cc

module _ (t : Turn) (s : State (List ℕ)) where
  never-code : TurnLaw plain_access IsOutside t s (λ (ended : Ended (List ℕ)). ended.outcome ≢ Stopped WhyCode)
  never-code =
      record {
        undefined = λ e. cc;
        outside = λ e. cc;
        halted = λ e. cc;
        bad_op = λ e. cc;
        refused = λ touch kind. why-not_code touch kind;
        ran = λ at u stores e. cc;
        gave_way = λ front u is stores e. cc;
        sliced = λ at u stores e. cc;
        opened = λ way front transfer is opening. opens-not_code way transfer;
      }
    where
      opens-not_code : (way : Way) (transfer : Transfer) → opens way transfer ≢ Stopped WhyCode
      opens-not_code Input transfer e = cc
      opens-not_code Output transfer e = cc

  pub effect-not_code : (fun : Fun) (e : ℕ) → (effect plain_access fun e t s).outcome ≢ Stopped WhyCode
  effect-not_code fun e =
      effect-law plain_access IsOutside outside_refusals t s (λ (ended : Ended (List ℕ)). ended.outcome ≢ Stopped WhyCode) never-code fun e

-- ---- a byte

pub refused-ends :
    {M : Type 0} (access : Access M) (busy : ℕ) (s : State M) (touch : Touch) → EndsTurn access busy s (stopped (why_of touch) s)
refused-ends access busy s touch = record { outcome = (refl, why-not_stray touch); extents = extents-none access s.memory }

module _ {M : Type 0} (access : Access M) (busy : ℕ) (slice : Bool) (clock : ℕ) (s : State M) where
  executed-ends : (is_one : Bool) (byte : ℕ) → IsSpace access → EndsTurn access busy s (executed access is_one byte busy slice clock s)
  executed-ends true byte laws = record { outcome = refl; extents = extents-none access s.memory }
  executed-ends false byte laws = effect-ends access _ s (function_of byte) (loaded s.oreg byte) laws

  pub execute_byte-ends : (byte : ℕ) → IsSpace access → EndsTurn access busy s (execute_byte access byte busy slice clock s)
  unfolding execute_byte
  execute_byte-ends byte laws = executed-ends (is_prefix (function_of byte)) byte laws

  pub step-ends : IsSpace access → EndsTurn access busy s (step access busy slice clock s)
  unfolding step
  step-ends laws = by_answer (access.byte s.memory s.iptr)
    where
      by_answer : (r : Result ℕ Touch) → EndsTurn access busy s (with_answer r s (λ byte. execute_byte access byte busy slice clock s))
      by_answer (Ok byte) = execute_byte-ends byte laws
      by_answer (Err touch) = refused-ends access busy s touch

-- ---- what follows from it

module _ {M : Type 0} (access : Access M) (busy : ℕ) (s : State M) where
  pub tells-stops : (u : State M) (outcome : Outcome) → ByOutcome access busy s u outcome → changes_nothing s u outcome
  tells-stops u Prefix h = tt
  tells-stops u Ran h = tt
  tells-stops u (OpensIn transfer) h = tt
  tells-stops u (OpensOut transfer) h = tt
  tells-stops u (Stopped why) h = h.0

  pub tells-opens : (u : State M) (outcome : Outcome) → ByOutcome access busy s u outcome → OpensLink outcome
  tells-opens u Prefix h = tt
  tells-opens u Ran h = tt
  tells-opens u (OpensIn transfer) h = record { link = h.0.link; count = h.0.count }
  tells-opens u (OpensOut transfer) h = record { link = h.0.link; count = h.0.count }
  tells-opens u (Stopped why) h = tt

  pub tells-not_stray : (u : State M) (outcome : Outcome) → ByOutcome access busy s u outcome → IsNotStray outcome
  tells-not_stray u Prefix h = λ e. cc
  tells-not_stray u Ran h = λ e. cc
  tells-not_stray u (OpensIn transfer) h = λ e. cc
  tells-not_stray u (OpensOut transfer) h = λ e. cc
  tells-not_stray u (Stopped why) h = λ e. h.1 (same e)
    where
      same : Stopped why ≡ Stopped Stray → why ≡ Stray
      same e = cc

-- where a turn stopped, nothing changed but that
pub effect-stops : {M : Type 0} (access : Access M) (fun : Fun) (e : ℕ) (t : Turn) (s : State M) → StopsAlone s (effect access fun e t s)
effect-stops access fun e t s = tells-stops access t.busy s _ _ (effect-tells access t s fun e)

module _ {M : Type 0} (access : Access M) (t : Turn) (s : State M) (fun : Fun) (e : ℕ) where
  pub effect-opens : OpensLink (effect access fun e t s).outcome
  effect-opens = tells-opens access t.busy s _ _ (effect-tells access t s fun e)

  pub effect-not_stray : IsNotStray (effect access fun e t s).outcome
  effect-not_stray = tells-not_stray access t.busy s _ _ (effect-tells access t s fun e)

module _ {M : Type 0} (access : Access M) (busy : ℕ) (slice : Bool) (clock : ℕ) (s : State M) where
  executed-tells : (is_one : Bool) (byte : ℕ) → TellsOutcome access busy s (executed access is_one byte busy slice clock s)
  executed-tells true byte = record { outcome = refl }
  executed-tells false byte = record { outcome = effect-tells access _ s (function_of byte) (loaded s.oreg byte) }

  execute_byte-tells : (byte : ℕ) → TellsOutcome access busy s (execute_byte access byte busy slice clock s)
  unfolding execute_byte
  execute_byte-tells byte = executed-tells (is_prefix (function_of byte)) byte

  step-tells : TellsOutcome access busy s (step access busy slice clock s)
  unfolding step
  step-tells = by_answer (access.byte s.memory s.iptr)
    where
      by_answer : (r : Result ℕ Touch) → TellsOutcome access busy s (with_answer r s (λ byte. execute_byte access byte busy slice clock s))
      by_answer (Ok byte) = execute_byte-tells byte
      by_answer (Err touch) = record { outcome = (refl, why-not_stray touch) }

  pub execute_byte-opens : (byte : ℕ) → OpensLink (execute_byte access byte busy slice clock s).outcome
  execute_byte-opens byte = tells-opens access busy s _ _ (execute_byte-tells byte).outcome

  pub execute_byte-not_stray : (byte : ℕ) → IsNotStray (execute_byte access byte busy slice clock s).outcome
  execute_byte-not_stray byte = tells-not_stray access busy s _ _ (execute_byte-tells byte).outcome

  pub step-opens : OpensLink (step access busy slice clock s).outcome
  step-opens = tells-opens access busy s _ _ step-tells.outcome

  pub step-not_stray : IsNotStray (step access busy slice clock s).outcome
  step-not_stray = tells-not_stray access busy s _ _ step-tells.outcome

  pub step-stops : StopsAlone s (step access busy slice clock s)
  step-stops = tells-stops access busy s _ _ step-tells.outcome

-- over a memory with no guarded region no step stops for one
module _ (busy : ℕ) (slice : Bool) (clock : ℕ) (s : State (List ℕ)) where
  executed-not_code :
      (is_one : Bool) (byte : ℕ) → (executed plain_access is_one byte busy slice clock s).outcome ≢ Stopped WhyCode
  executed-not_code true byte = λ e. cc
  executed-not_code false byte = effect-not_code _ s (function_of byte) (loaded s.oreg byte)

  pub execute_byte-not_code : (byte : ℕ) → (execute_byte plain_access byte busy slice clock s).outcome ≢ Stopped WhyCode
  unfolding execute_byte
  execute_byte-not_code byte = executed-not_code (is_prefix (function_of byte)) byte

  pub step-not_code : (step plain_access busy slice clock s).outcome ≢ Stopped WhyCode
  unfolding step
  step-not_code = by_answer (plain_access.byte s.memory s.iptr) (outside_refusals.byte s.memory s.iptr)
    where
      by_answer :
          (r : Result ℕ Touch) → Answers IsOutside r
          → (with_answer r s (λ byte. execute_byte plain_access byte busy slice clock s)).outcome ≢ Stopped WhyCode
      by_answer (Ok byte) h = execute_byte-not_code byte
      by_answer (Err touch) h = why-not_code touch h
