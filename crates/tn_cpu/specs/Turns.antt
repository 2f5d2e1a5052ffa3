-- How a turn of a processor ends.
use Rattle.std.specs.Prelude.{ℕ, Bool, ◌&&◌, ◌||◌, if◌then◌else◌, Option, None, Some, Result, Ok, Err}
use Rattle.tn_mem.specs.declared.touches.Touch.{Touch}
use Rattle.tn_mem.specs.declared.touches.Touch.TheVariants.{Outside, Code}
use Rattle.tn_alu.specs.declared.answers.Answer.{Answer}
use Rattle.tn_cpu.specs.declared.registers.Reg.{Reg}
use Rattle.tn_cpu.specs.declared.registers.Reg.TheVariants.{Undefined, Word}
use Rattle.tn_cpu.specs.declared.outcomes.Why.{Why}
use Rattle.tn_cpu.specs.declared.outcomes.Why.TheVariants.{Undefined as WhyUndefined, Outside as WhyOutside, Code as WhyCode, Halted}
use Rattle.tn_cpu.specs.declared.outcomes.Life.TheVariants.{Stopped as IsStopped}
use Rattle.tn_cpu.specs.declared.outcomes.Outcome.{Outcome}
use Rattle.tn_cpu.specs.declared.outcomes.Outcome.TheVariants.{Ran, Stopped}
use Rattle.tn_cpu.specs.States.{State, joined, register_of}

-- the state that a turn leaves, and its outcome
pub record Ended (M : Type 0) : Type 0 where
  pub state : State M
  pub outcome : Outcome

-- it stops, which changes nothing but that
abbrev pub halted_for : {M : Type 0} → Why → State M → State M
halted_for why s = record s { life = IsStopped why }

abbrev pub stopped : {M : Type 0} → Why → State M → Ended M
stopped why s = record { state = halted_for why s; outcome = Stopped why }

-- the instruction is done, and the next one stands at an address
abbrev pub goes_on : {M : Type 0} → ℕ → State M → State M
goes_on iptr s = record s { iptr = iptr; oreg = 0 }

abbrev pub ran : {M : Type 0} → ℕ → State M → Ended M
ran iptr s = record { state = goes_on iptr s; outcome = Ran }

-- why a refused access stops a processor
abbrev pub why_of : Touch → Why
why_of Outside = WhyOutside
why_of Code = WhyCode

-- ---- what a row needs, where s is the state before it

-- a register that it reads is defined
abbrev pub with_word : {M : Type 0} → Reg → State M → (ℕ → Ended M) → Ended M
with_word Undefined s then_ = stopped WhyUndefined s
with_word (Word word) s then_ = then_ word

abbrev pub with_two : {M : Type 0} → Reg → Reg → State M → (ℕ → ℕ → Ended M) → Ended M
with_two x y s then_ = with_word x s (λ v. with_word y s (λ w. then_ v w))

abbrev pub with_three : {M : Type 0} → Reg → Reg → Reg → State M → (ℕ → ℕ → ℕ → Ended M) → Ended M
with_three x y z s then_ = with_word x s (λ u. with_word y s (λ v. with_word z s (λ w. then_ u v w)))

-- an access is answered
abbrev pub with_answer : {M X : Type 0} → Result X Touch → State M → (X → Ended M) → Ended M
with_answer (Ok x) s then_ = then_ x
with_answer (Err touch) s then_ = stopped (why_of touch) s

-- none of its accesses is refused
abbrev pub unless_refused : {M : Type 0} → Option Touch → State M → Ended M → Ended M
unless_refused None s done = done
unless_refused (Some touch) s done = stopped (why_of touch) s

-- a test of its own holds
abbrev pub unless_outside : {M : Type 0} → Bool → State M → Ended M → Ended M
unless_outside bad s done = if bad then stopped WhyOutside s else done

-- where it sets Error, HaltOnError is clear
abbrev pub setting_error : {M : Type 0} → Bool → ℕ → State M → State M → Ended M
setting_error error iptr s after =
    if error && s.halt then stopped Halted s else ran iptr (record after { error = after.error || error })

-- a result of arithmetic in place of the upper two registers
abbrev pub joins : {M : Type 0} → Answer → ℕ → State M → Ended M
joins answer iptr s = setting_error answer.error iptr s (joined (register_of answer.value) s)

-- a result of arithmetic in place of the top register
abbrev pub replaces : {M : Type 0} → Answer → ℕ → State M → Ended M
replaces answer iptr s = setting_error answer.error iptr s (record s { a = register_of answer.value })
