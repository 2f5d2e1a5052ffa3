-- A space that follows a guarded one: it answers the same, unless the guarded one meets code.
use Rattle.std.specs.Prelude.{◌≡◌, ℕ, ⊤, false, Result, Ok, Err}
use Rattle.std.specs.Result.{result_err}
use Rattle.tn_mem.specs.declared.touches.Touch.{Touch}
use Rattle.tn_mem.specs.declared.touches.Touch.TheVariants.{Outside, Code}
use Rattle.tn_mem.specs.Spaces.{Access}
use Rattle.tn_cpu.specs.declared.outcomes.Why.{Why}
use Rattle.tn_cpu.specs.declared.outcomes.Why.TheVariants.{Code as WhyCode}
use Rattle.tn_cpu.specs.declared.outcomes.Life.TheVariants.{Stopped as IsStopped}
use Rattle.tn_cpu.specs.declared.outcomes.Outcome.TheVariants.{Stopped}
use Rattle.tn_cpu.specs.Channels.{is_outside}
use Rattle.tn_cpu.specs.States.{State, over_memory}
use Rattle.tn_cpu.specs.Turns.{Ended}

-- what an access answers, and what the guarded one answers: where that meets code, the other isn't Outside
abbrev pub answers_like : {X Y : Type 0} → (X → Y → Type 0) → Result X Touch → Result Y Touch → Type 0
answers_like Like answer (Ok y) = (x : _) × (answer ≡ Ok x) × Like x y
answers_like Like answer (Err Outside) = answer ≡ Err Outside
answers_like Like answer (Err Code) = is_outside (result_err answer) ≡ false

pub record AnswersLike {X Y : Type 0} (Like : X → Y → Type 0) (answer : Result X Touch) (guarded : Result Y Touch) : Type 0 where
  pub says : answers_like Like answer guarded

-- each access of a space, where a state of it is like one of the guarded space
pub record Follows {M N : Type 0} (access : Access M) (guard : Access N) (Like : M → N → Type 0) : Type 0 where
  pub byte : (m : M) (n : N) (a : ℕ) → Like m n → AnswersLike (λ (x y : ℕ). x ≡ y) (access.byte m a) (guard.byte n a)
  pub set_byte : (m : M) (n : N) (a v : ℕ) → Like m n → AnswersLike Like (access.set_byte m a v) (guard.set_byte n a v)
  pub word : (m : M) (n : N) (a : ℕ) → Like m n → AnswersLike (λ (x y : ℕ). x ≡ y) (access.word m a) (guard.word n a)
  pub set_word : (m : M) (n : N) (a v : ℕ) → Like m n → AnswersLike Like (access.set_word m a v) (guard.set_word n a v)
  pub block : (m : M) (n : N) (a k : ℕ) → Like m n → AnswersLike (λ (x y : ⊤). ⊤) (access.block m a k) (guard.block n a k)
  pub source : (m : M) (n : N) (a k : ℕ) → Like m n → AnswersLike (λ (x y : ⊤). ⊤) (access.source m a k) (guard.source n a k)
  pub copy : (m : M) (n : N) (from to k : ℕ) → Like m n → AnswersLike Like (access.copy m from to k) (guard.copy n from to k)

-- the end of a turn over the guarded space, over another memory
abbrev pub ended_over : {M N : Type 0} → M → Ended N → Ended M
ended_over m g = record { state = over_memory m g.state; outcome = g.outcome }

-- a turn ends as one over the guarded space does, unless that one meets code
pub data EndsLike {M N : Type 0} (Like : M → N → Type 0) (e : Ended M) (g : Ended N) : Type 0 where
  code : g.outcome ≡ Stopped WhyCode → EndsLike Like e g
  same : (m : M) → Like m g.state.memory → e ≡ ended_over m g → EndsLike Like e g

-- a process is woken as over the guarded space, unless that processor stops
pub data WokenLike {M N : Type 0} (Like : M → N → Type 0) (t : State M) (v : State N) : Type 0 where
  halts : (why : Why) → v.life ≡ IsStopped why → WokenLike Like t v
  wakes : (m : M) → Like m v.memory → t ≡ over_memory m v → WokenLike Like t v
