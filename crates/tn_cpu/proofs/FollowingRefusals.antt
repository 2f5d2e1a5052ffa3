-- Refusals of a space beside those of a guarded space that it follows.
use Rattle.std.proofs.Common.{◌≡◌, ℕ, Bool, true, false, Option, Some, None, Result, Ok, Err, refl, ap}
use Rattle.std.specs.Prelude.{⊤, if◌then◌else◌}
use Rattle.std.specs.Result.{result_err}
use Rattle.tn_mem.specs.declared.touches.Touch.{Touch}
use Rattle.tn_mem.specs.declared.touches.Touch.TheVariants.{Outside, Code}
use Rattle.tn_mem.specs.Spaces.{Access, first_refusal}
use Rattle.tn_cpu.specs.Queues.{or_then, stored, copied}
use Rattle.tn_cpu.specs.Channels.{is_outside}
use Rattle.tn_cpu.specs.Following.{answers_like, AnswersLike}
use Rattle.tn_cpu.proofs.Tests.{first-allowed, second-allowed, begun-allowed, then-allowed}

-- a refusal, and the guarded one: where that is for code, nothing is said
abbrev pub refusal_like : Option Touch → Option Touch → Type 0
refusal_like p None = p ≡ None
refusal_like p (Some Outside) = p ≡ Some Outside
refusal_like p (Some Code) = ⊤

pub record Refusal (p g : Option Touch) : Type 0 where
  pub says : refusal_like p g

outside_last : (p : Option Touch) → first_refusal p (Some Outside) ≡ Some Outside
outside_last None = refl
outside_last (Some Outside) = refl
outside_last (Some Code) = refl

both_like : (p g q h : Option Touch) → refusal_like p g → refusal_like q h → refusal_like (first_refusal p q) (first_refusal g h)
both_like p None q h e f = rw e f
both_like p (Some Outside) q h e f = rw e refl
both_like p (Some Code) q None e f = tt
both_like p (Some Code) q (Some Outside) e f = rw f (outside_last p)
both_like p (Some Code) q (Some Code) e f = tt

pub both : {p g q h : Option Touch} → Refusal p g → Refusal q h → Refusal (first_refusal p q) (first_refusal g h)
both {p} {g} {q} {h} e f = record { says = both_like p g q h e.says f.says }

in_turn_like : (p g q h : Option Touch) → refusal_like p g → (g ≡ None → refusal_like q h) → refusal_like (or_then p q) (or_then g h)
in_turn_like p None q h e f = rw e (f refl)
in_turn_like p (Some Outside) q h e f = rw e refl
in_turn_like p (Some Code) q h e f = tt

pub in_turn : {p g q h : Option Touch} → Refusal p g → (g ≡ None → Refusal q h) → Refusal (or_then p q) (or_then g h)
in_turn {p} {g} {q} {h} e f = record { says = in_turn_like p g q h e.says (λ none. (f none).says) }

pub tested : {p g q h : Option Touch} (test : Bool) → Refusal p g → Refusal q h → Refusal (if test then p else q) (if test then g else h)
tested true e f = e
tested false e f = f

pub unrefused : Refusal None None
unrefused = record { says = refl }

pub outside_both : Refusal (Some Outside) (Some Outside)
outside_both = record { says = refl }

err_like :
    {X Y : Type 0} (Rel : X → Y → Type 0) (p : Result X Touch) (g : Result Y Touch) → answers_like Rel p g
    → refusal_like (result_err p) (result_err g)
err_like Rel p (Ok y) h = ap result_err h.1
err_like Rel p (Err Outside) h = ap result_err h
err_like Rel p (Err Code) h = tt

pub err :
    {X Y : Type 0} {Rel : X → Y → Type 0} {p : Result X Touch} {g : Result Y Touch} → AnswersLike Rel p g
    → Refusal (result_err p) (result_err g)
err {Rel = Rel} {p = p} {g = g} h = record { says = err_like Rel p g h.says }

-- whether it is Outside is the same
outside_like :
    {X Y : Type 0} (Rel : X → Y → Type 0) (p : Result X Touch) (g : Result Y Touch) → answers_like Rel p g
    → is_outside (result_err p) ≡ is_outside (result_err g)
outside_like Rel p (Ok y) h = ap (λ (r : Result _ Touch). is_outside (result_err r)) h.1
outside_like Rel p (Err Outside) h = ap (λ (r : Result _ Touch). is_outside (result_err r)) h
outside_like Rel p (Err Code) h = h

pub same-outside :
    {X Y : Type 0} {Rel : X → Y → Type 0} {p : Result X Touch} {g : Result Y Touch} → AnswersLike Rel p g
    → is_outside (result_err p) ≡ is_outside (result_err g)
same-outside {Rel = Rel} {p = p} {g = g} h = outside_like Rel p g h.says

-- what no refusal of several tells
pub first-none : (g h : Option Touch) → first_refusal g h ≡ None → (g ≡ None) × (h ≡ None)
first-none g h e = (first-allowed g h e, second-allowed g h e)

pub then-none : (g h : Option Touch) → or_then g h ≡ None → (g ≡ None) × (h ≡ None)
then-none g h e = (begun-allowed g h e, then-allowed g h e)

-- what a store or a copy that is answered leaves
pub stored-made : {M : Type 0} (access : Access M) (m x : M) (a w : ℕ) → access.set_word m a w ≡ Ok x → stored access m a w ≡ x
unfolding stored
stored-made access m x a w e = rw e refl

pub copied-made :
    {M : Type 0} (access : Access M) (m x : M) (from to n : ℕ) → access.copy m from to n ≡ Ok x → copied access m from to n ≡ x
unfolding copied
copied-made access m x from to n e = rw e refl
