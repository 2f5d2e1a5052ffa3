-- No effect reads the operand register or the instruction pointer: with others it is the same, but
-- that a stop leaves those as they were.
use Rattle.std.proofs.Common.{◌≡◌, ℕ, ◌==◌, Bool, true, false, Option, Some, None, Result, Ok, Err, refl, sym, ap, ◌∙◌}
use Rattle.std.specs.Prelude.{if◌then◌else◌, ◌&&◌}
use Rattle.tn_mem.specs.declared.touches.Touch.{Touch}
use Rattle.tn_mem.specs.Spaces.{Access}
use Rattle.tn_isa.specs.declared.functions.Fun.{Fun}
use Rattle.tn_isa.specs.declared.functions.Fun.TheVariants.{Opr}
use Rattle.tn_isa.specs.declared.operations.Op.{Op}
use Rattle.tn_isa.specs.declared.operations.Op.TheVariants.{In, Out}
use Rattle.tn_isa.specs.Operations.{operation_with}
use Rattle.tn_word.specs.Words.{not_process}
use Rattle.tn_cpu.specs.declared.registers.Reg.{Reg}
use Rattle.tn_cpu.specs.declared.registers.Reg.TheVariants.{Undefined, Word}
use Rattle.tn_cpu.specs.declared.outcomes.Outcome.TheVariants.{Ran, OpensIn, OpensOut}
use Rattle.tn_cpu.specs.declared.channels.Way.{Way}
use Rattle.tn_cpu.specs.declared.channels.Way.TheVariants.{Input, Output}
use Rattle.tn_cpu.specs.declared.channels.Channel.{Channel}
use Rattle.tn_cpu.specs.declared.channels.Channel.TheVariants.{Link, Internal, NoChannel}
use Rattle.tn_cpu.specs.declared.turns.Turn.{Turn}
use Rattle.tn_cpu.specs.States.{State, cleared}
use Rattle.tn_cpu.specs.Turns.{Ended, ran, with_word, with_answer, unless_refused, unless_outside, setting_error}
use Rattle.tn_cpu.specs.Queues.{enqueued_behind, enqueued, next_from, next, slice_refusal, saved, gave_way}
use Rattle.tn_cpu.specs.Channels.{channel_at, on_channel, transfer_row, linked}
use Rattle.tn_cpu.specs.Effects.{operate, operate_found, effect}
use Rattle.tn_cpu.specs.Codes.{placed, begun_at}

pub record BegunAs {M : Type 0} (o i : ℕ) (new old : Ended M) : Type 0 where
  pub is : new ≡ begun_at o i old

module _ {M : Type 0} (access : Access M) (o i : ℕ) (s : State M) where
  same : (e : Ended M) → e ≡ begun_at o i e → BegunAs o i e e
  same e is = record { is = is }

  word :
      (r : Reg) (p q : ℕ → Ended M) → ((w : ℕ) → r ≡ Word w → BegunAs o i (p w) (q w))
      → BegunAs o i (with_word r (placed o i s) p) (with_word r s q)
  word Undefined p q h = record { is = refl }
  word (Word w) p q h = h w refl

  answer :
      {X : Type 0} (r : Result X Touch) (p q : X → Ended M) → ((x : X) → BegunAs o i (p x) (q x))
      → BegunAs o i (with_answer r (placed o i s) p) (with_answer r s q)
  answer (Ok x) p q h = h x
  answer (Err touch) p q h = record { is = refl }

  refused : (r : Option Touch) (d e : Ended M) → BegunAs o i d e → BegunAs o i (unless_refused r (placed o i s) d) (unless_refused r s e)
  refused None d e h = h
  refused (Some touch) d e h = record { is = refl }

  outside : (test : Bool) (d e : Ended M) → BegunAs o i d e → BegunAs o i (unless_outside test (placed o i s) d) (unless_outside test s e)
  outside true d e h = record { is = refl }
  outside false d e h = h

  either :
      (test : Bool) (d e d' e' : Ended M) → BegunAs o i d d' → BegunAs o i e e'
      → BegunAs o i (if test then d else e) (if test then d' else e')
  either true d e d' e' h g = h
  either false d e d' e' h g = g

  set_error :
      (test : Bool) (at : ℕ) (v : State M) → BegunAs o i (setting_error test at (placed o i s) (placed o i v)) (setting_error test at s v)
  set_error test at v = either (test && s.halt) _ _ _ _ (record { is = refl }) (record { is = refl })

  ran_same : (at : ℕ) (t : State M) → BegunAs o i (ran at (placed o i t)) (ran at t)
  ran_same at t = record { is = refl }

  chosen :
      (test : Bool) (x y x' y' : State M) → x ≡ placed o i x' → y ≡ placed o i y'
      → (if test then x else y) ≡ placed o i (if test then x' else y')
  chosen true x y x' y' h g = h
  chosen false x y x' y' h g = g

  behind :
      (front : Reg) (process : ℕ) (t : State M)
      → enqueued_behind access front process (placed o i t) ≡ placed o i (enqueued_behind access front process t)
  behind Undefined process t = refl
  behind (Word front) process t = chosen (front == not_process) _ _ _ _ refl refl

  enqueues :
      (process at : ℕ) (t : State M)
      → BegunAs o i (ran at (cleared (enqueued access process (placed o i t)))) (ran at (cleared (enqueued access process t)))
  unfolding enqueued
  enqueues process at t = record { is = ap (λ (u : State M). ran at (cleared u)) (behind t.front process t) }

  enqueues_over :
      (process at : ℕ) (m : M)
      → BegunAs o i (ran at (cleared (enqueued access process (record (placed o i s) { memory = m }))))
      (ran at (cleared (enqueued access process (record s { memory = m }))))
  enqueues_over process at m = enqueues process at (record s { memory = m })

  next-placed : (front : ℕ) (t : State M) → t.front ≡ Word front → next access (placed o i t) ≡ next access t
  unfolding next
  next-placed front t e = ap (λ (r : Reg). next_from access r (placed o i t)) e ∙ sym (ap (λ (r : Reg). next_from access r t) e)

  gives :
      (front : ℕ) (m : M) → s.front ≡ Word front
      → BegunAs o i (gave_way access (record (placed o i s) { memory = m })) (gave_way access (record s { memory = m }))
  gives front m e =
      record { is = ap (λ (u : State M). record { state = u; outcome = Ran }) (next-placed front (record s { memory = m }) e) }

  ruleset rows = (word, answer, refused, outside, either, set_error, ran_same, enqueues_over, enqueues, gives)

  opened :
      (way : Way) (t : Turn) (front count pointer link : ℕ) → s.front ≡ Word front
      → BegunAs o i (linked access way t count pointer link (placed o i s)) (linked access way t count pointer link s)
  opened Input t front count pointer link e =
      outside _ _ _
      (refused _ _ _
      (record {
        is = ap
            (λ (u : State M).
            record { state = u; outcome = OpensIn (record { link = link; pointer = pointer; count = count; process = s.wptr }) })
            (next-placed front (saved access t.following s) e);
      }))
  opened Output t front count pointer link e =
      outside _ _ _
      (refused _ _ _
      (record {
        is = ap
            (λ (u : State M).
            record { state = u; outcome = OpensOut (record { link = link; pointer = pointer; count = count; process = s.wptr }) })
            (next-placed front (saved access t.following s) e);
      }))

  on :
      (way : Way) (t : Turn) (count channel pointer : ℕ) (kind : Channel)
      → BegunAs o i (on_channel access way t count channel pointer kind (placed o i s))
      (on_channel access way t count channel pointer kind s)
  on way t count channel pointer NoChannel = record { is = refl }
  on way t count channel pointer (Link link) = word s.front _ _ (λ front e. opened way t front count pointer link e)
  on way t count channel pointer Internal = search rows depth 9

  transfers : (way : Way) (t : Turn) → BegunAs o i (transfer_row access way t (placed o i s)) (transfer_row access way t s)
  transfers way t =
      word s.a _ _
      (λ count a. word s.b _ _ (λ channel b. word s.c _ _ (λ pointer c. on way t count channel pointer (channel_at way channel))))

  operate-begun : (op : Op) (t : Turn) → BegunAs o i (operate access op t (placed o i s)) (operate access op t s)
  unfolding slice_refusal
  operate-begun In t = transfers Input t
  operate-begun Out t = transfers Output t
  operate-begun op t = search rows depth 8

  found-begun : (op : Option Op) (t : Turn) → BegunAs o i (operate_found access op t (placed o i s)) (operate_found access op t s)
  found-begun (Some op) t = operate-begun op t
  found-begun None t = record { is = refl }

  pub effect-begun : (fun : Fun) (e : ℕ) (t : Turn) → BegunAs o i (effect access fun e t (placed o i s)) (effect access fun e t s)
  unfolding slice_refusal
  effect-begun Opr e t = found-begun (operation_with e) t
  effect-begun fun e t = search rows depth 8

pub effect-placed :
    {M : Type 0} (oreg iptr : ℕ) (access : Access M) (fun : Fun) (e : ℕ) (t : Turn) (s : State M)
    → effect access fun e t (placed oreg iptr s) ≡ begun_at oreg iptr (effect access fun e t s)
effect-placed oreg iptr access fun e t s = (effect-begun access oreg iptr s fun e t).is
