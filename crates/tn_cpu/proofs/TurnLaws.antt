-- One law of turns: what holds of each way in which a turn can end holds of every effect.
use Rattle.std.proofs.Common.{◌≡◌, ℕ, zero, suc, ◌+◌, ◌-◌, ◌/◌, ◌<◌, ◌==◌, Bool, true, false, Option, Some, None, Result, Ok, Err}
use Rattle.std.proofs.Common.{refl, arith}
use Rattle.std.specs.Prelude.{⊤, if◌then◌else◌, ◌&&◌, ◌||◌, nat_le, nat_lt, ◌%◌}
use Rattle.std.proofs.lemmas.Bool.Decides.{nat_tests}
use Rattle.tn_mem.specs.declared.touches.Touch.{Touch}
use Rattle.tn_mem.specs.Spaces.{Access}
use Rattle.tn_isa.specs.declared.functions.Fun.{Fun}
use Rattle.tn_isa.specs.declared.functions.Fun.TheVariants.{Opr}
use Rattle.tn_isa.specs.declared.operations.Op.{Op}
use Rattle.tn_isa.specs.declared.operations.Op.TheVariants.{In, Out}
use Rattle.tn_isa.specs.Operations.{operation_with}
use Rattle.tn_word.specs.Words.{most_neg}
use Rattle.tn_cpu.specs.declared.registers.Reg.{Reg}
use Rattle.tn_cpu.specs.declared.registers.Reg.TheVariants.{Undefined, Word}
use Rattle.tn_cpu.specs.declared.outcomes.Why.TheVariants.{Undefined as WhyUndefined, Outside as WhyOutside, Halted, BadOp}
use Rattle.tn_cpu.specs.declared.outcomes.Transfer.{Transfer}
use Rattle.tn_cpu.specs.declared.channels.Way.{Way}
use Rattle.tn_cpu.specs.declared.channels.Way.TheVariants.{Input, Output}
use Rattle.tn_cpu.specs.declared.channels.Channel.{Channel}
use Rattle.tn_cpu.specs.declared.channels.Channel.TheVariants.{Link, Internal, NoChannel}
use Rattle.tn_cpu.specs.declared.turns.Turn.{Turn}
use Rattle.tn_cpu.specs.States.{State, below}
use Rattle.tn_cpu.specs.Turns.{Ended, stopped, ran, why_of, with_word, with_answer, unless_refused, unless_outside, setting_error}
use Rattle.tn_cpu.specs.Queues.{next, saved, gave_way, ran_or_sliced}
use Rattle.tn_cpu.specs.Channels.{first_link, aligned_channel, channel_at, is_open, on_channel}
use Rattle.tn_cpu.specs.Channels.{transfer_row, linked, opens}
use Rattle.tn_cpu.specs.Effects.{operate, operate_found, effect}
use Rattle.tn_cpu.specs.TurnEnds.{IsOpening}
use Rattle.tn_cpu.proofs.Refusals.{Answers, Refuses, AllRefusals, byte_answers, set_byte_answers, word_answers, set_word_answers}
use Rattle.tn_cpu.proofs.Refusals.{copy_answers, both, storable_refuses, loadable_refuses, bytes_refuse, enqueue_refuses}
use Rattle.tn_cpu.proofs.Refusals.{next_refuses, slice_refuses, loop_refuses, partner_refuses}
use Rattle.tn_cpu.proofs.Tests.{first-allowed}
use Rattle.tn_cpu.proofs.Stores.{Stores, byte-set, word-set, block-copied, stores-stored, stores-either}
use Rattle.tn_cpu.proofs.Stores.{stores-exchanged, stores-enqueued}
use Rattle.tn_cpu.proofs.Stores.Stores.{no_store}

-- a law holds of each way in which a turn from a state can end, where the refusals are of a kind
pub record TurnLaw {M : Type 0} (access : Access M) (Kind : Touch → Type 0) (t : Turn) (s : State M) (Law : Ended M → Type 0) : Type 0 where
  pub undefined : Law (stopped WhyUndefined s)
  pub outside : Law (stopped WhyOutside s)
  pub halted : Law (stopped Halted s)
  pub bad_op : Law (stopped BadOp s)
  pub refused : (touch : Touch) → Kind touch → Law (stopped (why_of touch) s)
  pub ran : (at : ℕ) (u : State M) → Stores access s.memory u.memory → Law (ran at u)
  pub gave_way : (front : ℕ) (u : State M) → u.front ≡ Word front → Stores access s.memory u.memory → Law (gave_way access u)
  pub sliced : (at : ℕ) (u : State M) → Stores access s.memory u.memory → Law (ran_or_sliced access t.slice at u)
  pub opened :
      (way : Way) (front : ℕ) (transfer : Transfer) → s.front ≡ Word front → IsOpening access t.busy s way transfer
      → Law (record { state = next access (saved access t.following s); outcome = opens way transfer })

-- a channel of a link is one of four
abbrev InRange : Channel → Type 0
InRange (Link link) = link < 4
InRange Internal = ⊤
InRange NoChannel = ⊤

link_below : (first a : ℕ) → (nat_le first a && nat_lt a (first + 16)) ≡ true → (a - first) / 4 < 4
link_below first a e = grind (arith, nat_tests)

aligned-in_range : (first a : ℕ) → InRange (aligned_channel first a)
aligned-in_range first a = by_test (nat_le first a && nat_lt a (first + 16)) (nat_le most_neg a && nat_lt a (most_neg + 36)) refl
  where
    by_test :
        (is_link is_none : Bool) → (nat_le first a && nat_lt a (first + 16)) ≡ is_link
        → InRange (if is_link then Link ((a - first) / 4) else (if is_none then NoChannel else Internal))
    by_test true is_none e = link_below first a e
    by_test false true e = tt
    by_test false false e = tt

channel_at-in_range : (way : Way) (a : ℕ) → InRange (channel_at way a)
unfolding channel_at
channel_at-in_range way a = by_test (a % 4 == 0)
  where
    by_test : (is_aligned : Bool) → InRange (if is_aligned then aligned_channel (first_link way) a else NoChannel)
    by_test true = aligned-in_range (first_link way) a
    by_test false = tt

-- a transfer that is not refused has a byte, and its engine is shut
either_false : (zero_count is_busy : Bool) → zero_count ≡ false → (zero_count || is_busy) ≡ false → is_busy ≡ false
either_false true is_busy none e = cc
either_false false is_busy none e = e

positive : (count : ℕ) (is_busy : Bool) → (count == 0 || is_busy) ≡ false → (0 < count) × (is_busy ≡ false)
positive zero is_busy e = cc
positive (suc count) is_busy e = (omega arith, either_false (suc count == 0) is_busy (grind (arith, nat_tests)) e)

ruleset kinds = (
  byte_answers,
  set_byte_answers,
  word_answers,
  set_word_answers,
  copy_answers,
  both,
  storable_refuses,
  loadable_refuses,
  bytes_refuse,
  enqueue_refuses,
  next_refuses,
  slice_refuses,
  loop_refuses,
  partner_refuses,
)

ruleset memories = (no_store, byte-set, word-set, block-copied, stores-stored, stores-either, stores-exchanged, stores-enqueued)

module _ {M : Type 0} (access : Access M) (Kind : Touch → Type 0) (refusals : AllRefusals access Kind) (t : Turn) (s : State M)
    (Law : Ended M → Type 0) (law : TurnLaw access Kind t s Law) where
  word : (r : Reg) (then_ : ℕ → Ended M) → ((w : ℕ) → r ≡ Word w → Law (then_ w)) → Law (with_word r s then_)
  word Undefined then_ h = law.undefined
  word (Word w) then_ h = h w refl

  answer :
      {X : Type 0} (r : Result X Touch) (then_ : X → Ended M) → Answers Kind r → ((x : X) → r ≡ Ok x → Law (then_ x))
      → Law (with_answer r s then_)
  answer (Ok x) then_ kind h = h x refl
  answer (Err touch) then_ kind h = law.refused touch kind

  unless : (r : Option Touch) (done : Ended M) → Refuses Kind r → (r ≡ None → Law done) → Law (unless_refused r s done)
  unless None done kind h = h refl
  unless (Some touch) done kind h = law.refused touch kind.is

  outside : (test : Bool) (done : Ended M) → (test ≡ false → Law done) → Law (unless_outside test s done)
  outside true done h = law.outside
  outside false done h = h refl

  either : (test : Bool) (one other : Ended M) → Law one → Law other → Law (if test then one else other)
  either true one other h g = h
  either false one other h g = g

  set_error : (test : Bool) (at : ℕ) (u : State M) → Stores access s.memory u.memory → Law (setting_error test at s u)
  set_error test at u h = either (test && s.halt) _ _ law.halted (law.ran at (record u { error = u.error || test }) h)

  runs : (at : ℕ) (u : State M) → Stores access s.memory u.memory → Law (ran at u)
  runs = law.ran

  gives_way : (front : ℕ) (u : State M) → u.front ≡ Word front → Stores access s.memory u.memory → Law (gave_way access u)
  gives_way = law.gave_way

  slices : (at : ℕ) (u : State M) → Stores access s.memory u.memory → Law (ran_or_sliced access t.slice at u)
  slices = law.sliced

  ruleset rows = (word, answer, unless, outside, either, set_error, runs, gives_way, slices)

  opened : (way : Way) (front count pointer link : ℕ) → s.front ≡ Word front → link < 4 → Law (linked access way t count pointer link s)
  opened way front count pointer link is in_range =
      outside (count == 0 || is_open way link t.busy) _ (λ some.
      unless _ _
      (both Kind _ _ (bytes_refuse access Kind refusals way s.memory pointer count)
      (both Kind _ _ (storable_refuses access Kind refusals s.memory (below s.wptr 4))
      (next_refuses access Kind refusals s.memory s.front s.back))) (λ none.
      let shut = positive count (is_open way link t.busy) some in
      law.opened way front (record { link = link; pointer = pointer; count = count; process = s.wptr }) is
      (record { link = in_range; shut = shut.1; count = shut.0; block = first-allowed _ _ none; process = refl })))

  on : (way : Way) (count channel pointer : ℕ) (kind : Channel) → InRange kind → Law (on_channel access way t count channel pointer kind s)
  on way count channel pointer NoChannel in_range = law.outside
  on way count channel pointer (Link link) in_range = word s.front _ (λ front is. opened way front count pointer link is in_range)
  on way count channel pointer Internal in_range = search (rows, kinds, memories) depth 12

  transfers : (way : Way) → Law (transfer_row access way t s)
  transfers way =
      word s.a _ (λ count a. word s.b _ (λ channel b. word s.c _ (λ pointer c.
      on way count channel pointer (channel_at way channel) (channel_at-in_range way channel))))

  operate-law : (op : Op) → Law (operate access op t s)
  operate-law In = transfers Input
  operate-law Out = transfers Output
  operate-law op = search (rows, kinds, memories) depth 10

  found-law : (op : Option Op) → Law (operate_found access op t s)
  found-law (Some op) = operate-law op
  found-law None = law.bad_op

  pub effect-law : (fun : Fun) (e : ℕ) → Law (effect access fun e t s)
  effect-law Opr e = found-law (operation_with e)
  effect-law fun e = search (rows, kinds, memories) depth 8
