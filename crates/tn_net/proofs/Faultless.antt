-- Where nothing is wrong no fault stands.
use Rattle.std.proofs.Common.{◌≡◌, ℕ, ◌<◌, ◌⊎◌, List, refl, sym, ◌∙◌, ap, arith, Some, Result, Ok, Err, inl, inr}
use Rattle.std.specs.Result.{IfOk}
use Rattle.tn_text.specs.declared.faults.Cause.{Cause}
use Rattle.tn_text.specs.declared.faults.Fault.{Fault}
use Rattle.tn_text.specs.declared.faults.ReadFault.{ReadFault}
use Rattle.tn_text.specs.declared.faults.ReadFault.TheVariants as read
use Rattle.tn_text.specs.Faults.{fault_at}
use Rattle.tn_text.specs.Firsts.{NothingIsWrong, AreInOrder, AreSingle}
use Rattle.tn_text.proofs.Firsts.{one_first, none_first}
use Rattle.tn_text.specs.Reading.{Gives}
use Rattle.tn_net.specs.declared.lines.LinkEnd.{LinkEnd}
use Rattle.tn_net.specs.declared.lines.EndLine.{EndLine}
use Rattle.tn_net.specs.RawNetworks.{RawLists}
use Rattle.tn_net.specs.Lines.{end_lines, line_at, DifferInNumber}
use Rattle.tn_net.specs.Faults.{unknown, twice, IsRight, IsWrongLine, one_unknown, two_unknown, one_twice, two_twice}
use Rattle.tn_net.specs.Faults.{AtName, AtLine, AtHost, IsWrongAt, IsBefore, number_at, IsNetworkFault, IsFaultless}
use Rattle.tn_net.proofs.Places.{some_same}
use Rattle.tn_net.proofs.Reading.{one_line}

-- nothing is wrong with a line, or something
pub right_or_wrong : (names : List (List ℕ × ℕ × ℕ)) (lines : List EndLine) (line : EndLine) (cause : Cause) → IsRight names lines line
    → IsWrongLine names lines line cause → ⊥
right_or_wrong names lines line cause right (one_unknown none is) = none right.known.one
right_or_wrong names lines line cause right (two_unknown end two known none is) = none (right.known.two end two)
right_or_wrong names lines line cause right (one_twice known stands is) = right.one stands
right_or_wrong names lines line cause right (two_twice end two known free (inl stands) is) = right.two end two stands
right_or_wrong names lines line cause right (two_twice end two known free (inr same) is) =
    right.apart (two ∙ ap (λ (e : LinkEnd). Some e) (sym same))

-- one thing is wrong with a line
pub one_cause : (names : List (List ℕ × ℕ × ℕ)) (lines : List EndLine) (line : EndLine) (a b : Cause) → IsWrongLine names lines line a
    → IsWrongLine names lines line b → a ≡ b
one_cause names lines line a b (one_unknown none is) (one_unknown also so) = is ∙ sym so
one_cause names lines line a b (one_unknown none is) (two_unknown end two known also so) = absurd (none known)
one_cause names lines line a b (one_unknown none is) (one_twice known stands so) = absurd (none known.one)
one_cause names lines line a b (one_unknown none is) (two_twice end two known free stands so) = absurd (none known.one)
one_cause names lines line a b (two_unknown end two known none is) (one_unknown also so) = absurd (also known)
one_cause names lines line a b (two_unknown end two known none is) (two_unknown other also_two also_known also so) =
    is ∙ ap unknown (some_same end other (sym two ∙ also_two)) ∙ sym so
one_cause names lines line a b (two_unknown end two known none is) (one_twice all stands so) = absurd (none (all.two end two))
one_cause names lines line a b (two_unknown end two known none is) (two_twice other also_two all free stands so) = absurd
    (none (all.two end two))
one_cause names lines line a b (one_twice known stands is) (one_unknown none so) = absurd (none known.one)
one_cause names lines line a b (one_twice known stands is) (two_unknown end two also none so) = absurd (none (known.two end two))
one_cause names lines line a b (one_twice known stands is) (one_twice also too so) = is ∙ sym so
one_cause names lines line a b (one_twice known stands is) (two_twice end two also free too so) = absurd (free stands)
one_cause names lines line a b (two_twice end two known free stands is) (one_unknown none so) = absurd (none known.one)
one_cause names lines line a b (two_twice end two known free stands is) (two_unknown other also_two also none so) = absurd
    (none (known.two other also_two))
one_cause names lines line a b (two_twice end two known free stands is) (one_twice also too so) = absurd (free too)
one_cause names lines line a b (two_twice end two known free stands is) (two_twice other also_two also too_free too so) =
    is ∙ ap twice (some_same end other (sym two ∙ also_two)) ∙ sym so

-- nothing is wrong where no fault stands
nothing_wrong : (raw : RawLists) → IsFaultless raw → NothingIsWrong (IsWrongAt raw)
nothing_wrong raw good (AtName k) c w = good.distinct k w.0 w.1
nothing_wrong raw good (AtLine k) c w =
    right_or_wrong raw.names (end_lines raw) (line_at (end_lines raw) k) c (good.right k w.0) w.1
nothing_wrong raw good AtHost c w = good.hosted w.0

pub faultless_or_fault : (raw : RawLists) (fault : Fault) → IsFaultless raw → IsNetworkFault raw fault → ⊥
faultless_or_fault raw fault good w = none_first (IsBefore raw) (IsWrongAt raw) w.place w.cause (nothing_wrong raw good) w.first

-- the places where something is wrong are in order, and one thing is wrong at each
in_order : (raw : RawLists) → DifferInNumber (end_lines raw) → AreInOrder (IsBefore raw) (IsWrongAt raw)
in_order raw differ (AtName j) (AtName k) c d v w = elim (cases j k) [
  | inl less ↦ inl less
  | inr (inl more) ↦ inr (inl more)
  | inr (inr same) ↦ inr (inr (ap AtName same))
]
  where
    cases : (x y : ℕ) → (x < y) ⊎ ((y < x) ⊎ (x ≡ y))
    cases x y = grind arith
in_order raw differ (AtName j) (AtLine k) c d v w = inl tt
in_order raw differ (AtName j) AtHost c d v w = inl tt
in_order raw differ (AtLine j) (AtName k) c d v w = inr (inl tt)
in_order raw differ (AtLine j) (AtLine k) c d v w = elim (cases (line_at (end_lines raw) j).line (line_at (end_lines raw) k).line) [
  | inl less ↦ inl less
  | inr (inl more) ↦ inr (inl more)
  | inr (inr same) ↦ inr (inr (ap AtLine (one_line (end_lines raw) j k differ v.0 w.0 same)))
]
  where
    cases : (x y : ℕ) → (x < y) ⊎ ((y < x) ⊎ (x ≡ y))
    cases x y = grind arith
in_order raw differ (AtLine j) AtHost c d v w = inl tt
in_order raw differ AtHost (AtName k) c d v w = inr (inl tt)
in_order raw differ AtHost (AtLine k) c d v w = inr (inl tt)
in_order raw differ AtHost AtHost c d v w = inr (inr refl)

single : (raw : RawLists) → AreSingle (IsWrongAt raw)
single raw (AtName k) c d v w = v.2 ∙ sym w.2
single raw (AtLine k) c d v w = one_cause raw.names (end_lines raw) (line_at (end_lines raw) k) c d v.1 w.1
single raw AtHost c d v w = v.1 ∙ sym w.1

-- a description has one first fault
pub one_first_fault : (raw : RawLists) (f g : Fault) → DifferInNumber (end_lines raw) → IsNetworkFault raw f → IsNetworkFault raw g → f ≡ g
one_first_fault raw f g differ v w =
    let same : (v.place ≡ w.place) × (v.cause ≡ w.cause) = one_first (IsBefore raw) (IsWrongAt raw) (in_order raw differ)
    (single raw) v.place w.place v.cause w.cause v.first w.first in
    v.told ∙ ap (λ p. fault_at (number_at raw p) v.cause) same.0 ∙ ap (λ c. fault_at (number_at raw w.place) c) same.1 ∙ sym w.told

-- where a fault stands, a result that is right is that fault
pub gives_first : {N : Type 0} (raw : RawLists) (result : Result N ReadFault) → DifferInNumber (end_lines raw)
    → ((f : Fault) → result ≡ Err (read.Fault f) → IsNetworkFault raw f) → IfOk result (λ _. IsFaultless raw) → (fault : Fault)
    → IsNetworkFault raw fault → Gives (λ n. n) result (Err fault)
gives_first raw (Ok n) differ told good fault first = absurd (faultless_or_fault raw fault good first)
gives_first raw (Err (read.Fault f)) differ told good fault first = ap Err (one_first_fault raw f fault differ (told f refl) first)
gives_first raw (Err read.NoMemory) differ told good fault first = tt
