-- A module has one first fault.
use Rattle.std.proofs.Common.{◌≡◌, ◌<◌, ◌≤◌, ◌⊎◌, inl, inr, sym, ap, ◌∙◌, arith}
use Rattle.std.proofs.lemmas.Bool.{cases_lt}
use Rattle.std.proofs.lemmas.Option.{same_Some}
use Rattle.tn_text.specs.declared.faults.Cause.{Cause}
use Rattle.tn_text.proofs.Firsts.{one_first}
use Rattle.tn_module.specs.declared.faults.Place.{Place}
use Rattle.tn_module.specs.declared.faults.Place.TheVariants as place
use Rattle.tn_module.specs.declared.faults.ModuleFault.{ModuleFault}
use Rattle.tn_module.specs.Modules.{Parts}
use Rattle.tn_module.specs.Faults.{list_number, index, IsBefore, IsWrong, IsFirstFault}

same_place : (p q : Place) → list_number p ≡ list_number q → index p ≡ index q → p ≡ q
same_place (place.Import i) (place.Import k) n e = ap place.Import e
same_place (place.Import i) (place.Export k) n e = absurd (omega arith)
same_place (place.Import i) (place.Item k) n e = absurd (omega arith)
same_place (place.Import i) (place.Cell k) n e = absurd (omega arith)
same_place (place.Export i) (place.Import k) n e = absurd (omega arith)
same_place (place.Export i) (place.Export k) n e = ap place.Export e
same_place (place.Export i) (place.Item k) n e = absurd (omega arith)
same_place (place.Export i) (place.Cell k) n e = absurd (omega arith)
same_place (place.Item i) (place.Import k) n e = absurd (omega arith)
same_place (place.Item i) (place.Export k) n e = absurd (omega arith)
same_place (place.Item i) (place.Item k) n e = ap place.Item e
same_place (place.Item i) (place.Cell k) n e = absurd (omega arith)
same_place (place.Cell i) (place.Import k) n e = absurd (omega arith)
same_place (place.Cell i) (place.Export k) n e = absurd (omega arith)
same_place (place.Cell i) (place.Item k) n e = absurd (omega arith)
same_place (place.Cell i) (place.Cell k) n e = ap place.Cell e

-- of two places one is before the other, or they are the same
ordered : (p q : Place) → IsBefore p q ⊎ (IsBefore q p ⊎ (p ≡ q))
ordered p q = lists (cases_lt (list_number p) (list_number q)) (cases_lt (list_number q) (list_number p))
  where
    indices : list_number p ≡ list_number q → (index p < index q) ⊎ (index q ≤ index p) → (index q < index p) ⊎ (index p ≤ index q)
        → IsBefore p q ⊎ (IsBefore q p ⊎ (p ≡ q))
    indices n (inl h) k = inl (inr (n, h))
    indices n (inr h) (inl k) = inr (inl (inr (sym n, k)))
    indices n (inr h) (inr k) = inr (inr (same_place p q n (omega arith)))

    lists : (list_number p < list_number q) ⊎ (list_number q ≤ list_number p)
        → (list_number q < list_number p) ⊎ (list_number p ≤ list_number q) → IsBefore p q ⊎ (IsBefore q p ⊎ (p ≡ q))
    lists (inl h) k = inl (inl h)
    lists (inr h) (inl k) = inr (inl (inl k))
    lists (inr h) (inr k) = indices (omega arith) (cases_lt (index p) (index q)) (cases_lt (index q) (index p))

abbrev fault_of : Place → Cause → ModuleFault
fault_of p cause = record { code = cause.code; place = p; detail = cause.detail }

abbrev cause_of : ModuleFault → Cause
cause_of fault = record { code = fault.code; detail = fault.detail }

pub one_first_fault : (m : Parts) (f g : ModuleFault) → IsFirstFault m f → IsFirstFault m g → f ≡ g
one_first_fault m f g h k =
    let both : (f.place ≡ g.place) × (cause_of f ≡ cause_of g) =
    one_first IsBefore (IsWrong m) (λ p q c d a b. ordered p q)
    (λ p c d a b. same_Some c d (sym a ∙ b)) f.place g.place (cause_of f) (cause_of g) h k in
    ap (λ p. fault_of p (cause_of f)) both.0 ∙ ap (fault_of g.place) both.1
