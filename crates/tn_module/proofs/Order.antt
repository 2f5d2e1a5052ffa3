-- The first fault of a module from the first fault of one of its lists.
use Rattle.std.proofs.Common.{◌≡◌, ℕ, inl, inr, None, Result, Ok, Err, sym, ap, ◌∙◌, subst, arith}
use Rattle.std.proofs.lemmas.Option.{none-some}
use Rattle.tn_module.specs.declared.faults.Place.{Place}
use Rattle.tn_module.specs.declared.faults.Place.TheVariants as place
use Rattle.tn_module.specs.declared.faults.ModuleFault.{ModuleFault}
use Rattle.tn_module.specs.declared.faults.CheckFault.{CheckFault}
use Rattle.tn_module.specs.declared.faults.CheckFault.TheVariants as check
use Rattle.tn_module.specs.Modules.{Parts}
use Rattle.tn_module.specs.Faults.{cause_at, IsBefore, IsFirstFault, IfFault, OnFault}
use Rattle.tn_module.specs.Inner.Sets.{IsSound, AreSound, IsFirstIn}

pub if-fault : {P Q : ModuleFault → Type 0} (e : CheckFault) → ((f : ModuleFault) → P f → Q f) → IfFault e P → IfFault e Q
if-fault (check.Fault f) h p = h f p
if-fault check.NoMemory h p = tt

pub on-fault : {T : Type 0} {P Q : ModuleFault → Type 0} (r : Result T CheckFault) → ((f : ModuleFault) → P f → Q f) → OnFault r P
    → OnFault r Q
on-fault (Ok x) h p = tt
on-fault (Err e) h p = if-fault e h p

module _ (m : Parts) where
  first : (at : ℕ → Place) (f : ModuleFault) (i : IsFirstIn at m f) → ((p : Place) → IsBefore p (at i.index) → cause_at m p ≡ None)
      → IsFirstFault m f
  first at f i h =
      record {
        wrong = ap (cause_at m) i.placed ∙ i.here;
        before = λ p cause b is. none-some cause
            (sym (h p (subst (IsBefore p) i.placed b)) ∙ is);
      }

  pub first_import : (f : ModuleFault) → IsFirstIn place.Import m f → IsFirstFault m f
  first_import f i = first place.Import f i by
    where
      by : (p : Place) → IsBefore p (place.Import i.index) → cause_at m p ≡ None
      by (place.Import k) (inl h) = absurd (omega arith)
      by (place.Import k) (inr h) = i.before k h.1
      by (place.Export k) (inl h) = absurd (omega arith)
      by (place.Export k) (inr h) = absurd (omega (arith, h.0))
      by (place.Item k) (inl h) = absurd (omega arith)
      by (place.Item k) (inr h) = absurd (omega (arith, h.0))
      by (place.Cell k) (inl h) = absurd (omega arith)
      by (place.Cell k) (inr h) = absurd (omega (arith, h.0))

  module _ (imports : AreSound place.Import m) where
    pub first_export : (f : ModuleFault) → IsFirstIn place.Export m f → IsFirstFault m f
    first_export f i = first place.Export f i by
      where
        by : (p : Place) → IsBefore p (place.Export i.index) → cause_at m p ≡ None
        by (place.Import k) h = imports k
        by (place.Export k) (inl h) = absurd (omega arith)
        by (place.Export k) (inr h) = i.before k h.1
        by (place.Item k) (inl h) = absurd (omega arith)
        by (place.Item k) (inr h) = absurd (omega (arith, h.0))
        by (place.Cell k) (inl h) = absurd (omega arith)
        by (place.Cell k) (inr h) = absurd (omega (arith, h.0))

    module _ (exports : AreSound place.Export m) where
      pub first_item : (f : ModuleFault) → IsFirstIn place.Item m f → IsFirstFault m f
      first_item f i = first place.Item f i by
        where
          by : (p : Place) → IsBefore p (place.Item i.index) → cause_at m p ≡ None
          by (place.Import k) h = imports k
          by (place.Export k) h = exports k
          by (place.Item k) (inl h) = absurd (omega arith)
          by (place.Item k) (inr h) = i.before k h.1
          by (place.Cell k) (inl h) = absurd (omega arith)
          by (place.Cell k) (inr h) = absurd (omega (arith, h.0))

      module _ (items : AreSound place.Item m) where
        pub first_cell : (f : ModuleFault) → IsFirstIn place.Cell m f → IsFirstFault m f
        first_cell f i = first place.Cell f i by
          where
            by : (p : Place) → IsBefore p (place.Cell i.index) → cause_at m p ≡ None
            by (place.Import k) h = imports k
            by (place.Export k) h = exports k
            by (place.Item k) h = items k
            by (place.Cell k) (inl h) = absurd (omega arith)
            by (place.Cell k) (inr h) = i.before k h.1

        pub all_sound : AreSound place.Cell m → IsSound m
        all_sound cells (place.Import k) = imports k
        all_sound cells (place.Export k) = exports k
        all_sound cells (place.Item k) = items k
        all_sound cells (place.Cell k) = cells k
