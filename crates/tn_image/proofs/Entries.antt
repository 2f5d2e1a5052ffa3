-- Entries are labels of code.
use Rattle.std.proofs.Common.{◌≡◌, ℕ, ◌≤◌, ◌+◌, Bool, true, false, List, Option, Some, None, refl, sym}
use Rattle.std.proofs.Common.{ap, ◌∙◌, subst, arith, if◌then◌else◌}
use Rattle.std.specs.Prelude.{option_and_then}
use Rattle.std.specs.Option.{option_map, option_map_or}
use Rattle.std.proofs.lemmas.Option.{same_Some}
use Rattle.tn_module.specs.declared.modules.Kind.TheVariants as kind
use Rattle.tn_module.specs.Modules.{Parts}
use Rattle.tn_module.specs.Names.{is_among, is_code, code_labels}
use Rattle.tn_layout.specs.Sizes.{position}
use Rattle.tn_symbols.specs.Choices.{module_at}
use Rattle.tn_symbols.specs.Definitions.{first_exporter, definition_in}
use Rattle.tn_symbols.specs.declared.choices.Definition.{Definition}
use Rattle.tn_link.specs.Places.{start, label, exported_label}
use Rattle.tn_link.specs.Cells.{Frame, frame, address}
use Rattle.tn_link.proofs.Meanings.{code-label}
use Rattle.tn_image.specs.Checks.{is_entry}

module _ (modules : List Parts) (name : List ℕ) (code_base cell_base : ℕ) (sizes : List ℕ) where
  abbrev f : Frame
  f = frame code_base cell_base sizes

  -- an address that is one of the code
  abbrev IsOfCode : ℕ → Type 0
  IsOfCode entry = (option_map (address f) (exported_label modules name) ≡ Some entry) × (code_base ≤ entry)

  -- whether the exporter at a place has the label among its code
  abbrev kind_at : Option ℕ → Bool
  kind_at o = option_map_or (λ (d : Definition). is_code d.kind) (option_map (definition_in modules name) o) false

  -- an entry is a label of code
  entry-here : is_entry modules name ≡ true → (entry : ℕ) × IsOfCode entry
  entry-here h = by (first_exporter modules name) refl
    where
      here : (k : ℕ) (b : Bool) → is_among (code_labels (module_at modules k).items) name ≡ b
          → is_code (if b then kind.Code else kind.Cell) ≡ true → is_among (code_labels (module_at modules k).items) name ≡ true
      here k true e i = e
      here k false e i = absurd cc

      by : (o : Option ℕ) → first_exporter modules name ≡ o → (entry : ℕ) × IsOfCode entry
      by None e = absurd (let i : false ≡ true = sym (ap kind_at e) ∙ h in cc)
      by (Some k) e =
          let i : is_code (definition_in modules name k).kind ≡ true = sym (ap kind_at e) ∙ h in
          let c = code-label (module_at modules k) (start modules k) name
          (here k (is_among (code_labels (module_at modules k).items) name) refl i) in
          let at : address f c.0 ≡ code_base + position sizes c.0.place =
          ap (λ b. if b then code_base + position sizes c.0.place else cell_base + c.0.place) c.2 in (
            address f c.0,
            (
              ap (λ o. option_map (address f) (option_and_then (λ k. label modules k name) o)) e ∙ ap (option_map (address f)) c.1,
              omega (arith, at),
            ),
          )

  module _ (is : is_entry modules name ≡ true) where
    pub entry-address : (entry : ℕ) × (option_map (address f) (exported_label modules name) ≡ Some entry)
    entry-address = let e = entry-here is in (e.0, e.1.0)

    pub entry-from : (entry : ℕ) → option_map (address f) (exported_label modules name) ≡ Some entry → code_base ≤ entry
    entry-from entry h =
        let e = entry-here is in
        let same : e.0 ≡ entry = same_Some e.0 entry (sym e.1.0 ∙ h) in
        subst (λ a. code_base ≤ a) same e.1.1
