-- The addresses of labels that modules export.
use Rattle.std.proofs.Common.{◌≡◌, ℕ, ◌+◌, true, List, Option, Some, None, is_some, refl, sym, ap, ◌∙◌, position}
use Rattle.std.specs.Prelude.{option_and_then}
use Rattle.std.specs.Option.{option_or, option_map}
use Rattle.std.proofs.lemmas.Option.{none-some, same_Some}
use Rattle.tn_module.specs.Modules.{Parts}
use Rattle.tn_module.specs.Names.{is_among}
use Rattle.tn_module.specs.Validity.{IsValid}
use Rattle.tn_symbols.specs.Choices.{exported, module_at}
use Rattle.tn_symbols.specs.Definitions.{first_exporter, definition_in, definition_of}
use Rattle.tn_symbols.specs.declared.choices.Definition.{Definition}
use Rattle.tn_symbols.proofs.Exporting.{exporter-is, defined-some}
use Rattle.tn_link.specs.Places.{start, is_code_label, is_cell_label, item_target, cell_target, label, exported_label}
use Rattle.tn_link.specs.Cells.{Frame, address}
use Rattle.tn_link.proofs.Meanings.{exported-some}

mapped-none : {X Y : Type 0} (g : X → Y) (o : Option X) → option_map g o ≡ None → o ≡ None
mapped-none g None h = refl
mapped-none g (Some x) h = absurd cc

module _ (modules : List Parts) (name : List ℕ) (d : Definition) (found : definition_of modules name ≡ Some d) where
  abbrev m : ℕ
  m = d.«module»

  first-of : first_exporter modules name ≡ Some m
  first-of = by (first_exporter modules name) refl
    where
      by : (o : Option ℕ) → first_exporter modules name ≡ o → first_exporter modules name ≡ Some m
      by None e = absurd (none-some d (sym (ap (option_map (definition_in modules name)) e) ∙ found))
      by (Some k) e = e ∙ ap (λ (x : Definition). Some x.«module»)
          (same_Some (definition_in modules name k) d (sym (ap (option_map (definition_in modules name)) e) ∙ found))

  pub is-exported : true ≡ is_among (exported modules) name
  is-exported = sym (ap is_some found) ∙ defined-some modules name

  -- the label that is exported is that of the module
  labelled : exported_label modules name ≡ label modules m name
  labelled = ap (option_and_then (λ k. label modules k name)) first-of

  module _ (f : Frame) where
    abbrev code : Option ℕ
    code = position (is_code_label name) (module_at modules m).items

    abbrev cells : Option ℕ
    cells = position (is_cell_label name) (module_at modules m).cells

    abbrev item_address : ℕ → ℕ
    item_address i = address f (item_target (start modules m) i)

    abbrev cell_address : ℕ → ℕ
    cell_address i = f.cell_base + (cell_target (start modules m) (module_at modules m).cells i).place

    -- a label of code
    pub code-here : (r : Option ℕ) (a : ℕ) → r ≡ option_map item_address code → r ≡ Some a
        → Some a ≡ option_map (address f) (exported_label modules name)
    code-here r a e h = by code refl ∙ ap (option_map (address f)) (sym labelled)
      where
        by : (o : Option ℕ) → code ≡ o → Some a ≡ option_map (address f) (label modules m name)
        by None p = absurd (none-some a (sym (ap (option_map item_address) p) ∙ sym e ∙ h))
        by (Some i) p =
            sym h ∙ e ∙ ap (option_map item_address) p
            ∙ ap (λ o. option_map (address f) (option_or (option_map (item_target (start modules m)) o)
            (option_map (cell_target (start modules m) (module_at modules m).cells) cells))) (sym p)

    module _ (r : Option ℕ) (none : option_map item_address code ≡ None) (e : r ≡ option_map cell_address cells) where
      no_code : code ≡ None
      no_code = mapped-none item_address code none

      cells-only : label modules m name ≡ option_map (cell_target (start modules m) (module_at modules m).cells) cells
      cells-only = ap (λ o. option_or (option_map (item_target (start modules m)) o)
          (option_map (cell_target (start modules m) (module_at modules m).cells) cells)) no_code

      -- a label of a cell
      pub cell-here : r ≡ option_map (address f) (exported_label modules name)
      cell-here = e ∙ by cells ∙ ap (option_map (address f)) (sym (labelled ∙ cells-only))
        where
          by : (o : Option ℕ) → option_map cell_address o ≡ option_map (address f)
              (option_map (cell_target (start modules m) (module_at modules m).cells) o)
          by None = refl
          by (Some i) = refl

      pub cell-is : IsValid (module_at modules m) → is_some r ≡ is_among (exported modules) name
      cell-is valid = ap is_some e ∙ by cells refl ∙ is-exported
        where
          by : (o : Option ℕ) → cells ≡ o → is_some (option_map cell_address cells) ≡ true
          by None p =
              let x = exporter-is modules name m first-of in
              let t = exported-some modules m name valid x.1 in
              absurd (none-some t.0 (sym (cells-only ∙ ap (option_map (cell_target (start modules m) (module_at modules m).cells)) p)
              ∙ t.1))
          by (Some i) p = ap (λ o. is_some (option_map cell_address o)) p
