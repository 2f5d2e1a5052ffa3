-- Where faults of names are told.
use Rattle.std.proofs.Common.{◌≡◌, ℕ, ◌+◌, ◌<◌, ◌^◌, List, length, get_or, Some, refl, sym, ap, ◌∙◌, subst, arith}
use Rattle.std.specs.Prelude.{slice_get, slice_index, option_map}
use Rattle.std.specs.List.{flat_map}
use Rattle.std.proofs.lemmas.List.{get_or_read}
use Rattle.std.proofs.lemmas.List.Elements.{All-get_or}
use Rattle.std.proofs.lemmas.Option.{slice_get_read}
use Rattle.tn_text.specs.declared.faults.FaultCode.{FaultCode}
use Rattle.tn_text.specs.declared.faults.Detail.TheVariants.{Named}
use Rattle.tn_module.specs.declared.faults.Place.{Place}
use Rattle.tn_module.specs.declared.faults.Place.TheVariants as place_of
use Rattle.tn_module.specs.declared.modules.Import.{Import}
use Rattle.tn_module.specs.declared.modules.Library.{Library}
use Rattle.tn_module.specs.Modules.{Parts}
use Rattle.tn_modtext.specs.Lines.{lines_of}
use Rattle.tn_modtext.specs.ModuleTexts.{line_in}
use Rattle.tn_symbols.specs.Sources.{Offer, offer, modules_at}
use Rattle.tn_symbols.specs.Inner.Sourcing.{IsIn}
use Rattle.tn_symbols.proofs.Sourcing.{modules-here}
use Rattle.tn_config.specs.Configurations.{BlockState}
use Rattle.tn_system.specs.declared.systems.SystemFault.{SystemFault}
use Rattle.tn_system.specs.declared.systems.SystemFault.TheVariants as system
use Rattle.tn_system.specs.Sources.{TextModule, IsShortLibrary}
use Rattle.tn_system.specs.Faults.{fault_in, import_fault, export_fault, IfFault}
use Rattle.tn_system.specs.Inner.Offers.{lines_before, IsOfferOf}
use Rattle.tn_system.proofs.Reading.{lines-before-few}

pub if-fault : (P : SystemFault → Type 0) (fault : SystemFault) → P fault → IfFault fault P
if-fault P (system.Fault file fault) p = p
if-fault P (system.Limit word count) p = p
if-fault P system.NoMemory p = tt

pub if-weaker : (P Q : SystemFault → Type 0) (fault : SystemFault) → ((f : SystemFault) → P f → Q f) → IfFault fault P → IfFault fault Q
if-weaker P Q (system.Fault file fault) h p = h (system.Fault file fault) p
if-weaker P Q (system.Limit word count) h p = h (system.Limit word count) p
if-weaker P Q system.NoMemory h p = tt

-- offers of the same places
pub offer-same : (pool : List Parts) (shelf : List Library) (n m u v : List ℕ) → n ≡ m → u ≡ v → offer pool n shelf u ≡ offer pool m shelf v
offer-same pool shelf n m u v e f = λ j. offer pool (e j) shelf (f j)

-- ---- lines before a module

module _ (o : Offer) (b : BlockState) (is : IsOfferOf o b) (index library at : ℕ) (here : IsIn o index (Some library))
    (at_is : at ≡ get_or o.used library at) (l : Library) (l_is : l ≡ get_or o.shelf at l) (ms : List Parts)
    (ms_are : ms ≡ l.modules.items) where
  place : at ≡ slice_index o.used library
  place = get_or_read o.used library at here.0 at_is 0

  within : at < length o.shelf
  within = subst (λ u. u < length o.shelf) (sym place) here.1

  pub before-few : lines_before ms index < 2 ^ 30
  before-few =
      let short : IsShortLibrary l.modules.items = subst (λ (l : Library). IsShortLibrary l.modules.items) (sym l_is)
      (All-get_or (λ (l : Library). IsShortLibrary l.modules.items) o.shelf at l within is.short) in
      omega (arith, short.few_lines, lines-before-few ms index, ap (λ ms. length (flat_map lines_of ms)) ms_are)

  pub before-is : lines_before ms index ≡ lines_before (modules_at o.shelf (slice_index o.used library)) index
  before-is =
      ap (λ ms. lines_before ms index)
      (ms_are ∙ ap (λ (l : Library). l.modules.items) l_is ∙ sym (modules-here o.shelf at l within) ∙ ap (modules_at o.shelf) place)

-- ---- faults at places

-- a fault at a place, from its parts
told-at : (m : TextModule) (p : Place) (code : FaultCode) (name file : List ℕ) (before line : ℕ) (parts : Parts) → parts ≡ m.parts
    → file ≡ m.file → before ≡ m.before → line ≡ line_in parts p
    → fault_in m p code name ≡ system.Fault file (record { code = code; line = before + line; detail = Named name })
told-at m p code name file before line parts parts_are file_is before_is line_is =
    let lines : line_in m.parts p ≡ line = ap (λ x. line_in x p) (sym parts_are) ∙ sym line_is in
    λ j. system.Fault (sym file_is j) (record { code = code; line = sym before_is j + lines j; detail = Named name })

module _ (m : TextModule) (i : ℕ) (code : FaultCode) (file : List ℕ) (before line : ℕ) (parts : Parts) (parts_are : parts ≡ m.parts)
    (file_is : file ≡ m.file) (before_is : before ≡ m.before) (result : SystemFault) where
  pub import-told : (imports : List Import) (import : Import) → imports ≡ parts.imports → i < length parts.imports
      → import ≡ get_or imports i import → line ≡ line_in parts (place_of.Import i)
      → result ≡ system.Fault file (record { code = code; line = before + line; detail = Named import.name })
      → import_fault code i m ≡ Some result
  import-told imports import imports_are within is line_is told =
      let same : imports ≡ m.parts.imports = imports_are ∙ ap (λ x. x.imports) parts_are in
      let at : slice_get m.parts.imports i ≡ Some import = slice_get_read m.parts.imports (length m.parts.imports) i import refl
      (subst (λ x. i < length x.imports) parts_are within) (is ∙ ap (λ l. get_or l i import) same) in
      ap (option_map (λ (x : Import). fault_in m (place_of.Import i) code x.name)) at
      ∙ ap Some (told-at m (place_of.Import i) code import.name file before line parts parts_are file_is before_is line_is ∙ sym told)

  pub export-told : (exports : List (List ℕ)) (name : List ℕ) → exports ≡ parts.exports → i < length parts.exports
      → name ≡ get_or exports i name → line ≡ line_in parts (place_of.Export i)
      → result ≡ system.Fault file (record { code = code; line = before + line; detail = Named name })
      → export_fault code i m ≡ Some result
  export-told exports name exports_are within is line_is told =
      let same : exports ≡ m.parts.exports = exports_are ∙ ap (λ x. x.exports) parts_are in
      let at : slice_get m.parts.exports i ≡ Some name = slice_get_read m.parts.exports (length m.parts.exports) i name refl
      (subst (λ x. i < length x.exports) parts_are within) (is ∙ ap (λ l. get_or l i name) same) in
      ap (option_map (fault_in m (place_of.Export i) code)) at
      ∙ ap Some (told-at m (place_of.Export i) code name file before line parts parts_are file_is before_is line_is ∙ sym told)
