-- What is made of the chosen modules, and what is wrong with their names.
use Rattle.std.proofs.Common.{◌≡◌, ◌⊎◌, inl, inr, ℕ, ◌<◌, ◌^◌, Bool, true}
use Rattle.std.proofs.Common.{false, List, [], length, get_or, take, map, ◌++◌, Option, Some, None}
use Rattle.std.proofs.Common.{refl, sym, ap, ◌∙◌, subst, arith, if◌then◌else◌}
use Rattle.std.specs.Prelude.{slice_get, option_and_then, All}
use Rattle.std.proofs.lemmas.Bool.{cases_lt}
use Rattle.std.proofs.lemmas.List.{length-map, get_or-map}
use Rattle.std.proofs.lemmas.Option.{none-some, slice_get-get_or, slice_get_within}
use Rattle.std.proofs.lemmas.List.Elements.{All-get_or}
use Rattle.tn_text.specs.declared.faults.FaultCode.TheVariants as code
use Rattle.tn_module.specs.declared.modules.Import.{Import}
use Rattle.tn_module.specs.Modules.{Parts, IsShort}
use Rattle.tn_module.specs.Names.{is_among}
use Rattle.tn_symbols.specs.declared.choices.Source.{Source}
use Rattle.tn_symbols.specs.declared.choices.Definition.{Definition}
use Rattle.tn_symbols.specs.declared.choices.ChooseFault.{ChooseFault}
use Rattle.tn_symbols.specs.declared.choices.ChooseFault.TheVariants as choose
use Rattle.tn_symbols.specs.Choices.{exported, module_at}
use Rattle.tn_symbols.specs.Sources.{Offer, module_of, modules_of, named_sources, stock_sources, source_at, IsChoice, IsOffer}
use Rattle.tn_symbols.specs.Definitions.{definition_of, same_kind, AreDefined}
use Rattle.tn_symbols.specs.Faults.{Site, ExportAt, ImportAt, export_fault, import_fault, fault_at, AreSound, IsFirstFault, IsFaultOf}
use Rattle.tn_symbols.specs.Inner.Sourcing.{IsHere}
use Rattle.tn_symbols.proofs.Sourcing.{choice-here, choice-few, here-short}
use Rattle.tn_symbols.proofs.OneChoice.{one_is_chosen}
use Rattle.tn_symbols.proofs.FirstFaults.{exports-past, imports-past}
use Rattle.tn_link.specs.Linking.{AreLinkable, IsLinked}
use Rattle.tn_config.specs.Configurations.{BlockState}
use Rattle.tn_stream.specs.Images.{ImageBytes}
use Rattle.tn_image.specs.declared.images.ImageFault.{ImageFault}
use Rattle.tn_image.specs.Images.{IsInRange, IsImageFor, IsImageFault}
use Rattle.tn_sym.specs.declared.programs.Program.{Program}
use Rattle.tn_sym.specs.ProgramStates.{program_of}
use Rattle.tn_sym.specs.Programs.{AreModules}
use Rattle.tn_system.specs.declared.systems.SystemFault.{SystemFault}
use Rattle.tn_system.specs.Sources.{parts_of}
use Rattle.tn_system.specs.Systems.{IsImageOf, AreLinkableAt, IsProgramOf, BelongTogether}
use Rattle.tn_system.specs.Faults.{import_fault as told_import, export_fault as told_export}
use Rattle.tn_system.specs.Faults.{symbol_fault, image_fault, IsSymbolFault, IsModulesFault}
use Rattle.tn_system.specs.Inner.Offers.{text_of, OfChoice, IsOfferOf}
use Rattle.tn_system.proofs.Choosing.{parts-same}
use Rattle.tn_system.proofs.Programs.{linkable-at, together}

-- ---- modules

-- what is chosen of an offer is chosen of the same one
pub choice-moved : (o p : Offer) (sources : List Source) → o ≡ p → IsChoice o sources → IsChoice p sources
choice-moved o p sources e c = subst (λ o. IsChoice o sources) e c

pub copies-moved : (o p : Offer) (sources : List Source) (modules : List Parts) → o ≡ p → modules ≡ modules_of o sources
    → modules ≡ modules_of p sources
copies-moved o p sources modules e c = c ∙ ap (λ o. modules_of o sources) e

-- chosen modules can be linked
pub linkable : (o : Offer) → IsOffer o → (sources : List Source) (modules : List Parts) → IsChoice o sources
    → modules ≡ modules_of o sources
    → AreDefined modules → AreLinkable modules
linkable o is sources modules choice copies defined = record {
  defined = defined;
  few = subst (λ l. length l < 2 ^ 30) (sym copies) (choice-few o is sources choice);
  short = subst (All IsShort) (sym copies) (here-short o is sources (choice-here o is sources choice));
}

-- ---- images

-- an image and the program that it is made of belong together
pub made-together : (b : BlockState) (modules : List Parts) (i : ImageBytes) (g : Program) → IsImageFor modules b i
    → IsLinked modules b.code b.cells g.linked → BelongTogether (program_of g) i
made-together b modules i g image is =
    together b modules i image (program_of g) (record { linked = g.linked; is_linked = is; seen = refl })

module _ (o : Offer) (b : BlockState) (sources : List Source) (modules : List Parts) (choice : IsChoice o sources)
    (copies : modules ≡ modules_of o sources) (sound : AreSound modules) where
  same : parts_of (map (text_of o b) sources) ≡ modules
  same = parts-same o b sources ∙ sym copies

  pub made : (i : ImageBytes) → IsImageFor modules b i → OfChoice o b (IsImageOf b i)
  made i is = record {
    sources = sources;
    choice = choice;
    holds = record { sound = subst AreSound (sym same) sound; image = subst (λ l. IsImageFor l b i) (sym same) is };
  }

  -- and the program beside it
  pub program-made : (i : ImageBytes) (g : Program) → IsInRange b → AreModules modules → AreLinkable modules → g.chosen.modules.items ≡ modules
      → IsImageFor modules b i → IsLinked modules b.code b.cells g.linked → OfChoice o b (IsProgramOf b (program_of g))
  program-made i g range valid linkable modules_are image is = record {
    sources = sources;
    choice = choice;
    holds = record {
      sound = subst AreSound (sym same) sound;
      linkable = subst (AreLinkableAt b) (sym same) (linkable-at b modules i image range valid linkable);
      modules_are = modules_are ∙ sym same;
      linked = record {
        linked = g.linked;
        is_linked = subst (λ l. IsLinked l b.code b.cells g.linked) (sym same) is;
        seen = refl;
      };
    };
  }

  pub failed : (config_file : List ℕ) (found : ImageFault) (fault : SystemFault) → IsImageFault modules b found
      → image_fault config_file found ≡ Some fault → OfChoice o b (IsModulesFault config_file b fault)
  failed config_file found fault is told = record {
    sources = sources;
    choice = choice;
    holds = inr (record {
      sound = subst AreSound (sym same) sound;
      found = found;
      first = subst (λ l. IsImageFault l b found) (sym same) is;
      told = told;
    });
  }

-- ---- places of names

-- what is wrong at a place carries the place
export-site : (modules : List Parts) (m i : ℕ) (c : ChooseFault) → fault_at modules (ExportAt m i) ≡ Some c
    → (c ≡ choose.Duplicate m i) × (m < length modules) × (i < length (module_at modules m).exports)
export-site modules m i c h = by (slice_get (module_at modules m).exports i) refl
  where
    told : (b : Bool) → (if b then Some (choose.Duplicate m i) else None) ≡ Some c → c ≡ choose.Duplicate m i
    told true e = cc
    told false e = absurd (none-some c e)

    within : m < length modules
    within = elim (cases_lt m (length modules)) [
      | inl l ↦ l
      | inr past ↦ absurd (none-some c (sym (exports-past modules m i past) ∙ h))
    ]

    by : (name : Option (List ℕ)) → slice_get (module_at modules m).exports i ≡ name
        → (c ≡ choose.Duplicate m i) × (m < length modules) × (i < length (module_at modules m).exports)
    by None e = absurd (none-some c (sym (ap (option_and_then (λ name. export_fault m i (exported (take m modules)) name)) e) ∙ h))
    by (Some name) e = (
      told (is_among (exported (take m modules)) name)
          (sym (ap (option_and_then (λ name. export_fault m i (exported (take m modules)) name)) e) ∙ h),
      within,
      slice_get_within (module_at modules m).exports i name e,
    )

import-site : (modules : List Parts) (m i : ℕ) (c : ChooseFault) → fault_at modules (ImportAt m i) ≡ Some c
    → ((c ≡ choose.Undefined m i) ⊎ (c ≡ choose.WrongKind m i)) × (m < length modules) × (i < length (module_at modules m).imports)
import-site modules m i c h = by (slice_get (module_at modules m).imports i) refl
  where
    kind : (b : Bool) → (if b then None else Some (choose.WrongKind m i)) ≡ Some c → c ≡ choose.WrongKind m i
    kind true e = absurd (none-some c e)
    kind false e = cc

    told : (import : Import) (d : Option Definition) → import_fault m i import.kind d ≡ Some c
        → (c ≡ choose.Undefined m i) ⊎ (c ≡ choose.WrongKind m i)
    told import None e = inl cc
    told import (Some d) e = inr (kind (same_kind d.kind import.kind) e)

    within : m < length modules
    within = elim (cases_lt m (length modules)) [
      | inl l ↦ l
      | inr past ↦ absurd (none-some c (sym (imports-past modules m i past) ∙ h))
    ]

    by : (import : Option Import) → slice_get (module_at modules m).imports i ≡ import
        → ((c ≡ choose.Undefined m i) ⊎ (c ≡ choose.WrongKind m i)) × (m < length modules) × (i < length (module_at modules m).imports)
    by None e = absurd (none-some c
        (sym (ap (option_and_then (λ import. import_fault m i import.kind (definition_of modules import.name))) e) ∙ h))
    by (Some import) e = (
      told import (definition_of modules import.name)
          (sym (ap (option_and_then (λ import. import_fault m i import.kind (definition_of modules import.name))) e) ∙ h),
      within,
      slice_get_within (module_at modules m).imports i import e,
    )

-- a module with an import, or an export, at these places
pub record HasImport (modules : List Parts) (m i : ℕ) : Type 0 where
  pub here : m < length modules
  pub within : i < length (module_at modules m).imports

pub record HasExport (modules : List Parts) (m i : ℕ) : Type 0 where
  pub here : m < length modules
  pub within : i < length (module_at modules m).exports

pub undefined-here : (modules : List Parts) (m i : ℕ) → IsFirstFault modules (choose.Undefined m i) → HasImport modules m i
undefined-here modules m i f = by f.site f.first.wrong
  where
    at : (n j : ℕ) → (choose.Undefined m i ≡ choose.Undefined n j) ⊎ (choose.Undefined m i ≡ choose.WrongKind n j) → (m ≡ n) × (i ≡ j)
    at n j (inl e) = (cc, cc)
    at n j (inr e) = absurd cc

    by : (site : Site) → fault_at modules site ≡ Some (choose.Undefined m i) → HasImport modules m i
    by (ExportAt n j) h = absurd (let e : choose.Undefined m i ≡ choose.Duplicate n j = (export-site modules n j _ h).0 in cc)
    by (ImportAt n j) h =
        let at_site = import-site modules n j _ h in
        let place = at n j at_site.0 in
        record {
          here = omega (arith, at_site.1, place.0);
          within = subst (λ m. i < length (module_at modules m).imports) (sym place.0) (omega (arith, at_site.2, place.1));
        }

pub wrong-kind-here : (modules : List Parts) (m i : ℕ) → IsFirstFault modules (choose.WrongKind m i) → HasImport modules m i
wrong-kind-here modules m i f = by f.site f.first.wrong
  where
    at : (n j : ℕ) → (choose.WrongKind m i ≡ choose.Undefined n j) ⊎ (choose.WrongKind m i ≡ choose.WrongKind n j) → (m ≡ n) × (i ≡ j)
    at n j (inl e) = absurd cc
    at n j (inr e) = (cc, cc)

    by : (site : Site) → fault_at modules site ≡ Some (choose.WrongKind m i) → HasImport modules m i
    by (ExportAt n j) h = absurd (let e : choose.WrongKind m i ≡ choose.Duplicate n j = (export-site modules n j _ h).0 in cc)
    by (ImportAt n j) h =
        let at_site = import-site modules n j _ h in
        let place = at n j at_site.0 in
        record {
          here = omega (arith, at_site.1, place.0);
          within = subst (λ m. i < length (module_at modules m).imports) (sym place.0) (omega (arith, at_site.2, place.1));
        }

pub duplicate-here : (modules : List Parts) (m i : ℕ) → IsFirstFault modules (choose.Duplicate m i) → HasExport modules m i
duplicate-here modules m i f = by f.site f.first.wrong
  where
    none : (n j : ℕ) → (choose.Duplicate m i ≡ choose.Undefined n j) ⊎ (choose.Duplicate m i ≡ choose.WrongKind n j) → ⊥
    none n j (inl e) = cc
    none n j (inr e) = cc

    by : (site : Site) → fault_at modules site ≡ Some (choose.Duplicate m i) → HasExport modules m i
    by (ImportAt n j) h = absurd (none n j (import-site modules n j _ h).0)
    by (ExportAt n j) h =
        let at_site = export-site modules n j _ h in
        let place : (m ≡ n) × (i ≡ j) = (let e : choose.Duplicate m i ≡ choose.Duplicate n j = at_site.0 in (cc, cc)) in
        record {
          here = omega (arith, at_site.1, place.0);
          within = subst (λ m. i < length (module_at modules m).exports) (sym place.0) (omega (arith, at_site.2, place.1));
        }

-- ---- faults of names

-- an offer has one choice
pub one-choice : (o : Offer) (xs ys : List Source) → IsChoice o xs → IsChoice o ys → xs ≡ ys
one-choice o xs ys a b =
    let one = one_is_chosen (modules_of o (named_sources o)) (modules_of o (stock_sources o)) in
    let picks : a.picks ≡ b.picks = one.only a.picks a.chosen ∙ sym (one.only b.picks b.chosen) in
    a.sources_are ∙ ap (λ picks. named_sources o ++ map (source_at (stock_sources o)) picks) picks ∙ sym b.sources_are

pub first-of : (o : Offer) (xs : List Source) (c : ChooseFault) → IsChoice o xs → IsFaultOf o c → IsFirstFault (modules_of o xs) c
first-of o xs c choice f = subst (λ l. IsFirstFault (modules_of o l) c) (one-choice o f.sources xs f.choice choice) f.first

module _ (o : Offer) (b : BlockState) (sources : List Source) (choice : IsChoice o sources) where
  -- the module of a source
  pub module-of-source : (m : ℕ) (d : Source) → m < length sources → module_at (modules_of o sources) m ≡ module_of o (get_or sources m d)
  module-of-source m d l = get_or-map (module_of o) sources m d (module_at [] 0) l

  -- its text
  pub text-of-source : (m : ℕ) (d : Source) → m < length sources
      → slice_get (map (text_of o b) sources) m ≡ Some (text_of o b (get_or sources m d))
  text-of-source m d l =
      let within : m < length (map (text_of o b) sources) = omega (arith, l, length-map sources (text_of o b)) in
      slice_get-get_or (map (text_of o b) sources) m (text_of o b d) within
      ∙ ap Some (get_or-map (text_of o b) sources m d (text_of o b d) l)

  -- a fault of names, as it is told
  pub told-names : (c : ChooseFault) (fault : SystemFault) → IsFirstFault (modules_of o sources) c
      → symbol_fault (map (text_of o b) sources) c ≡ Some fault → OfChoice o b (IsSymbolFault fault)
  told-names c fault first told = record {
    sources = sources;
    choice = choice;
    holds = record { found = c; first = subst (λ l. IsFirstFault l c) (sym (parts-same o b sources)) first; told = told };
  }

-- a source at a place of a choice, its module and the fault that is told of it
module _ (o : Offer) (b : BlockState) (is : IsOfferOf o b) (sources : List Source) (choice : IsChoice o sources) (m i : ℕ) where
  module _ (x : Source) (x_is : x ≡ get_or sources m x) (l : m < length sources) where
    source-here : IsHere o x
    source-here = subst (IsHere o) (sym x_is) (All-get_or (IsHere o) sources m x l (choice-here o is.offer sources choice))

    module-there : module_at (modules_of o sources) m ≡ module_of o x
    module-there = module-of-source o b sources choice m x l ∙ ap (module_of o) (sym x_is)

    text-there : slice_get (map (text_of o b) sources) m ≡ Some (text_of o b x)
    text-there = text-of-source o b sources choice m x l ∙ ap (λ x. Some (text_of o b x)) (sym x_is)

  module _ (f : IsFaultOf o (choose.Undefined m i)) where
    undefined-first : IsFirstFault (modules_of o sources) (choose.Undefined m i)
    undefined-first = first-of o sources (choose.Undefined m i) choice f

    pub undefined-index : m < length sources
    undefined-index = omega (arith, (undefined-here (modules_of o sources) m i undefined-first).here, length-map sources (module_of o))

    module _ (x : Source) (x_is : x ≡ get_or sources m x) where
      pub undefined-source : IsHere o x
      undefined-source = source-here x x_is undefined-index

      pub undefined-within : i < length (module_of o x).imports
      undefined-within = subst (λ (p : Parts). i < length p.imports) (module-there x x_is undefined-index)
          (undefined-here (modules_of o sources) m i undefined-first).within

      pub undefined-told : (told : SystemFault) → told_import code.UndefinedSymbol i (text_of o b x) ≡ Some told → OfChoice o b
          (IsSymbolFault told)
      undefined-told told e = told-names o b sources choice (choose.Undefined m i) told undefined-first
          (ap (option_and_then (told_import code.UndefinedSymbol i)) (text-there x x_is undefined-index) ∙ e)

  module _ (f : IsFaultOf o (choose.WrongKind m i)) where
    kind-first : IsFirstFault (modules_of o sources) (choose.WrongKind m i)
    kind-first = first-of o sources (choose.WrongKind m i) choice f

    pub kind-index : m < length sources
    kind-index = omega (arith, (wrong-kind-here (modules_of o sources) m i kind-first).here, length-map sources (module_of o))

    module _ (x : Source) (x_is : x ≡ get_or sources m x) where
      pub kind-source : IsHere o x
      kind-source = source-here x x_is kind-index

      pub kind-within : i < length (module_of o x).imports
      kind-within = subst (λ (p : Parts). i < length p.imports) (module-there x x_is kind-index)
          (wrong-kind-here (modules_of o sources) m i kind-first).within

      pub kind-told : (told : SystemFault) → told_import code.WrongKind i (text_of o b x) ≡ Some told → OfChoice o b (IsSymbolFault told)
      kind-told told e = told-names o b sources choice (choose.WrongKind m i) told kind-first
          (ap (option_and_then (told_import code.WrongKind i)) (text-there x x_is kind-index) ∙ e)

  module _ (f : IsFaultOf o (choose.Duplicate m i)) where
    duplicate-first : IsFirstFault (modules_of o sources) (choose.Duplicate m i)
    duplicate-first = first-of o sources (choose.Duplicate m i) choice f

    pub duplicate-index : m < length sources
    duplicate-index = omega (arith, (duplicate-here (modules_of o sources) m i duplicate-first).here, length-map sources (module_of o))

    module _ (x : Source) (x_is : x ≡ get_or sources m x) where
      pub duplicate-source : IsHere o x
      duplicate-source = source-here x x_is duplicate-index

      pub duplicate-within : i < length (module_of o x).exports
      duplicate-within = subst (λ (p : Parts). i < length p.exports) (module-there x x_is duplicate-index)
          (duplicate-here (modules_of o sources) m i duplicate-first).within

      pub duplicate-told : (told : SystemFault) → told_export code.DuplicateSymbol i (text_of o b x) ≡ Some told → OfChoice o b
          (IsSymbolFault told)
      duplicate-told told e = told-names o b sources choice (choose.Duplicate m i) told duplicate-first
          (ap (option_and_then (told_export code.DuplicateSymbol i)) (text-there x x_is duplicate-index) ∙ e)
