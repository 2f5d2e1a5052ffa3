-- The modules that a processor is offered, as the choice of modules numbers them.
use Rattle.std.specs.Prelude.{◌≡◌, ℕ, ◌+◌, List, [], map, length, take, slice_index, slice_index_or, All, Option, Some, None}
use Rattle.std.specs.List.{flat_map}
use Rattle.tn_module.specs.Modules.{Parts}
use Rattle.tn_modtext.specs.Lines.{lines_of}
use Rattle.tn_symbols.specs.declared.choices.Source.{Source}
use Rattle.tn_symbols.specs.Sources.{Offer, offer, modules_at, module_in, IsChoice, IsOffer}
use Rattle.tn_config.specs.Configurations.{BlockState}
use Rattle.tn_system.specs.declared.symbols.Offered.{Offered}
use Rattle.tn_system.specs.Sources.{TextModule, HasFewLines, IsShortLibrary}

-- the offer that the code holds
abbrev pub offer_of : Offered → Offer
offer_of o = offer o.pool.now o.places.now.modules.items o.shelf.now o.places.now.libraries.items

-- how many lines of a library's text stand before the module at a place
abbrev pub lines_before : List Parts → ℕ → ℕ
lines_before modules i = 1 + length (flat_map lines_of (take i modules))

-- the module that a source tells, in the file that the processor names there
abbrev pub text_in : Offer → BlockState → ℕ → Option ℕ → TextModule
text_in o b index None = record { file = slice_index_or b.modules index []; before = 0; parts = module_in o index None }
text_in o b index (Some u) =
    record {
      file = slice_index_or b.libraries u [];
      before = lines_before (modules_at o.shelf (slice_index o.used u)) index;
      parts = module_in o index (Some u);
    }

abbrev pub text_of : Offer → BlockState → Source → TextModule
text_of o b s = text_in o b s.index s.library

-- it holds of the modules that are chosen
pub record OfChoice (o : Offer) (b : BlockState) (P : List TextModule → Type 0) : Type 0 where
  pub sources : List Source
  pub choice : IsChoice o sources
  pub holds : P (map (text_of o b) sources)

-- the offer is one of the processor's files, whose texts have few lines
pub record IsOfferOf (o : Offer) (b : BlockState) : Type 0 where
  pub offer : IsOffer o
  pub modules : length b.modules ≡ length o.named
  pub libraries : length b.libraries ≡ length o.used
  pub few_lines : All HasFewLines o.pool
  pub short : All (λ l. IsShortLibrary l.modules.items) o.shelf
