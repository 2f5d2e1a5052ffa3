-- Where modules come from, and which of them are chosen.
use Rattle.std.specs.Prelude.{◌≡◌, ℕ, ◌+◌, ◌^◌, ◌<◌, List, [], ◌++◌, map, length, slice_get, slice_index, slice_index_or, All, Option}
use Rattle.std.specs.Prelude.{Some, None}
use Rattle.std.specs.List.{flat_map, range_with_len}
use Rattle.std.specs.Option.{option_map_or}
use Rattle.tn_module.specs.declared.modules.Library.{Library}
use Rattle.tn_module.specs.Modules.{Parts, IsShort}
use Rattle.tn_symbols.specs.declared.choices.Source.{Source}
use Rattle.tn_symbols.specs.Choices.{module_at, IsChosen}

-- modules and libraries, the places of the named modules, and those of the used libraries
pub record Offer : Type 0 where
  pub pool : List Parts
  pub named : List ℕ
  pub shelf : List Library
  pub used : List ℕ

abbrev pub offer : List Parts → List ℕ → List Library → List ℕ → Offer
offer pool named shelf used = record { pool = pool; named = named; shelf = shelf; used = used }

-- the modules of the library at a place
abbrev pub modules_at : List Library → ℕ → List Parts
modules_at shelf u = option_map_or (λ l. l.modules.items) (slice_get shelf u) []

abbrev pub source : Option ℕ → ℕ → Source
source library index = record { library = library; index = index }

-- so many sources from a library, or from none
abbrev pub sources_in : Option ℕ → ℕ → List Source
sources_in library n = map (source library) (range_with_len 0 n)

-- the sources of the named modules, of the modules of the used library at a place, and of all
-- modules of the used libraries, in order
abbrev pub named_sources : Offer → List Source
named_sources o = sources_in None (length o.named)

abbrev pub library_sources : Offer → ℕ → List Source
library_sources o u = sources_in (Some u) (length (modules_at o.shelf (slice_index o.used u)))

abbrev pub stock_sources : Offer → List Source
stock_sources o = flat_map (library_sources o) (range_with_len 0 (length o.used))

-- the module that a source tells: with no library it is the named one at the index, else the one at
-- the index in the used library
abbrev pub module_in : Offer → ℕ → Option ℕ → Parts
module_in o index None = module_at o.pool (slice_index o.named index)
module_in o index (Some u) = module_at (modules_at o.shelf (slice_index o.used u)) index

abbrev pub module_of : Offer → Source → Parts
module_of o s = module_in o s.index s.library

abbrev pub modules_of : Offer → List Source → List Parts
modules_of o sources = map (module_of o) sources

-- the source at a place
abbrev pub source_at : List Source → ℕ → Source
source_at sources k = slice_index_or sources k (source None 0)

-- the sources are those of the chosen modules: of the named ones, and of those that are picked
pub record IsChoice (o : Offer) (sources : List Source) : Type 0 where
  pub picks : List ℕ
  pub chosen : IsChosen (modules_of o (named_sources o)) (modules_of o (stock_sources o)) picks
  pub sources_are : sources ≡ named_sources o ++ map (source_at (stock_sources o)) picks

pub record IsShortLibrary (l : Library) : Type 0 where
  pub few : length l.modules.items < 2 ^ 30
  pub short : All IsShort l.modules.items

-- each place is one of the list's, and places of chosen modules and of what stands in them are words
pub record IsOffer (o : Offer) : Type 0 where
  pub named : All (λ i. i < length o.pool) o.named
  pub used : All (λ u. u < length o.shelf) o.used
  pub few : length (named_sources o) + length (stock_sources o) < 2 ^ 30
  pub few_libraries : length o.used < 2 ^ 30
  pub pool : All IsShort o.pool
  pub shelf : All IsShortLibrary o.shelf
