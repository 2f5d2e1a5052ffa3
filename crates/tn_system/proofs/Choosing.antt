-- The modules that are chosen of an offer are those that are chosen for the processor.
use Rattle.std.proofs.Common.{◌≡◌, ◌⊎◌, inl, inr, ℕ, suc, ◌+◌, ◌<◌, ◌≤◌}
use Rattle.std.proofs.Common.{List, [], ◌∷◌, ◌++◌, length, get_or, take, map, Option, Some, None}
use Rattle.std.proofs.Common.{refl, sym, ap, ◌∙◌, subst, arith}
use Rattle.std.specs.Prelude.{slice_get, slice_index}
use Rattle.std.specs.List.{flat_map, range_with_len}
use Rattle.std.specs.Option.{option_map_or}
use Rattle.std.proofs.lemmas.List.{get_or-map, get_or_past, length-map, map-append, length-append}
use Rattle.std.proofs.lemmas.List.Concat.{flat_map-cons}
use Rattle.std.proofs.lemmas.List.Elements.{All-weaker}
use Rattle.std.proofs.lemmas.Option.{slice_get_cases}
use Rattle.tn_module.specs.declared.modules.Library.{Library}
use Rattle.tn_module.specs.Modules.{Parts}
use Rattle.tn_modtext.specs.Lines.{lines_of}
use Rattle.tn_symbols.specs.declared.choices.Source.{Source}
use Rattle.tn_symbols.specs.Choices.{module_at, IsChosen}
use Rattle.tn_symbols.specs.Sources.{Offer, modules_at, source, named_sources}
use Rattle.tn_symbols.specs.Sources.{library_sources, stock_sources, module_in, modules_of}
use Rattle.tn_symbols.specs.Sources.{source_at, IsChoice}
use Rattle.tn_symbols.proofs.Sourcing.{choice-picks}
use Rattle.tn_config.specs.Configurations.{BlockState}
use Rattle.tn_system.specs.Sources.{module_files, library_files, place_of, Sources, TextModule}
use Rattle.tn_system.specs.Sources.{parts_of, modules_behind, modules_in, named, stock}
use Rattle.tn_system.specs.Sources.{module_in as module_of_file, text_module_at, IsChosenFor, OfChosen}
use Rattle.tn_system.specs.Inner.Offers.{text_in, text_of, OfChoice}
use Rattle.tn_system.proofs.Lists.{map_same}
use Rattle.tn_system.proofs.Ranges.{map-map, map-flat_map, by-place, join-by-place}

-- ---- the modules of a library

abbrev text_at : List ℕ → ℕ → List Parts → ℕ → TextModule
text_at file before ms i = record { file = file; before = before + length (flat_map lines_of (take i ms)); parts = module_at ms i }

-- those that stand one after the other are those at the places
pub behind-by-place : (f : ℕ → TextModule) (file : List ℕ) (before a : ℕ) (ms : List Parts)
    → ((i : ℕ) → i < length ms → f (a + i) ≡ text_at file before ms i)
    → map f (range_with_len a (length ms)) ≡ modules_behind file before ms
behind-by-place f file before a [] h = refl
behind-by-place f file before a (m ∷ ms) h =
    let start : a ≡ a + 0 = omega arith in
    let none : before + 0 ≡ before = omega arith in
    let first : f a ≡ record { file = file; before = before; parts = m } = ap f start ∙ h 0 (omega arith)
    ∙ ap (λ n. record { file = file; before = n; parts = m }) none in
    let rest : map f (range_with_len (a + 1) (length ms)) ≡ modules_behind file (before + length (lines_of m)) ms = behind-by-place f file
    (before + length (lines_of m)) (a + 1) ms (λ i l. next i l) in
    λ j. first j ∷ rest j
  where
    next : (i : ℕ) → i < length ms → f (a + 1 + i) ≡ text_at file (before + length (lines_of m)) ms i
    next i l =
        let same : a + 1 + i ≡ a + suc i = omega arith in
        let lines : before + length (flat_map lines_of (m ∷ take i ms)) ≡ before + length (lines_of m) + length
        (flat_map lines_of (take i ms)) =
        omega (arith, ap length (flat_map-cons lines_of m (take i ms)), length-append (lines_of m) (flat_map lines_of (take i ms))) in
        ap f same ∙ h (suc i) (omega (arith, l)) ∙ ap (λ n. record { file = file; before = n; parts = module_at ms i }) lines

-- the library at a place of a shelf
pub library-at : (shelf : List Library) (u : ℕ) → modules_at shelf u ≡ get_or (map (λ (l : Library). l.modules.items) shelf) u []
library-at shelf u = by (slice_get_cases shelf u).1
  where
    by : ((x : Library) × (u < length shelf) × (slice_get shelf u ≡ Some x) × (get_or shelf u x ≡ x))
        ⊎ ((length shelf ≤ u) × (slice_get shelf u ≡ None))
        → modules_at shelf u ≡ get_or (map (λ (l : Library). l.modules.items) shelf) u []
    by (inl s) = ap (λ o. option_map_or (λ (l : Library). l.modules.items) o []) s.2 ∙ ap (λ (l : Library). l.modules.items) (sym s.3)
        ∙ sym (get_or-map (λ (l : Library). l.modules.items) shelf u s.0 [] s.1)
    by (inr n) = ap (λ o. option_map_or (λ (l : Library). l.modules.items) o []) n.1
        ∙ sym (get_or_past (map (λ (l : Library). l.modules.items) shelf) u [] (omega
        (arith, n.0, length-map shelf (λ (l : Library). l.modules.items))))

-- ---- offers

-- the parts are those of the modules that sources tell
pub part-same : (o : Offer) (b : BlockState) (index : ℕ) (library : Option ℕ) →
    (text_in o b index library).parts ≡ module_in o index library
part-same o b index None = refl
part-same o b index (Some u) = refl

pub parts-same : (o : Offer) (b : BlockState) (sources : List Source) → parts_of (map (text_of o b) sources) ≡ modules_of o sources
parts-same o b [] = refl
parts-same o b (x ∷ xs) =
    let first = part-same o b x.index x.library in let rest = parts-same o b xs in λ j. first j ∷ rest j

-- the offer is that of the processor
pub record IsOffered (s : Sources) (b : BlockState) (o : Offer) : Type 0 where
  pub pool : o.pool ≡ s.pool
  pub named : o.named ≡ map (place_of (module_files s.config)) b.modules
  pub shelf : map (λ (l : Library). l.modules.items) o.shelf ≡ s.shelf
  pub used : o.used ≡ map (place_of (library_files s.config)) b.libraries

module _ (s : Sources) (b : BlockState) (o : Offer) (is : IsOffered s b o) where
  abbrev text : Source → TextModule
  text = text_of o b

  named-at : (k : ℕ) → k < length b.modules → text_in o b k None ≡ module_of_file s (get_or b.modules k [])
  named-at k l =
      let place : slice_index o.named k ≡ place_of (module_files s.config) (get_or b.modules k []) =
      ap (λ l. get_or l k 0) is.named ∙ get_or-map (place_of (module_files s.config)) b.modules k [] 0 l in
      λ j. record { file = get_or b.modules k []; before = 0; parts = module_at (is.pool j) (place j) }

  pub named-same : map text (named_sources o) ≡ named s b
  named-same =
      map-map text (source None) (range_with_len 0 (length o.named))
      ∙ ap (λ n. map (λ k. text_in o b k None) (range_with_len 0 n))
      (ap length is.named ∙ length-map b.modules (place_of (module_files s.config)))
      ∙ by-place (λ k. text_in o b k None) (module_of_file s) b.modules [] 0
      (λ k l. (let same : 0 + k ≡ k = omega arith in ap (λ k. text_in o b k None) same ∙ named-at k l))

  library-same : (u : ℕ) → u < length b.libraries → map text (library_sources o u) ≡ modules_in s (get_or b.libraries u [])
  library-same u l =
      let place : slice_index o.used u ≡ place_of (library_files s.config) (get_or b.libraries u []) =
      ap (λ l. get_or l u 0) is.used ∙ get_or-map (place_of (library_files s.config)) b.libraries u [] 0 l in
      let modules : modules_at o.shelf (slice_index o.used u) ≡ get_or s.shelf
      (place_of (library_files s.config) (get_or b.libraries u [])) [] =
      library-at o.shelf (slice_index o.used u) ∙ (λ j. get_or (is.shelf j) (place j) []) in
      map-map text (source (Some u)) (range_with_len 0 (length (modules_at o.shelf (slice_index o.used u))))
      ∙ behind-by-place (λ i. text_in o b i (Some u)) (get_or b.libraries u []) 1 0 (modules_at o.shelf (slice_index o.used u))
      (λ i h. (let same : 0 + i ≡ i = omega arith in ap (λ i. text_in o b i (Some u)) same))
      ∙ ap (modules_behind (get_or b.libraries u []) 1) modules

  pub stock-same : map text (stock_sources o) ≡ stock s b
  stock-same =
      map-flat_map text (library_sources o) (range_with_len 0 (length o.used))
      ∙ ap (λ n. flat_map (λ u. map text (library_sources o u)) (range_with_len 0 n))
      (ap length is.used ∙ length-map b.libraries (place_of (library_files s.config)))
      ∙ join-by-place (λ u. map text (library_sources o u)) (modules_in s) b.libraries [] 0
      (λ u l. (let same : 0 + u ≡ u = omega arith in ap (λ u. map text (library_sources o u)) same ∙ library-same u l))

  -- what is chosen is the same
  pub chosen-same : (sources : List Source) → IsChoice o sources → IsChosenFor s b (map text sources)
  chosen-same sources c =
      record {
        picks = c.picks;
        chosen =
            subst (λ l. IsChosen l (parts_of (stock s b)) c.picks) (sym (parts-same o b (named_sources o)) ∙ ap parts_of named-same)
            (subst (λ l. IsChosen (modules_of o (named_sources o)) l c.picks)
            (sym (parts-same o b (stock_sources o)) ∙ ap parts_of stock-same)
            c.chosen);
        modules_are = ap (map text) c.sources_are ∙ map-append text (named_sources o) (map (source_at (stock_sources o)) c.picks)
            ∙ (λ j. named-same j ++ picked j);
      }
    where
      picked : map text (map (source_at (stock_sources o)) c.picks) ≡ map (text_module_at (stock s b)) c.picks
      picked =
          map-map text (source_at (stock_sources o)) c.picks
          ∙ map_same (λ k. text (source_at (stock_sources o) k)) (text_module_at (stock s b)) c.picks
          (All-weaker (λ k. k < length (stock_sources o)) (λ k. text (source_at (stock_sources o) k) ≡ text_module_at (stock s b) k)
          (λ k l. sym (get_or-map text (stock_sources o) k (source None 0) (text_module_at [] 0) l)
          ∙ ap (λ l. text_module_at l k) stock-same) c.picks (choice-picks o c.picks c.chosen))

  -- and so is what holds of it
  pub of-chosen : (P : List TextModule → Type 0) → OfChoice o b P → OfChosen s b P
  of-chosen P c = record { modules = map text c.sources; chosen = chosen-same c.sources c.choice; holds = c.holds }
