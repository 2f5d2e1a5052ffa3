-- What is offered to a processor of sources that were read.
use Rattle.std.proofs.Common.{◌≡◌, ℕ, ◌+◌, ◌*◌, ◌<◌, ◌≤◌, ◌^◌, true, List, [], ◌∷◌, ◌++◌}
use Rattle.std.proofs.Common.{length, get_or, take, drop, map, Some, None, sym, ap, ◌∙◌, subst, arith}
use Rattle.std.specs.Prelude.{All, slice_index}
use Rattle.std.specs.List.{flat_map, range_with_len}
use Rattle.std.proofs.lemmas.List.{length-map, length-append, take-append-drop}
use Rattle.std.proofs.lemmas.List.Concat.{flat_map-cons, flat_map-append}
use Rattle.std.proofs.lemmas.List.Folds.{length-flat_map-take}
use Rattle.std.proofs.lemmas.List.FromFn.{length-range_with_len, length-map-range_with_len}
use Rattle.std.proofs.lemmas.List.Elements.{All-cons, All-nil, All-map, All-weaker, All-get_or}
use Rattle.tn_text.specs.declared.limits.TheConstants.{FILE_LIMIT, MODULE_LIMIT}
use Rattle.tn_module.specs.declared.modules.Library.{Library}
use Rattle.tn_module.specs.Modules.{Parts, IsShort}
use Rattle.tn_module.specs.Names.{same_name, is_among}
use Rattle.tn_modtext.specs.Lines.{lines_of}
use Rattle.tn_modtext.proofs.ModuleLaws.{length-lines}
use Rattle.tn_symbols.specs.Sources.{Offer, modules_at, source, library_sources, stock_sources, IsOffer}
use Rattle.tn_symbols.specs.Sources.{IsShortLibrary as IsShortOffer}
use Rattle.tn_config.specs.Configurations.{BlockState}
use Rattle.tn_system.specs.Sources.{module_files, library_files, place_of, Sources, HasFewLines, IsShortLibrary, AreRead}
use Rattle.tn_system.specs.Inner.Offers.{IsOfferOf}
use Rattle.tn_system.proofs.Lists.{all_mapped, length-joined, place-below}
use Rattle.tn_system.proofs.EachOnce.{AreAmong, each-there}
use Rattle.tn_system.proofs.Ranges.{all-below}
use Rattle.tn_system.proofs.Choosing.{IsOffered, library-at}

-- ---- texts

-- a module whose text has few lines is short
pub short-module : (m : Parts) → HasFewLines m → IsShort m
short-module m h =
    let is = length-lines m in
    record { imports = omega (arith, h, is); exports = omega (arith, h, is); items = omega (arith, h, is); cells = omega (arith, h, is) }

-- and so are those of a library
few-each : (ms : List Parts) → length (flat_map lines_of ms) < 2 ^ 30 → All HasFewLines ms
few-each [] h = All-nil HasFewLines
few-each (m ∷ ms) h =
    let sum : length (flat_map lines_of (m ∷ ms)) ≡ length (lines_of m) + length (flat_map lines_of ms) =
    ap length (flat_map-cons lines_of m ms) ∙ length-append (lines_of m) (flat_map lines_of ms) in
    All-cons HasFewLines m ms (omega (arith, h, sum)) (few-each ms (omega (arith, h, sum)))

short-library : (l : Library) → IsShortLibrary l.modules.items → IsShortOffer l
short-library l h =
    record {
      few = omega (arith, h.few);
      short = All-weaker HasFewLines IsShort short-module l.modules.items (few-each l.modules.items (omega (arith, h.few_lines)));
    }

-- the lines of the modules before one, and its own, are among all
pub lines-among : (ms : List Parts) (i : ℕ) (m : Parts) → i < length ms → m ≡ get_or ms i m
    → length (flat_map lines_of (take i ms)) + length (lines_of m) ≤ length (flat_map lines_of ms)
lines-among ms i m l is =
    subst (λ x. length (flat_map lines_of (take i ms)) + length (lines_of x) ≤ length (flat_map lines_of ms)) (sym is)
    (length-flat_map-take lines_of ms i m l)

pub lines-before-few : (ms : List Parts) (i : ℕ) → length (flat_map lines_of (take i ms)) ≤ length (flat_map lines_of ms)
lines-before-few ms i =
    let whole : length (flat_map lines_of (take i ms ++ drop i ms)) ≡ length (flat_map lines_of ms) =
    ap (λ l. length (flat_map lines_of l)) (take-append-drop i ms) in
    omega (
      arith,
      whole,
      ap length (flat_map-append lines_of (take i ms) (drop i ms)),
      length-append (flat_map lines_of (take i ms)) (flat_map lines_of (drop i ms)),
    )

-- ---- files

-- the places of files that are there
places-here : (files others : List (List ℕ)) → AreAmong files others → All (λ i. i < length files) (map (place_of files) others)
places-here files others h =
    All-map (λ i. i < length files) (place_of files) others
    (All-weaker (λ other. is_among files other ≡ true) (λ other. place_of files other < length files)
    (λ other there. place-below (same_name other) files there) others h)

-- the files of a processor are few
few-files : {X : Type 0} (f : X → List (List ℕ)) (xs : List X) (k : ℕ) (d : X) → k < length xs
    → length (f (get_or xs k d)) ≤ length (flat_map f xs)
few-files f xs k d l = omega (arith, length-flat_map-take f xs k d l)

-- ---- offers

module _ (s : Sources) (read : AreRead s) (k : ℕ) (d : BlockState) (l : k < length s.config.blocks) (o : Offer)
    (from : IsOffered s (get_or s.config.blocks k d) o) where
  abbrev b : BlockState
  b = get_or s.config.blocks k d

  named-here : All (λ i. i < length o.pool) o.named
  named-here =
      subst (λ n. All (λ i. i < n) o.named) (sym read.pool ∙ ap length (sym from.pool))
      (subst (All (λ i. i < length (module_files s.config))) (sym from.named)
      (places-here (module_files s.config) b.modules
      (All-get_or (λ (x : BlockState). AreAmong (module_files s.config) x.modules) s.config.blocks k d l
      (each-there (λ (x : BlockState). x.modules) s.config.blocks))))

  shelf-length : length s.shelf ≡ length o.shelf
  shelf-length = ap length (sym from.shelf) ∙ length-map o.shelf (λ (l : Library). l.modules.items)

  used-here : All (λ u. u < length o.shelf) o.used
  used-here =
      subst (λ n. All (λ u. u < n) o.used) (sym read.shelf ∙ shelf-length)
      (subst (All (λ u. u < length (library_files s.config))) (sym from.used)
      (places-here (library_files s.config) b.libraries
      (All-get_or (λ (x : BlockState). AreAmong (library_files s.config) x.libraries) s.config.blocks k d l
      (each-there (λ (x : BlockState). x.libraries) s.config.blocks))))

  libraries-short : All (λ (l : Library). IsShortLibrary l.modules.items) o.shelf
  libraries-short =
      all_mapped IsShortLibrary (λ (l : Library). l.modules.items) o.shelf (subst (All IsShortLibrary) (sym from.shelf) read.short)

  library-short : (u : ℕ) → u < length o.shelf → IsShortLibrary (modules_at o.shelf u)
  library-short u h =
      subst IsShortLibrary (sym (library-at o.shelf u ∙ ap (λ l. get_or l u []) from.shelf))
      (All-get_or IsShortLibrary s.shelf u [] (omega (arith, h, shelf-length)) read.short)

  named-count : length o.named ≡ length b.modules
  named-count = ap length from.named ∙ length-map b.modules (place_of (module_files s.config))

  used-count : length o.used ≡ length b.libraries
  used-count = ap length from.used ∙ length-map b.libraries (place_of (library_files s.config))

  stock-few : length (stock_sources o) ≤ MODULE_LIMIT * length o.used
  stock-few =
      let joined : length (stock_sources o) ≤ MODULE_LIMIT * length (range_with_len 0 (length o.used)) =
      length-joined (library_sources o) MODULE_LIMIT (range_with_len 0 (length o.used))
      (all-below (λ u. length (library_sources o u) ≤ MODULE_LIMIT) (length o.used)
      (λ u h. (let short = library-short (slice_index o.used u) (All-get_or (λ u. u < length o.shelf) o.used u 0 h used-here) in
      omega (arith, short.few, length-map-range_with_len (source (Some u)) 0 (length (modules_at o.shelf (slice_index o.used u))))))) in
      subst (λ n. length (stock_sources o) ≤ MODULE_LIMIT * n) (length-range_with_len 0 (length o.used)) joined

  files-few : length b.modules + length b.libraries < FILE_LIMIT
  files-few =
      omega (
        arith,
        read.few_files,
        few-files (λ (x : BlockState). x.modules) s.config.blocks k d l,
        few-files (λ (x : BlockState). x.libraries) s.config.blocks k d l,
      )

  is-offer : IsOffer o
  is-offer = record {
    named = named-here;
    used = used-here;
    few = omega (arith, files-few, named-count, used-count, stock-few, length-map-range_with_len (source None) 0 (length o.named));
    few_libraries = omega (arith, files-few, used-count);
    pool = All-weaker HasFewLines IsShort short-module o.pool (subst (All HasFewLines) (sym from.pool) read.few_lines);
    shelf = All-weaker (λ (l : Library). IsShortLibrary l.modules.items) IsShortOffer short-library o.shelf libraries-short;
  }

  pub offer-of : IsOfferOf o b
  offer-of = record {
    offer = is-offer;
    modules = sym named-count;
    libraries = sym used-count;
    few_lines = subst (All HasFewLines) (sym from.pool) read.few_lines;
    short = libraries-short;
  }
