-- What short lists of modules and of libraries give: modules can be chosen, and the chosen ones be linked.
use Rattle.std.proofs.Common.{◌≡◌, ℕ, ◌<◌, ◌≤◌, ◌^◌, ◌⊎◌, inl, inr, List, [], length, get_or, Some, None, ap, arith, All}
use Rattle.std.proofs.Common.{subst, sym}
use Rattle.std.specs.Prelude.{slice_get, slice_index}
use Rattle.std.specs.List.{range_with_len}
use Rattle.std.specs.Option.{option_map_or}
use Rattle.std.proofs.lemmas.List.Concat.{length-flat_map}
use Rattle.std.proofs.lemmas.List.Sums.{sum_by-le}
use Rattle.std.proofs.lemmas.List.FromFn.{length-range_with_len, length-map-range_with_len}
use Rattle.std.proofs.lemmas.List.Elements.{All-from_get_or, All-get_or}
use Rattle.std.proofs.lemmas.Option.{slice_get_cases}
use Rattle.tn_module.specs.declared.modules.Library.{Library}
use Rattle.tn_module.specs.Modules.{Parts, IsShort}
use Rattle.tn_symbols.specs.declared.choices.Source.{Source}
use Rattle.tn_symbols.specs.Sources.{Offer, offer, modules_at, modules_of, source, library_sources, stock_sources}
use Rattle.tn_symbols.specs.Sources.{IsShortLibrary, IsOffer, IsChoice}
use Rattle.tn_symbols.specs.Definitions.{AreDefined}
use Rattle.tn_symbols.proofs.Sourcing.{choice-few, choice-here, here-short}
use Rattle.tn_link.specs.Linking.{AreLinkable}

-- the library has fewer than ten thousand modules
abbrev IsSmall : Library → Type 0
IsSmall l = length l.modules.items < 10000

-- a library at a place has so few modules, and so few sources
few-at : (shelf : List Library) (u : ℕ) → All IsSmall shelf → length (modules_at shelf u) ≤ 10000
few-at shelf u small = go (slice_get_cases shelf u).1
  where
    go : ((x : Library) × (u < length shelf) × (slice_get shelf u ≡ Some x) × (get_or shelf u x ≡ x))
        ⊎ ((length shelf ≤ u) × (slice_get shelf u ≡ None)) → length (modules_at shelf u) ≤ 10000
    go (inl s) =
        let is = ap (λ x. length (option_map_or (λ (l : Library). l.modules.items) x [])) s.2 in
        let has = All-get_or IsSmall shelf u s.0 s.1 small in
        let same = ap (λ (l : Library). length l.modules.items) s.3 in omega (arith, is, has, same)
    go (inr n) =
        let is = ap (λ x. length (option_map_or (λ (l : Library). l.modules.items) x [])) n.1 in omega (arith, is)

few-sources : (o : Offer) → All IsSmall o.shelf → (u : ℕ) → length (library_sources o u) ≤ 10000
few-sources o small u =
    let n : ℕ = length (modules_at o.shelf (slice_index o.used u)) in
    omega (arith, few-at o.shelf (slice_index o.used u) small, length-map-range_with_len (source (Some u)) 0 n)

-- and ten thousand such libraries have a hundred million at most
few-stock : (o : Offer) → All IsSmall o.shelf → length o.used < 10000 → length (stock_sources o) ≤ 100000000
few-stock o small few =
    let places : List ℕ = range_with_len 0 (length o.used) in
    let each = All-from_get_or (λ u. length (library_sources o u) ≤ 10000) places 0 (λ i h. few-sources o small (get_or places i 0)) in
    let total = sum_by-le (λ u. length (library_sources o u)) 10000 places each in
    let many = length-range_with_len 0 (length o.used) in
    omega (arith, total, length-flat_map (library_sources o) places, many, few)

pub offered : (pool : List Parts) (named : List ℕ) (shelf : List Library) (used : List ℕ) → length named < 10000 → length used < 10000
    → All (λ i. i < length pool) named → All (λ u. u < length shelf) used → All IsShort pool → All IsShortLibrary shelf
    → All (λ (l : Library). length l.modules.items < 10000) shelf → IsOffer (offer pool named shelf used)
offered pool named shelf used few few-used here here-used short short-shelf small =
    record {
      named = here;
      used = here-used;
      few = omega (
        arith,
        few,
        few-stock (offer pool named shelf used) small few-used,
        length-map-range_with_len (source None) 0 (length named),
      );
      few_libraries = omega (arith, few-used);
      pool = short;
      shelf = short-shelf;
    }

pub linkable : (o : Offer) (sources : List Source) (modules : List Parts) → IsOffer o → IsChoice o sources
    → modules ≡ modules_of o sources → AreDefined modules → AreLinkable modules
linkable o sources modules i choice are defined =
    record {
      defined = defined;
      few = subst (λ l. length l < 2 ^ 30) (sym are) (choice-few o i sources choice);
      short = subst (All IsShort) (sym are) (here-short o i sources (choice-here o i sources choice));
    }
