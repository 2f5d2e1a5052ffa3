-- Sources, and the modules that they tell.
use Rattle.std.proofs.Common.{◌≡◌, ℕ, ◌+◌, ◌<◌, ◌≤◌, ◌^◌, ◌⊎◌, inl, inr, List, [], ◌∷◌, ◌++◌, length, get_or, map, Option, Some, None}
use Rattle.std.proofs.Common.{refl, sym, ap, ◌∙◌, subst, arith, append_assoc}
use Rattle.std.specs.Prelude.{slice_index, slice_get, All}
use Rattle.std.specs.List.{flat_map, range_with_len}
use Rattle.std.specs.Option.{option_map_or}
use Rattle.std.proofs.lemmas.List.{append-nil, length-map, length-append}
use Rattle.std.proofs.lemmas.List.Concat.{flat_map-append}
use Rattle.std.proofs.lemmas.List.FromFn.{map-range_with_len_more, length-map-range_with_len, get_or-range_with_len, length-range_with_len}
use Rattle.std.proofs.lemmas.List.Elements.{All-from_get_or, All-get_or, All-nil, All-append, All-map, All-head, All-tail, All-same}
use Rattle.std.proofs.lemmas.List.Elements.{All-weaker}
use Rattle.std.proofs.lemmas.Option.{slice_get-get_or, slice_get_cases}
use Rattle.tn_module.specs.Modules.{Parts, IsShort}
use Rattle.tn_module.specs.declared.modules.Library.{Library}
use Rattle.tn_symbols.specs.declared.choices.Source.{Source}
use Rattle.tn_symbols.specs.Choices.{module_at, IsChosen}
use Rattle.tn_symbols.specs.Sources.{Offer, modules_at, source, sources_in, named_sources, library_sources, stock_sources, module_in}
use Rattle.tn_symbols.specs.Sources.{module_of, modules_of, source_at, IsChoice, IsShortLibrary, IsOffer}
use Rattle.tn_symbols.specs.Inner.Sourcing.{IsIn, IsHere}
use Rattle.tn_symbols.proofs.OneChoice.{chosen-few}

-- one number more
range-more : (n : ℕ) → range_with_len 0 (n + 1) ≡ range_with_len 0 n ++ n ∷ []
range-more n = sym (mapped (range_with_len 0 (n + 1))) ∙ map-range_with_len_more (λ (k : ℕ). k) 0 n n (omega arith)
    ∙ ap (λ l. l ++ n ∷ []) (mapped (range_with_len 0 n))
  where
    mapped : (xs : List ℕ) → map (λ (k : ℕ). k) xs ≡ xs
    mapped [] = refl
    mapped (x ∷ xs) = ap (λ l. x ∷ l) (mapped xs)

-- one source more
pub sources-more : (before now new : List Source) (library : Option ℕ) (n : ℕ) → now ≡ before ++ sources_in library n → new
    ≡ now ++ source library n ∷ []
    → new ≡ before ++ sources_in library (n + 1)
sources-more before now new library n a b =
    b ∙ ap (λ l. l ++ source library n ∷ []) a
    ∙ append_assoc before (sources_in library n) (source library n ∷ [])
    ∙ ap (λ l. before ++ l) (sym (map-range_with_len_more (source library) 0 n n (omega arith)))

-- one library more
pub stock-more : (o : Offer) (now new : List Source) (u : ℕ) → now ≡ flat_map (library_sources o) (range_with_len 0 u)
    → new ≡ now ++ library_sources o u → new ≡ flat_map (library_sources o) (range_with_len 0 (u + 1))
stock-more o now new u a b =
    b ∙ ap (λ l. l ++ library_sources o u) a
    ∙ ap (λ l. flat_map (library_sources o) (range_with_len 0 u) ++ l) (sym (append-nil (library_sources o u)))
    ∙ sym (flat_map-append (library_sources o) (range_with_len 0 u) (u ∷ []))
    ∙ ap (flat_map (library_sources o)) (sym (range-more u))

-- the modules of a library that is there
pub modules-here : (shelf : List Library) (u : ℕ) (d : Library) → u < length shelf → modules_at shelf u ≡ (get_or shelf u d).modules.items
modules-here shelf u d h = ap (λ o. option_map_or (λ (l : Library). l.modules.items) o []) (slice_get-get_or shelf u d h)

All-flat_map : {X A : Type 0} (P : A → Type 0) (f : X → List A) (xs : List X) → All (λ x. All P (f x)) xs → All P (flat_map f xs)
All-flat_map P f [] h = All-nil P
All-flat_map P f (x ∷ xs) h = All-append P (f x) (flat_map f xs) (All-head (λ x. All P (f x)) x xs h)
    (All-flat_map P f xs (All-tail (λ x. All P (f x)) x xs h))

-- what holds of all numbers below n
All-range : (P : ℕ → Type 0) (n : ℕ) → ((k : ℕ) → k < n → P k) → All P (range_with_len 0 n)
All-range P n h =
    All-from_get_or P (range_with_len 0 n) 0
    (λ i l. let below : i < n = omega (arith, l, length-range_with_len 0 n) in
    let is : i ≡ get_or (range_with_len 0 n) i 0 = omega (arith, get_or-range_with_len 0 n i 0 below) in subst P is (h i below))

-- the named modules are there, and those of the used libraries
pub named-here : (o : Offer) → IsOffer o → All (IsHere o) (named_sources o)
named-here o i =
    All-map (IsHere o) (source None) (range_with_len 0 (length o.named))
    (All-range (λ k. IsHere o (source None k)) (length o.named) (λ k h. (h, All-get_or (λ i. i < length o.pool) o.named k 0 h i.named)))

pub stock-here : (o : Offer) → IsOffer o → All (IsHere o) (stock_sources o)
stock-here o i =
    All-flat_map (IsHere o) (library_sources o) (range_with_len 0 (length o.used))
    (All-range (λ u. All (IsHere o) (library_sources o u)) (length o.used) (λ u h.
    All-map (IsHere o) (source (Some u)) (range_with_len 0 (length (modules_at o.shelf (slice_index o.used u))))
    (All-range (λ k. IsHere o (source (Some u) k)) (length (modules_at o.shelf (slice_index o.used u)))
    (λ k l. (h, All-get_or (λ u. u < length o.shelf) o.used u 0 h i.used, l)))))

-- what is picked is there
picks-here : (named stock : List Parts) (picks : List ℕ) → IsChosen named stock picks → All (λ k. k < length stock) picks
picks-here named stock picks c = All-from_get_or (λ k. k < length stock) picks 0 (λ i h. (c.each i h).candidate.here)

pub choice-picks : (o : Offer) (picks : List ℕ) → IsChosen (modules_of o (named_sources o)) (modules_of o (stock_sources o)) picks
    → All (λ k. k < length (stock_sources o)) picks
choice-picks o picks c =
    subst (λ n. All (λ k. k < n) picks) (length-map (stock_sources o) (module_of o))
    (picks-here (modules_of o (named_sources o)) (modules_of o (stock_sources o)) picks c)

pub choice-here : (o : Offer) → IsOffer o → (sources : List Source) → IsChoice o sources → All (IsHere o) sources
choice-here o i sources c =
    All-same (IsHere o) sources (named_sources o ++ map (source_at (stock_sources o)) c.picks) c.sources_are
    (All-append (IsHere o) (named_sources o) (map (source_at (stock_sources o)) c.picks) (named-here o i)
    (All-map (IsHere o) (source_at (stock_sources o)) c.picks
    (All-weaker (λ k. k < length (stock_sources o)) (λ k. IsHere o (source_at (stock_sources o) k))
    (λ k h. All-get_or (IsHere o) (stock_sources o) k (source None 0) h (stock-here o i)) c.picks (choice-picks o c.picks c.chosen))))

-- a module that is there has few elements
in-short : (o : Offer) → IsOffer o → (i : ℕ) (library : Option ℕ) → IsIn o i library → IsShort (module_in o i library)
in-short o f i None h = All-get_or IsShort o.pool (slice_index o.named i) (module_at [] 0) h.1 f.pool
in-short o f i (Some u) h = All-get_or IsShort (modules_at o.shelf (slice_index o.used u)) i (module_at [] 0) h.2
    (short (slice_get_cases o.shelf (slice_index o.used u)).1)
  where
    short : ((x : Library) × (slice_index o.used u < length o.shelf) × (slice_get o.shelf (slice_index o.used u) ≡ Some x)
        × (get_or o.shelf (slice_index o.used u) x ≡ x)) ⊎ ((length o.shelf ≤ slice_index o.used u)
        × (slice_get o.shelf (slice_index o.used u) ≡ None)) → All IsShort (modules_at o.shelf (slice_index o.used u))
    short (inl s) =
        All-same IsShort (modules_at o.shelf (slice_index o.used u)) s.0.modules.items
        (ap (λ x. option_map_or (λ (l : Library). l.modules.items) x []) s.2)
        (subst IsShortLibrary s.3 (All-get_or IsShortLibrary o.shelf (slice_index o.used u) s.0 s.1 f.shelf)).short
    short (inr n) = absurd (omega (arith, n.0, h.1))

pub here-short : (o : Offer) → IsOffer o → (sources : List Source) → All (IsHere o) sources → All IsShort (modules_of o sources)
here-short o f sources h =
    All-map IsShort (module_of o) sources
    (All-weaker (IsHere o) (λ s. IsShort (module_of o s)) (λ s here. in-short o f s.index s.library here) sources h)

-- ---- a choice

pub few-named : (o : Offer) → IsOffer o → length o.named < 2 ^ 30
few-named o i = omega (arith, i.few, length-map-range_with_len (source None) 0 (length o.named))

pub choice-made : (o : Offer) (first stock sources : List Source) (picks : List ℕ) → first ≡ named_sources o → stock ≡ stock_sources o
    → IsChosen (modules_of o first) (modules_of o stock) picks → sources ≡ first ++ map (source_at stock) picks → IsChoice o sources
choice-made o first stock sources picks a b chosen is =
    record {
      picks = picks;
      chosen =
          subst (λ l. IsChosen (modules_of o l) (modules_of o (stock_sources o)) picks) a
          (subst (λ l. IsChosen (modules_of o first) (modules_of o l) picks) b chosen);
      sources_are = is ∙ ap (λ l. l ++ map (source_at stock) picks) a ∙ ap (λ l. named_sources o ++ map (source_at l) picks) b;
    }

pub picks-within : (o : Offer) (first stock : List Source) (picks : List ℕ) → IsChosen (modules_of o first) (modules_of o stock) picks
    → All (λ k. k < length stock) picks
picks-within o first stock picks c =
    subst (λ n. All (λ k. k < n) picks) (length-map stock (module_of o)) (picks-here (modules_of o first) (modules_of o stock) picks c)

pub choice-few : (o : Offer) → IsOffer o → (sources : List Source) → IsChoice o sources → length (modules_of o sources) < 2 ^ 30
choice-few o i sources c =
    omega (
      arith,
      i.few,
      length-map sources (module_of o),
      ap length c.sources_are,
      length-append (named_sources o) (map (source_at (stock_sources o)) c.picks),
      length-map c.picks (source_at (stock_sources o)),
      chosen-few (modules_of o (named_sources o)) (modules_of o (stock_sources o)) c.picks c.chosen,
      length-map (stock_sources o) (module_of o),
    )
