-- Where the items of a program are listed.
use Rattle.std.proofs.Common.{◌≡◌, inl, inr, ℕ, zero, suc, ◌+◌, ◌-◌, ◌<◌, ◌≤◌, List, ◌++◌, length, get_or, take, refl, sym, ap, ◌∙◌, subst}
use Rattle.std.proofs.Common.{arith}
use Rattle.std.specs.List.{flat_map, range_with_len}
use Rattle.std.proofs.lemmas.Bool.{cases_lt}
use Rattle.std.proofs.lemmas.List.{length-append, take_all, get_or_append_left}
use Rattle.std.proofs.Math.Seq.{get_or-append_right}
use Rattle.std.proofs.lemmas.List.FromFn.{length-map-range_with_len, get_or-map-range_with_len}
use Rattle.tn_module.specs.Modules.{Parts}
use Rattle.tn_symbols.specs.Choices.{module_at}
use Rattle.tn_layout.specs.Sizes.{position}
use Rattle.tn_link.specs.declared.linking.Placed.{Placed}
use Rattle.tn_link.specs.Places.{item_count, start}
use Rattle.tn_link.specs.Cells.{Frame}
use Rattle.tn_link.specs.Linking.{placed_item, module_items, placed}
use Rattle.tn_link.proofs.Ends.{items-more}
use Rattle.tn_link.proofs.Ranges.{joined-more, joined-read}

module _ (modules : List Parts) (f : Frame) where
  -- the items of the first modules are as many as these have
  listed : (n : ℕ) → n ≤ length modules → length (flat_map (module_items modules f) (range_with_len 0 n)) ≡ item_count (take n modules)
  listed zero h = refl
  listed (suc n) h =
      let is : n + 1 ≡ suc n = omega arith in
      let long : length (module_items modules f n) ≡ length (module_at modules n).items = length-map-range_with_len
      (placed_item f n (start modules n).item) 0 (length (module_at modules n).items) in
      let step : length (flat_map (module_items modules f) (range_with_len 0 (n + 1))) ≡ item_count (take (n + 1) modules) =
      ap length (joined-more (module_items modules f) n)
      ∙ length-append (flat_map (module_items modules f) (range_with_len 0 n)) (module_items modules f n)
      ∙ omega (arith, listed n (omega arith), long, items-more modules n (omega arith)) in
      subst (λ k. length (flat_map (module_items modules f) (range_with_len 0 k)) ≡ item_count (take k modules)) is step

  -- the item at place i of the module at place m
  pub placed-read : (m i : ℕ) (d : Placed) → m < length modules → i < length (module_at modules m).items
      → get_or (placed modules f) ((start modules m).item + i) d ≡ placed_item f m (start modules m).item i
  placed-read m i d here within =
      ap (λ n. get_or (placed modules f) (n + i) d) (sym (listed m (omega arith)))
      ∙ joined-read (module_items modules f) (length modules) m i d here
      (omega (arith, within, length-map-range_with_len (placed_item f m (start modules m).item) 0 (length (module_at modules m).items)))
      ∙ get_or-map-range_with_len (placed_item f m (start modules m).item) 0 (length (module_at modules m).items) i i d within (omega arith)

  -- as many as all modules have
  pub placed-length : length (placed modules f) ≡ item_count modules
  placed-length = listed (length modules) (omega arith) ∙ ap item_count (take_all (length modules) modules (omega arith))

  -- of each item of the first modules: its address and its size are those of its place in the program
  at-first : (n k : ℕ) (d : Placed) → n ≤ length modules → k < length (flat_map (module_items modules f) (range_with_len 0 n))
      → ((get_or (flat_map (module_items modules f) (range_with_len 0 n)) k d).address ≡ f.code_base + position f.sizes k)
      × ((get_or (flat_map (module_items modules f) (range_with_len 0 n)) k d).size ≡ get_or f.sizes k 0)
  at-first zero k d few within = absurd (omega (arith, within))
  at-first (suc n) k d few within =
      let is : n + 1 ≡ suc n = omega arith in
      let whole : flat_map (module_items modules f) (range_with_len 0 (suc n))
      ≡ flat_map (module_items modules f) (range_with_len 0 n) ++ module_items modules f n =
      ap (λ k. flat_map (module_items modules f) (range_with_len 0 k)) (sym is) ∙ joined-more (module_items modules f) n in
      let before = flat_map (module_items modules f) (range_with_len 0 n) in
      let count = listed n (omega (arith, few)) in
      subst (λ (l : List Placed). ((get_or l k d).address ≡ f.code_base + position f.sizes k) × ((get_or l k d).size ≡ get_or f.sizes k 0))
      (sym whole)
      (elim (cases_lt k (length before)) [
        | inl low ↦
            subst (λ (p : Placed). (p.address ≡ f.code_base + position f.sizes k) × (p.size ≡ get_or f.sizes k 0))
            (sym (get_or_append_left before (module_items modules f n) d k low)) (at-first n k d (omega (arith, few)) low)
        | inr high ↦
            let inside : k - length before < length (module_at modules n).items = omega (
              arith,
              within,
              high,
              ap length whole,
              length-append before (module_items modules f n),
              length-map-range_with_len (placed_item f n (start modules n).item) 0 (length (module_at modules n).items),
            ) in
            let place : (start modules n).item + (k - length before) ≡ k = omega (arith, count, high) in
            subst (λ (p : Placed). (p.address ≡ f.code_base + position f.sizes k) × (p.size ≡ get_or f.sizes k 0))
            (sym (get_or-append_right before (module_items modules f n) k d high
            ∙ get_or-map-range_with_len (placed_item f n (start modules n).item) 0 (length (module_at modules n).items)
            (k - length before) (k - length before) d inside (omega arith))) (
              ap (λ i. f.code_base + position f.sizes i) place,
              ap (λ i. get_or f.sizes i 0) place,
            )
      ])

  pub placed-at : (k : ℕ) (d : Placed) → k < length (placed modules f)
      → ((get_or (placed modules f) k d).address ≡ f.code_base + position f.sizes k)
      × ((get_or (placed modules f) k d).size ≡ get_or f.sizes k 0)
  placed-at k d within = at-first (length modules) k d (omega arith) within
