-- Exactly one answer is right.
use Rattle.std.proofs.Common.{◌≡◌, ℕ, ◌-◌, ◌^◌, ◌<◌, ◌≤◌, Bool, true, false, List, Option, Some, None, Result, Ok, Err}
use Rattle.std.proofs.Common.{refl, sym, ap, ◌∙◌, subst, arith}
use Rattle.std.specs.Prelude.{min, nat_lt}
use Rattle.std.specs.List.{sum}
use Rattle.std.specs.Option.{option_map}
use Rattle.std.proofs.lemmas.Bool.{lt-ltb, le-ltb, ltb-true, ltb-false, not-false}
use Rattle.std.proofs.lemmas.Option.{none-some}
use Rattle.tn_text.specs.declared.faults.Fault.{Fault}
use Rattle.tn_text.specs.declared.limits.TheConstants.{ITEM_LIMIT, CELL_LIMIT, CODE_LIMIT}
use Rattle.tn_text.specs.Firsts.{first_cause}
use Rattle.tn_module.specs.Modules.{Parts}
use Rattle.tn_layout.specs.Sizes.{OneIsLeast}
use Rattle.tn_layout.proofs.LeastSizes.{one_is_least}
use Rattle.tn_link.specs.declared.linking.LinkFault.TheVariants as link
use Rattle.tn_link.specs.Places.{item_count, cells_end, exported_label}
use Rattle.tn_link.specs.Programs.{program, pieces, code}
use Rattle.tn_link.specs.Cells.{frame, address, cells}
use Rattle.tn_config.specs.Configurations.{BlockState}
use Rattle.tn_stream.specs.Images.{ImageBytes}
use Rattle.tn_image.specs.declared.images.ImageFault.{ImageFault}
use Rattle.tn_image.specs.declared.images.ImageFault.TheVariants as image
use Rattle.tn_image.specs.Checks.{checks, linked_at, is_entry}
use Rattle.tn_image.specs.Images.{AreWithinLimits, IsImageFor, IsRight, OneIsRight, segments}
use Rattle.tn_image.proofs.Laws.{none-holds, region-fault}
use Rattle.tn_image.proofs.Passing.{passed-each, linked-there}
use Rattle.tn_image.proofs.Entries.{entry-address}

module _ (modules : List Parts) (b : BlockState) where
  -- an image of modules whose cells were linked at a base
  abbrev ImageAt : ImageBytes → ℕ → Type 0
  ImageAt i base =
      (sizes : List ℕ) × AreWithinLimits modules base sizes
      × (first_cause (checks modules b (sum sizes) (cells_end modules)) ≡ None)
      × (i.segments ≡ segments b (code (program modules base) sizes) (cells modules (frame b.code base sizes)))
      × (option_map (address (frame b.code base sizes)) (exported_label modules b.entry) ≡ Some i.entry)
      × (i.wptr ≡ b.wptr)

  -- where no check finds a fault, that is the base of the block
  entry-passed : (m n : ℕ) → first_cause (checks modules b m n) ≡ None → is_entry modules b.entry ≡ true
  entry-passed m n h = not-false (is_entry modules b.entry) (none-holds (checks modules b m n) h).0

  pub there : (m n : ℕ) → first_cause (checks modules b m n) ≡ None → linked_at b.cells ≡ b.cells
  there m n h = linked-there b m n (passed-each b m n (sym (region-fault modules b m n (entry-passed m n h)) ∙ h))

  pub image-from : (i : ImageBytes) → ImageAt i (linked_at b.cells) → IsImageFor modules b i
  image-from i at =
      let here : ImageAt i b.cells = subst (ImageAt i) (there (sum at.0) (cells_end modules) at.2) at in
      record { sizes = here.0; limits = here.1; passed = here.2; segments_are = here.3; entry_is = here.4; wptr_is = here.5 }

  image-at : (i : ImageBytes) → IsImageFor modules b i → ImageAt i (linked_at b.cells)
  image-at i r =
      subst (ImageAt i) (sym (there (sum r.sizes) (cells_end modules) r.passed))
      (r.sizes, r.limits, r.passed, r.segments_are, r.entry_is, r.wptr_is)

  -- ---- the answer

  abbrev base : ℕ
  base = linked_at b.cells

  least : OneIsLeast (pieces (program modules base))
  least = one_is_least (pieces (program modules base))

  abbrev sizes : List ℕ
  sizes = least.sizes

  abbrev shown : ℕ
  shown = min (cells_end modules) (2 ^ 64 - 1)

  abbrev image_with : ℕ → ImageBytes
  image_with entry = record {
    segments = segments b (code (program modules base) sizes) (cells modules (frame b.code base sizes));
    entry = entry;
    wptr = b.wptr;
  }

  -- by what is found: too many items, too many cells, too much code, a fault, the address of the entry
  abbrev answer_by : Bool → Bool → Bool → Option Fault → Option ℕ → Result ImageBytes ImageFault
  answer_by true c k f e = Err (image.Link (link.Items (item_count modules)))
  answer_by false true k f e = Err (image.Link (link.Cells shown))
  answer_by false false true f e = Err (image.Link (link.Code (sum sizes)))
  answer_by false false false (Some fault) e = Err (image.Fault fault)
  answer_by false false false None None = Err image.NoMemory
  answer_by false false false None (Some entry) = Ok (image_with entry)

  abbrev many_items : Bool
  many_items = nat_lt ITEM_LIMIT (item_count modules)

  abbrev many_cells : Bool
  many_cells = nat_lt CELL_LIMIT shown

  abbrev much_code : Bool
  much_code = nat_lt CODE_LIMIT (sum sizes)

  abbrev found : Option Fault
  found = first_cause (checks modules b (sum sizes) (cells_end modules))

  abbrev entry_address : Option ℕ
  entry_address = option_map (address (frame b.code base sizes)) (exported_label modules b.entry)

  abbrev answer : Result ImageBytes ImageFault
  answer = answer_by many_items many_cells much_code found entry_address

  few : many_cells ≡ false → cells_end modules ≤ CELL_LIMIT
  few h = omega (arith, ltb-false CELL_LIMIT shown h)

  limits : many_items ≡ false → many_cells ≡ false → much_code ≡ false → AreWithinLimits modules base sizes
  limits x y z = record {
    least = least.least;
    items = ltb-false ITEM_LIMIT (item_count modules) x;
    cells = few y;
    code = ltb-false CODE_LIMIT (sum sizes) z;
  }

  right-by : (x y z : Bool) (f : Option Fault) (e : Option ℕ) → many_items ≡ x → many_cells ≡ y → much_code ≡ z → found ≡ f
      → entry_address ≡ e → IsRight modules b (answer_by x y z f e)
  right-by true y z f e hx hy hz hf he = record { count = refl; over = ltb-true ITEM_LIMIT (item_count modules) hx }
  right-by false true z f e hx hy hz hf he = record {
    items = ltb-false ITEM_LIMIT (item_count modules) hx;
    count = refl;
    over = ltb-true CELL_LIMIT shown hy;
  }
  right-by false false true f e hx hy hz hf he = record {
    items = ltb-false ITEM_LIMIT (item_count modules) hx;
    cells = few hy;
    code = record { sizes = sizes; least = least.least; total_is = refl; over = ltb-true CODE_LIMIT (sum sizes) hz };
  }
  right-by false false false (Some fault) e hx hy hz hf he = record { sizes = sizes; limits = limits hx hy hz; first = hf }
  right-by false false false None None hx hy hz hf he =
      let a = entry-address modules b.entry b.code base sizes (entry-passed (sum sizes) (cells_end modules) hf) in
      none-some a.0 (sym he ∙ a.1)
  right-by false false false None (Some entry) hx hy hz hf he =
      image-from (image_with entry) (sizes, limits hx hy hz, hf, refl, he, refl)

  answer-is : (x y z : Bool) (f : Option Fault) (e : Option ℕ) → many_items ≡ x → many_cells ≡ y → much_code ≡ z → found ≡ f
      → entry_address ≡ e → answer ≡ answer_by x y z f e
  answer-is x y z f e hx hy hz hf he = λ j. answer_by (hx j) (hy j) (hz j) (hf j) (he j)

  within : (c : ℕ) (s : List ℕ) → c ≡ base → AreWithinLimits modules c s → (many_items ≡ false) × (many_cells ≡ false) × (s ≡ sizes)
      × (much_code ≡ false)
  within c s e l =
      let l : AreWithinLimits modules base s = subst (λ c. AreWithinLimits modules c s) e l in
      let same : s ≡ sizes = least.only s l.least in (
        le-ltb ITEM_LIMIT (item_count modules) l.items,
        le-ltb CELL_LIMIT shown (omega (arith, l.cells)),
        same,
        le-ltb CODE_LIMIT (sum sizes) (subst (λ s. sum s ≤ CODE_LIMIT) same l.code),
      )

  only-right : (other : Result ImageBytes ImageFault) → IsRight modules b other → other ≡ answer
  only-right (Ok i) r =
      let at = image-at i r in
      let w = within base at.0 refl at.1 in
      let s : i.segments ≡ (image_with i.entry).segments = at.3
      ∙ ap (λ s. segments b (code (program modules base) s) (cells modules (frame b.code base s))) w.2 in
      let e : entry_address ≡ Some i.entry =
      ap (λ s. option_map (address (frame b.code base s)) (exported_label modules b.entry)) (sym w.2) ∙ at.4 in
      let f : found ≡ None = ap (λ s. first_cause (checks modules b (sum s) (cells_end modules))) (sym w.2) ∙ at.2 in
      let wptr : i.wptr ≡ b.wptr = at.5 in
      let same : i ≡ image_with i.entry = λ j. record { segments = s j; entry = i.entry; wptr = wptr j } in
      ap Ok same ∙ sym (answer-is false false false None (Some i.entry) w.0 w.1 w.3 f e)
  only-right (Err (image.Fault fault)) r =
      let w = within base r.sizes refl r.limits in
      sym (answer-is false false false (Some fault) entry_address w.0 w.1 w.3
      (ap (λ s. first_cause (checks modules b (sum s) (cells_end modules))) (sym w.2) ∙ r.first) refl)
  only-right (Err (image.Link (link.Items n))) r =
      ap (λ n. Err (image.Link (link.Items n))) r.count
      ∙ sym (answer-is true many_cells much_code found entry_address
      (lt-ltb ITEM_LIMIT (item_count modules) (subst (λ n. ITEM_LIMIT < n) r.count r.over)) refl refl refl refl)
  only-right (Err (image.Link (link.Cells n))) r =
      ap (λ n. Err (image.Link (link.Cells n))) r.count
      ∙ sym (answer-is false true much_code found entry_address (le-ltb ITEM_LIMIT (item_count modules) r.items)
      (lt-ltb CELL_LIMIT shown (subst (λ n. CELL_LIMIT < n) r.count r.over)) refl refl refl)
  only-right (Err (image.Link (link.Code n))) r =
      let same : r.code.sizes ≡ sizes = least.only r.code.sizes r.code.least in
      let total : n ≡ sum sizes = sym r.code.total_is ∙ ap sum same in
      ap (λ n. Err (image.Link (link.Code n))) total
      ∙ sym (answer-is false false true found entry_address (le-ltb ITEM_LIMIT (item_count modules) r.items)
      (le-ltb CELL_LIMIT shown (omega (arith, r.cells)))
      (lt-ltb CODE_LIMIT (sum sizes) (subst (λ n. CODE_LIMIT < n) total r.code.over)) refl refl)
  only-right (Err (image.Link link.NoMemory)) r = absurd r
  only-right (Err image.NoMemory) r = absurd r

  pub one_is_right : OneIsRight modules b
  one_is_right = record {
    answer = answer;
    right = right-by many_items many_cells much_code found entry_address refl refl refl refl refl;
    only = only-right;
  }
