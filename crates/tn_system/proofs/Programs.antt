-- Modules are linked to one thing, and image and program of a processor belong together.
use Rattle.std.proofs.Common.{◌≡◌, ◌⊎◌, inl, inr, ℕ, suc, ◌%◌, Bool, true, false, not, List, [], ◌∷◌, length, filter, Some}
use Rattle.std.proofs.Common.{refl, sym, ap, ◌∙◌, subst, arith, if◌then◌else◌}
use Rattle.std.specs.Prelude.{slice_get, nat_le, ◌==◌}
use Rattle.std.specs.List.{sum}
use Rattle.std.proofs.lemmas.Bool.{and_parts, leb-true, eqb-true}
use Rattle.tn_module.specs.Modules.{Parts}
use Rattle.tn_layout.specs.Sizes.{Least, OneIsLeast}
use Rattle.tn_layout.proofs.LeastSizes.{one_is_least}
use Rattle.tn_link.specs.declared.linking.Linked.{Linked}
use Rattle.tn_link.specs.Places.{cells_end}
use Rattle.tn_link.specs.Programs.{program, pieces, code}
use Rattle.tn_link.specs.Cells.{frame, cells}
use Rattle.tn_link.specs.Linking.{IsBase, AreLinkable, IsLinked, placed}
use Rattle.tn_config.specs.Configurations.{BlockState}
use Rattle.tn_config.specs.Places.{is_address}
use Rattle.tn_stream.specs.Images.{SegmentBytes, ImageBytes}
use Rattle.tn_image.specs.Checks.{linked_at}
use Rattle.tn_image.specs.Images.{IsInRange, IsImageFor, segment, segments, has_bytes, argument_bytes}
use Rattle.tn_image.proofs.OneAnswer.{there}
use Rattle.tn_sym.specs.declared.programs.Program.{Program}
use Rattle.tn_sym.specs.ProgramStates.{LinkedState, linked_of, ProgramState, program_of, IsLinkedTo}
use Rattle.tn_sym.specs.Programs.{AreModules}
use Rattle.tn_system.specs.Sources.{TextModule, parts_of}
use Rattle.tn_system.specs.Systems.{AreLinkableAt, IsProgramOf, BelongTogether}

-- ---- linked modules

module _ (modules : List Parts) (code_base cell_base : ℕ) where
  same-sizes : (s t : List ℕ) → Least (pieces (program modules cell_base)) s → Least (pieces (program modules cell_base)) t → s ≡ t
  same-sizes s t x y =
      let one : OneIsLeast (pieces (program modules cell_base)) = one_is_least (pieces (program modules cell_base)) in
      one.only s x ∙ sym (one.only t y)

  same-lists : (x y : Linked) → IsLinked modules code_base cell_base x → IsLinked modules code_base cell_base y → linked_of x ≡ linked_of y
  same-lists x y p q =
      let sizes : p.sizes ≡ q.sizes = same-sizes p.sizes q.sizes p.least q.least in
      let code_base_same : x.code_base ≡ y.code_base = p.code_base_is ∙ sym q.code_base_is in
      let cell_base_same : x.cell_base ≡ y.cell_base = p.cell_base_is ∙ sym q.cell_base_is in
      let code_same : x.code.items ≡ y.code.items =
      p.code_is ∙ ap (code (program modules cell_base)) sizes ∙ sym q.code_is in
      let cells_same : x.cells.items ≡ y.cells.items =
      p.cells_are ∙ ap (λ s. cells modules (frame code_base cell_base s)) sizes ∙ sym q.cells_are in
      let placed_same : x.placed.items ≡ y.placed.items =
      p.placed_are ∙ ap (λ s. placed modules (frame code_base cell_base s)) sizes ∙ sym q.placed_are in
      let cell_places_same : x.cell_places.items ≡ y.cell_places.items = p.cell_places_are ∙ sym q.cell_places_are in
      λ j. record {
        code_base = code_base_same j;
        code = code_same j;
        cell_base = cell_base_same j;
        cells = cells_same j;
        placed = placed_same j;
        cell_places = cell_places_same j;
      }

  -- what modules are linked to is one thing
  pub one-linked : (l m : LinkedState) → IsLinkedTo modules code_base cell_base l → IsLinkedTo modules code_base cell_base m → l ≡ m
  one-linked l m x y = sym x.seen ∙ same-lists x.linked y.linked x.is_linked y.is_linked ∙ y.seen

  -- and is so as the code holds it
  pub linked-held : (x : Linked) → IsLinkedTo modules code_base cell_base (linked_of x) → IsLinked modules code_base cell_base x
  linked-held x r =
      let p : IsLinked modules code_base cell_base r.linked = r.is_linked in
      record {
        sizes = p.sizes;
        least = p.least;
        code_base_is = ap (λ (l : LinkedState). l.code_base) (sym r.seen) ∙ p.code_base_is;
        cell_base_is = ap (λ (l : LinkedState). l.cell_base) (sym r.seen) ∙ p.cell_base_is;
        code_is = ap (λ (l : LinkedState). l.code) (sym r.seen) ∙ p.code_is;
        cells_are = ap (λ (l : LinkedState). l.cells) (sym r.seen) ∙ p.cells_are;
        placed_are = ap (λ (l : LinkedState). l.placed) (sym r.seen) ∙ p.placed_are;
        cell_places_are = ap (λ (l : LinkedState). l.cell_places) (sym r.seen) ∙ p.cell_places_are;
        few_items = p.few_items;
        cells_length = ap (λ (l : LinkedState). length l.cells) (sym r.seen) ∙ p.cells_length;
        few_cells = p.few_cells;
        code_length = ap (λ (l : LinkedState). length l.code) (sym r.seen) ∙ p.code_length;
        short_code = p.short_code;
      }

-- ---- programs

module _ (b : BlockState) (modules : List TextModule) where
  -- there is one program of modules
  pub one-program : (g h : ProgramState) → IsProgramOf b g modules → IsProgramOf b h modules → g ≡ h
  one-program g h x y =
      let modules_same : g.modules ≡ h.modules = x.modules_are ∙ sym y.modules_are in
      let linked_same : g.linked ≡ h.linked = one-linked (parts_of modules) b.code b.cells g.linked h.linked x.linked y.linked in
      λ j. record { modules = modules_same j; linked = linked_same j }

  -- a program as the code holds it is linked at its own bases
  pub program-held : (g : Program) → IsProgramOf b (program_of g) modules
      → IsLinked g.chosen.modules.items g.linked.code_base g.linked.cell_base g.linked
  program-held g is =
      let at : IsLinked (parts_of modules) b.code b.cells g.linked = linked-held (parts_of modules) b.code b.cells g.linked is.linked in
      subst (λ ms. IsLinked ms g.linked.code_base g.linked.cell_base g.linked) (sym is.modules_are)
      (subst (λ n. IsLinked (parts_of modules) n g.linked.cell_base g.linked) (sym at.code_base_is)
      (subst (λ n. IsLinked (parts_of modules) b.code n g.linked) (sym at.cell_base_is) at))

  -- and can be linked there
  pub program-linkable : (g : Program) → IsProgramOf b (program_of g) modules
      → AreLinkable g.chosen.modules.items × IsBase g.linked.code_base × IsBase g.linked.cell_base × (g.linked.cell_base % 4 ≡ 0)
  program-linkable g is =
      let at : IsLinked (parts_of modules) b.code b.cells g.linked = linked-held (parts_of modules) b.code b.cells g.linked is.linked in (
        subst AreLinkable (sym is.modules_are) is.linkable.linkable,
        subst IsBase (sym at.code_base_is) is.linkable.code_base,
        subst IsBase (sym at.cell_base_is) is.linkable.cell_base,
        subst (λ n. n % 4 ≡ 0) (sym at.cell_base_is) is.linkable.aligned,
      )

-- ---- images and programs

some-bytes : (n : ℕ) → (suc n == 0) ≡ false
some-bytes n = by (suc n == 0) refl
  where
    by : (t : Bool) → (suc n == 0) ≡ t → (suc n == 0) ≡ false
    by true e = absurd (omega (arith, eqb-true (suc n) 0 e))
    by false e = e

-- the first segment is the code, unless that is empty
code-first : (b : BlockState) (bytes cell_bytes : List ℕ)
    → (bytes ≡ []) ⊎ (slice_get (segments b bytes cell_bytes) 0 ≡ Some (segment b.code bytes))
code-first b [] cell_bytes = inl refl
code-first b (x ∷ xs) cell_bytes =
    let others : List SegmentBytes = filter has_bytes (segment b.cells cell_bytes ∷ segment b.wptr (argument_bytes b.args) ∷ []) in
    inr (ap (λ t. slice_get (if not t then segment b.code (x ∷ xs) ∷ others else others) 0) (some-bytes (length xs)))

module _ (b : BlockState) (modules : List Parts) (i : ImageBytes) (image : IsImageFor modules b i) where
  -- the image is made of what its modules are linked to
  pub segments-linked : (l : LinkedState) → IsLinkedTo modules b.code b.cells l → i.segments ≡ segments b l.code l.cells
  segments-linked l r =
      let p : IsLinked modules b.code b.cells r.linked = r.is_linked in
      let sizes : image.sizes ≡ p.sizes = same-sizes modules b.code b.cells image.sizes p.sizes image.limits.least p.least in
      let code_same : code (program modules b.cells) image.sizes ≡ l.code =
      ap (code (program modules b.cells)) sizes ∙ sym p.code_is ∙ ap (λ (l : LinkedState). l.code) r.seen in
      let cells_same : cells modules (frame b.code b.cells image.sizes) ≡ l.cells =
      ap (λ s. cells modules (frame b.code b.cells s)) sizes ∙ sym p.cells_are ∙ ap (λ (l : LinkedState). l.cells) r.seen in
      image.segments_are ∙ (λ j. segments b (code_same j) (cells_same j))

  pub together : (g : ProgramState) → IsLinkedTo modules b.code b.cells g.linked → BelongTogether g i
  together g r = elim (code-first b g.linked.code g.linked.cells) [
    | inl none ↦ inl none
    | inr first ↦ (let base : b.code ≡ g.linked.code_base = sym r.is_linked.code_base_is ∙ ap (λ (l : LinkedState). l.code_base) r.seen in
        inr (ap (λ s. slice_get s 0) (segments-linked g.linked r) ∙ first ∙ ap (λ n. Some (segment n g.linked.code)) base))
  ]

  -- cells of an image begin at an aligned base
  aligned-base : b.cells % 4 ≡ 0
  aligned-base =
      let at : linked_at b.cells ≡ b.cells = there modules b (sum image.sizes) (cells_end modules) image.passed in omega (arith, at)

  base-from : (n : ℕ) → is_address n ≡ true → IsBase n
  base-from n h =
      let p = and_parts (nat_le 0x8000_0000 n) (nat_le n 0x800f_ffff) h in
      record { above = omega (arith, leb-true 0x8000_0000 n p.0); below = omega (arith, leb-true n 0x800f_ffff p.1) }

  pub linkable-at : IsInRange b → AreModules modules → AreLinkable modules → AreLinkableAt b modules
  linkable-at range valid linkable = record {
    valid = valid;
    linkable = linkable;
    code_base = base-from b.code range.code;
    cell_base = base-from b.cells range.cells;
    aligned = aligned-base;
  }
