-- What linked modules give: a fault that the checks find, or an image.
use Rattle.std.proofs.Common.{◌≡◌, ℕ, ◌^◌, ◌<◌, ◌≤◌, true, false, List, length, Option, Some, None, sym, ◌∙◌, subst, arith}
use Rattle.std.specs.List.{sum}
use Rattle.std.specs.Option.{option_map}
use Rattle.tn_text.specs.declared.faults.Fault.{Fault}
use Rattle.tn_text.specs.Firsts.{first_cause}
use Rattle.tn_module.specs.Modules.{Parts}
use Rattle.tn_layout.specs.Sizes.{Least}
use Rattle.tn_link.specs.declared.linking.Linked.{Linked}
use Rattle.tn_link.specs.Places.{cells_end, exported_label}
use Rattle.tn_link.specs.Programs.{program, pieces, code}
use Rattle.tn_link.specs.Cells.{frame, address, cells}
use Rattle.tn_link.specs.Linking.{IsLinked}
use Rattle.tn_link.proofs.Shortest.{IsShortest, shortest}
use Rattle.tn_config.specs.Configurations.{BlockState}
use Rattle.tn_stream.specs.Images.{IsImage, image_of}
use Rattle.tn_image.specs.declared.images.Built.{Built}
use Rattle.tn_image.specs.Regions.{code_extent, cells_extent, workspace_extent, AreSeparate}
use Rattle.tn_image.specs.Checks.{checks, region_checks, linked_at, is_entry, no_entry_fault}
use Rattle.tn_image.specs.Images.{IsInRange, AreWithinLimits, IsFirstFault, IsBuilt, segments}
use Rattle.tn_stream.specs.PlainImages.{IsPlain}
use Rattle.tn_image.proofs.Laws.{entry-fault, region-fault}
use Rattle.tn_image.proofs.Passing.{HavePassed, passed-each, separate, linked-there}
use Rattle.tn_image.proofs.Entries.{entry-from}
use Rattle.tn_image.proofs.Loadable.{network-image, plain-image}
use Rattle.tn_image.proofs.OneAnswer.{image-from}

module _ (modules : List Parts) (b : BlockState) where
  -- what the checks of the regions find, where code and cells have so many bytes
  abbrev pub region_cause : ℕ → ℕ → Option Fault
  region_cause m n = first_cause (region_checks b (code_extent b m) (cells_extent b n) (workspace_extent b))

  within-limits : (base : ℕ) (linked : Linked) (l : IsLinked modules b.code base linked) → AreWithinLimits modules base l.sizes
  within-limits base linked l = record { least = l.least; items = l.few_items; cells = l.few_cells; code = l.short_code }

  module _ (linked : Linked) (l : IsLinked modules b.code (linked_at b.cells) linked) where
    -- an entry that is no label of code
    pub no-entry : is_entry modules b.entry ≡ false → IsFirstFault modules b (no_entry_fault b)
    no-entry e = record {
      sizes = l.sizes;
      limits = within-limits (linked_at b.cells) linked l;
      first = entry-fault modules b (sum l.sizes) (cells_end modules) e;
    }

    region-same : is_entry modules b.entry ≡ true
        → first_cause (checks modules b (sum l.sizes) (cells_end modules)) ≡ region_cause (length linked.code.items)
        (length linked.cells.items)
    region-same e =
        region-fault modules b (sum l.sizes) (cells_end modules) e
        ∙ (λ j. region_cause (sym l.code_length j) (sym l.cells_length j))

    -- a fault of the regions
    pub region-first : is_entry modules b.entry ≡ true → (fault : Fault)
        → region_cause (length linked.code.items) (length linked.cells.items) ≡ Some fault → IsFirstFault modules b fault
    region-first e fault h = record {
      sizes = l.sizes;
      limits = within-limits (linked_at b.cells) linked l;
      first = region-same e ∙ h;
    }

  -- ---- an image

  -- the entry has this address, where code and cells begin at these bases
  abbrev pub EntryAt : ℕ → ℕ → ℕ → Type 0
  EntryAt entry code_base cell_base =
      (sizes : List ℕ) → Least (pieces (program modules cell_base)) sizes
      → Some entry ≡ option_map (address (frame code_base cell_base sizes)) (exported_label modules b.entry)

  -- linked modules are linked at their own bases
  pub own-bases : (code_base cell_base : ℕ) (linked : Linked) → IsLinked modules code_base cell_base linked
      → IsLinked modules linked.code_base linked.cell_base linked
  own-bases code_base cell_base linked l =
      subst (λ base. IsLinked modules base linked.cell_base linked) (sym l.code_base_is)
      (subst (λ base. IsLinked modules code_base base linked) (sym l.cell_base_is) l)

  -- what holds of the image
  pub record IsWell (built : Built) : Type 0 where
    pub is_built : IsBuilt modules b built
    pub is_shortest : IsShortest modules b.cells built.linked
    pub is_image : IsImage (image_of built.image)
    pub is_plain : IsPlain b.size (image_of built.image)
    pub are_separate : AreSeparate b (length built.linked.code.items) (length built.linked.cells.items)

  pub well : IsInRange b → (built : Built) → (l : IsLinked modules b.code (linked_at b.cells) built.linked)
      → is_entry modules b.entry ≡ true
      → region_cause (length built.linked.code.items) (length built.linked.cells.items) ≡ None
      → (image_of built.image).segments ≡ segments b built.linked.code.items built.linked.cells.items
      → EntryAt built.image.entry built.linked.code_base built.linked.cell_base
      → built.image.entry < 2 ^ 32 → built.image.wptr ≡ b.wptr → IsWell built
  well range built l here none segs entry word wptr = record {
    is_built = record {
      linked = at-base;
      image = image-from modules b (image_of built.image) (
        l.sizes,
        within-limits (linked_at b.cells) built.linked l,
        region-same built.linked l here ∙ none,
        segs ∙ (λ j. segments b (l.code_is j) (l.cells_are j)),
        sym (at-bases l.sizes l.least),
        wptr,
      );
    };
    is_shortest = shortest modules b.code b.cells built.linked at-base;
    is_image = network-image b range built.linked.code.items built.linked.cells.items short few passed (image_of built.image) segs;
    is_plain = plain-image b range built.linked.code.items built.linked.cells.items short few passed (image_of built.image) segs wptr
        (entry-from modules b.entry b.code (linked_at b.cells) l.sizes here built.image.entry (sym (at-bases l.sizes l.least))) word;
    are_separate = separate b (length built.linked.code.items) (length built.linked.cells.items) passed;
  }
    where
      passed : HavePassed b (length built.linked.code.items) (length built.linked.cells.items)
      passed = passed-each b (length built.linked.code.items) (length built.linked.cells.items) none

      at-bases : EntryAt built.image.entry b.code (linked_at b.cells)
      at-bases = subst (λ base. EntryAt built.image.entry b.code base) l.cell_base_is
          (subst (λ base. EntryAt built.image.entry base built.linked.cell_base) l.code_base_is entry)

      at-base : IsLinked modules b.code b.cells built.linked
      at-base = subst (λ base. IsLinked modules b.code base built.linked)
          (linked-there b (length built.linked.code.items) (length built.linked.cells.items) passed) l

      short : length built.linked.code.items ≤ 262144
      short = omega (arith, l.code_length, l.short_code)

      few : length built.linked.cells.items ≤ 1048576
      few = omega (arith, l.cells_length, l.few_cells)

-- no fault of regions, where code and cells have these lengths
pub region-none : (b : BlockState) (m n : ℕ) (code cells : List ℕ) → m ≡ length code → n ≡ length cells
    → first_cause (region_checks b (code_extent b m) (cells_extent b n) (workspace_extent b)) ≡ None
    → first_cause (region_checks b (code_extent b (length code)) (cells_extent b (length cells)) (workspace_extent b)) ≡ None
region-none b m n code cells code_length cells_length none =
    subst (λ m. first_cause (region_checks b (code_extent b m) (cells_extent b (length cells)) (workspace_extent b)) ≡ None) code_length
    (subst (λ n. first_cause (region_checks b (code_extent b m) (cells_extent b n) (workspace_extent b)) ≡ None) cells_length none)
