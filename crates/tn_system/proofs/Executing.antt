-- A loaded system runs as its programs do.
use Rattle.std.proofs.Common.{◌≡◌, ℕ, zero, suc, ◌%◌, List, [], ◌∷◌, map, length, Some, refl, sym, ap, ◌∙◌, subst}
use Rattle.std.specs.Prelude.{slice_get, slice_index, All}
use Rattle.std.specs.List.{AllZip}
use Rattle.std.proofs.lemmas.List.{length-map}
use Rattle.std.proofs.lemmas.List.Elements.{All-cons, All-nil}
use Rattle.std.proofs.lemmas.Slice.Zip.{AllZip-long}
use Rattle.tn_module.specs.Modules.{Parts}
use Rattle.tn_config.specs.Configurations.{BlockState}
use Rattle.tn_config.specs.Networks.{named_size}
use Rattle.tn_net.specs.Networks.{NetworkState}
use Rattle.tn_link.specs.Linking.{IsBase, AreLinkable}
use Rattle.tn_stream.specs.Images.{ImageBytes}
use Rattle.tn_stream.specs.PlainImages.{IsPlain}
use Rattle.tn_sym.specs.ProgramStates.{LinkedState, ProgramState, IsLinkedTo}
use Rattle.tn_sym.specs.Programs.{AreModules, Belongs, Belong}
use Rattle.tn_sym.specs.SymbolicRuns.{begun}
use Rattle.tn_sym.proofs.Beginning.{execution}
use Rattle.tn_sym.proofs.SymbolicRuns.{begun-begins}
use Rattle.tn_system.specs.Sources.{Sources, parts_of}
use Rattle.tn_system.specs.Systems.{SystemState, IsProcessorProgram, IsPlainFor, BelongTogether, IsSystem}
use Rattle.tn_system.specs.Executions.{Executes}

-- ---- programs and images belong together

-- of an element of each of two lists
zip-at : {A B : Type 0} (R : A → B → Type 0) (xs : List A) (ys : List B) → AllZip R xs ys → (p : ℕ) (x : A) (y : B)
    → slice_get xs p ≡ Some x → slice_get ys p ≡ Some y → R x y
zip-at R [] ys zip p x y at there = cc
zip-at R (a ∷ xs) [] zip p x y at there = cc
zip-at {A} {B} R (a ∷ xs) (b ∷ ys) zip zero x y at there =
    let first : a ≡ x = cc in
    let second : b ≡ y = cc in
    subst (R x) second (subst (λ (z : A). R z b) first zip.0)
zip-at R (a ∷ xs) (b ∷ ys) zip (suc p) x y at there = zip-at R xs ys zip.1 p x y at there

-- the block of a place at which another list of as many has an element
block-at : {B : Type 0} (R : BlockState → B → Type 0) (blocks : List BlockState) (ys : List B) → AllZip R blocks ys → (p : ℕ) (y : B)
    → slice_get ys p ≡ Some y
    → (b : BlockState) × (slice_get blocks p ≡ Some b) × (slice_index (map (λ b. b.size) blocks) p ≡ b.size) × R b y
block-at R [] [] zip p y there = cc
block-at R [] (z ∷ ys) zip p y there = absurd zip
block-at R (b ∷ blocks) [] zip p y there = cc
block-at R (b ∷ blocks) (z ∷ ys) zip zero y there = (b, refl, refl, subst (R b) (let same : z ≡ y = cc in same) zip.0)
block-at R (b ∷ blocks) (z ∷ ys) zip (suc p) y there = block-at R blocks ys zip.1 p y there

-- a program that is linked at the bases of a block is linked at its own
own-bases : (modules : List Parts) (code_base cell_base : ℕ) (l : LinkedState) → IsLinkedTo modules code_base cell_base l
    → (code_base ≡ l.code_base) × (cell_base ≡ l.cell_base)
own-bases modules code_base cell_base l is = (
  sym is.is_linked.code_base_is ∙ ap (λ (k : LinkedState). k.code_base) is.seen,
  sym is.is_linked.cell_base_is ∙ ap (λ (k : LinkedState). k.cell_base) is.seen,
)

module _ (b : BlockState) (g : ProgramState) (modules : List Parts) (same : g.modules ≡ modules)
    (linked : IsLinkedTo modules b.code b.cells g.linked) where
  linked-own : IsLinkedTo g.modules g.linked.code_base g.linked.cell_base g.linked
  linked-own =
      let bases = own-bases modules b.code b.cells g.linked linked in
      subst (λ (m : List Parts). IsLinkedTo m g.linked.code_base g.linked.cell_base g.linked) (sym same)
      (subst (λ (n : ℕ). IsLinkedTo modules g.linked.code_base n g.linked) bases.1
      (subst (λ (n : ℕ). IsLinkedTo modules n b.cells g.linked) bases.0 linked))

module _ (s : Sources) (y : SystemState) (is : IsSystem s y) where
  sizes-of : (blocks : List BlockState) → map (λ processor. processor.1) (map named_size blocks) ≡ map (λ b. b.size) blocks
  sizes-of [] = refl
  sizes-of (b ∷ blocks) = ap (λ sizes. b.size ∷ sizes) (sizes-of blocks)

  pub sizes : y.network.sizes ≡ map (λ b. b.size) s.config.blocks
  sizes = is.network.sizes ∙ sizes-of s.config.blocks

  pub many : length y.network.sizes ≡ length s.config.blocks
  many = ap length sizes ∙ length-map s.config.blocks (λ (b : BlockState). b.size)

  belongs : (p : ℕ) (g : ProgramState) (i : ImageBytes) → slice_get y.programs p ≡ Some g → slice_get y.images p ≡ Some i
      → Belongs (slice_index y.network.sizes p) g i
  belongs p g i at there =
      let of = block-at (IsProcessorProgram s) s.config.blocks y.programs is.programs p g at in
      let b : BlockState = of.0 in
      let chosen = of.3 in
      let of_program = chosen.holds in
      let same : g.modules ≡ parts_of chosen.modules = of_program.modules_are in
      let bases = own-bases (parts_of chosen.modules) b.code b.cells g.linked of_program.linked in
      let size : b.size ≡ slice_index y.network.sizes p = sym of.2 ∙ ap (λ (l : List ℕ). slice_index l p) (sym sizes) in
      record {
        linkable = subst AreLinkable (sym same) of_program.linkable.linkable;
        code_base = subst IsBase bases.0 of_program.linkable.code_base;
        cell_base = subst IsBase bases.1 of_program.linkable.cell_base;
        aligned = subst (λ (n : ℕ). n % 4 ≡ 0) bases.1 of_program.linkable.aligned;
        linked = linked-own b g (parts_of chosen.modules) same of_program.linked;
        plain = subst (λ (n : ℕ). IsPlain n i) size (zip-at IsPlainFor s.config.blocks y.images is.plain p b i of.1 there);
        first = zip-at BelongTogether y.programs y.images is.belong p g i at there;
      }

  pub belong : Belong y.network y.programs y.images
  belong = record {
    all_programs = AllZip-long (IsProcessorProgram s) s.config.blocks y.programs is.programs ∙ sym many;
    all_images = AllZip-long IsPlainFor s.config.blocks y.images is.plain ∙ sym many;
    each = belongs;
  }

  -- the modules of each program are valid
  valid-of : (blocks : List BlockState) (programs : List ProgramState) → AllZip (IsProcessorProgram s) blocks programs
      → All (λ (g : ProgramState). AreModules g.modules) programs
  valid-of [] [] zip = All-nil (λ (g : ProgramState). AreModules g.modules)
  valid-of [] (g ∷ programs) zip = absurd zip
  valid-of (b ∷ blocks) [] zip = absurd zip
  valid-of (b ∷ blocks) (g ∷ programs) zip =
      All-cons (λ (g : ProgramState). AreModules g.modules) g programs
      (subst AreModules (sym zip.0.holds.modules_are) zip.0.holds.linkable.valid) (valid-of blocks programs zip.1)

  pub valid : All (λ (g : ProgramState). AreModules g.modules) y.programs
  valid = valid-of s.config.blocks y.programs is.programs

  pub executes : Executes y
  executes n links same held loaded =
      let here = subst (λ (w : NetworkState). Belong w y.programs y.images) (sym same) belong in
      record {
        begins = (begun y.programs n.board, begun-begins n.board.network y.programs y.images here n.board);
        follows = λ t begins. execution n y.programs y.images t links held valid here loaded begins;
      }
