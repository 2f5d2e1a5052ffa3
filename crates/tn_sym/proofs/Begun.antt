-- What the code that begins a symbolic network gives.
use Rattle.std.proofs.Common.{◌≡◌, ℕ, ◌+◌, ◌<◌, List, [], ◌∷◌, ◌++◌, length, map, take, zero, suc, Some}
use Rattle.std.proofs.Common.{refl, sym, ap, subst, ◌∙◌, length-append, arith}
use Rattle.std.specs.Prelude.{All, slice_get, slice_index, slice_index_or}
use Rattle.std.proofs.lemmas.List.{map-append, length-map}
use Rattle.std.proofs.lemmas.Option.{slice_get-get_or}
use Rattle.tn_module.specs.declared.modules.Item.{Item}
use Rattle.tn_stream.specs.Images.{ImageBytes}
use Rattle.tn_net.specs.Networks.{NetworkState}
use Rattle.tn_node.specs.Nodes.{NodeState, IsQuiet}
use Rattle.tn_network.specs.Loads.{Target, AreLoadedNodes}
use Rattle.tn_sym.specs.declared.codes.Instruction.{Instruction}
use Rattle.tn_sym.specs.declared.programs.Program.{Program}
use Rattle.tn_sym.specs.ProgramStates.{ProgramState, program_of}
use Rattle.tn_sym.specs.Symbolic.{CodeState}
use Rattle.tn_sym.specs.Programs.{sites, instructions, IsCodeOf, AreModules, region_of, Belongs, Belong}
use Rattle.tn_sym.specs.Inner.Readings.{form_of, forms_of, read_from, IsLow, IsProgram, IsLinkedProgram, AreCodesOf, region_at}
use Rattle.tn_sym.specs.Inner.Tables.{IsTable}
use Rattle.tn_sym.proofs.Lists.{there, take-read, each-more}
use Rattle.tn_sym.proofs.Elements.{joined, bytes_of}
use Rattle.tn_sym.proofs.LinkedCode.{fits, sized, bytes-joined}
use Rattle.tn_sym.proofs.ReadCode.{forms-sites, reads, are-table}
use Rattle.tn_sym.proofs.Beginning.{loaded-at}

-- ---- the code of a program

module _ (p : ProgramState) (h : IsProgram p) (valid : AreModules p.modules) where
  abbrev own : List Instruction
  own = instructions p.modules p.linked.code_base p.linked.cell_base h.linked.is_linked.sizes

  code-joined : p.linked.code ≡ joined (bytes_of p.modules p.linked.cell_base h.linked.is_linked.sizes) 0
      (sites p.modules)
  code-joined =
      sym (ap (λ l. l.code) h.linked.seen) ∙ h.linked.is_linked.code_is
      ∙ bytes-joined p.modules p.linked.cell_base h.cell_base valid h.linkable.defined h.linked.is_linked.few_items
      h.linked.is_linked.few_cells
      h.linked.is_linked.sizes h.linked.is_linked.least h.linked.is_linked.short_code

  pub read-own : read_from (p.linked.code_base + length p.linked.code) (forms_of p.modules) p.linked.code ≡ own
  read-own =
      ap (λ forms. read_from (p.linked.code_base + length p.linked.code) forms p.linked.code)
      (forms-sites p.modules)
      ∙ (ap (λ (bytes : List ℕ). read_from (p.linked.code_base + length p.linked.code)
      (map (λ (site : ℕ × Item). form_of site.1) (sites p.modules)) bytes) code-joined
      ∙ reads p.modules p.linked.cell_base h.linked.is_linked.sizes p.linked.code_base (sites p.modules)
      (sized p.modules p.linked.cell_base h.cell_base valid h.linkable.defined h.linked.is_linked.few_items h.linked.is_linked.few_cells
      h.linked.is_linked.sizes h.linked.is_linked.least h.linked.is_linked.short_code)
      (fits p.modules p.linked.cell_base h.cell_base valid h.linkable.defined h.linked.is_linked.few_items h.linked.is_linked.few_cells
      h.linked.is_linked.sizes h.linked.is_linked.least h.linked.is_linked.short_code)
      (p.linked.code_base + length p.linked.code) 0 [] (sites p.modules) refl refl
      (omega (arith, ap length code-joined)))

  pub table-own : IsTable own
  table-own =
      (are-table p.modules p.linked.cell_base h.linked.is_linked.sizes p.linked.code_base (sites p.modules)
      (sized p.modules p.linked.cell_base h.cell_base valid h.linkable.defined h.linked.is_linked.few_items h.linked.is_linked.few_cells
      h.linked.is_linked.sizes h.linked.is_linked.least h.linked.is_linked.short_code)
      (fits p.modules p.linked.cell_base h.cell_base valid h.linkable.defined h.linked.is_linked.few_items h.linked.is_linked.few_cells
      h.linked.is_linked.sizes h.linked.is_linked.least h.linked.is_linked.short_code)
      (omega (arith, h.code_base.below, h.linked.is_linked.short_code)) 0 [] (sites p.modules) refl refl).table

  module _ (made : List Instruction)
      (is : made ≡ read_from (p.linked.code_base + length p.linked.code) (forms_of p.modules) p.linked.code) where
    pub table-made : IsTable made
    table-made = subst IsTable (sym (is ∙ read-own)) table-own

    pub code-made : (code : CodeState) → code.base ≡ p.linked.code_base → code.bytes ≡ p.linked.code → code.instructions ≡ made
        → IsCodeOf p code
    code-made code base bytes all =
        record {
          sizes = h.linked.is_linked.sizes;
          least = h.linked.is_linked.least;
          base = base;
          bytes = bytes;
          instructions = all ∙
              (is ∙ read-own);
        }

-- ---- all of them

map-there : {X Y : Type 0} (f : X → Y) (xs : List X) (k : ℕ) (x : X) → slice_get xs k ≡ Some x → slice_get (map f xs) k ≡ Some (f x)
map-there f [] k x at = cc
map-there {X} f (y ∷ xs) zero x at = let same : y ≡ x = cc in ap (λ (z : X). Some (f z)) same
map-there f (y ∷ xs) (suc k) x at = map-there f xs k x at

pub codes-more : (programs : List Program) (i : ℕ) (p : Program) (codes : List CodeState) (code : CodeState) (new : List CodeState)
    → i < length programs → p ≡ slice_index_or programs i p → new ≡ codes ++ code ∷ [] → IsCodeOf (program_of p) code
    → AreCodesOf (map program_of (take i programs)) codes → AreCodesOf (map program_of (take (i + 1) programs)) new
codes-more programs i p codes code new within read is here before =
    let front = map program_of (take i programs) in
    let more : map program_of (take (i + 1) programs) ≡ front ++ program_of p ∷ [] =
    ap (map program_of) (take-read programs i p within read) ∙ map-append program_of (take i programs) (p ∷ []) in
    subst (λ (ps : List ProgramState). AreCodesOf ps new) (sym more)
    (subst (λ (cs : List CodeState). AreCodesOf (front ++ program_of p ∷ []) cs) (sym is) (record {
      count = omega (arith, length-append codes (code ∷ []), length-append front (program_of p ∷ []), before.count);
      each = each-more IsCodeOf front codes (program_of p) code before.count before.each here;
    }))

pub belong-all : (P : Program → Type 0) (network : NetworkState) (programs : List Program) (images : List ImageBytes)
    → ((size : ℕ) (p : Program) (image : ImageBytes) → Belongs size (program_of p) image → P p)
    → Belong network (map program_of programs) images → All P programs
belong-all P network programs images each belong = λ k d within.
    let image = there images k (omega (arith, within, belong.all_programs, belong.all_images, length-map programs program_of)) in
    let p = slice_index_or programs k d in
    each (slice_index network.sizes k) p image.0
    (belong.each k (program_of p) image.0 (map-there program_of programs k p (slice_get-get_or programs k d within)) image.1)

pub regions-are : (programs : List Program) → map region_at programs ≡ map region_of (map program_of programs)
regions-are [] = refl
regions-are (p ∷ programs) = ap (λ (regions : List (ℕ × ℕ)). region_at p ∷ regions) (regions-are programs)

pub low-program : (size : ℕ) (p : Program) (image : ImageBytes) → Belongs size (program_of p) image → IsLow p
low-program size p image b =
    omega (arith, b.code_base.below, ap (λ l. length l.code) b.linked.seen, b.linked.is_linked.code_length, b.linked.is_linked.short_code)

pub linked-program : (size : ℕ) (p : Program) (image : ImageBytes) → Belongs size (program_of p) image → IsLinkedProgram p
linked-program size p image b =
    record { linkable = b.linkable; code_base = b.code_base; cell_base = b.cell_base; linked = b.linked }

pub quiet-nodes : (nodes : List (NodeState (List ℕ))) (targets : List Target) → AreLoadedNodes (λ m. m) nodes targets
    → All (λ n. IsQuiet n) nodes
quiet-nodes nodes targets loaded = λ k d within.
    let each = loaded-at (λ m. m) nodes targets loaded in
    let target = there targets k (omega (arith, within, each.0)) in
    (each.1 k (slice_index_or nodes k d) target.0 (slice_get-get_or nodes k d within) target.1).quiet
