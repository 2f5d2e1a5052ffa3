-- The lone run of each processor of a load tree, from its power-up to its entry.
use Rattle.std.proofs.Common.{◌≡◌, ℕ, zero, suc, ◌+◌, ◌<◌, ◌≤◌, ◌^◌, List, [], ◌∷◌, ◌++◌, length, map}
use Rattle.std.proofs.Common.{refl, sym, ap, ◌∙◌, subst, arith, length-append}
use Rattle.std.specs.Prelude.{slice_index}
use Rattle.std.specs.List.{AllByRecursion}
use Rattle.std.proofs.lemmas.List.Elements.{All-weaker, recursion_from_All}
use Rattle.tn_mem.specs.Sizes.{IsMemorySize}
use Rattle.tn_mem.specs.Memories.{plain_access}
use Rattle.tn_net.specs.Networks.{NetworkState}
use Rattle.tn_net.specs.Trees.{LoadNode, node_at}
use Rattle.tn_net.specs.WholeTrees.{IsWholeTree}
use Rattle.tn_stream.specs.declared.waves.Wave.{Wave}
use Rattle.tn_stream.specs.declared.waves.Wave.TheVariants as wave
use Rattle.tn_stream.specs.Images.{ImageBytes}
use Rattle.tn_stream.specs.Branches.{Branch}
use Rattle.tn_stream.specs.Streams.{Site, wave_below, wave as wave_of}
use Rattle.tn_stream.specs.Waves.{first_of, last_of}
use Rattle.tn_stream.specs.LoadBranches.{hung, branch_at}
use Rattle.tn_stream.proofs.LoadBranchLaws.{linked, branch-is, IsBehind, children-behind}
use Rattle.tn_stream.proofs.LengthLaws.{part-bound}
use Rattle.tn_network.specs.Holds.{HoldState}
use Rattle.tn_network.specs.Resets.{PowerState}
use Rattle.tn_load.specs.Inner.Lives.{AreLinked, Fits}
use Rattle.tn_load.specs.Boots.{image_at, power_at}
use Rattle.tn_load.specs.Inner.Loadings.{place_of, IsLoading}
use Rattle.tn_load.proofs.Plains.{plain_is_plain}
use Rattle.tn_load.proofs.TreePlaces.{IsPlaceOf, placed}
use Rattle.tn_load.proofs.Lones.{LoneLife, lone}

-- children hang at links
linked-hung : (f : ℕ → ℕ × Branch Site) (cs : List ℕ) → AllByRecursion (λ c. (f c).0 < 4) cs → AreLinked (hung (map f cs))
unfolding hung
linked-hung f [] all = tt
linked-hung f (c ∷ cs) all = (all.0, linked-hung f cs all.1)

-- a middle part is no longer than the whole
middle-short : (a b c : List ℕ) (n : ℕ) → 12 + length (a ++ b ++ c) ≤ n → length b ≤ n
middle-short a b c n bound =
    let last = length-append (a ++ b) c in
    let first = length-append a b in
    omega (arith, last, first, bound)

power-sized : (powers : List PowerState) (p : ℕ) → p < length powers
    → length (power_at powers p).bytes ≡ slice_index (map (λ (power : PowerState). length power.bytes) powers) p
power-sized [] p inside = absurd (omega arith)
power-sized (power ∷ powers) zero inside = refl
power-sized (power ∷ powers) (suc p) inside = power-sized powers p (omega arith)

length-powers : (powers : List PowerState) → length (map (λ (power : PowerState). length power.bytes) powers) ≡ length powers
length-powers [] = refl
length-powers (power ∷ powers) = ap suc (length-powers powers)

module _ (network : NetworkState) (nodes : List LoadNode) (images : List ImageBytes) (powers : List PowerState) (holds : HoldState)
    (h : IsLoading network nodes images powers holds) where
  -- the place of a processor, what hangs there, and what its memory holds at first
  abbrev pub spot : ℕ → ℕ
  spot p = place_of nodes p

  abbrev pub branch : ℕ → Branch Site
  branch p = branch_at images nodes (spot p)

  abbrev pub power : ℕ → PowerState
  power p = power_at powers p

  pub spotted : (p : ℕ) → p < length network.sizes → IsPlaceOf nodes p (spot p)
  spotted p inside = placed network nodes h.pairing h.tree h.whole p inside

  whole_images : IsWholeTree nodes (length images)
  whole_images = subst (IsWholeTree nodes) (sym h.count) h.whole

  -- its boot link and its image
  pub site-is : (p : ℕ) → p < length network.sizes
      → (branch p).root ≡ record { boot = (node_at nodes (spot p)).boot_link; image = image_at images p }
  site-is p inside =
      let at = spotted p inside in
      ap (λ b. b.root) (branch-is images nodes (length network.sizes) h.whole (spot p) at.within)
      ∙ ap (λ q. record { boot = (node_at nodes (spot p)).boot_link; image = image_at images q }) at.processor

  linked-all : (p : ℕ) → p < length network.sizes → AreLinked (branch p).below
  linked-all p inside =
      let at = spotted p inside in
      let k : ℕ = spot p in
      let behind = children-behind nodes (length network.sizes) k h.whole at.within in
      let low = recursion_from_All (λ c. (node_at nodes c).parent_link < 4) (node_at nodes k).children
      (All-weaker (IsBehind nodes k) (λ c. (node_at nodes c).parent_link < 4) (λ c b. (h.whole.placed c b.within).parent_link)
      (node_at nodes k).children behind) in
      subst (λ b. AreLinked b.below) (sym (branch-is images nodes (length network.sizes) h.whole k at.within))
      (linked-hung (linked images nodes (length network.sizes) h.whole) (node_at nodes k).children low)

  short : (w : Wave) (p : ℕ) → p < length network.sizes → length (wave_below (first_of w) (last_of w) (branch p).below) < 2 ^ 31
  unfolding wave_of
  short w p inside =
      let at = spotted p inside in
      let bound = part-bound images h.segments nodes whole_images w (spot p) at.within in
      let b : Branch Site = branch p in
      let few = middle-short (first_of w b.root) (wave_below (first_of w) (last_of w) b.below) (last_of w b.root) 201337152 bound in
      omega (arith, few)

  -- the size of its memory
  pub size-is : (p : ℕ) → p < length network.sizes → length (power p).bytes ≡ slice_index network.sizes p
  size-is p inside =
      let same = ap length h.sized in
      let sizes = length-powers powers in
      power-sized powers p (omega (arith, same, sizes, inside)) ∙ ap (λ xs. slice_index xs p) h.sized

  -- its lone run
  pub own-run : (p : ℕ) → p < length network.sizes
      → LoneLife plain_access (λ m. m) plain_is_plain (power p).error (power p).halt (branch p).root (branch p).below (power p).bytes
  own-run p inside =
      let at = spotted p inside in
      let site = site-is p inside in
      let size = size-is p inside in
      lone plain_access (λ m. m) plain_is_plain (power p).error (power p).halt (branch p).root (branch p).below
      (subst (λ s. s.boot < 4) (sym site) (h.whole.placed (spot p) at.within).boot_link) (power p).bytes
      (subst IsMemorySize (sym size) (h.pairing.sizes p inside))
      (subst (λ s. Fits (length (power p).bytes) s.image) (sym site) (subst (λ n. Fits n (image_at images p)) (sym size) (h.fits p inside)))
      (linked-all p inside) (short wave.Load p inside) (short wave.Sync p inside) (short wave.Start p inside)
