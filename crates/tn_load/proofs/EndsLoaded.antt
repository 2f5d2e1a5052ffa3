-- The processors are loaded where their courses end, and all else of their memories is as at power-up.
use Rattle.std.proofs.Common.{◌≡◌, ℕ, suc, ◌==◌, ◌<◌, true, List, [], ◌∷◌, length, All}
use Rattle.std.proofs.Common.{Some, refl, sym, ◌∙◌, subst, arith}
use Rattle.std.specs.Prelude.{slice_get}
use Rattle.std.specs.List.{AllByRecursion}
use Rattle.std.proofs.lemmas.Bool.Decides.{nat_tests}
use Rattle.std.proofs.lemmas.List.{ext_get_or}
use Rattle.std.proofs.lemmas.List.Elements.{All-from_recursion}
use Rattle.tn_mem.specs.Memories.{block}
use Rattle.tn_mem.proofs.Puts.{IsInside, length-block, byte_at-block}
use Rattle.tn_stream.specs.Images.{SegmentBytes, ImageBytes}
use Rattle.tn_node.specs.Nodes.{NodeState}
use Rattle.tn_network.specs.Loads.{Target, StandsIn, IsLoadedNode, AreLoadedNodes}
use Rattle.tn_load.specs.Targets.{placed_all, target_of}
use Rattle.tn_load.specs.Inner.Lives.{LieIn}
use Rattle.tn_load.proofs.Primaries.{HasTimers}
use Rattle.tn_load.proofs.Lives.{Whole, at_entry, length-with_segments}
use Rattle.tn_load.proofs.Segments.{AreApart, Stand, whole-stands}

-- each segment stands in memory
stands-all : (segments : List SegmentBytes) (m : List ℕ) → LieIn (length m) segments → Stand segments m
    → AllByRecursion (StandsIn m) (placed_all segments)
stands-all [] m lies stand = tt
stands-all (s ∷ rest) m lies stand =
    let inside : IsInside m s.base (length s.bytes) = record { low = omega (arith, lies.0.low); high = omega (arith, lies.0.high) } in
    let size = length-block m s.base (length s.bytes) inside in (
      ext_get_or 0 (block m s.base (length s.bytes)) s.bytes size
          (λ i below. let within : i < length s.bytes = omega (arith, size, below) in
          byte_at-block m s.base (length s.bytes) i inside.low within ∙ stand.0 i within),
      stands-all rest m lies.1 stand.1,
    )

same : (x : ℕ) → (x == x) ≡ true
same x = grind (arith, nat_tests)

-- the segments of a whole image stand in memory
pub whole-pieces : (image : ImageBytes) (first after : List ℕ) → LieIn (length first) image.segments → AreApart image.segments
    → Whole image first after → All (StandsIn after) (placed_all image.segments)
whole-pieces image first after lies apart whole =
    let size : length after ≡ length first = whole.size ∙ length-with_segments image.segments first (length first) refl lies in
    let stand : Stand image.segments after = whole-stands image first after lies apart whole in
    All-from_recursion (StandsIn after) (placed_all image.segments)
    (stands-all image.segments after (subst (λ n. LieIn n image.segments) (sym size) lies) stand)

-- a processor at its entry whose image is whole is loaded
pub loaded-node : (image : ImageBytes) (first after : List ℕ) → LieIn (length first) image.segments → AreApart image.segments
    → HasTimers after
    → Whole image first after → IsLoadedNode (λ m. m) (at_entry (λ m. m) image after) (target_of image)
loaded-node image first after lies apart timers whole =
    let entry : image.entry == image.entry ≡ true = same image.entry in
    record {
      stands = rw entry refl;
      wptr = refl;
      queue = refl;
      error = refl;
      halt = refl;
      a = refl;
      b = refl;
      c = refl;
      quiet = ((refl, refl, refl, refl), (refl, refl, refl, refl));
      high_timer = timers.high;
      low_timer = timers.low;
      whole = whole-pieces image first after lies apart whole;
    }

-- each of the nodes, by its place
pub loaded-each : {M : Type 0} (memory : M → List ℕ) (nodes : List (NodeState M)) (targets : List Target) → length nodes ≡ length targets
    → ((p : ℕ) (n : NodeState M) (t : Target) → slice_get nodes p ≡ Some n → slice_get targets p ≡ Some t → IsLoadedNode memory n t)
    → AreLoadedNodes memory nodes targets
loaded-each memory [] [] sizes each = tt
loaded-each memory [] (t ∷ targets) sizes each = absurd (omega (arith, sizes))
loaded-each memory (n ∷ nodes) [] sizes each = absurd (omega (arith, sizes))
loaded-each memory (n ∷ nodes) (t ∷ targets) sizes each =
    (each 0 n t refl refl, loaded-each memory nodes targets (omega (arith, sizes)) (λ p m s is at. each (suc p) m s is at))
