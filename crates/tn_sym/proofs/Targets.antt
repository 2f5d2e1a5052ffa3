-- Boards that are loaded with the images of a list, each processor by what a function tells of its image.
use Rattle.std.proofs.Common.{◌≡◌, ℕ, List, map, Some, sym, ap, subst, ◌∙◌}
use Rattle.std.specs.Option.{option_map}
use Rattle.std.proofs.lemmas.List.{length-map}
use Rattle.std.proofs.lemmas.Option.{slice_get-map, same_Some}
use Rattle.tn_stream.specs.Images.{ImageBytes}
use Rattle.tn_node.specs.Nodes.{NodeState}
use Rattle.tn_network.specs.Boards.{BoardState}
use Rattle.tn_network.specs.Loads.{Target, IsLoaded}
use Rattle.tn_sym.specs.Programs.{IsTargetOf, AreLoaded}

pub loaded-with : (f : ImageBytes → Target) → ((image : ImageBytes) → IsTargetOf image (f image)) → (images : List ImageBytes)
    (s : BoardState (NodeState (List ℕ))) → IsLoaded (λ m. m) s (map f images) → AreLoaded images s
loaded-with f each images s loaded = record {
  targets = map f images;
  count = length-map images f;
  each = λ p image target here there.
      let own : Some (f image) ≡ Some target = sym (slice_get-map f images p ∙ ap (option_map f) here) ∙ there in
      subst (IsTargetOf image) (same_Some (f image) target own) (each image);
  loaded = loaded;
}
