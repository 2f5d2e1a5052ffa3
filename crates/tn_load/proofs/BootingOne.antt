-- The loading theorem for a single processor.
use Rattle.std.proofs.Common.{◌≡◌, ◌⊎◌, inl, inr, ℕ, zero, suc, ◌<◌, List, [], ◌∷◌, length, refl, sym, subst, arith}
use Rattle.tn_net.specs.Networks.{NetworkState, IsPairing}
use Rattle.tn_net.specs.Paths.{Leads, IsPath, IsLess, path_at}
use Rattle.tn_net.specs.Trees.{IsLoadTree, node_at, children_below}
use Rattle.tn_net.specs.WholeTrees.{IsWholeTree}
use Rattle.tn_stream.specs.Streams.{stream}
use Rattle.tn_stream.specs.Lengths.{load_steps}
use Rattle.tn_stream.proofs.SingleTrees.{single-branch, single-whole}
use Rattle.tn_load.specs.Boots.{Boots, alone_node, LoadingOne}
use Rattle.tn_load.proofs.Booting.{boots}

single-tree : (network : NetworkState) → IsPairing network → length network.sizes ≡ 1
    → IsLoadTree network (alone_node network.root_link ∷ [])
single-tree network pairing one =
    record {
      paths = [] ∷ [];
      room = refl;
      path = λ k inside. path k inside;
      order = λ j k less inside. absurd (omega arith);
      all = λ q inside. (0, omega arith, omega (arith, inside, one));
      root = omega arith;
      top = refl;
      no_link = refl;
      boot = refl;
      below = λ k some inside. absurd (omega arith);
      children = λ k inside. children k inside;
    }
  where
    root : network.root ≡ 0
    root = let inside = pairing.root.processor in omega (arith, inside, one)

    least : (other : List ℕ) → Leads network network.root other 0 → IsLess [] other ⊎ ([] ≡ other)
    least [] leads = inr refl
    least (l ∷ ls) leads = inl (inl (omega arith))

    path : (k : ℕ) → k < 1 → IsPath network (path_at ([] ∷ []) k) (node_at (alone_node network.root_link ∷ []) k).processor
    path zero inside = record { leads = root; least = least }
    path (suc k) inside = absurd (omega arith)

    children : (k : ℕ) → k < 1 → (node_at (alone_node network.root_link ∷ []) k).children
        ≡ children_below (λ c. (node_at (alone_node network.root_link ∷ []) c).parent) k 1
    children zero inside = refl
    children (suc k) inside = absurd (omega arith)

pub boots-one : LoadingOne
boots-one network image pairing one are =
    let k : ℕ = network.root_link in
    let all = boots network (alone_node k ∷ []) (image ∷ []) pairing (single-tree network pairing one)
    (subst (λ n. IsWholeTree (alone_node k ∷ []) n) (sym one) (single-whole k pairing.root.link)) are in
    subst (λ b. Boots network (image ∷ []) (stream b) (load_steps (image ∷ []) (alone_node k ∷ []))) (single-branch k image) all
