-- A description describes one network, and one processor is the first that no path reaches.
use Rattle.std.proofs.Common.{◌≡◌, ℕ, ◌+◌, ◌*◌, ◌/◌, ◌%◌, ◌<◌, List, length, get_or, refl, sym, ap, ◌∙◌, subst, arith}
use Rattle.std.proofs.lemmas.List.{ext_get_or}
use Rattle.tn_net.specs.declared.networks.Far.{Far}
use Rattle.tn_net.specs.declared.networks.Far.TheVariants.{Nothing, Host, Link}
use Rattle.tn_net.specs.RawNetworks.{RawLists}
use Rattle.tn_net.specs.Networks.{NetworkState, far_at, IsEnd, IsPairing, IsNetwork}
use Rattle.tn_net.specs.Paths.{Leads, path_at}
use Rattle.tn_net.specs.Trees.{LoadNode, node_at, IsLoadTree, IsFirstUnreachable}

module _ (raw : RawLists) (n m : NetworkState) (described : IsNetwork raw n) (also : IsNetwork raw m) (pairs : IsPairing n)
    (pairs_too : IsPairing m) where
  sizes-same : n.sizes ≡ m.sizes
  sizes-same = described.sizes ∙ sym also.sizes

  same-end : (p l : ℕ) → IsEnd n p l → IsEnd m p l
  same-end p l e = record { processor = subst (λ l. p < length l) sizes-same e.processor; link = e.link }

  far-same : (p l : ℕ) → IsEnd n p l → far_at n p l ≡ far_at m p l
  far-same p l e = by (far_at n p l) (far_at m p l) refl refl
    where
      by : (x y : Far) → far_at n p l ≡ x → far_at m p l ≡ y → far_at n p l ≡ far_at m p l
      by (Link q r) y hx hy = hx ∙ sym ((also.links p l q r (same-end p l e)).1 ((described.links p l q r e).0 hx))
      by Host y hx hy = hx ∙ sym ((also.host p l (same-end p l e)).1 ((described.host p l e).0 hx))
      by Nothing (Link q r) hx hy = (described.links p l q r e).1 ((also.links p l q r (same-end p l e)).0 hy) ∙ sym hy
      by Nothing Host hx hy = (described.host p l e).1 ((also.host p l (same-end p l e)).0 hy) ∙ sym hy
      by Nothing Nothing hx hy = hx ∙ sym hy

  fars-same : n.fars ≡ m.fars
  fars-same = ext_get_or Nothing n.fars m.fars
      (pairs.room ∙ ap (λ l. 4 * length l) sizes-same ∙ sym pairs_too.room)
      (λ k l. (let at : 4 * (k / 4) + k % 4 ≡ k = omega arith in
      let here : IsEnd n (k / 4) (k % 4) = record { processor = omega (arith, l, pairs.room); link = omega arith } in
      subst (λ k. get_or n.fars k Nothing ≡ get_or m.fars k Nothing) at (far-same (k / 4) (k % 4) here)))

  root-same : (n.root ≡ m.root) × (n.root_link ≡ m.root_link)
  root-same = pairs_too.once n.root n.root_link (same-end n.root n.root_link pairs.root)
      (sym (far-same n.root n.root_link pairs.root) ∙ pairs.hosted)

  pub one-network : n ≡ m
  one-network =
      λ j. record { sizes = sizes-same j; fars = fars-same j; root = root-same.0 j; root_link = root-same.1 j }

-- one is the first that no path reaches
pub one-unreachable : (n : NetworkState) (p q : ℕ) → IsFirstUnreachable n p → IsFirstUnreachable n q → p ≡ q
one-unreachable n p q a b =
    let below : p < q → ⊥ = λ h. (let path = b.earlier p h in a.unreachable path.0 path.1) in
    let above : q < p → ⊥ = λ h. (let path = a.earlier q h in b.unreachable path.0 path.1) in
    omega (arith, below, above)

-- and there is none in a network that has a load tree
pub tree-reaches : (n : NetworkState) (nodes : List LoadNode) (p : ℕ) → IsLoadTree n nodes → IsFirstUnreachable n p → ⊥
tree-reaches n nodes p tree first =
    let at : (k : ℕ) × (k < length nodes) × ((node_at nodes k).processor ≡ p) = tree.all p first.processor in
    let path = tree.path at.0 at.1 in
    first.unreachable (path_at tree.paths at.0) (subst (λ q. Leads n n.root (path_at tree.paths at.0) q) at.2 path.leads)
