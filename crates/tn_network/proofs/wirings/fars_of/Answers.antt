use Rattle.std.proofs.Common.{◌≡◌, ℕ, ◌+◌, ◌*◌, ◌/◌, ◌%◌, ◌<◌, ◌≤◌, ◌++◌, ◌∷◌, [], List, length, take, sym, ap, ◌∙◌, arith}
use Rattle.std.specs.Prelude.{slice_index_or}
use Rattle.std.proofs.lemmas.List.{take_all, take_more}
use Rattle.tn_net.specs.declared.networks.Far.{Far}
use Rattle.tn_net.specs.declared.networks.Far.TheVariants.{Nothing}
use Rattle.tn_network.proofs.wirings.fars_of.Goals as goal

quarter : (k n count : ℕ) → count ≡ n → k < 4 * count → k / 4 < n
quarter k n count e below = omega arith

rest : (k : ℕ) → k % 4 < 4
rest k = omega arith

whole : (k : ℕ) → 4 * (k / 4) + k % 4 ≡ k
whole k = omega arith

within : (k n count long : ℕ) → count ≡ n → long ≡ 4 * n → k < 4 * count → k < long
within k n count long e room below = omega arith

past : (k n count long : ℕ) → count ≡ n → long ≡ 4 * n → 4 * count ≤ k → long ≤ k
past k n count long e room above = omega arith

pub far-requires : goal.far-requires
far-requires c =
    let sizes : List ℕ = c.args.network.now.sizes in
    record {
      processor = quarter c.loop-k.k (length sizes) c.count-k-end.result c.count-k-end.ensures.value c.loop-k-test.true;
      link = rest c.loop-k.k;
    }

pub loop-k-preserved : goal.loop-k-preserved
loop-k-preserved c =
    let fars : List Far = c.args.network.now.fars in
    let k : ℕ = c.loop-k.k in
    let long : length fars ≡ 4 * length c.args.network.now.sizes = c.count-k-end.ensures.pairing.room in
    let here : c.far.result ≡ slice_index_or fars k Nothing =
    c.far.ensures.value ∙ ap (λ (i : ℕ). slice_index_or fars i Nothing) (whole k) in
    c.in_ok-push.ensures.items ∙ ap (λ xs. xs ++ c.far.result ∷ []) c.loop-k.invariant ∙ ap (λ x. take k fars ++ x ∷ []) here
    ∙ sym
    (take_more fars k Nothing
    (within k _ c.count-k-end.result _ c.count-k-end.ensures.value long c.loop-k-test.true))

pub returns : goal.returns
returns c =
    let fars : List Far = c.args.network.now.fars in
    let long : length fars ≡ 4 * length c.args.network.now.sizes = c.count-k-end.ensures.pairing.room in
    c.loop-k.invariant
    ∙ take_all c.loop-k.k fars (past c.loop-k.k _ c.count-k-end.result _ c.count-k-end.ensures.value long c.loop-k-test.false)
