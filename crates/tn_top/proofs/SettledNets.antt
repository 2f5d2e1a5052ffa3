-- How a network starts and settles.
use Rattle.std.proofs.Common.{◌≡◌, ℕ, Bool, true, false, List, [], ◌∷◌, length, map, Option}
use Rattle.std.proofs.Common.{Some, None, refl, sym, ap, ap₂, ◌∙◌}
use Rattle.std.specs.Prelude.{is_none}
use Rattle.std.proofs.lemmas.List.{length-replicate}
use Rattle.tn_net.specs.Networks.{NetworkState}
use Rattle.tn_stream.specs.declared.images.Image.{Image}
use Rattle.tn_stream.specs.Images.{images_of}
use Rattle.tn_network.specs.declared.picks.Pick.{Pick}
use Rattle.tn_network.specs.Nets.{NetState, net_of}
use Rattle.tn_network.specs.Resets.{AreSized}
use Rattle.tn_load.specs.Boots.{entries_of}
use Rattle.tn_load.specs.NetWalks.{net_first}
use Rattle.tn_load.specs.SettledNets.{SettledNet, WereMade}
use Rattle.tn_load.proofs.PicksMade.{made-picks, none-rest, rest-none}
use Rattle.tn_top.specs.declared.started_nets.TheConstants.{SETTLE_LIMIT}
use Rattle.tn_top.specs.SystemNets.{filled_powers, settling, settled_net, outcome}

-- ---- how it starts

-- powers are as large as the memories
sized : (fill : ℕ × Bool × Bool) (sizes : List ℕ) → map (λ power. length power.bytes) (filled_powers fill sizes) ≡ sizes
sized fill [] = refl
sized fill (size ∷ sizes) = ap₂ (λ n ns. n ∷ ns) (length-replicate size fill.0) (sized fill sizes)

pub filled-sized : (fill : ℕ × Bool × Bool) (network : NetworkState) → AreSized (filled_powers fill network.sizes) network
filled-sized fill network = sized fill network.sizes

-- the entries of images, by what contracts see of these
pub entries-same : (images : List Image) → map (λ (i : Image). i.entry) images ≡ entries_of (images_of images)
entries-same [] = refl
entries-same (i ∷ images) = ap (λ entries. i.entry ∷ entries) (entries-same images)

-- ---- how it settles

module _ (old new : NetState) (steps : ℕ) (rested : Bool) (s : SettledNet false SETTLE_LIMIT old new steps rested) where
  made : WereMade old new steps (settling old)
  made = made-picks false SETTLE_LIMIT old new steps rested s

  pub settled-steps : steps ≡ (outcome old).0
  settled-steps = sym made.count

  pub settled-state : new ≡ settled_net old
  settled-state =
      ap₂ net_of (ap₂ (λ network state. record { network = network; state = state }) made.network made.state) made.holds

  at_rest : (r : Bool) → rested ≡ r → (o : Option Pick) → net_first false new ≡ o → r ≡ is_none o
  at_rest true is None none = refl
  at_rest true is (Some pick) some =
      let none : net_first false new ≡ None = rest-none new false (s.rest.0 is) in
      absurd cc
  at_rest false is None none =
      let yes : rested ≡ true = s.rest.1 (none-rest new false none) in
      absurd cc
  at_rest false is (Some pick) some = refl

  pub settled-rested : rested ≡ (outcome old).1
  settled-rested =
      at_rest rested refl (net_first false new) refl ∙ ap (λ (n : NetState). is_none (net_first false n)) settled-state
