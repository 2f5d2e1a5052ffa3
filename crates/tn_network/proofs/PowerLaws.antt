-- The memories at power-up.
use Rattle.std.proofs.Common.{◌≡◌, ℕ, zero, suc, ◌<◌, List, [], ◌∷◌, ◌++◌, length, map, refl, sym, ap, subst, ◌∙◌, arith}
use Rattle.std.specs.Prelude.{slice_index}
use Rattle.tn_mem.specs.Sizes.{IsMemorySize}
use Rattle.tn_net.specs.Networks.{NetworkState, IsPairing}
use Rattle.tn_network.specs.declared.powers.Power.{Power}
use Rattle.tn_network.specs.Resets.{PowerState, power_of, AreSized}

middle : (seen rest : List Power) (power : Power)
    → slice_index (map (λ (p : PowerState). length p.bytes) (map power_of (seen ++ power ∷ rest))) (length seen) ≡ length power.bytes.items
middle [] rest power = refl
middle (x ∷ seen) rest power = middle seen rest power

inside : (seen rest : List Power) (power : Power)
    → length seen < length (map (λ (p : PowerState). length p.bytes) (map power_of (seen ++ power ∷ rest)))
inside [] rest power = omega arith
inside (x ∷ seen) rest power = let more = inside seen rest power in omega arith

-- each has the size that the network says
pub sized : (network : NetworkState) (seen left rest all : List Power) (power : Power) → seen ++ left ≡ all → left ≡ power ∷ rest
    → AreSized (map power_of all) network → IsPairing network → IsMemorySize (length power.bytes.items)
sized network seen left rest all power joined next sizes pairing =
    let whole : all ≡ seen ++ power ∷ rest = sym joined ∙ ap (λ r. seen ++ r) next in
    let these : map (λ (p : PowerState). length p.bytes) (map power_of (seen ++ power ∷ rest)) ≡ network.sizes =
    ap (λ ps. map (λ (p : PowerState). length p.bytes) (map power_of ps)) (sym whole) ∙ sizes in
    let here : slice_index network.sizes (length seen) ≡ length power.bytes.items =
    ap (λ ns. slice_index ns (length seen)) (sym these) ∙ middle seen rest power in
    let within : length seen < length network.sizes = subst (λ (ns : List ℕ). length seen < length ns) these (inside seen rest power) in
    subst IsMemorySize here (pairing.sizes (length seen) within)
