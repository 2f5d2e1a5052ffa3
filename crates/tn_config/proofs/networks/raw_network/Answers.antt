use Rattle.std.proofs.Common.{◌≡◌, ℕ, List, Option, map, refl, ap, ◌∙◌}
use Rattle.tn_net.specs.RawNetworks.{RawLists}
use Rattle.tn_config.specs.declared.configurations.Block.{Block}
use Rattle.tn_config.specs.Networks.{wire_ends}
use Rattle.tn_config.proofs.Described.{described_is}
use Rattle.tn_config.proofs.networks.raw_network.Goals as goal

abbrev Processors : Type 0
Processors = List (List ℕ × ℕ × ℕ)

abbrev Ends : Type 0
Ends = Option (List ℕ × ℕ × ℕ)

abbrev Wires : Type 0
Wires = List (List ℕ × ℕ × List ℕ × ℕ × ℕ)

abbrev lists : Processors → Ends → Wires → ℕ → RawLists
lists names host wires lines = record { names = names; host = host; wires = wires; lines = lines }

same-lists : (n m : Processors) (h k : Ends) (w v : Wires) (lines : ℕ) → n ≡ m → h ≡ k → w ≡ v → lists n h w lines ≡ lists m k v lines
same-lists n m h k w v lines names host wires = rw (names, host, wires) refl

pub returns : goal.returns
returns c =
    same-lists _ _ _ _ _ _ c.args.config.now.lines
    (c.in_ok-names.ensures ∙ ap (map (λ (b : Block). (b.name, b.size, b.lines.processor))) c.deref.ensures.value
    ∙ described_is c.args.config.now.blocks.items) c.host_of.ensures (c.in_ok-wires.ensures ∙ ap (map wire_ends) c.deref-2.ensures.value)
