-- The lists of a description.
use Rattle.std.proofs.Common.{◌≡◌, List, [], ◌∷◌, map, refl, ap}
use Rattle.tn_config.specs.declared.configurations.Block.{Block}
use Rattle.tn_config.specs.Configurations.{block_of}
use Rattle.tn_config.specs.Networks.{named_size}

pub described_is : (blocks : List Block)
    → map (λ (b : Block). (b.name, b.size, b.lines.processor)) blocks ≡ map named_size (map block_of blocks)
described_is [] = refl
described_is (b ∷ bs) = ap (λ names. named_size (block_of b) ∷ names) (described_is bs)
