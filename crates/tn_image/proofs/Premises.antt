-- What an image is made of: blocks that were read, and modules that were chosen.
use Rattle.std.proofs.Common.{◌≡◌, List, sym, subst, length, All, ◌<◌, ◌^◌}
use Rattle.tn_module.specs.Modules.{Parts, IsShort}
use Rattle.tn_symbols.specs.declared.choices.Source.{Source}
use Rattle.tn_symbols.specs.Sources.{Offer, modules_of, IsOffer, IsChoice}
use Rattle.tn_symbols.specs.Definitions.{AreDefined}
use Rattle.tn_symbols.proofs.Sourcing.{choice-few, choice-here, here-short}
use Rattle.tn_link.specs.Linking.{AreLinkable}
use Rattle.tn_config.specs.Configurations.{BlockState}
use Rattle.tn_config.specs.Writable.{IsWritableBlock}
use Rattle.tn_image.specs.Images.{IsInRange}

-- the numbers of a block that was read lie in their ranges
pub written-in-range : (b : BlockState) → IsWritableBlock b → IsInRange b
written-in-range b w =
    record { size = w.size; code = w.code; cells = w.cells; wptr = w.wptr; below = w.below; above = w.above }

-- chosen modules can be linked
pub chosen-linkable : (o : Offer) → IsOffer o → (sources : List Source) → IsChoice o sources → (modules : List Parts)
    → modules ≡ modules_of o sources → AreDefined modules → AreLinkable modules
chosen-linkable o offer sources choice modules is defined = record {
  defined = defined;
  few = subst (λ (ms : List Parts). length ms < 2 ^ 30) (sym is) (choice-few o offer sources choice);
  short = subst (All IsShort) (sym is) (here-short o offer sources (choice-here o offer sources choice));
}
