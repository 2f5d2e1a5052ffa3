-- What sources come to is one thing.
use Rattle.std.specs.Prelude.{◌≡◌}
use Rattle.tn_system.specs.declared.systems.SystemFault.{SystemFault}
use Rattle.tn_system.specs.Sources.{Sources}
use Rattle.tn_system.specs.Systems.{SystemState, IsSystem}
use Rattle.tn_system.specs.Faults.{IsSystemFault}

-- there is one system at most, or one fault at most, and not both
pub record OneAnswers (s : Sources) : Type 0 where
  pub systems : (y z : SystemState) → IsSystem s y → IsSystem s z → y ≡ z
  pub faults : (f g : SystemFault) → IsSystemFault s f → IsSystemFault s g → f ≡ g
  pub either : (y : SystemState) (f : SystemFault) → IsSystem s y → IsSystemFault s f → ⊥
