use Rattle.std.proofs.Common.{◌≡◌, ℕ, List, take}
use Rattle.indexmap.specs.IndexMap.{get}
use Rattle.tn_module.specs.Names.{same_name}
use Rattle.tn_symbols.specs.Sources.{modules_of}
use Rattle.tn_symbols.specs.Definitions.{first_exporter}
use Rattle.tn_symbols.specs.Inner.Sourcing.{offered}
use Rattle.tn_symbols.proofs.closing.first_exporters.Given as goal

abbrev pub invariant-loop-place : goal.invariant-loop-place
invariant-loop-place l =
    (name : List ℕ) → get same_name l.places name ≡ first_exporter (modules_of (offered l.offer) (take l.place l.stock)) name
