use Rattle.std.proofs.Common.{◌≡◌, ◌++◌, map, take}
use Rattle.std.specs.List.{flat_map}
use Rattle.tn_config.specs.Spellings.{statement_spelling, wire_statement}
use Rattle.tn_config.proofs.writers.put_wires.Given as goal

abbrev pub invariant-loop-wire : goal.invariant-loop-wire
invariant-loop-wire l = l.out.items ≡ l.initial.out.items ++ flat_map statement_spelling (map wire_statement (take l.wire-index l.wires))
