use Rattle.std.proofs.Common.{◌≡◌}
use Rattle.std.specs.List.{flat_map, range_with_len}
use Rattle.tn_link.specs.Programs.{module_elements}
use Rattle.tn_link.proofs.programs.program.Given as goal

abbrev pub invariant-loop-m : goal.invariant-loop-m
invariant-loop-m l = l.elements.items ≡ flat_map (module_elements l.plan.modules.now l.cell_base) (range_with_len 0 l.m)
