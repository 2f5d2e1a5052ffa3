use Rattle.std.proofs.Common.{◌≡◌, ℕ, ◌<◌}
use Rattle.tn_node.specs.Engines.{engine_of}
use Rattle.tn_sym.proofs.states.same_engines.Given as goal

abbrev pub invariant-loop-l : goal.invariant-loop-l
invariant-loop-l l = record {
  inputs : (j : ℕ) → j < l.l → engine_of l.node.inputs j ≡ engine_of l.other.inputs j;
  outputs : (j : ℕ) → j < l.l → engine_of l.node.outputs j ≡ engine_of l.other.outputs j;
}
