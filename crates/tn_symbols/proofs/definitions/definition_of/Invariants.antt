use Rattle.std.proofs.Common.{◌≡◌, ℕ, ◌<◌, false}
use Rattle.tn_module.specs.Names.{is_among}
use Rattle.tn_symbols.specs.Choices.{module_at}
use Rattle.tn_symbols.proofs.definitions.definition_of.Given as goal

abbrev pub invariant-loop-place : goal.invariant-loop-place
invariant-loop-place l = (k : ℕ) → k < l.place → is_among (module_at l.modules k).exports l.name ≡ false
