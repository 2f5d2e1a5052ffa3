use Rattle.std.proofs.Common.{refl}
use Rattle.tn_top.specs.declared.refusals.Refusal.TheVariants.{NoMemory}
use Rattle.tn_top.specs.Inner.Stages.{Unable}
use Rattle.tn_top.specs.Inner.Ends.{unable}
use Rattle.tn_top.proofs.commands.perform.Goals as goal

-- where there was no memory for the words, nothing was done
pub returns-in-Err-clause-ends : goal.returns-in-Err-clause-ends
unfolding Unable
returns-in-Err-clause-ends g c what is = unable NoMemory tt refl refl
