use Rattle.std.proofs.Common.{rules}
use Rattle.tn_layout.proofs.marks.next_held.Goals as goal

pub returns-then-span-place-clause-none : goal.returns-then-span-place-clause-none
returns-then-span-place-clause-none c = search rules
