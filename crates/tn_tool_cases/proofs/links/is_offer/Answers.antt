use Rattle.std.proofs.Common.{arith}
use Rattle.tn_tool_cases.proofs.Offers.{offered}
use Rattle.tn_tool_cases.proofs.links.is_offer.Goals as goal

pub returns-then-are_short : goal.returns-then-are_short
returns-then-are_short c = λ ok.
    offered c.args.pool.now c.args.named.now c.args.shelf.now c.args.used.now (grind arith) (grind arith) (grind arith) (grind arith)
    (grind arith) (c.are_short_libraries.ensures.short ok) (c.are_short_libraries.ensures.few ok)
