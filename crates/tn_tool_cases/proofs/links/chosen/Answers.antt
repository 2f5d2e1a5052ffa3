use Rattle.std.proofs.Common.{rules}
use Rattle.tn_symbols.specs.Sources.{offer}
use Rattle.tn_tool_cases.proofs.Offers.{linkable}
use Rattle.tn_tool_cases.proofs.links.chosen.Goals as goal

pub returns-in-Ok : goal.returns-in-Ok
returns-in-Ok c =
    linkable (offer c.args.pool.now c.args.named.now c.args.shelf.now c.args.used.now) c.in-Ok.chosen.sources.items
    c.in-Ok.chosen.modules.items (c.is_offer.ensures (search rules)) c.in-Ok.ensures.choice c.in-Ok.ensures.copies
    c.in-Ok.ensures.defined
