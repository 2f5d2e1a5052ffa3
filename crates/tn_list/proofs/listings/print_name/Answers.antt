use Rattle.std.proofs.Common.{ap}
use Rattle.tn_list.specs.ListingTexts.{module_line}
use Rattle.tn_list.proofs.PrintingLaws.{Lists-as}
use Rattle.tn_list.proofs.listings.print_name.Goals as goal

pub returns-clause-lists : goal.returns-clause-lists
returns-clause-lists g c =
    Lists-as (ap module_line c.bytes.ensures.bytes) (c.print.ensures.lists (module_line c.bytes.result.now) c.token_line.ensures)
