use Rattle.std.proofs.Common.{◌≡◌, ◌∙◌, List, ℕ, Option, None, ap, if◌then◌else◌}
use Rattle.std.specs.Option.{option_or}
use Rattle.indexmap.specs.IndexMap.{get}
use Rattle.tn_module.specs.Names.{same_name, is_among}
use Rattle.tn_link.specs.declared.tables.Target.{Target}
use Rattle.tn_link.proofs.tables.add_module.Goals as goal

pub returns : goal.returns
returns c = λ q.
    c.in_ok-add_exports.ensures q
    ∙ ap (λ (l : List (List ℕ)). option_or (get same_name c.args.table.now q) (if is_among l q then get same_name c.in_ok-own.own q
    else None)) c.deref.ensures.value
    ∙ ap (λ (o : Option Target). option_or (get same_name c.args.table.now q)
    (if is_among c.args.raw.now.exports.items q then o else None)) (c.in_ok-own.ensures q)
