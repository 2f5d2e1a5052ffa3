use Rattle.std.proofs.Common.{refl, sym, ◌∙◌}
use Rattle.indexmap.specs.IndexMap.{get}
use Rattle.tn_module.specs.Names.{same_name}
use Rattle.tn_symbols.proofs.Tables.{told-new}
use Rattle.tn_link.proofs.tables.note.Goals as goal

pub returns : goal.returns
returns c = λ q.
    told-new (get same_name c.args.table.now) (get same_name c.insert.new.self) c.args.name.now c.args.target (λ n. c.args.target)
    (sym c.contains_key.ensures ∙ c.if-contains_key.false) refl c.in_ok-insert.ensures.updates.0 q
