use Rattle.std.proofs.Common.{ap, sym, ◌∙◌, if◌then◌else◌}
use Rattle.indexmap.specs.IndexMap.{get}
use Rattle.tn_module.specs.declared.modules.Kind.{Kind}
use Rattle.tn_module.specs.declared.modules.Kind.TheVariants as kind
use Rattle.tn_module.specs.Names.{same_name, is_among, code_labels}
use Rattle.tn_symbols.proofs.Tables.{told-new}
use Rattle.tn_symbols.proofs.definitions.define_one.Goals as goal

pub returns : goal.returns
returns c = λ items same q.
    told-new (get same_name c.args.definitions.now) (get same_name c.insert.new.self) c.args.name.now
    (record { «module» = c.args.place; kind = c.kind_in-kind.result })
    (λ n. record { «module» = c.args.place; kind = if is_among (code_labels items) n then kind.Code else kind.Cell })
    (sym c.contains_key.ensures ∙ c.if-contains_key.false)
    (ap (λ (k : Kind). record { «module» = c.args.place; kind = k })
    (ap (λ b. if b then kind.Code else kind.Cell) (sym (same.same c.args.name.now)) ∙ sym c.kind_in-kind.ensures))
    c.in_ok-insert.ensures.updates.0 q
