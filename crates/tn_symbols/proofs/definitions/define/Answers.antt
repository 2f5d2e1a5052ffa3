use Rattle.std.proofs.Common.{◌≡◌, ◌<◌, List, length, get_or, subst}
use Rattle.indexmap.specs.IndexMap.{get}
use Rattle.tn_module.specs.Modules.{module_of}
use Rattle.tn_module.specs.declared.modules.Item.{Item}
use Rattle.tn_module.specs.Names.{same_name, code_labels}
use Rattle.tn_module.specs.Inner.Sets.{HaveSameNames}
use Rattle.tn_symbols.specs.Definitions.{kind_of}
use Rattle.tn_symbols.proofs.Tables.{tells-grown}
use Rattle.tn_symbols.proofs.definitions.define.Goals as goal

pub loop-name-preserved : goal.loop-name-preserved
loop-name-preserved c =
    tells-grown (get same_name c.args.definitions.now) (get same_name c.loop-name.definitions) (get same_name c.define_one.new.definitions)
    c.args.raw.now.exports.items c.loop-name.name-index c.name-item.result
    (λ name. record { «module» = c.args.place; kind = kind_of (module_of c.args.raw.now) name })
    (subst (λ l. c.loop-name.name-index < length l) c.deref-name-items.ensures.value c.loop-name-test.true)
    (subst (λ l. c.name-item.result ≡ get_or l c.loop-name.name-index c.name-item.result) c.deref-name-items.ensures.value c.name-item.is)
    c.loop-name.invariant (c.in_ok-define_one.ensures c.args.raw.now.items.items
    (subst (λ (l : List Item). HaveSameNames c.in_ok-code.code.keys (code_labels l)) c.deref.ensures.value c.in_ok-code.ensures))
