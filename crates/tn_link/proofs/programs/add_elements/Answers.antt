use Rattle.tn_link.specs.Inner.Tables.{found}
use Rattle.tn_link.specs.Inner.Elements.{IsUsable}
use Rattle.tn_link.proofs.Ranges.{read-all}
use Rattle.tn_link.proofs.programs.add_elements.Goals as goal

pub element_of-requires-clause-usable : goal.element_of-requires-clause-usable
element_of-requires-clause-usable c =
    read-all (IsUsable (found c.args.scope.now)) c.args.items.now c.loop-item.item-index c.item-item.result c.loop-item-test.true
    c.item-item.is
    c.requires.usable
