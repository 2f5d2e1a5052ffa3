use Rattle.tn_symbols.proofs.NameLists.{names-grown}
use Rattle.tn_symbols.proofs.names.add_names.Goals as goal

pub loop-name-preserved : goal.loop-name-preserved
loop-name-preserved c =
    names-grown c.args.set.now.keys c.loop-name.set.keys c.insert.new.self.keys c.args.names.now c.loop-name.name-index c.name-item.result
    c.loop-name-test.true c.name-item.is c.loop-name.invariant c.in_ok-insert.ensures.updates.0
