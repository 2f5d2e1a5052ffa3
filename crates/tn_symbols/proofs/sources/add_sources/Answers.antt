use Rattle.tn_symbols.proofs.Sourcing.{sources-more}
use Rattle.tn_symbols.proofs.sources.add_sources.Goals as goal

pub loop-index-preserved : goal.loop-index-preserved
loop-index-preserved c =
    sources-more c.args.sources.now.items c.loop-index.sources.items c.push.new.self.items c.args.library c.loop-index.index
    c.loop-index.invariant c.in_ok-push.ensures.items
