use Rattle.tn_system.specs.Systems.{system_of}
use Rattle.tn_top.proofs.GridTexts.{grid-same}
use Rattle.tn_top.proofs.grids.grid_summary.Goals as goal

pub returns : goal.returns
returns c =
    let y = system_of c.args.system.now in
    grid-same c.args.size y c.in_ok-net.net c.settle_net-load.new.net c.release.new.self c.in_ok-net.ensures c.settle_net-load.ensures.state
    c.release.ensures c.count.result c.host_left-bytes.result c.settle_net-load.result c.settle_net-run.result c.count.ensures.value
    c.host_left-bytes.ensures c.settle_net-load.ensures.steps c.settle_net-load.ensures.rested c.settle_net-run.ensures.steps
    c.settle_net-run.ensures.rested
