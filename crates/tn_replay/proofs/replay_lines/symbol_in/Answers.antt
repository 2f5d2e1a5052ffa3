use Rattle.std.proofs.Common.{arith}
use Rattle.tn_replay.proofs.replay_lines.symbol_in.Goals as goal

pub symbol_of-requires : goal.symbol_of-requires
symbol_of-requires c =
    let code = c.args.program.now.linked.code in
    let long = code.ok.0 in
    let room = code.ok.1 in
    let small = code.small in
    omega (arith, long, room, small)
