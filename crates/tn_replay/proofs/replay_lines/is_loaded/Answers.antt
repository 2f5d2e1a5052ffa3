use Rattle.tn_stream.specs.Images.{images_of}
use Rattle.tn_load.specs.Targets.{targets_of}
use Rattle.tn_load.proofs.LoadTestLaws.{tested-is}
use Rattle.tn_replay.proofs.replay_lines.is_loaded.Goals as goal

pub returns : goal.returns
returns c =
    tested-is c.loaded.result c.args.net.now.board.state (targets_of (images_of c.args.images.now)) c.loaded.ensures.0 c.loaded.ensures.1
