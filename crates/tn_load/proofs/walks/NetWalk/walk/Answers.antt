use Rattle.tn_load.proofs.WalkLaws.{walked-some}
use Rattle.tn_load.proofs.walks.NetWalk.walk.Goals as goal

pub returns-in-Some : goal.returns-in-Some
returns-in-Some c =
    walked-some c.args.back c.args.self.now c.apply-made.new.self c.first.result c.in-Some.pick c.apply-made.result c.first.ensures
    c.in-Some.is c.apply-made.ensures.enabled c.apply-made.ensures.state
