use Rattle.std.proofs.lemmas.List.{get_or_default}
use Rattle.tn_top.proofs.ReplayLaws.{tokens-more}
use Rattle.tn_top.proofs.replays.put_spaced_all.Goals as goal

pub loop-token-preserved : goal.loop-token-preserved
loop-token-preserved c =
    tokens-more c.args.tokens.now c.loop-token.token-index _ c.args.text.now.items c.loop-token.text.items c.push.new.self.items
    c.extend_from_slice.new.self.items c.loop-token-test.true
    (get_or_default c.args.tokens.now c.loop-token.token-index _ _ c.loop-token-test.true) c.loop-token.invariant
    c.in_ok-push.ensures.items c.in_ok-extend_from_slice.ensures.items
