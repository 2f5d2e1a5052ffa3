use Rattle.tn_text.proofs.Results.{of-error}
use Rattle.tn_top.specs.declared.refusals.Refusal.TheVariants.{NoMemory}
use Rattle.tn_top.specs.ReplayPlans.{replay_answer}
use Rattle.tn_top.specs.Inner.Replays.{replayed_of, Replies}
use Rattle.tn_top.proofs.ReplayLaws.{replied-none}
use Rattle.tn_top.proofs.replays.print_replay.Goals as goal

pub returns-in_err-net-clause-replies : goal.returns-in_err-net-clause-replies
returns-in_err-net-clause-replies g c =
    let old = g.O.Out.printed c.args.out.now in
    let answer = replay_answer c.args.file.now (replayed_of c.args.input.now) in
    of-error (Replies answer old old) c.from_residual.result NoMemory c.from_residual.ensures.1 (replied-none answer old)
