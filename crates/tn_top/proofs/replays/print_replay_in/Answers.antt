use Rattle.std.proofs.Common.{◌≡◌, ◌∙◌, sym, ap, subst, refl, map}
use Rattle.tn_stream.specs.Images.{images_of}
use Rattle.tn_network.specs.Nets.{NetState}
use Rattle.tn_sym.specs.ProgramStates.{program_of}
use Rattle.tn_replay.specs.Replays.{Known, known, beginning, replayed}
use Rattle.tn_top.specs.declared.replays.ReplayInput.{ReplayInput}
use Rattle.tn_replay.specs.ReplayEnds.{IsKnownOf}
use Rattle.tn_top.specs.ReplayPlans.{known_of, replay_of}
use Rattle.tn_top.specs.Inner.Replays.{replayed_of}
use Rattle.tn_top.proofs.ReplayLaws.{replay-is, replied-done, replied-refused, replied-unprinted, replied-want}
use Rattle.tn_top.proofs.ReplayLaws.{refused-within}
use Rattle.tn_top.proofs.TreeTexts.{names-same}
use Rattle.tn_top.proofs.replays.print_replay_in.Goals as goal

-- what the lines look up
looks-up : (input : ReplayInput) → input.names.items ≡ map (λ b. b.name) input.read.config.blocks.items
    → known input.names.items input.read.system.programs.items input.read.system.images.items ≡ known_of (replayed_of input)
looks-up input named =
    ap (λ names. let k : Known = record {
      names = names;
      programs = map program_of input.read.system.programs.items;
      images = images_of input.read.system.images.items;
    } in k)
    (named ∙ sym (names-same input.read.config.blocks.items))

pub replay-requires-clause-wires : goal.replay-requires-clause-wires
replay-requires-clause-wires g c = ap (λ (n : NetState). n.board.network) c.requires.started

pub replay-requires-clause-held : goal.replay-requires-clause-held
replay-requires-clause-held g c = ap (λ (n : NetState). n.holds.held) c.requires.started

pub replay-requires-clause-known : goal.replay-requires-clause-known
replay-requires-clause-known g c =
    let input = c.args.input.now in
    rw (c.deref.ensures.value, c.deref-2.ensures.value, c.deref-3.ensures.value)
    (subst (IsKnownOf input.read.system.network) (sym (looks-up input c.requires.names)) c.requires.known)

pub returns-in-Ok-clause-replies : goal.returns-in-Ok-clause-replies
returns-in-Ok-clause-replies g c =
    let input = c.args.input.now in
    let r = replayed_of input in
    let k = known input.names.items input.read.system.programs.items input.read.system.images.items in
    let net = c.args.net.now in
    let old = g.O.Out.printed c.args.out.now in
    let new = g.O.Out.printed c.replay.new.out in
    let is : replay_of r ≡ replayed k r.schedule.lines (beginning net) =
    replay-is r k net (looks-up input c.requires.names) c.requires.started in
    replied-done c.args.file.now r.text r.schedule.lines (replay_of r) k (beginning net) is c.replay.new.net old new _ tt
    (rw (c.deref.ensures.value, c.deref-2.ensures.value, c.deref-3.ensures.value) at c.in-Ok.ensures.replays)

pub returns-in-Err-NotEnabled-clause-replies : goal.returns-in-Err-NotEnabled-clause-replies
returns-in-Err-NotEnabled-clause-replies g c =
    let input = c.args.input.now in
    let r = replayed_of input in
    let k = known input.names.items input.read.system.programs.items input.read.system.images.items in
    let net = c.args.net.now in
    let old = g.O.Out.printed c.args.out.now in
    let new = g.O.Out.printed c.replay.new.out in
    let is : replay_of r ≡ replayed k r.schedule.lines (beginning net) =
    replay-is r k net (looks-up input c.requires.names) c.requires.started in
    replied-refused c.args.file.now r.text r.schedule.lines (replay_of r) k (beginning net) is c.replay.new.net old new
    c.in-Err-NotEnabled.i c.not_enabled.result
    (rw (c.in-Err-NotEnabled.field-0-is, c.deref.ensures.value, c.deref-2.ensures.value, c.deref-3.ensures.value)
    at c.in-Err-NotEnabled.ensures.replays) c.not_enabled.ensures

pub returns-in-Err-Out-clause-replies : goal.returns-in-Err-Out-clause-replies
returns-in-Err-Out-clause-replies g c =
    let input = c.args.input.now in
    let r = replayed_of input in
    let k = known input.names.items input.read.system.programs.items input.read.system.images.items in
    let net = c.args.net.now in
    let old = g.O.Out.printed c.args.out.now in
    let new = g.O.Out.printed c.replay.new.out in
    let is : replay_of r ≡ replayed k r.schedule.lines (beginning net) =
    replay-is r k net (looks-up input c.requires.names) c.requires.started in
    replied-unprinted c.args.file.now r.text r.schedule.lines (replay_of r) k (beginning net) is c.replay.new.net old new
    (rw (c.in-Err-Out.field-0-is, c.deref.ensures.value, c.deref-2.ensures.value, c.deref-3.ensures.value)
    at c.in-Err-Out.ensures.replays)

pub returns-in-Err-NoMemory-clause-replies : goal.returns-in-Err-NoMemory-clause-replies
returns-in-Err-NoMemory-clause-replies g c =
    let input = c.args.input.now in
    let r = replayed_of input in
    let k = known input.names.items input.read.system.programs.items input.read.system.images.items in
    let net = c.args.net.now in
    let old = g.O.Out.printed c.args.out.now in
    let new = g.O.Out.printed c.replay.new.out in
    let is : replay_of r ≡ replayed k r.schedule.lines (beginning net) =
    replay-is r k net (looks-up input c.requires.names) c.requires.started in
    replied-want c.args.file.now r.text r.schedule.lines (replay_of r) k (beginning net) is c.replay.new.net old new
    (rw (c.in-Err-NoMemory.field-0-is, c.deref.ensures.value, c.deref-2.ensures.value, c.deref-3.ensures.value)
    at c.in-Err-NoMemory.ensures.replays)

-- the line is one of the schedule's
pub not_enabled-requires : goal.not_enabled-requires
not_enabled-requires g c =
    let input = c.args.input.now in
    let k = known input.names.items input.read.system.programs.items input.read.system.images.items in
    let told = (rw (c.in-Err-NotEnabled.field-0-is, c.deref.ensures.value, c.deref-2.ensures.value, c.deref-3.ensures.value)
    at c.in-Err-NotEnabled.ensures.replays).not_enabled c.in-Err-NotEnabled.i refl in
    refused-within k input.scheduled.schedule.lines.items (beginning c.args.net.now) c.in-Err-NotEnabled.i told.refused
