use Rattle.std.proofs.Common.{arith, subst}
use Rattle.tn_text.specs.Reading.{Gives}
use Rattle.tn_module.specs.Modules.{module_of}
use Rattle.tn_modtext.specs.Inner.Drafts.{drawn, whole, draft_step, parts_read}
use Rattle.tn_modtext.proofs.PieceLoops.{reads-end, piece-stopped, piece-read}
use Rattle.tn_modtext.proofs.drafts.read_parts.Goals as goal

pub loop-line-preserved : goal.loop-line-preserved
loop-line-preserved c = (
  piece-read draft_step whole (drawn c.loop-line.draft) c.loop-line.number c.loop-line.rest.now (parts_read c.args.text.now)
      c.loop-line.invariant.0 (c.in-Some.line.now, c.in-Some.ended) c.in-Some.behind.now c.in-Some.ensures.value (drawn c.read.new.self)
      c.in-Ok.ensures,
  omega (arith, c.loop-line.invariant.1, c.in-Some.ensures.shorter),
)

pub returns-in-Err : goal.returns-in-Err
returns-in-Err c =
    piece-stopped draft_step whole (drawn c.loop-line.draft) c.loop-line.number c.loop-line.rest.now (parts_read c.args.text.now)
    c.loop-line.invariant.0 (c.in-Some.line.now, c.in-Some.ended) c.in-Some.behind.now c.in-Some.ensures.value
    (λ (_ : Unit {0}). drawn c.read.new.self) module_of c.in-Err.fault c.in-Err.ensures

pub returns : goal.returns
returns c =
    subst (Gives module_of c.finish_before.result)
    (reads-end draft_step whole (drawn c.loop-line.draft) c.loop-line.number c.loop-line.rest.now (parts_read c.args.text.now)
    c.loop-line.invariant.0 c.in_default.ensures.value) c.finish_before.ensures
