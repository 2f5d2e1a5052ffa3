use Rattle.std.proofs.Common.{Vec, Global, List, map, arith, subst}
use Rattle.tn_text.specs.Reading.{Gives}
use Rattle.tn_module.specs.declared.modules.RawModule.{RawModule}
use Rattle.tn_module.specs.Modules.{Parts, module_of}
use Rattle.tn_modtext.specs.Inner.LibraryDrafts.{drawn_library, whole_library, library_step, library_read}
use Rattle.tn_modtext.proofs.PieceLoops.{reads-end, piece-stopped, piece-read}
use Rattle.tn_modtext.proofs.library_drafts.read_library_parts.Goals as goal

abbrev parts_of : Vec RawModule Global → List Parts
parts_of raws = map module_of raws.items

pub loop-line-preserved : goal.loop-line-preserved
loop-line-preserved c = (
  piece-read library_step whole_library (drawn_library c.loop-line.draft) c.loop-line.number c.loop-line.rest.now
      (library_read c.args.text.now) c.loop-line.invariant.0 (c.in-Some.line.now, c.in-Some.ended) c.in-Some.behind.now
      c.in-Some.ensures.value (drawn_library c.read.new.self) c.in-Ok.ensures,
  omega (arith, c.loop-line.invariant.1, c.in-Some.ensures.shorter),
)

pub returns-in-Err : goal.returns-in-Err
returns-in-Err c =
    piece-stopped library_step whole_library (drawn_library c.loop-line.draft) c.loop-line.number c.loop-line.rest.now
    (library_read c.args.text.now) c.loop-line.invariant.0 (c.in-Some.line.now, c.in-Some.ended) c.in-Some.behind.now
    c.in-Some.ensures.value (λ (_ : Unit {0}). drawn_library c.read.new.self) parts_of c.in-Err.fault c.in-Err.ensures

pub returns : goal.returns
returns c =
    subst (Gives parts_of c.finish_before.result)
    (reads-end library_step whole_library (drawn_library c.loop-line.draft) c.loop-line.number c.loop-line.rest.now
    (library_read c.args.text.now) c.loop-line.invariant.0 c.in_default.ensures.value) c.finish_before.ensures
