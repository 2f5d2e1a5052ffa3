use Rattle.std.proofs.Common.{◌≡◌, suc, ◌+◌, ◌++◌, pos, get_or, ap, ◌∙◌, arith}
use Rattle.std.proofs.lemmas.List.{get_or_default, get_or-map, length-map}
use Rattle.tn_isa.specs.declared.functions.Fun.TheVariants as fun
use Rattle.tn_layout.specs.declared.pieces.Piece.{Piece}
use Rattle.tn_layout.specs.declared.pieces.Piece.TheVariants.{Fixed}
use Rattle.tn_layout.specs.Sizes.{position, needed, piece_at}
use Rattle.tn_layout.proofs.Distances.{position-suc}
use Rattle.tn_link.specs.declared.programs.Element.{Element}
use Rattle.tn_link.specs.declared.programs.Element.TheVariants as form
use Rattle.tn_link.specs.declared.programs.Reach.TheVariants.{Number}
use Rattle.tn_link.specs.Programs.{piece, pieces, element_bytes, bytes_at}
use Rattle.tn_link.proofs.Ranges.{joined-grown}
use Rattle.tn_link.proofs.code.code.Goals as goal

abbrev read_at : Element
read_at = form.Instruction fun.J (Number (pos 0))

pub loop-i-preserved : goal.loop-i-preserved
loop-i-preserved c = record {
  code = λ sizes p.
      joined-grown (bytes_at c.args.program.now sizes) c.loop-i.i c.loop-i.bytes.items c.add_element.new.bytes.items
      (c.loop-i.invariant.code sizes p)
      (c.in_ok-add_element.ensures.bytes sizes p
      ∙ ap (λ (x : Element). c.loop-i.bytes.items ++ element_bytes sizes c.loop-i.i x)
      (get_or_default c.args.program.now c.loop-i.i read_at form.Label c.loop-i-test.true));
  long = λ sizes p exact.
      let next : suc c.loop-i.i ≡ c.loop-i.i + 1 = omega arith in
      let read : piece_at (pieces c.args.program.now) c.loop-i.i ≡ piece (get_or c.args.program.now c.loop-i.i read_at) = get_or-map
      (λ (x : Element). piece x) c.args.program.now c.loop-i.i read_at (Fixed 0) c.loop-i-test.true in
      omega (
        arith,
        c.in_ok-add_element.ensures.long sizes p,
        c.loop-i.invariant.long sizes p exact,
        exact c.loop-i.i (omega (arith, c.loop-i-test.true, length-map c.args.program.now (λ (x : Element). piece x))),
        ap (λ (x : Piece). needed sizes c.loop-i.i x) read,
        position-suc sizes c.loop-i.i,
        ap (position sizes) next,
      );
}
