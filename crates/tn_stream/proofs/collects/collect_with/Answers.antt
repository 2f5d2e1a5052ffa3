use Rattle.std.proofs.Common.{◌+◌, arith, sym, ap, ◌∙◌}
use Rattle.tn_stream.specs.declared.length_tables.NodeLengths.{NodeLengths}
use Rattle.tn_stream.specs.Images.{images_of}
use Rattle.tn_stream.specs.Streams.{stream, sync_part, start_part}
use Rattle.tn_stream.specs.LoadBranches.{whole_branch}
use Rattle.tn_stream.proofs.TableLaws.{table-at, table-length, stream-length}
use Rattle.tn_stream.proofs.Printing.{Prints-ok, Prints-joined, Prints-stopped, Prints-refused}
use Rattle.tn_stream.proofs.collects.collect_with.Goals as goal

pub returns-in_err-emit_wave-clause-prints : goal.returns-in_err-emit_wave-clause-prints
unfolding stream
returns-in_err-emit_wave-clause-prints g c =
    Prints-refused c.from_residual.ensures.0
    (Prints-stopped (start_part (whole_branch (images_of c.args.images.now) c.args.tree.now.nodes.items))
    (Prints-stopped (sync_part (whole_branch (images_of c.args.images.now) c.args.tree.now.nodes.items)) c.in_err-emit_wave.ensures.prints))

pub returns-in_err-emit_wave-2-clause-prints : goal.returns-in_err-emit_wave-2-clause-prints
unfolding stream
returns-in_err-emit_wave-2-clause-prints g c =
    Prints-refused c.from_residual-in_err-emit_wave-2.ensures.0
    (Prints-stopped (start_part (whole_branch (images_of c.args.images.now) c.args.tree.now.nodes.items))
    (Prints-joined c.in_ok-emit_wave.ensures.prints c.in_err-emit_wave-2.ensures.prints))

pub returns-in_err-emit_wave-3-clause-prints : goal.returns-in_err-emit_wave-3-clause-prints
unfolding stream
returns-in_err-emit_wave-3-clause-prints g c =
    Prints-refused c.from_residual-in_err-emit_wave-3.ensures.0
    (Prints-joined (Prints-joined c.in_ok-emit_wave.ensures.prints c.in_ok-emit_wave-2.ensures.prints) c.in_err-emit_wave-3.ensures.prints)

pub returns-in_err-emit_wave-3-clause-goes_on : goal.returns-in_err-emit_wave-3-clause-goes_on
returns-in_err-emit_wave-3-clause-goes_on g c =
    g.met.E.Out.joined c.args.emit.now c.emit_wave-2.new.emit c.emit_wave-3.new.emit
    (g.met.E.Out.joined c.args.emit.now c.emit_wave.new.emit c.emit_wave-2.new.emit c.in_ok-emit_wave.ensures.goes_on
    c.in_ok-emit_wave-2.ensures.goes_on) c.in_err-emit_wave-3.ensures.goes_on

pub at-requires : goal.at-requires
at-requires g c =
    let size = table-length (images_of c.args.images.now) c.args.tree.now.nodes.items c.args.lengths.now c.requires.lengths in
    omega (arith, size, c.requires.whole.some)

pub returns-clause-prints : goal.returns-clause-prints
unfolding stream
returns-clause-prints g c =
    Prints-ok c.total.result
    (Prints-joined (Prints-joined c.in_ok-emit_wave.ensures.prints c.in_ok-emit_wave-2.ensures.prints) c.in_ok-emit_wave-3.ensures.prints)

pub returns-clause-count : goal.returns-clause-count
returns-clause-count g c =
    c.total.ensures
    ∙ (ap (λ (l : NodeLengths). l.load + l.sync + l.start)
    (table-at (images_of c.args.images.now) c.args.tree.now.nodes.items c.args.lengths.now 0 c.at.result c.requires.lengths
    c.requires.whole.some c.at.ensures.value)
    ∙ sym (stream-length (images_of c.args.images.now) c.args.tree.now.nodes.items 0))

pub returns-clause-goes_on : goal.returns-clause-goes_on
returns-clause-goes_on g c =
    g.met.E.Out.joined c.args.emit.now c.emit_wave-2.new.emit c.emit_wave-3.new.emit
    (g.met.E.Out.joined c.args.emit.now c.emit_wave.new.emit c.emit_wave-2.new.emit c.in_ok-emit_wave.ensures.goes_on
    c.in_ok-emit_wave-2.ensures.goes_on) c.in_ok-emit_wave-3.ensures.goes_on
