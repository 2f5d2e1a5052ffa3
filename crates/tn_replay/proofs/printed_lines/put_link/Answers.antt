use Rattle.std.proofs.Common.{◌++◌, ◌∷◌, [], ap, ◌∙◌}
use Rattle.std.specs.Prelude.{codes}
use Rattle.std.specs.Fmt.{decimal}
use Rattle.std.proofs.lemmas.Result.{on_ok_weaker}
use Rattle.tn_replay.specs.PrintedLines.{joined}
use Rattle.tn_replay.proofs.TextLaws.{link_put}
use Rattle.tn_replay.proofs.printed_lines.put_link.Goals as goal

pub returns : goal.returns
returns c =
    on_ok_weaker c.put_latch.result (link_put c.args.name.now c.args.l c.args.link.input c.args.link.output c.args.latch
    c.args.out.now.items c.extend_from_slice.new.self.items c.put_number.new.out.items c.put_input.new.out.items
    c.put_output.new.out.items c.put_latch.new.out.items
    (c.in_ok-extend_from_slice.ensures.items ∙ ap (λ name. c.args.out.now.items ++ name) c.bytes.ensures.bytes)
    (c.in_ok-put_number.ensures
    ∙ ap (λ l. c.extend_from_slice.new.self.items ++ joined (codes "." ∷ decimal l ∷ [])) c.from.ensures)
    c.in_ok-put_input.ensures c.in_ok-put_output.ensures) c.put_latch.ensures
