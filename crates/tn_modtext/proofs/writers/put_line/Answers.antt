use Rattle.std.proofs.Common.{◌++◌, ap, ◌∙◌}
use Rattle.tn_modtext.specs.Forms.{form_word}
use Rattle.tn_modtext.proofs.WritingLaws.{line-written}
use Rattle.tn_modtext.proofs.writers.put_line.Goals as goal

pub returns : goal.returns
returns c =
    line-written c.args.out.now.items c.extend_from_slice.new.self.items c.put_args.new.out.items c.push.new.self.items c.args.line.now
    (c.in_ok-extend_from_slice.ensures.items
    ∙ ap (λ w. c.args.out.now.items ++ w) (c.as_bytes.ensures.value ∙ (c.form_word.ensures ∙ ap form_word c.form.ensures)))
    c.in_ok-put_args.ensures c.in_ok-push.ensures.items
