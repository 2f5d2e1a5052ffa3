use Rattle.std.proofs.Common.{◌++◌, ap, ◌∙◌}
use Rattle.std.specs.List.{flat_map}
use Rattle.tn_modtext.specs.Lines.{spelling}
use Rattle.tn_modtext.proofs.WritingLaws.{put-more, put-all, text-grows}
use Rattle.tn_modtext.proofs.library_writers.put_modules.Goals as goal

pub loop-module-preserved : goal.loop-module-preserved
loop-module-preserved c =
    put-more (flat_map spelling) spelling (text-grows spelling) c.args.modules.now c.args.out.now.items c.loop-module.out.items
    c.loop-module.module-index c.loop-module.invariant c.module-item.result c.put_module.new.out.items c.loop-module-test.true
    c.module-item.is (c.in_ok-put_module.ensures ∙ ap (λ m. c.loop-module.out.items ++ spelling m) c.raw.ensures.parts)

pub returns : goal.returns
returns c =
    put-all (flat_map spelling) spelling (text-grows spelling) c.args.modules.now c.args.out.now.items c.loop-module.out.items
    c.loop-module.module-index c.loop-module.invariant c.loop-module-test.false
