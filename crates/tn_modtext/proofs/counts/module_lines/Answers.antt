use Rattle.std.proofs.Common.{◌≡◌, length, arith, ap}
use Rattle.tn_module.specs.Modules.{module_of}
use Rattle.tn_modtext.specs.Lines.{lines_of}
use Rattle.tn_modtext.proofs.ModuleLaws.{length-lines}
use Rattle.tn_modtext.proofs.counts.module_lines.Goals as goal

pub returns : goal.returns
returns c =
    let count = length-lines (module_of c.raw-raw.result.now) in
    let same : length (lines_of (module_of c.raw-raw.result.now)) ≡ length (lines_of c.args.m.now) =
    ap (λ m. length (lines_of m)) c.raw-raw.ensures.parts in
    omega (arith, count, same)
