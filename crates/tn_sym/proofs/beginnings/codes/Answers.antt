use Rattle.std.proofs.Common.{◌≡◌, [], ◌∷◌, ◌++◌, arith}
use Rattle.tn_sym.proofs.Begun.{codes-more}
use Rattle.tn_sym.proofs.beginnings.codes.Goals as goal

pub loop-program-preserved : goal.loop-program-preserved
loop-program-preserved c =
    let pushed : c.push.new.self.items ≡ c.loop-program.codes.items ++ c.in_ok-code.code ∷ [] = grind arith in
    codes-more c.args.programs.now c.loop-program.program-index c.program-item.result c.loop-program.codes.items c.in_ok-code.code
    c.push.new.self.items c.loop-program-test.true c.program-item.is pushed c.in_ok-code.ensures c.loop-program.invariant
