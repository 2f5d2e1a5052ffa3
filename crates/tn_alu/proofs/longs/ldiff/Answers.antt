use Rattle.std.proofs.Common.{◌≡◌, ◌+◌, ◌-◌, ◌*◌, ◌%◌, ◌^◌, ◌≤◌, ◌∙◌, sym, arith}
use Rattle.std.proofs.lemmas.Grind.{common_steps}
use Rattle.std.proofs.lemmas.Bool.Decides.{nat_tests}
use Rattle.tn_alu.specs.Longs.{borrow_of}
use Rattle.tn_alu.proofs.Modulo.{word_of-difference}
use Rattle.tn_alu.proofs.longs.ldiff.Goals as goal

pub returns-clause-low : goal.returns-clause-low
returns-clause-low c =
    let borrow = borrow_of c.args.a c.args.b c.args.c in
    let taken = c.args.a + c.args.c % 2 in
    let enough : taken ≤ c.args.b + borrow * 2 ^ 32 = grind (arith, nat_tests) in
    let same : c.words-low.result.0 ≡ (c.args.b + borrow * 2 ^ 32 - taken) % 2 ^ 32 = grind (arith, common_steps, nat_tests) in
    same ∙ sym (word_of-difference c.args.b taken borrow enough)

pub returns-clause-borrow : goal.returns-clause-borrow
returns-clause-borrow c = grind (arith, common_steps, nat_tests)
