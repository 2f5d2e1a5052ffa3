use Rattle.std.proofs.Common.{◌≡◌, ℕ, ◌+◌, take, All, get_or, sym, ap, ◌∙◌}
use Rattle.tn_isa.specs.OperandRegister.{is_prefix, IsCoded, IsPrefix, operand_after, register_after}
use Rattle.tn_prefix.proofs.Loads.{loads_from-prefixes, register_after_more, loads_at}
use Rattle.std.proofs.lemmas.List.{take_all}
use Rattle.std.proofs.lemmas.List.Elements.{All-same}
use Rattle.tn_prefix.proofs.operand.decode.Goals as goal

pub returns-then-not-is_prefix-clause-value : goal.returns-then-not-is_prefix-clause-value
returns-then-not-is_prefix-clause-value c =
    let executes : IsCoded c.fun_of-fun.result = sym c.is_prefix.ensures ∙ c.if-not-is_prefix.true in
    sym (loads_at c.args.bytes.now c.loop-index.index c.loop-index.register c.fun_of-fun.result c.loaded.result c.loop-index-test.true
    c.loop-index.invariant.0 c.loop-index.invariant.1 (sym c.fun_of-fun.ensures.value) executes c.loaded.ensures)

pub loop-index-preserved : goal.loop-index-preserved
loop-index-preserved c =
    let byte : ℕ = get_or c.args.bytes.now c.loop-index.index 0 in
    let prefix : IsPrefix byte = ap is_prefix (sym c.fun_of-fun.ensures.value) ∙ (sym c.is_prefix.ensures ∙ c.if-not-is_prefix.false) in
    let more : (operand_after c.loop-index.register byte ≡ register_after 0 (take (c.loop-index.index + 1) c.args.bytes.now))
    × All IsPrefix (take (c.loop-index.index + 1) c.args.bytes.now) =
    register_after_more c.args.bytes.now c.loop-index.index c.loop-index.register c.loop-index-test.true c.loop-index.invariant.0
    c.loop-index.invariant.1 prefix in
    (c.operand_after-register.ensures ∙ more.0, more.1)

pub returns-clause-value : goal.returns-clause-value
returns-clause-value c =
    let whole : take c.loop-index.index c.args.bytes.now ≡ c.args.bytes.now =
    take_all c.loop-index.index c.args.bytes.now c.loop-index-test.false in
    sym (loads_from-prefixes 0 c.args.bytes.now (All-same IsPrefix c.args.bytes.now (take c.loop-index.index c.args.bytes.now) (sym whole)
    c.loop-index.invariant.1))
