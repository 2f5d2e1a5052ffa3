use Rattle.std.proofs.Common.{sym, ◌∙◌, arith}
use Rattle.tn_net.proofs.Places.{found_before, found_none}
use Rattle.tn_net.proofs.names.first_repeated.Goals as goal

pub returns-then-is_some : goal.returns-then-is_some
returns-then-is_some c = (
  omega arith,
  c.loop-i.invariant,
  found_before c.args.names.now c.loop-i.i c.index-names-i.result c.named.result
      (omega arith) c.index-names-i.is (sym c.is_some.ensures ∙ c.if-is_some.true) c.named.ensures,
)

pub loop-i-preserved : goal.loop-i-preserved
loop-i-preserved c =
    found_none c.args.names.now c.loop-i.i c.index-names-i.result c.named.result (omega arith) c.index-names-i.is
    (sym c.is_some.ensures ∙ c.if-is_some.false) c.named.ensures c.loop-i.invariant

pub returns : goal.returns
returns c = λ i h. c.loop-i.invariant i (omega arith)
