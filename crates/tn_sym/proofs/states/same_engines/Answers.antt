use Rattle.std.proofs.Common.{◌≡◌, ℕ, refl, sym, ap, ◌∙◌, arith}
use Rattle.tn_node.specs.declared.engines.LinkView.{LinkView}
use Rattle.tn_node.specs.Engines.{engine_of}
use Rattle.tn_sym.proofs.Compared.{up-to, engines-same}
use Rattle.tn_sym.proofs.states.same_engines.Goals as goal

pub loop-l-preserved : goal.loop-l-preserved
loop-l-preserved c = record {
  inputs = up-to (λ (j : ℕ). engine_of c.args.node.now.inputs j ≡ engine_of c.args.other.now.inputs j) c.loop-l.l c.loop-l.invariant.inputs
      (sym (ap (λ (v : LinkView). v.input) c.link-one.ensures)
      ∙ (c.same_engine.ensures.0 c.if-not-same_engine.false ∙ ap (λ (v : LinkView). v.input) c.link-two.ensures));
  outputs = up-to (λ (j : ℕ). engine_of c.args.node.now.outputs j ≡ engine_of c.args.other.now.outputs j) c.loop-l.l
      c.loop-l.invariant.outputs
      (sym (ap (λ (v : LinkView). v.output) c.link-one.ensures)
      ∙ (c.same_engine-in-loop-l.ensures.0 c.if-not-same_engine-2.false ∙ ap (λ (v : LinkView). v.output) c.link-two.ensures));
}

pub returns : goal.returns
returns c = (
  λ _. engines-same c.args.node.now c.args.other.now c.loop-l.l c.requires.one.inputs.four c.requires.one.outputs.four
      c.requires.two.inputs.four c.requires.two.outputs.four (omega (arith, c.loop-l-test.false)) c.loop-l.invariant.inputs
      c.loop-l.invariant.outputs,
  λ _. refl,
)
