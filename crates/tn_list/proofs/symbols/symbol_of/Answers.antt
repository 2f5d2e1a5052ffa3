use Rattle.std.proofs.Common.{None, sym, ap, ◌∙◌}
use Rattle.tn_list.specs.Symbols.{nearest}
use Rattle.tn_list.proofs.SymbolLaws.{symbol_told}
use Rattle.tn_list.proofs.symbols.symbol_of.Goals as goal

pub returns-then-is_in_code-clause-symbol : goal.returns-then-is_in_code-clause-symbol
returns-then-is_in_code-clause-symbol c =
    symbol_told c.args.chosen.now.modules.items c.args.linked.now c.args.address c.nearest.result
    (sym c.is_in_code.ensures ∙ c.if-is_in_code.true)
    (c.nearest.ensures
    ∙ (ap (λ placed. nearest c.deref-then-is_in_code.result.now c.args.address None placed) c.deref.ensures.value
    ∙ ap (λ modules. nearest modules c.args.address None c.args.linked.now.placed.items) c.deref-then-is_in_code.ensures.value))
