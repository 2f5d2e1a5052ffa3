use Rattle.std.proofs.Common.{◌≡◌, ℕ, Bool, ◌&&◌, List, Bor, sym, ap, ◌∙◌}
use Rattle.std.specs.List.{list_all}
use Rattle.tn_text.specs.declared.faults.FaultCode.TheVariants.{BadLine}
use Rattle.tn_text.specs.Faults.{bare, fault_at}
use Rattle.tn_text.specs.Lines.{is_nonempty}
use Rattle.tn_text.specs.Reading.{placed}
use Rattle.tn_modtext.proofs.StrictTokens.{strict-fault, strict-whole, strict-other}
use Rattle.tn_modtext.proofs.pieces.read_strict.Goals as goal

tested : {b : Bool} (result ended : Bool) (words tokens : List (Bor (List ℕ)))
    → result ≡ (ended && list_all (λ token. is_nonempty token.now) words)
    → words ≡ tokens → result ≡ b → (ended && list_all (λ token. is_nonempty token.now) tokens) ≡ b
tested result ended words tokens e same r =
    sym (e ∙ ap (λ (ws : List (Bor (List ℕ))). ended && list_all (λ token. is_nonempty token.now) ws) same) ∙ r

pub returns-then-is_whole : goal.returns-then-is_whole
returns-then-is_whole c =
    sym (ap (placed c.args.number) (strict-whole (λ token. token.now) c.args.line.now c.args.ended c.in_ok-tokens.tokens.items
    (sym c.is_strict_line.ensures ∙ c.if-not-is_strict_line.false) c.in_ok-tokens.ensures
    (tested c.is_whole.result c.args.ended c.deref.result.now c.in_ok-tokens.tokens.items c.is_whole.ensures c.deref.ensures.value
    c.if-is_whole.true)))

pub returns : goal.returns
returns c =
    strict-fault c.args.number (c.args.line.now, c.args.ended) (bare BadLine) c.at-else-is_whole.result
    (strict-other (λ (token : Bor (List ℕ)). token.now) c.args.line.now c.args.ended c.in_ok-tokens.tokens.items
    (sym c.is_strict_line.ensures ∙ c.if-not-is_strict_line.false) c.in_ok-tokens.ensures
    (tested c.is_whole.result c.args.ended c.deref.result.now c.in_ok-tokens.tokens.items c.is_whole.ensures c.deref.ensures.value
    c.if-is_whole.false)) (c.at-else-is_whole.ensures ∙ ap (fault_at c.args.number) c.bare-else-is_whole.ensures)
