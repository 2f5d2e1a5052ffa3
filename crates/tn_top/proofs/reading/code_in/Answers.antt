use Rattle.std.proofs.Common.{◌≡◌, ◌∙◌, map, ap, sym, Err, arith}
use Rattle.tn_text.specs.declared.limits.Limit.TheVariants.{Code}
use Rattle.tn_asm.specs.Instructions.{instruction_of}
use Rattle.tn_top.specs.FlatCode.{flat_code}
use Rattle.tn_top.specs.Plans.{limit}
use Rattle.tn_top.proofs.FlatCodes.{code_in-fault, code_in-code, code_in-much}
use Rattle.tn_top.proofs.reading.code_in.Goals as goal

pub returns-in-Err-Fault-clause-made : goal.returns-in-Err-Fault-clause-made
returns-in-Err-Fault-clause-made c =
    rw (c.copied.ensures, c.in-Err-Fault.first-is) (code_in-fault c.args.source.now c.args.text.now c.in-Err-Fault.first
    (rw c.in-Err-Fault.field-0-is at c.in-Err-Fault.ensures.gives))

pub returns-then-len-gt-CODE_LIMIT-clause-made : goal.returns-then-len-gt-CODE_LIMIT-clause-made
returns-then-len-gt-CODE_LIMIT-clause-made c =
    let items = c.in_ok-code.code.items in
    let found = map instruction_of c.in-Ok.instructions.items in
    let made : items ≡ flat_code found = rw c.deref.ensures.value at c.in_ok-code.ensures in
    code_in-much c.args.source.now c.args.text.now items found c.in-Ok.ensures.gives made
    (omega (arith, c.in_ok-code.code.ok.0, c.len.ensures, c.if-len-gt-CODE_LIMIT.true))
    ∙ ap (λ n. Err (limit Code n)) (sym (c.len-then-len-gt-CODE_LIMIT.ensures ∙ c.in_ok-code.code.ok.0))

pub returns-clause-made : goal.returns-clause-made
returns-clause-made c =
    let items = c.in_ok-code.code.items in
    let found = map instruction_of c.in-Ok.instructions.items in
    let made : items ≡ flat_code found = rw c.deref.ensures.value at c.in_ok-code.ensures in
    code_in-code c.args.source.now c.args.text.now items found c.in-Ok.ensures.gives made
    (omega (arith, c.in_ok-code.code.ok.0, c.len.ensures, c.if-len-gt-CODE_LIMIT.false))
