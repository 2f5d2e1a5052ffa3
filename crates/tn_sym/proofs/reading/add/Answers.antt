use Rattle.std.proofs.Common.{◌≡◌, ℕ, ◌-◌, List, [], ◌++◌, ◌∷◌, length, drop, Some, ap, sym, ◌∙◌, append_assoc}
use Rattle.tn_isa.specs.declared.functions.Fun.{Fun}
use Rattle.tn_sym.specs.declared.codes.Instruction.{Instruction}
use Rattle.tn_sym.specs.declared.reading.Form.{Form}
use Rattle.tn_sym.specs.Inner.Readings.{read_from, read_one}
use Rattle.tn_sym.proofs.reading.add.Goals as goal

-- an instruction that is put behind others, and those that are read of what is left
instruction-put : (end : ℕ) (rest left : List ℕ) (made new : List Instruction) (fun : Fun) (operand size : ℕ)
    → new ≡ made ++ record { address = end - length rest; size = length rest - length left; fun = fun; operand = operand } ∷ []
    → left ≡ drop size rest → (forms : List Form)
    → new ++ read_from end forms left ≡ made ++ read_one end (Some (fun, operand, size)) rest (λ left. read_from end forms left)
instruction-put end rest left made new fun operand size new_is left_is forms =
    ap (λ n. n ++ read_from end forms left) new_is ∙ append_assoc made
    (record { address = end - length rest; size = length rest - length left; fun = fun; operand = operand } ∷ []) (read_from end forms left)
    ∙ (λ j. made ++ record { address = end - length rest; size = length rest - length (left_is j); fun = fun; operand = operand }
    ∷ read_from end forms (left_is j))

pub returns-in_ok-push-in-Some-clause-made : goal.returns-in_ok-push-in-Some-clause-made
returns-in_ok-push-in-Some-clause-made c =
    λ forms. instruction-put c.args.end c.args.rest.now c.behind-left.result.now c.args.made.now.items c.push.new.self.items c.in-Some.fun
    c.in-Some.operand c.in-Some.size c.in_ok-push-in-Some.ensures.items c.behind-left.ensures forms
    ∙ ap (λ t. c.args.made.now.items ++ read_one c.args.end t c.args.rest.now (λ left. read_from c.args.end forms left))
    (sym c.in-Some.is ∙ c.decode.ensures.value)
    ∙ ap (λ form. c.args.made.now.items ++ read_from c.args.end (form ∷ forms) c.args.rest.now) (sym c.in-Instruction.is)

pub returns-in-None-clause-made : goal.returns-in-None-clause-made
returns-in-None-clause-made c =
    λ forms. ap (λ t. c.args.made.now.items ++ read_one c.args.end t c.args.rest.now (λ left. read_from c.args.end forms left))
    (sym c.in-None.is ∙ c.decode.ensures.value)
    ∙ ap (λ form. c.args.made.now.items ++ read_from c.args.end (form ∷ forms) c.args.rest.now) (sym c.in-Instruction.is)

pub returns-in-Byte-clause-made : goal.returns-in-Byte-clause-made
returns-in-Byte-clause-made c =
    λ forms. ap (λ left. c.args.made.now.items ++ read_from c.args.end forms left) c.behind.ensures
    ∙ ap (λ form. c.args.made.now.items ++ read_from c.args.end (form ∷ forms) c.args.rest.now) (sym c.in-Byte.is)

pub returns-in-Label-clause-made : goal.returns-in-Label-clause-made
returns-in-Label-clause-made c =
    λ forms. ap (λ form. c.args.made.now.items ++ read_from c.args.end (form ∷ forms) c.args.rest.now) (sym c.in-Label.is)
