-- The words of a line are read as what they say, and refused for what is wrong with them.
use Rattle.std.proofs.Common.{◌≡◌, ℕ, Bool, true, false, cond, List, [], ◌∷◌, length, Option, Some, None, Result}
use Rattle.std.proofs.Common.{Ok, Err, refl, sym, ap, ◌∙◌, subst}
use Rattle.std.specs.Bool.{◌==◌}
use Rattle.std.specs.Option.{option_or}
use Rattle.std.proofs.lemmas.Option.{same_Some}
use Rattle.tn_text.specs.declared.faults.Cause.{Cause}
use Rattle.tn_text.specs.declared.faults.FaultCode.TheVariants.{BadLine}
use Rattle.tn_text.specs.declared.limits.TheConstants.{NAME_LIMIT}
use Rattle.tn_text.specs.Faults.{bare}
use Rattle.tn_text.specs.Places.{name_at}
use Rattle.tn_text.specs.Reading.{result_then}
use Rattle.tn_text.proofs.Results.{ok-ok}
use Rattle.tn_module.specs.declared.modules.Item.TheVariants as item
use Rattle.tn_module.specs.declared.modules.Cell.TheVariants as cell
use Rattle.tn_modtext.proofs.Results.{then-ok, then-of}
use Rattle.tn_isa.specs.declared.mnemonics.Mnemonic.{Mnemonic}
use Rattle.tn_isa.specs.Mnemonics.{mnemonic_named}
use Rattle.tn_asm.specs.declared.directives.Directive.{Directive}
use Rattle.tn_asm.specs.declared.directives.Directive.TheVariants as directive
use Rattle.tn_asm.specs.Directives.{directive_named}
use Rattle.tn_asm.specs.declared.statements.Section.{Section}
use Rattle.tn_asm.specs.declared.statements.Section.TheVariants as section
use Rattle.tn_asm.specs.declared.statements.Statement.{Statement}
use Rattle.tn_asm.specs.declared.statements.Statement.TheVariants as statement
use Rattle.tn_asm.specs.declared.forms.Form.{Form}
use Rattle.tn_asm.specs.declared.forms.Form.TheVariants as form
use Rattle.tn_asm.specs.declared.forms.ItemForm.TheVariants as item_form
use Rattle.tn_asm.specs.declared.forms.CellForm.TheVariants as cell_form
use Rattle.tn_asm.specs.Forms.{directive_form, word_form, form_at, body_form, token_count, shaped}
use Rattle.tn_asm.specs.Labels.{label_of, label_said}
use Rattle.tn_asm.specs.Said.{arguments_said, statement_said, both_said, labelled_said, first_said, words_said}
use Rattle.tn_asm.specs.Sources.{ArgumentsSay, StatementSays, LabelledSays, FirstSays, WordsSay}
use Rattle.tn_asm.specs.SourceFaults.{refusal, a_name, classes, first_refusal, statement_cause, label_cause, labelled_cause}
use Rattle.tn_asm.specs.SourceFaults.{first_cause_of, words_cause}
use Rattle.tn_asm.proofs.ArgumentLaws.{Agrees, arguments_cause, arguments_agree}

-- ---- statements

-- as many tokens as there are classes
counts : (f : Form) → token_count f ≡ length (classes f)
counts form.Module = refl
counts form.Import = refl
counts form.Export = refl
counts form.Code = refl
counts form.Data = refl
counts (form.Item (item_form.Function f)) = refl
counts (form.Item (item_form.Operation op)) = refl
counts (form.Item item_form.Byte) = refl
counts (form.Cell cell_form.Word) = refl
counts (form.Cell cell_form.Address) = refl
counts (form.Cell cell_form.Byte) = refl
counts (form.Cell cell_form.Space) = refl
counts (form.Cell cell_form.Align) = refl

abbrev fits : Form → List (List ℕ) → Bool
fits f args = length args == length (classes f)

abbrev shape : Form → Bool → Result Form Cause
shape f b = cond b (Ok f) (Err (bare BadLine))

shaped-fits : (f : Form) (args : List (List ℕ)) → shaped (Some f) args ≡ shape f (fits f args)
shaped-fits f args = ap (λ n. shape f (length args == n)) (counts f)

-- what says something has the right number of tokens
says-fits : (f : Form) (args : List (List ℕ)) (x : Statement) → ArgumentsSay f args x → fits f args ≡ true
says-fits f args x says = at (fits f args) refl
  where
    agree : Agrees (ArgumentsSay f args) (arguments_cause (classes f) args) (arguments_said f args)
    agree = arguments_agree f args

    at : (b : Bool) → fits f args ≡ b → fits f args ≡ true
    at true e = e
    at false e =
        let none : None ≡ arguments_cause (classes f) args = sym (ap refusal (agree.only x says)) ∙ agree.refused in
        let some : arguments_cause (classes f) args ≡ Some (bare BadLine) =
        ap (λ b. cond b (first_refusal (classes f) args) (Some (bare BadLine))) e in
        absurd (let no = none ∙ some in cc)

module _ (f : Form) (args : List (List ℕ)) where
  fitting : fits f args ≡ true → statement_said (Some f) args ≡ arguments_said f args
  fitting e = ap (λ r. result_then r (λ g. arguments_said g args)) (shaped-fits f args ∙ ap (shape f) e)

  unfitting : fits f args ≡ false → statement_said (Some f) args ≡ Err (bare BadLine)
  unfitting e = ap (λ r. result_then r (λ g. arguments_said g args)) (shaped-fits f args ∙ ap (shape f) e)

  some_agrees : Agrees (StatementSays (Some f) args) (statement_cause [] [] (Some f) args) (statement_said (Some f) args)
  some_agrees = at (fits f args) refl
    where
      agree : Agrees (ArgumentsSay f args) (arguments_cause (classes f) args) (arguments_said f args)
      agree = arguments_agree f args

      only_one : (x : Statement) → StatementSays (Some f) args x → ArgumentsSay f args x
      only_one x (g, is, says) = subst (λ h. ArgumentsSay h args x) (sym (same_Some f g is)) says

      at : (b : Bool) → fits f args ≡ b
          → Agrees (StatementSays (Some f) args) (statement_cause [] [] (Some f) args) (statement_said (Some f) args)
      at true e = record {
        found = λ x q. (f, refl, agree.found x (sym (fitting e) ∙ q));
        only = λ x says. fitting e ∙ agree.only x (only_one x says);
        refused = ap refusal (fitting e) ∙ agree.refused;
      }
      at false e = record {
        found = λ x q. absurd (let no = sym (unfitting e) ∙ q in cc);
        only = λ x says. absurd (let no = sym (says-fits f args x (only_one x says)) ∙ e in cc);
        refused = ap refusal (unfitting e)
            ∙ sym (ap (λ b. cond b (first_refusal (classes f) args) (Some (bare BadLine))) e);
      }

statement_agrees : (found : Option Form) (args : List (List ℕ))
    → Agrees (StatementSays found args) (statement_cause [] [] found args) (statement_said found args)
statement_agrees None args = record {
  found = λ x q. absurd cc;
  only = λ x says. absurd (let no = says.1 in cc);
  refused = refl;
}
statement_agrees (Some f) args = some_agrees f args

-- ---- labels

-- a label stands where the module is named, and is refused for its name
label_refused : (label : List ℕ) (put : List ℕ → Statement)
    → refusal (result_then (name_at NAME_LIMIT label) (λ n. Ok (put n))) ≡ a_name label
label_refused label put = at (name_at NAME_LIMIT label)
  where
    at : (r : Result (List ℕ) Cause) → refusal (result_then r (λ n. Ok (put n))) ≡ refusal r
    at (Ok n) = refl
    at (Err cause) = refl

label_alone : (s : Section) (label : List ℕ) → refusal (label_said s label) ≡ label_cause s label
label_alone section.Head label = refl
label_alone section.Code label = label_refused label (λ n. statement.Item (item.Label n))
label_alone section.Data label = label_refused label (λ n. statement.Cell (cell.Label n))

abbrev Both : Section → List ℕ → Option Form → List (List ℕ) → Statement × Statement → Type 0
Both s label found args b = (label_said s label ≡ Ok b.0) × StatementSays found args b.1

-- a label and a statement, where the label is refused for its name
module _ (s : Section) (label : List ℕ) (named : refusal (label_said s label) ≡ a_name label) where
  abbrev both_cause : Option Form → List (List ℕ) → Option Cause
  both_cause found args = statement_cause (a_name ∷ []) (label ∷ []) found args

  module _ (f : Form) (args : List (List ℕ)) where
    abbrev rest : Result (Statement × Statement) Cause
    rest = result_then (label_said s label) (λ l. result_then (arguments_said f args) (λ x. Ok (l, x)))

    both_fitting : fits f args ≡ true → both_said s label (Some f) args ≡ rest
    both_fitting e =
        ap (λ r. result_then r (λ g. result_then (label_said s label) (λ l. result_then (arguments_said g args) (λ x. Ok (l, x)))))
        (shaped-fits f args ∙ ap (shape f) e)

    both_unfitting : fits f args ≡ false → both_said s label (Some f) args ≡ Err (bare BadLine)
    both_unfitting e =
        ap (λ r. result_then r (λ g. result_then (label_said s label) (λ l. result_then (arguments_said g args) (λ x. Ok (l, x)))))
        (shaped-fits f args ∙ ap (shape f) e)

    -- the label is refused, else what stands behind it
    rest_refused : fits f args ≡ true → refusal rest ≡ option_or (a_name label) (first_refusal (classes f) args)
    rest_refused e = at (label_said s label) named (arguments_said f args) (arguments_agree f args).refused
      where
        fine : arguments_cause (classes f) args ≡ first_refusal (classes f) args
        fine = ap (λ b. cond b (first_refusal (classes f) args) (Some (bare BadLine))) e

        at : (r : Result Statement Cause) → refusal r ≡ a_name label → (q : Result Statement Cause)
            → refusal q ≡ arguments_cause (classes f) args
            → refusal {A = Statement × Statement} (result_then r (λ l. result_then q (λ x. Ok (l, x))))
            ≡ option_or (a_name label) (first_refusal (classes f) args)
        at (Err cause) n q h = ap (λ o. option_or o (first_refusal (classes f) args)) n
        at (Ok l) n (Err cause) h = (h ∙ fine) ∙ ap (λ o. option_or o (first_refusal (classes f) args)) n
        at (Ok l) n (Ok x) h = (h ∙ fine) ∙ ap (λ o. option_or o (first_refusal (classes f) args)) n

    rest_found : (b : Statement × Statement) → rest ≡ Ok b → Both s label (Some f) args b
    rest_found b e =
        let first = then-ok (label_said s label) (λ l. result_then (arguments_said f args) (λ x. Ok (l, x))) b e in
        let second = then-ok (arguments_said f args) (λ x. Ok (first.0, x)) b first.2 in
        let same : (first.0, second.0) ≡ b = ok-ok (Ok (first.0, second.0)) (first.0, second.0) b refl second.2 in
        subst (Both s label (Some f) args) same (first.1, (f, refl, (arguments_agree f args).found second.0 second.1))

    both_some : Agrees (Both s label (Some f) args) (both_cause (Some f) args) (both_said s label (Some f) args)
    both_some = at (fits f args) refl
      where
        only_one : (x : Statement) → StatementSays (Some f) args x → ArgumentsSay f args x
        only_one x (g, is, says) = subst (λ h. ArgumentsSay h args x) (sym (same_Some f g is)) says

        at : (b : Bool) → fits f args ≡ b
            → Agrees (Both s label (Some f) args) (both_cause (Some f) args) (both_said s label (Some f) args)
        at true e = record {
          found = λ b q. rest_found b (sym (both_fitting e) ∙ q);
          only = λ b says. both_fitting e
              ∙ then-of (label_said s label) (λ l. result_then (arguments_said f args) (λ x. Ok (l, x))) b.0 b says.0
              (then-of (arguments_said f args) (λ x. Ok (b.0, x)) b.1 b ((arguments_agree f args).only b.1 (only_one b.1 says.1)) refl);
          refused = ap refusal (both_fitting e) ∙ (rest_refused e
              ∙ sym (ap (λ c. cond c (option_or (a_name label) (first_refusal (classes f) args)) (Some (bare BadLine))) e));
        }
        at false e = record {
          found = λ b q. absurd (let no = sym (both_unfitting e) ∙ q in cc);
          only = λ b says. absurd (let no = sym (says-fits f args b.1 (only_one b.1 says.1)) ∙ e in cc);
          refused = ap refusal (both_unfitting e)
              ∙ sym (ap (λ c. cond c (option_or (a_name label) (first_refusal (classes f) args)) (Some (bare BadLine))) e);
        }

  both_agrees : (found : Option Form) (args : List (List ℕ))
      → Agrees (Both s label found args) (both_cause found args) (both_said s label found args)
  both_agrees None args = record {
    found = λ x q. absurd cc;
    only = λ x says. absurd (let no = says.1.1 in cc);
    refused = refl;
  }
  both_agrees (Some f) args = both_some f args

-- before the module is named no code and no data stand
head_body : (word : List ℕ) → body_form (form_at section.Head word) ≡ None
head_body word = at (directive_named word) (mnemonic_named word)
  where
    of : (d : Directive) → body_form (directive_form section.Head d) ≡ None
    of directive.Module = refl
    of directive.Import = refl
    of directive.Export = refl
    of directive.Code = refl
    of directive.Data = refl
    of directive.Byte = refl
    of directive.Word = refl
    of directive.Address = refl
    of directive.Space = refl
    of directive.Align = refl

    at : (d : Option Directive) (m : Option Mnemonic) → body_form (word_form section.Head d m) ≡ None
    at (Some d) m = of d
    at None (Some m) = refl
    at None None = refl

labelled_both : (s : Section) (label word : List ℕ) (args : List (List ℕ))
    → Agrees (Both s label (body_form (form_at s word)) args) (labelled_cause s label (word ∷ args))
    (both_said s label (body_form (form_at s word)) args)
labelled_both section.Head label word args =
    subst (λ found. Agrees (Both section.Head label found args) (statement_cause (a_name ∷ []) (label ∷ []) found args)
    (both_said section.Head label found args)) (sym (head_body word))
    (record { found = λ x q. absurd cc; only = λ x says. absurd (let no = says.1.1 in cc); refused = refl })
labelled_both section.Code label word args =
    both_agrees section.Code label (label_refused label (λ n. statement.Item (item.Label n))) (body_form (form_at section.Code word)) args
labelled_both section.Data label word args =
    both_agrees section.Data label (label_refused label (λ n. statement.Cell (cell.Label n))) (body_form (form_at section.Data word)) args

-- ---- lines

-- what is made of a result, where it says it
made_agrees : {B C : Type 0} (Says : B → Type 0) (cause : Option Cause) (r : Result B Cause) (put : B → C)
    → Agrees Says cause r → Agrees (λ y. (x : B) × Says x × (y ≡ put x)) cause (result_then r (λ x. Ok (put x)))
made_agrees {B} {C} Says cause (Ok b) put a = record {
  found = λ y q. (b, a.found b refl, sym (ok-ok (Ok (put b)) (put b) y refl q));
  only = λ y says. ap Ok (ap put (ok-ok (Ok b) b says.0 refl (a.only says.0 says.1)) ∙ sym says.2);
  refused = a.refused;
}
made_agrees {B} {C} Says cause (Err why) put a = record {
  found = λ y q. absurd cc;
  only = λ y says. absurd (let no = a.only says.0 says.1 in cc);
  refused = a.refused;
}

labelled_agrees : (s : Section) (label : List ℕ) (args : List (List ℕ))
    → Agrees (LabelledSays s label args) (labelled_cause s label args) (labelled_said s label args)
labelled_agrees s label [] =
    made_agrees (λ l. label_said s label ≡ Ok l) (label_cause s label) (label_said s label) (λ l. l ∷ [])
    (record { found = λ l q. q; only = λ l says. says; refused = label_alone s label })
labelled_agrees s label (word ∷ args) =
    let made = made_agrees (Both s label (body_form (form_at s word)) args) (labelled_cause s label (word ∷ args))
    (both_said s label (body_form (form_at s word)) args) (λ b. b.0 ∷ b.1 ∷ []) (labelled_both s label word args) in
    record {
      found = λ y q. (let m = made.found y q in (m.0.0, m.0.1, m.1.0, m.1.1, m.2));
      only = λ y says. made.only y ((says.0, says.1), (says.2, says.3), says.4);
      refused = made.refused;
    }

first_agrees : (s : Section) (label : Option (List ℕ)) (word : List ℕ) (args : List (List ℕ))
    → Agrees (FirstSays s label word args) (first_cause_of s label word args) (first_said s label word args)
first_agrees s None word args =
    made_agrees (StatementSays (form_at s word) args) (statement_cause [] [] (form_at s word) args) (statement_said (form_at s word) args)
    (λ x. x ∷ []) (statement_agrees (form_at s word) args)
first_agrees s (Some label) word args = labelled_agrees s label args

pub words_agree : (s : Section) (words : List (List ℕ)) → Agrees (WordsSay s words) (words_cause s words) (words_said s words)
unfolding WordsSay words_cause words_said
words_agree s [] = record {
  found = λ y q. sym (ok-ok (Ok []) [] y refl q);
  only = λ y says. ap Ok (sym says);
  refused = refl;
}
words_agree s (word ∷ args) = first_agrees s (label_of word) word args
