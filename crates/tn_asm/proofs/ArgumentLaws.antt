-- The tokens behind a first word are read as a statement exactly where they say it, and refused for
-- their number, else for the first that is not of its class.
use Rattle.std.proofs.Common.{◌≡◌, ℕ, suc, Bool, false, cond, List, [], ◌∷◌, length, Option, Some, None, Result}
use Rattle.std.proofs.Common.{Ok, Err, refl, sym, ap, ◌∙◌, arith}
use Rattle.std.specs.Bool.{◌==◌}
use Rattle.std.proofs.lemmas.Bool.Decides.{nat_tests}
use Rattle.tn_text.specs.declared.faults.Cause.{Cause}
use Rattle.tn_text.specs.declared.faults.FaultCode.TheVariants.{BadLine}
use Rattle.tn_text.specs.declared.limits.TheConstants.{NAME_LIMIT}
use Rattle.tn_text.specs.Faults.{bare}
use Rattle.tn_text.specs.Places.{name_at, number_at}
use Rattle.tn_text.specs.Reading.{result_then}
use Rattle.tn_module.specs.declared.modules.Item.TheVariants as item
use Rattle.tn_module.specs.declared.modules.Cell.TheVariants as cell
use Rattle.std.specs.Option.{option_or}
use Rattle.tn_text.proofs.Results.{ok-ok}
use Rattle.tn_modtext.proofs.Results.{then-ok, then-of}
use Rattle.tn_modtext.specs.LinesAt.{no_token, one_token, two_tokens}
use Rattle.tn_modtext.specs.Tokens.{kind_at}
use Rattle.tn_asm.specs.declared.statements.Statement.TheVariants as statement
use Rattle.tn_asm.specs.declared.forms.Form.{Form}
use Rattle.tn_asm.specs.declared.forms.Form.TheVariants as form
use Rattle.tn_asm.specs.declared.forms.ItemForm.TheVariants as item_form
use Rattle.tn_asm.specs.declared.forms.CellForm.TheVariants as cell_form
use Rattle.tn_asm.specs.Said.{limited_at, operand_at, imported, as_item, as_cell, made, arguments_said}
use Rattle.tn_asm.specs.Sources.{None_of, One_of, Two_of, ArgumentsSay}
use Rattle.tn_asm.specs.SourceFaults.{refusal, Class, classes, first_refusal}

-- what is read is what is said, and what is refused has this cause
pub record Agrees {B : Type 0} (Says : B → Type 0) (cause : Option Cause) (r : Result B Cause) : Type 0 where
  pub found : (x : B) → r ≡ Ok x → Says x
  pub only : (x : B) → Says x → r ≡ Ok x
  pub refused : refusal r ≡ cause

-- what is wrong with tokens behind a first word
abbrev pub arguments_cause : List Class → List (List ℕ) → Option Cause
arguments_cause cs args = cond (length args == length cs) (first_refusal cs args) (Some (bare BadLine))

unless : {A : Type 0} (b : Bool) (x y : A) → b ≡ false → y ≡ cond b x y
unless b x y e = rw e refl

not_none : (n : ℕ) → (suc n == 0) ≡ false
not_none n = grind (arith, nat_tests)

not_one : (n : ℕ) → (suc (suc n) == 1) ≡ false
not_one n = grind (arith, nat_tests)

not_two : (n : ℕ) → (suc (suc (suc n)) == 2) ≡ false
not_two n = grind (arith, nat_tests)

none_agrees : {B : Type 0} (y : B) (args : List (List ℕ)) → Agrees (None_of args y) (arguments_cause [] args) (no_token args y)
none_agrees y [] = record {
  found = λ x e. let same : y ≡ x = cc in (refl, sym same);
  only = λ x says. ap Ok (sym says.1);
  refused = refl;
}
none_agrees y (t ∷ ts) = record {
  found = λ x e. absurd cc;
  only = λ x says. absurd (let no = says.0 in cc);
  refused = unless (suc (length ts) == 0) None (Some (bare BadLine)) (not_none (length ts));
}

module _ {A B : Type 0} (read : List ℕ → Result A Cause) (make : A → B) where
  one_refused : (r : Result A Cause) → refusal (result_then r (λ a. Ok (make a))) ≡ option_or (refusal r) None
  one_refused (Ok a) = refl
  one_refused (Err cause) = refl

  one_agrees : (args : List (List ℕ))
      → Agrees (One_of read make args) (arguments_cause ((λ t. refusal (read t)) ∷ []) args) (one_token args (made read make))
  one_agrees [] = record {
    found = λ x e. absurd cc;
    only = λ x says. absurd (let no = says.2 in cc);
    refused = refl;
  }
  one_agrees (t ∷ []) = record { found = from; only = to; refused = one_refused (read t) }
    where
      from : (x : B) → made read make t ≡ Ok x → One_of read make (t ∷ []) x
      from x q =
          let k = then-ok (read t) (λ a. Ok (make a)) x q in
          (t, k.0, refl, k.1, sym (ok-ok (Ok (make k.0)) (make k.0) x refl k.2))

      to : (x : B) → One_of read make (t ∷ []) x → made read make t ≡ Ok x
      to x says =
          let token : t ≡ says.0 = let k = says.2 in cc in
          then-of (read t) (λ a. Ok (make a)) says.1 x (ap read token ∙ says.3) (ap Ok (sym says.4))
  one_agrees (t ∷ u ∷ ts) = record {
    found = λ x e. absurd cc;
    only = λ x says. absurd (let no = says.2 in cc);
    refused = unless (suc (suc (length ts)) == 1) (first_refusal ((λ t. refusal (read t)) ∷ []) (t ∷ u ∷ ts)) (Some (bare BadLine))
        (not_one (length ts));
  }

module _ {A B C : Type 0} (read_one : List ℕ → Result A Cause) (read_two : List ℕ → Result B Cause) (make : A → B → C) where
  abbrev two_made : List ℕ → List ℕ → Result C Cause
  two_made t u = result_then (read_one t) (λ a. made read_two (make a) u)

  abbrev two_classes : List Class
  two_classes = (λ t. refusal (read_one t)) ∷ (λ t. refusal (read_two t)) ∷ []

  two_refused : (r : Result A Cause) (q : Result B Cause)
      → refusal (result_then r (λ a. result_then q (λ b. Ok (make a b)))) ≡ option_or (refusal r) (option_or (refusal q) None)
  two_refused (Ok a) (Ok b) = refl
  two_refused (Ok a) (Err cause) = refl
  two_refused (Err cause) q = refl

  two_agrees : (args : List (List ℕ))
      → Agrees (Two_of read_one read_two make args) (arguments_cause two_classes args) (two_tokens args two_made)
  two_agrees [] = record {
    found = λ x e. absurd cc;
    only = λ x says. absurd (let no = says.4 in cc);
    refused = refl;
  }
  two_agrees (t ∷ []) = record {
    found = λ x e. absurd cc;
    only = λ x says. absurd (let no = says.4 in cc);
    refused = refl;
  }
  two_agrees (t ∷ u ∷ []) = record { found = from; only = to; refused = two_refused (read_one t) (read_two u) }
    where
      from : (x : C) → two_made t u ≡ Ok x → Two_of read_one read_two make (t ∷ u ∷ []) x
      from x q =
          let k = then-ok (read_one t) (λ a. made read_two (make a) u) x q in
          let m = then-ok (read_two u) (λ b. Ok (make k.0 b)) x k.2 in
          (t, u, k.0, m.0, refl, k.1, m.1, sym (ok-ok (Ok (make k.0 m.0)) (make k.0 m.0) x refl m.2))

      to : (x : C) → Two_of read_one read_two make (t ∷ u ∷ []) x → two_made t u ≡ Ok x
      to x says =
          let first : t ≡ says.0 = let k = says.4 in cc in
          let second : u ≡ says.1 = let k = says.4 in cc in
          then-of (read_one t) (λ a. made read_two (make a) u) says.2 x (ap read_one first ∙ says.5)
          (then-of (read_two u) (λ b. Ok (make says.2 b)) says.3 x (ap read_two second ∙ says.6) (ap Ok (sym says.7)))
  two_agrees (t ∷ u ∷ v ∷ ts) = record {
    found = λ x e. absurd cc;
    only = λ x says. absurd (let no = says.4 in cc);
    refused = unless (suc (suc (suc (length ts))) == 2) (first_refusal two_classes (t ∷ u ∷ v ∷ ts)) (Some (bare BadLine))
        (not_two (length ts));
  }

pub arguments_agree : (f : Form) (args : List (List ℕ))
    → Agrees (ArgumentsSay f args) (arguments_cause (classes f) args) (arguments_said f args)
unfolding ArgumentsSay
arguments_agree form.Module args = one_agrees (name_at NAME_LIMIT) statement.Module args
arguments_agree form.Import args = two_agrees kind_at (name_at NAME_LIMIT) imported args
arguments_agree form.Export args = one_agrees (name_at NAME_LIMIT) statement.Export args
arguments_agree form.Code args = none_agrees statement.Code args
arguments_agree form.Data args = none_agrees statement.Data args
arguments_agree (form.Item (item_form.Function f)) args = one_agrees operand_at (as_item (item.Direct f)) args
arguments_agree (form.Item (item_form.Operation op)) args = none_agrees (statement.Item (item.Plain op)) args
arguments_agree (form.Item item_form.Byte) args = one_agrees (limited_at 255) (as_item item.Byte) args
arguments_agree (form.Cell cell_form.Word) args = one_agrees number_at (as_cell cell.Word) args
arguments_agree (form.Cell cell_form.Address) args = one_agrees (name_at NAME_LIMIT) (as_cell cell.Address) args
arguments_agree (form.Cell cell_form.Byte) args = one_agrees (limited_at 255) (as_cell cell.Byte) args
arguments_agree (form.Cell cell_form.Space) args = one_agrees (limited_at 1048576) (as_cell cell.Space) args
arguments_agree (form.Cell cell_form.Align) args = none_agrees (statement.Cell cell.Align) args
