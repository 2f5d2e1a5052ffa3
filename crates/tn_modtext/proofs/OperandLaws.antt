-- The operands of a module text are what their tokens spell.
use Rattle.std.proofs.Common.{◌≡◌, ℕ, suc, ◌+◌, ◌^◌, ◌<◌, ◌≤◌, ℤ, pos, negsuc, Bool, true, false, ◌&&◌, cond, List, [], ◌∷◌, ◌++◌, length}
use Rattle.std.proofs.Common.{take, drop, get_or}
use Rattle.std.proofs.Common.{Option, Some, None, Result, Ok, Err, refl, sym, ap, ◌∙◌, subst, arith, lt-ltb, length-append}
use Rattle.std.specs.Bool.{◌==◌}
use Rattle.std.specs.Prelude.{nat_le}
use Rattle.std.specs.List.{list_all, position, position_or_len}
use Rattle.std.specs.Fmt.{decimal, signed_decimal}
use Rattle.std.specs.Str.Parse.{AllDigits}
use Rattle.std.proofs.Math.Seq.{split_at, take-append_seam, get_or-append_seam}
use Rattle.std.proofs.lemmas.Bool.Decides.{nat_tests}
use Rattle.std.proofs.lemmas.Fmt.{decimal_is_IsNumeral}
use Rattle.std.proofs.lemmas.List.{get_or_append_left}
use Rattle.std.proofs.lemmas.List.Quantifiers.{position-Some}
use Rattle.std.proofs.lemmas.List.Sums.{AllPass-from_list_all, position_or_len_is}
use Rattle.std.proofs.lemmas.Str.Parse.{digit_from_value}
use Rattle.tn_text.specs.declared.faults.Cause.{Cause}
use Rattle.tn_text.specs.declared.faults.FaultCode.TheVariants.{BadLine}
use Rattle.tn_text.specs.declared.limits.TheConstants.{NAME_LIMIT}
use Rattle.tn_text.specs.Faults.{bare}
use Rattle.tn_text.specs.Names.{begins_name, continues_name, is_name, is_name_spelling}
use Rattle.tn_text.specs.Numbers.{begins_number}
use Rattle.tn_text.specs.Places.{name_at}
use Rattle.tn_text.specs.Reading.{result_then}
use Rattle.tn_module.specs.declared.modules.Operand.{Operand}
use Rattle.tn_module.specs.declared.modules.Operand.TheVariants as operand
use Rattle.tn_module.specs.Ranges.{IsName, IsOperand}
use Rattle.tn_modtext.specs.Lines.{operand_text}
use Rattle.tn_modtext.specs.Numerals.{signed_at}
use Rattle.tn_modtext.specs.Operands.{is_minus, difference_at, cut_operand, named_operand_at, operand_at}
use Rattle.tn_modtext.proofs.Results.{then-ok}
use Rattle.tn_modtext.proofs.NumeralLaws.{signed-found, signed-only}
use Rattle.tn_modtext.proofs.TokenLaws.{name-found, name-only}

-- ---- what is read is spelled

record IsSpelledAs (o : Operand) (t : List ℕ) : Type 0 where
  text : operand_text o ≡ t
  range : IsOperand o

number-found : (t : List ℕ) (o : Operand) → result_then (signed_at t) (λ v. Ok (operand.Number v)) ≡ Ok o → IsSpelledAs o t
number-found t o e =
    let r = then-ok (signed_at t) (λ v. Ok (operand.Number v)) o e in
    let found = signed-found t r.0 r.1 in
    let same : operand.Number r.0 ≡ o = cc in
    subst (λ p. IsSpelledAs p t) same (record { text = found.0; range = found.1 })

to-found : (t : List ℕ) (o : Operand) → result_then (name_at NAME_LIMIT t) (λ name. Ok (operand.To name)) ≡ Ok o → IsSpelledAs o t
to-found t o e =
    let r = then-ok (name_at NAME_LIMIT t) (λ name. Ok (operand.To name)) o e in
    let found = name-found t r.0 r.1 in
    let same : operand.To r.0 ≡ o = cc in
    subst (λ p. IsSpelledAs p t) same (record { text = found.0; range = found.1 })

cell-found : (t : List ℕ) (o : Operand) → result_then (name_at NAME_LIMIT t) (λ name. Ok (operand.CellWord name)) ≡ Ok o
    → IsSpelledAs o (64 ∷ t)
cell-found t o e =
    let r = then-ok (name_at NAME_LIMIT t) (λ name. Ok (operand.CellWord name)) o e in
    let found = name-found t r.0 r.1 in
    let same : operand.CellWord r.0 ≡ o = cc in
    subst (λ p. IsSpelledAs p (64 ∷ t)) same (record { text = ap (λ n. 64 ∷ n) found.0; range = found.1 })

difference-found : (high low : List ℕ) (o : Operand) → difference_at high low ≡ Ok o → IsSpelledAs o (high ++ 45 ∷ low)
difference-found high low o e = at (is_name_spelling low) e
  where
    at : (b : Bool) → cond {A = Result Operand Cause} b (result_then (name_at NAME_LIMIT high)
        (λ h. result_then (name_at NAME_LIMIT low) (λ l. Ok (operand.Difference h l)))) (Err (bare BadLine)) ≡ Ok o
        → IsSpelledAs o (high ++ 45 ∷ low)
    at true q =
        let r = then-ok (name_at NAME_LIMIT high) (λ h. result_then (name_at NAME_LIMIT low) (λ l. Ok (operand.Difference h l))) o q in
        let s = then-ok (name_at NAME_LIMIT low) (λ l. Ok (operand.Difference r.0 l)) o r.2 in
        let first = name-found high r.0 r.1 in
        let second = name-found low s.0 s.1 in
        let same : operand.Difference r.0 s.0 ≡ o = cc in
        subst (λ p. IsSpelledAs p (high ++ 45 ∷ low)) same
        (record { text = ap (λ h. h ++ 45 ∷ s.0) first.0 ∙ ap (λ l. high ++ 45 ∷ l) second.0; range = (first.1, second.1) })
    at false q = absurd cc

-- a token is cut at its first minus sign
cut_at : (t : List ℕ) (at : ℕ) → position is_minus t ≡ Some at → t ≡ take at t ++ 45 ∷ drop (at + 1) t
cut_at t at e =
    let found = position-Some is_minus t at 0 e in
    let minus : get_or t at 0 ≡ 45 = grind (arith, nat_tests) in
    let next : suc at ≡ at + 1 = omega arith in
    split_at t at 0 found.0 ∙ (ap (λ c. take at t ++ c ∷ drop (suc at) t) minus ∙ ap (λ k. take at t ++ 45 ∷ drop k t) next)

cut-found : (t : List ℕ) (o : Operand) (place : Option ℕ) → position is_minus t ≡ place → cut_operand t place ≡ Ok o → IsSpelledAs o t
cut-found t o None is e = to-found t o e
cut-found t o (Some at) is e =
    subst (IsSpelledAs o) (sym (cut_at t at is)) (difference-found (take at t) (drop (at + 1) t) o e)

named-found : (t : List ℕ) (o : Operand) → named_operand_at t ≡ Ok o → IsSpelledAs o t
unfolding named_operand_at
named-found [] o e = absurd cc
named-found (c ∷ cs) o e = at (c == 64) refl e
  where
    at : (b : Bool) → (c == 64) ≡ b
        → cond {A = Result Operand Cause} b (result_then (name_at NAME_LIMIT cs) (λ name. Ok (operand.CellWord name)))
        (cut_operand (c ∷ cs) (position is_minus (c ∷ cs))) ≡ Ok o
        → IsSpelledAs o (c ∷ cs)
    at true test q =
        let first : 64 ≡ c = grind (arith, nat_tests) in
        subst (λ d. IsSpelledAs o (d ∷ cs)) first (cell-found cs o q)
    at false test q = cut-found (c ∷ cs) o (position is_minus (c ∷ cs)) refl q

pub operand-found : (t : List ℕ) (o : Operand) → operand_at t ≡ Ok o → (operand_text o ≡ t) × IsOperand o
unfolding operand_at
operand-found t o e = at (begins_number t) e
  where
    parts : IsSpelledAs o t → (operand_text o ≡ t) × IsOperand o
    parts s = (s.text, s.range)

    at : (b : Bool) → cond {A = Result Operand Cause} b (result_then (signed_at t) (λ v. Ok (operand.Number v))) (named_operand_at t) ≡ Ok o
        → (operand_text o ≡ t) × IsOperand o
    at true q = parts (number-found t o q)
    at false q = parts (named-found t o q)

-- ---- what is spelled is read

both : (a b : Bool) → (a && b) ≡ true → (a ≡ true) × (b ≡ true)
both true b h = (refl, h)
both false b h = absurd cc

-- the first byte of a name, and all of them
record Begins (name : List ℕ) : Type 0 where
  number : begins_number name ≡ false
  cell : (get_or name 0 0 == 64) ≡ false
  some : 0 < length name
  minus : (k : ℕ) → k < length name → is_minus (get_or name k 0) ≡ false
  spelled : is_name_spelling name ≡ true

begins_other : (c : ℕ) → begins_name c ≡ true → (begins_number (c ∷ []) ≡ false) × ((c == 64) ≡ false)
begins_other c h = (grind (arith, nat_tests), grind (arith, nat_tests))

continues_begun : (c : ℕ) → begins_name c ≡ true → continues_name c ≡ true
continues_begun c h = grind (arith, nat_tests)

continues_other : (c : ℕ) → continues_name c ≡ true → is_minus c ≡ false
continues_other c h = grind (arith, nat_tests)

begun : (name : List ℕ) → is_name name ≡ true → Begins name
unfolding is_name_spelling
begun [] h = absurd cc
begun (c ∷ cs) h =
    let parts = both (is_name_spelling (c ∷ cs)) (nat_le (length (c ∷ cs)) NAME_LIMIT) h in
    let bytes = both (begins_name c) (list_all continues_name cs) parts.0 in
    let all : list_all continues_name (c ∷ cs) ≡ true = rw (continues_begun c bytes.0, bytes.1) refl in
    let each = AllPass-from_list_all continues_name (c ∷ cs) all in
    record {
      number = (begins_other c bytes.0).0;
      cell = (begins_other c bytes.0).1;
      some = omega arith;
      minus = λ k k_lt. continues_other (get_or (c ∷ cs) k 0) (each k 0 k_lt);
      spelled = parts.0;
    }

no_minus : (name : List ℕ) → Begins name → position is_minus name ≡ None
no_minus name b =
    let past : length name ≤ length name = omega arith in
    let at : position_or_len is_minus name ≡ length name =
    position_or_len_is is_minus name (length name) 0 past b.minus (λ h. absurd (omega (arith, h))) in
    rw at (grind (arith, nat_tests))

minus_behind : (high low : List ℕ) → Begins high → position is_minus (high ++ 45 ∷ low) ≡ Some (length high)
minus_behind high low b =
    let inside : length high < length (high ++ 45 ∷ low) = omega (arith, length-append high (45 ∷ low)) in
    let at : position_or_len is_minus (high ++ 45 ∷ low) ≡ length high =
    position_or_len_is is_minus (high ++ 45 ∷ low) (length high) 0 (omega arith)
    (λ k h. rw (get_or_append_left high (45 ∷ low) 0 k h) (b.minus k h))
    (λ h. rw (get_or-append_seam high 45 low 0) refl) in
    rw (at, lt-ltb (length high) (length (high ++ 45 ∷ low)) inside) refl

-- a token that does not begin as a number or as the word of a name
record BeginsNamed (t : List ℕ) : Type 0 where
  number : begins_number t ≡ false
  cell : (get_or t 0 0 == 64) ≡ false
  some : 0 < length t

named-cut : (t : List ℕ) (o : Operand) → BeginsNamed t → cut_operand t (position is_minus t) ≡ Ok o → operand_at t ≡ Ok o
unfolding operand_at named_operand_at
named-cut [] o b e = absurd (omega (arith, b.some))
named-cut (c ∷ cs) o b e = rw (b.number, b.cell) e

behind : (name more : List ℕ) → Begins name → BeginsNamed (name ++ more)
behind [] more b = absurd (omega (arith, b.some))
behind (c ∷ cs) more b = record { number = b.number; cell = b.cell; some = omega arith }

alone : (name : List ℕ) → Begins name → BeginsNamed name
alone [] b = absurd (omega (arith, b.some))
alone (c ∷ cs) b = record { number = b.number; cell = b.cell; some = omega arith }

to-only : (name : List ℕ) → IsName name → operand_at name ≡ Ok (operand.To name)
to-only name h =
    let b = begun name h in
    named-cut name (operand.To name) (alone name b) (rw (no_minus name b, name-only name h) refl)

difference-only : (high low : List ℕ) → IsName high → IsName low → operand_at (high ++ 45 ∷ low) ≡ Ok (operand.Difference high low)
difference-only high low h l =
    let b = begun high h in
    let next : drop (length high + 1) (high ++ 45 ∷ low) ≡ low = drop-behind high low in
    named-cut (high ++ 45 ∷ low) (operand.Difference high low) (behind high (45 ∷ low) b)
    (rw (minus_behind high low b, take-append_seam high (45 ∷ low), next, (begun low l).spelled, name-only high h, name-only low l) refl)
  where
    drop-behind : (xs ys : List ℕ) → drop (length xs + 1) (xs ++ 45 ∷ ys) ≡ ys
    drop-behind [] ys = refl
    drop-behind (x ∷ xs) ys =
        let more : length (x ∷ xs) + 1 ≡ suc (length xs + 1) = omega arith in rw more (drop-behind xs ys)

cell-only : (name : List ℕ) → IsName name → operand_at (64 ∷ name) ≡ Ok (operand.CellWord name)
unfolding operand_at named_operand_at
cell-only name h = rw (name-only name h) refl

-- a spelled number begins as one
digit_begins : (ds : List ℕ) → 0 < length ds → AllDigits 10 ds → begins_number ds ≡ true
digit_begins [] some h = absurd (omega arith)
digit_begins (c ∷ cs) some h = let digit = digit_from_value c h.0 in grind (arith, nat_tests, digit)

number_begins : (v : ℤ) → IsOperand (operand.Number v) → begins_number (signed_decimal v) ≡ true
number_begins (pos n) fits =
    let below : n < 2 ^ 31 = fits.sfits in
    let numeral = decimal_is_IsNumeral n (omega arith) in
    digit_begins (decimal n) numeral.0.0 numeral.0.1
number_begins (negsuc n) fits = refl

pub operand-only : (o : Operand) → IsOperand o → operand_at (operand_text o) ≡ Ok o
unfolding operand_at
operand-only (operand.Number v) h = rw (number_begins v h, signed-only v h) refl
operand-only (operand.To name) h = to-only name h
operand-only (operand.Difference high low) h = difference-only high low h.0 h.1
operand-only (operand.CellWord name) h = cell-only name h
