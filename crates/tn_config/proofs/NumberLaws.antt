-- Numbers are read back from their digits.
use Rattle.std.proofs.Common.{◌≡◌, ℕ, ◌+◌, ◌-◌, ◌*◌, ◌/◌, ◌%◌, ◌<◌, ◌≤◌, ◌^◌, Bool, true, false, ◌&&◌, List, [], ◌∷◌, ◌++◌, length, map}
use Rattle.std.proofs.Common.{Option, Some, None, Result, Ok, Err, refl, sym, ap, ◌∙◌, arith, subst, cond, lt-ltb, le-leb}
use Rattle.std.specs.Bool.{◌==◌}
use Rattle.std.specs.Prelude.{nat_lt, nat_le, option_and_then}
use Rattle.std.specs.List.{list_all}
use Rattle.std.specs.Char.{digit_value, is_digit}
use Rattle.std.specs.Fmt.{decimal, digit_glyph}
use Rattle.std.specs.Str.Parse.{AllDigits, digits_value}
use Rattle.std.proofs.lemmas.Bool.Decides.{nat_tests}
use Rattle.std.proofs.lemmas.Bool.{ltb-true, leb-true}
use Rattle.std.proofs.lemmas.Fmt.{decimal_is_IsNumeral}
use Rattle.std.proofs.lemmas.Int.Digits.{digits_value_push}
use Rattle.std.proofs.lemmas.List.{map-append}
use Rattle.std.proofs.lemmas.Str.Parse.{digit_from_value}
use Rattle.tn_text.specs.declared.faults.Cause.{Cause}
use Rattle.tn_text.specs.declared.faults.FaultCode.TheVariants.{BadNumber}
use Rattle.tn_text.specs.Faults.{bare}
use Rattle.tn_text.specs.Numbers.{natural_of, positive, negative, number_of}
use Rattle.tn_text.specs.Places.{number_at}
use Rattle.tn_text.specs.Reading.{result_then}
use Rattle.tn_text.specs.WordTexts.{digit_at, word_text}
use Rattle.tn_text.specs.Lines.{is_nonempty}
use Rattle.tn_text.proofs.Digits.{few_digits}
use Rattle.tn_text.proofs.Naturals.{natural-only}
use Rattle.tn_config.specs.Places.{is_size, is_address, is_count, is_link, number_in, size_at, address_at, count_at, link_at, argument_at}
use Rattle.tn_config.specs.Writable.{is_token_byte}
use Rattle.tn_config.proofs.TextLaws.{both, is_token}

-- ---- decimal digits

no_sign : (c : ℕ) → digit_value c < 10 → ((c == 35) ≡ false) × ((c == 45) ≡ false)
no_sign c h = let digit = digit_from_value c h in (grind (arith, nat_tests, digit), grind (arith, nat_tests, digit))

pub number_of-decimal : (n : ℕ) → n < 2 ^ 31 → number_of (decimal n) ≡ Some n
unfolding number_of
number_of-decimal n small = at (decimal n) refl
  where
    below : n < 2 ^ 64
    below = omega arith

    at : (ds : List ℕ) → decimal n ≡ ds → number_of ds ≡ Some n
    at [] e = let numeral = decimal_is_IsNumeral n below in absurd (omega (arith, numeral.0.0, ap length e))
    at (c ∷ cs) e =
        let numeral = decimal_is_IsNumeral n below in
        let digits : AllDigits 10 (c ∷ cs) = subst (AllDigits 10) e numeral.0.1 in
        let signs = no_sign c digits.0 in
        let natural : natural_of 10 10 (c ∷ cs) ≡ Some n = ap (natural_of 10 10) (sym e) ∙ natural-only n (omega arith) in
        rw (signs.0, signs.1, natural, lt-ltb n (2 ^ 31) small) refl

token_digit : (c : ℕ) → digit_value c < 10 → is_token_byte c ≡ true
token_digit c h = let digit = digit_from_value c h in grind (arith, nat_tests, digit)

token_digits : (ds : List ℕ) → AllDigits 10 ds → list_all is_token_byte ds ≡ true
token_digits [] h = refl
token_digits (c ∷ cs) h = rw (token_digit c h.0, token_digits cs h.1) refl

pub token : (word : List ℕ) → 0 < length word → list_all is_token_byte word ≡ true → is_token word ≡ true
token [] some h = absurd (omega arith)
token (c ∷ cs) some h =
    let more : is_nonempty (c ∷ cs) ≡ true = grind (arith, nat_tests) in ap (λ b. b && list_all is_token_byte (c ∷ cs)) more ∙ h

pub decimal-token : (n : ℕ) → n < 2 ^ 64 → is_token (decimal n) ≡ true
decimal-token n small =
    let numeral = decimal_is_IsNumeral n small in token (decimal n) numeral.0.0 (token_digits (decimal n) numeral.0.1)

-- ---- hexadecimal digits

glyph_value : (d : ℕ) → d < 16 → digit_value (digit_glyph true d) ≡ d
glyph_value d h = grind (arith, nat_tests)

glyph_token : (d : ℕ) → d < 16 → is_token_byte (digit_glyph true d) ≡ true
glyph_token d h = grind (arith, nat_tests)

glyph_of : (x : ℕ) → digit_value (digit_glyph true (x % 16)) ≡ x % 16
glyph_of x = glyph_value (x % 16) (omega arith)

digits_of : (word : ℕ) (places : List ℕ) → AllDigits 16 (map (digit_at word) places)
digits_of word [] = tt
digits_of word (k ∷ places) = (digit (word / 16 ^ k), digits_of word places)
  where
    digit : (x : ℕ) → digit_value (digit_glyph true (x % 16)) < 16
    digit x = omega (arith, glyph_of x)

tokens_of : (word : ℕ) (places : List ℕ) → list_all is_token_byte (map (digit_at word) places) ≡ true
tokens_of word [] = refl
tokens_of word (k ∷ places) = rw (token_glyph (word / 16 ^ k), tokens_of word places) refl
  where
    token_glyph : (x : ℕ) → is_token_byte (digit_glyph true (x % 16)) ≡ true
    token_glyph x = glyph_token (x % 16) (omega arith)

-- one digit more
value_more : (word high k : ℕ) (places : List ℕ) → high * 16 + word / 16 ^ k % 16 ≡ word / 16 ^ k
    → digits_value 16 (map (digit_at word) places) ≡ high → digits_value 16 (map (digit_at word) (places ++ k ∷ [])) ≡ word / 16 ^ k
value_more word high k places one e =
    ap (digits_value 16) (map-append (digit_at word) places (k ∷ []))
    ∙ (digits_value_push 16 (map (digit_at word) places) (digit_at word k)
    ∙ (ap (λ v. v * 16 + digit_value (digit_at word k)) e ∙ (ap (λ d. high * 16 + d) (glyph_of (word / 16 ^ k)) ∙ one)))

word_value : (word : ℕ) → word < 2 ^ 32 → digits_value 16 (map (digit_at word) (7 ∷ 6 ∷ 5 ∷ 4 ∷ 3 ∷ 2 ∷ 1 ∷ 0 ∷ [])) ≡ word
word_value word small =
    let e7 : digits_value 16 (map (digit_at word) (7 ∷ [])) ≡ word / 16 ^ 7 = value_more word 0 7 [] (omega arith) refl in
    let e6 = value_more word (word / 16 ^ 7) 6 (7 ∷ []) (omega arith) e7 in
    let e5 = value_more word (word / 16 ^ 6) 5 (7 ∷ 6 ∷ []) (omega arith) e6 in
    let e4 = value_more word (word / 16 ^ 5) 4 (7 ∷ 6 ∷ 5 ∷ []) (omega arith) e5 in
    let e3 = value_more word (word / 16 ^ 4) 3 (7 ∷ 6 ∷ 5 ∷ 4 ∷ []) (omega arith) e4 in
    let e2 = value_more word (word / 16 ^ 3) 2 (7 ∷ 6 ∷ 5 ∷ 4 ∷ 3 ∷ []) (omega arith) e3 in
    let e1 = value_more word (word / 16 ^ 2) 1 (7 ∷ 6 ∷ 5 ∷ 4 ∷ 3 ∷ 2 ∷ []) (omega arith) e2 in
    let e0 = value_more word (word / 16 ^ 1) 0 (7 ∷ 6 ∷ 5 ∷ 4 ∷ 3 ∷ 2 ∷ 1 ∷ []) (omega arith) e1 in
    let one : word / 16 ^ 0 ≡ word = omega arith in
    e0 ∙ one

digits_pass : (ds : List ℕ) → AllDigits 16 ds → list_all (λ c. is_digit c 16) ds ≡ true
digits_pass [] h = refl
digits_pass (c ∷ cs) h = rw (lt-ltb (digit_value c) 16 h.0, digits_pass cs h.1) refl

natural_hex : (ds : List ℕ) → length ds ≡ 8 → AllDigits 16 ds → natural_of 16 8 ds ≡ Some (digits_value 16 ds)
unfolding natural_of
natural_hex ds long h =
    let some : 1 ≤ length ds = omega arith in
    let few : length ds ≤ 8 = omega arith in
    rw (le-leb 1 (length ds) some, le-leb (length ds) 8 few, digits_pass ds h) refl

pub number_of-word : (word : ℕ) → word < 2 ^ 32 → number_of (word_text word) ≡ Some word
unfolding number_of word_text
number_of-word word small =
    natural_hex (map (digit_at word) (7 ∷ 6 ∷ 5 ∷ 4 ∷ 3 ∷ 2 ∷ 1 ∷ 0 ∷ [])) refl (digits_of word (7 ∷ 6 ∷ 5 ∷ 4 ∷ 3 ∷ 2 ∷ 1 ∷ 0 ∷ []))
    ∙ ap Some (word_value word small)

pub word-token : (word : ℕ) → is_token (word_text word) ≡ true
unfolding word_text
word-token word =
    token (35 ∷ map (digit_at word) (7 ∷ 6 ∷ 5 ∷ 4 ∷ 3 ∷ 2 ∷ 1 ∷ 0 ∷ [])) (omega arith)
    (tokens_of word (7 ∷ 6 ∷ 5 ∷ 4 ∷ 3 ∷ 2 ∷ 1 ∷ 0 ∷ []))

-- ---- ranges

-- a number is a word
natural_below : (ds : List ℕ) (n : ℕ) → natural_of 16 8 ds ≡ Some n → n < 2 ^ 32
unfolding natural_of
natural_below ds n e = at (nat_le 1 (length ds) && (nat_le (length ds) 8 && list_all (λ c. is_digit c 16) ds)) refl e
  where
    at : (b : Bool) → (nat_le 1 (length ds) && (nat_le (length ds) 8 && list_all (λ c. is_digit c 16) ds)) ≡ b
        → cond {A = Option ℕ} b (Some (digits_value 16 ds)) None ≡ Some n → n < 2 ^ 32
    at true t q =
        let first = both (nat_le 1 (length ds)) (nat_le (length ds) 8 && list_all (λ c. is_digit c 16) ds) t in
        let second = both (nat_le (length ds) 8) (list_all (λ c. is_digit c 16) ds) first.1 in
        let same : digits_value 16 ds ≡ n = cc in
        let few : length ds ≤ 8 = leb-true (length ds) 8 second.0 in
        let below : digits_value 16 ds < 16 ^ 8 = few_digits 16 ds 8 (omega arith) second.1 few in
        omega (arith, same, below)
    at false t q = absurd cc

positive_below : (o : Option ℕ) (n : ℕ) → option_and_then positive o ≡ Some n → n < 2 ^ 32
positive_below None n e = absurd cc
positive_below (Some m) n e = at (nat_lt m (2 ^ 31)) refl e
  where
    at : (b : Bool) → nat_lt m (2 ^ 31) ≡ b → cond {A = Option ℕ} b (Some m) None ≡ Some n → n < 2 ^ 32
    at true t q = let same : m ≡ n = cc in let below : m < 2 ^ 31 = ltb-true m (2 ^ 31) t in omega (arith, same, below)
    at false t q = absurd cc

negative_below : (o : Option ℕ) (n : ℕ) → option_and_then negative o ≡ Some n → n < 2 ^ 32
negative_below None n e = absurd cc
negative_below (Some m) n e = at (nat_le m (2 ^ 31)) e
  where
    at : (b : Bool) → cond {A = Option ℕ} b (Some ((2 ^ 32 - m) % 2 ^ 32)) None ≡ Some n → n < 2 ^ 32
    at true q = let same : (2 ^ 32 - m) % 2 ^ 32 ≡ n = cc in omega (arith, same)
    at false q = absurd cc

number_of-below : (token : List ℕ) (n : ℕ) → number_of token ≡ Some n → n < 2 ^ 32
unfolding number_of
number_of-below [] n e = absurd cc
number_of-below (c ∷ cs) n e = at (c == 35) (c == 45) e
  where
    at : (a b : Bool) → cond {A = Option ℕ} a (natural_of 16 8 cs)
        (cond b (option_and_then negative (natural_of 10 10 cs)) (option_and_then positive (natural_of 10 10 (c ∷ cs)))) ≡ Some n
        → n < 2 ^ 32
    at true b q = natural_below cs n q
    at false true q = negative_below (natural_of 10 10 cs) n q
    at false false q = positive_below (natural_of 10 10 (c ∷ cs)) n q

pub argument-below : (token : List ℕ) (n : ℕ) → argument_at token ≡ Ok n → n < 2 ^ 32
unfolding argument_at
argument-below token n e = at (number_of token) refl e
  where
    at : (o : Option ℕ) → number_of token ≡ o → number_at token ≡ Ok n → n < 2 ^ 32
    at None is q = let none : number_at token ≡ Err (bare BadNumber) = rw is refl in absurd cc
    at (Some m) is q =
        let some : number_at token ≡ Ok m = rw is refl in
        let same : Ok m ≡ (let r : Result ℕ Cause = Ok n in r) = sym some ∙ q in
        let equal : m ≡ n = cc in
        number_of-below token n (is ∙ ap Some equal)

-- a number that was read lies in the range of its place
in_range : (range : ℕ → Bool) (token : List ℕ) (n : ℕ) → number_in range token ≡ Ok n → range n ≡ true
in_range range token n e = at (number_at token) e
  where
    by : (m : ℕ) (b : Bool) → range m ≡ b → cond {A = Result ℕ Cause} b (Ok m) (Err (bare BadNumber)) ≡ Ok n → range n ≡ true
    by m true r q = let same : m ≡ n = cc in ap range (sym same) ∙ r
    by m false r q = absurd cc

    at : (r : Result ℕ Cause) → result_then r (λ m. cond {A = Result ℕ Cause} (range m) (Ok m) (Err (bare BadNumber))) ≡ Ok n
        → range n ≡ true
    at (Ok m) q = by m (range m) refl q
    at (Err cause) q = absurd cc

-- and a number in the range is read
is_read : (range : ℕ → Bool) (token : List ℕ) (n : ℕ) → number_of token ≡ Some n → range n ≡ true → number_in range token ≡ Ok n
is_read range token n e r = rw (e, r) refl

pub size-range : (token : List ℕ) (n : ℕ) → size_at token ≡ Ok n → is_size n ≡ true
unfolding size_at
size-range token n e = in_range is_size token n e

pub address-range : (token : List ℕ) (n : ℕ) → address_at token ≡ Ok n → is_address n ≡ true
unfolding address_at
address-range token n e = in_range is_address token n e

pub count-range : (token : List ℕ) (n : ℕ) → count_at token ≡ Ok n → is_count n ≡ true
unfolding count_at
count-range token n e = in_range is_count token n e

pub link-range : (token : List ℕ) (n : ℕ) → link_at token ≡ Ok n → is_link n ≡ true
unfolding link_at
link-range token n e = in_range is_link token n e

pub size_below : (n : ℕ) → is_size n ≡ true → n < 2 ^ 31
size_below n h = grind (arith, nat_tests)

pub address_below : (n : ℕ) → is_address n ≡ true → n < 2 ^ 32
address_below n h = grind (arith, nat_tests)

pub count_below : (n : ℕ) → is_count n ≡ true → n < 2 ^ 31
count_below n h = grind (arith, nat_tests)

pub link_below : (n : ℕ) → is_link n ≡ true → n < 2 ^ 31
link_below n h = grind (arith, nat_tests)

pub size-read : (n : ℕ) → is_size n ≡ true → size_at (decimal n) ≡ Ok n
unfolding size_at
size-read n h = is_read is_size (decimal n) n (number_of-decimal n (size_below n h)) h

pub address-read : (n : ℕ) → is_address n ≡ true → address_at (word_text n) ≡ Ok n
unfolding address_at
address-read n h = is_read is_address (word_text n) n (number_of-word n (address_below n h)) h

pub count-read : (n : ℕ) → is_count n ≡ true → count_at (decimal n) ≡ Ok n
unfolding count_at
count-read n h = is_read is_count (decimal n) n (number_of-decimal n (count_below n h)) h

pub link-read : (n : ℕ) → is_link n ≡ true → link_at (decimal n) ≡ Ok n
unfolding link_at
link-read n h = is_read is_link (decimal n) n (number_of-decimal n (link_below n h)) h

pub argument-read : (n : ℕ) → n < 2 ^ 32 → argument_at (word_text n) ≡ Ok n
unfolding argument_at
argument-read n h = rw (number_of-word n h) refl
