-- No bytes that load an operand are fewer than its coding.
use Rattle.std.proofs.Common.{ℤ, pos, negsuc, add-one, ◌≡◌, ℕ, ◌+◌, ◌*◌, ◌/◌, ◌%◌, ◌^◌, ◌<◌, ◌≤◌, ⊎_elim, true, List, [], ◌∷◌, length}
use Rattle.std.proofs.Common.{Option, Some, None, refl, sym, ap, ◌∙◌, arith}
use Rattle.std.specs.Option.{option_map}
use Rattle.std.specs.Int.{w32}
use Rattle.std.specs.Int.RustNames.{FitsSigned}
use Rattle.std.proofs.Math.Nat.{pow-suc}
use Rattle.std.proofs.lemmas.List.{append-nil}
use Rattle.std.proofs.lemmas.Bool.{cases_Bool, lt-ltb}
use Rattle.tn_isa.specs.declared.functions.Fun.{Fun}
use Rattle.tn_isa.specs.declared.functions.Fun.TheVariants.{Pfix, Nfix}
use Rattle.tn_isa.specs.OperandRegister.{is_prefix, function_of, loaded, shifted, operand_after}
use Rattle.tn_prefix.specs.Coding.{coding_length}
use Rattle.tn_prefix.specs.Operand.{behind_one, loads_from, loads, LoadsAll, word_of}
use Rattle.tn_prefix.proofs.Cases.{by_lt, same_some, same_found}
use Rattle.tn_prefix.proofs.Loads.{loads_from-prefix, loads_from-last, loads-LoadsAll}
use Rattle.tn_prefix.proofs.Lengths.{coding_length-small, coding_length-least}

-- what the register can hold after prefix bytes, of which there were k where p is 16 ^ k: a word
-- with low bits clear, whose signed value lies from -16 * p up to, but not including, 16 * p
pub record Reaches (p register : ℕ) : Type 0 where
  pub is_word : register < 2 ^ 32
  pub is_clear : register % 16 ≡ 0
  pub near : 16 * p ≤ register → 2 ^ 32 ≤ register + 16 * p

-- one more prefix byte reaches sixteen times as far
Reaches-shifted : (f : Fun) (p register low : ℕ) → is_prefix f ≡ true → low < 16 → 0 < p → Reaches p register
    → Reaches (16 * p) (shifted f ((register / 16) * 16 + low))
Reaches-shifted Pfix p register low h small some r = record { is_word = omega arith; is_clear = omega arith; near = λ far. omega arith }
Reaches-shifted Nfix p register low h small some r = record {
  is_word = omega arith;
  is_clear = omega arith;
  near = λ far. by_lt register (16 * p) (λ close. omega arith) (λ away. let n = r.near away in omega arith);
}
Reaches-shifted f p register low h small some r = absurd (cc)

-- what was found behind one byte was found with one byte less
behind : (o : Option (Fun × ℕ × ℕ)) (f : Fun) (x n : ℕ) → option_map behind_one o ≡ Some (f, x, n)
    → (m : ℕ) × (o ≡ Some (f, x, m)) × (n ≡ m + 1)
behind None f x n h = absurd (cc)
behind (Some (g, y, m)) f x n h =
    let same = same_some (g, y, m + 1) (f, x, n) h in
    (m, same_found g f y x m m (ap (λ t. t.0) same) (ap (λ t. t.1) same) refl, sym (ap (λ t. t.2) same))

-- bytes that load an operand are one or more
some-loads_from : (register : ℕ) (bytes : List ℕ) (f : Fun) (x n : ℕ) → loads_from register bytes ≡ Some (f, x, n) → 0 < n
unfolding loads_from
some-loads_from register [] f x n h = absurd (cc)
some-loads_from register (byte ∷ rest) f x n h =
    ⊎_elim
    (λ p. let b = behind (loads_from (operand_after register byte) rest) f x n (sym (loads_from-prefix register byte rest p) ∙ h) in
    omega (arith, b.2))
    (λ q. let same = same_some (function_of byte, loaded register byte, 1) (f, x, n) (sym (loads_from-last register byte rest q) ∙ h) in
    omega (arith, ap (λ t. t.2) same))
    (cases_Bool (is_prefix (function_of byte)))

-- bytes that read n more load an operand that lies from -p * 16 ^ n up to p * 16 ^ n
near-loads_from : (p register : ℕ) (bytes : List ℕ) (f : Fun) (x n : ℕ) → 0 < p → Reaches p register
    → loads_from register bytes ≡ Some (f, x, n) → p * 16 ^ n ≤ x → 2 ^ 32 ≤ x + p * 16 ^ n
unfolding loads_from
near-loads_from p register [] f x n some r h far = absurd (cc)
near-loads_from p register (byte ∷ rest) f x n some r h far =
    ⊎_elim
    (λ is. let b = behind (loads_from (operand_after register byte) rest) f x n (sym (loads_from-prefix register byte rest is) ∙ h) in
    let reached : p * 16 ^ n ≡ 16 * p * 16 ^ b.0 = ap (λ t. p * t) (ap (λ t. 16 ^ t) (b.2 ∙ add-one b.0) ∙ pow-suc 16 b.0) ∙ omega arith in
    let after = Reaches-shifted (function_of byte) p register (byte % 16) is (omega arith) some r in
    let more = near-loads_from (16 * p) (operand_after register byte) rest f x b.0 (omega arith) after b.1 (omega arith) in
    omega arith)
    (λ q. let same = same_some (function_of byte, loaded register byte, 1) (f, x, n) (sym (loads_from-last register byte rest q) ∙ h) in
    let seen : loaded register byte ≡ x = ap (λ t. t.1) same in
    let one : p * 16 ^ n ≡ 16 * p = ap (λ t. p * 16 ^ t) (sym (ap (λ t. t.2) same)) ∙ omega arith in
    by_lt register (16 * p) (λ close. omega arith) (λ away. let near = r.near away in omega arith))
    (cases_Bool (is_prefix (function_of byte)))

-- bytes that load an operand reach no further than their number allows
pub near-loads : (bytes : List ℕ) (f : Fun) (x n : ℕ) → loads bytes ≡ Some (f, x, n) → 16 ^ n ≤ x → 2 ^ 32 ≤ x + 16 ^ n
near-loads bytes f x n h far =
    let clear : Reaches 1 0 = record { is_word = omega arith; is_clear = omega arith; near = λ away. omega arith } in
    let near = near-loads_from 1 0 bytes f x n (omega arith) clear h (omega arith) in
    omega arith

-- one byte loads four bits
pub nibble-loads : (bytes : List ℕ) (f : Fun) (x : ℕ) → loads bytes ≡ Some (f, x, 1) → x < 16
unfolding loads_from
nibble-loads [] f x h = absurd (cc)
nibble-loads (byte ∷ rest) f x h =
    ⊎_elim
    (λ is. let b = behind (loads_from (operand_after 0 byte) rest) f x 1 (sym (loads_from-prefix 0 byte rest is) ∙ h) in
    let some = some-loads_from (operand_after 0 byte) rest f x b.0 b.1 in
    absurd (omega (arith, b.2)))
    (λ q. let same = same_some (function_of byte, loaded 0 byte, 1) (f, x, 1) (sym (loads_from-last 0 byte rest q) ∙ h) in
    omega (arith, ap (λ t. t.1) same))
    (cases_Bool (is_prefix (function_of byte)))

-- no bytes that load an operand are fewer than its coding
pub shortest-loads : (e : ℤ) (bytes : List ℕ) (f : Fun) (n : ℕ) → FitsSigned w32 e → loads bytes ≡ Some (f, word_of e, n)
    → coding_length e ≤ n
shortest-loads (pos m) bytes f n h l =
    let fits : m < 2 ^ 31 = h.sfits in
    let some = some-loads_from 0 bytes f m n l in
    by_lt m 16
    (λ small. omega (arith, coding_length-small m small))
    (λ large. coding_length-least (pos m) n
    (by_lt n 2
    (λ one. absurd (omega (arith, nibble-loads bytes f m (l ∙ ap (λ t. Some (f, m, t)) (omega arith)))))
    (λ two. two))
    (lt-ltb m (16 ^ n) (by_lt m (16 ^ n) (λ near. near) (λ far. absurd (omega (arith, near-loads bytes f m n l far))))))
shortest-loads (negsuc m) bytes f n h l =
    let fits : m < 2 ^ 31 = h.sfits in
    let some = some-loads_from 0 bytes f (word_of (negsuc m)) n l in
    coding_length-least (negsuc m) n
    (by_lt n 2
    (λ one. absurd (omega (arith, nibble-loads bytes f (word_of (negsuc m)) (l ∙ ap (λ t. Some (f, word_of (negsuc m), t)) (omega arith)))))
    (λ two. two))
    (lt-ltb m (16 ^ n) (by_lt m (16 ^ n) (λ near. near) (λ far. absurd
    (by_lt (word_of (negsuc m)) (16 ^ n) (λ close. omega arith)
    (λ away. omega (arith, near-loads bytes f (word_of (negsuc m)) n l away))))))

-- the same where the bytes are all read
pub shortest-LoadsAll : (e : ℤ) (bytes : List ℕ) (f : Fun) → FitsSigned w32 e → LoadsAll bytes f (word_of e)
    → coding_length e ≤ length bytes
shortest-LoadsAll e bytes f h l = shortest-loads e bytes f (length bytes) h (ap loads (sym (append-nil bytes)) ∙ loads-LoadsAll l [])
