-- The result of each operation that puts one in place of A and B.
use Rattle.std.specs.Prelude.{ℕ, ◌+◌, ◌-◌, ◌*◌, ◌^◌, ◌+ℤ◌, ◌-ℤ◌, ◌*ℤ◌, int_lt, bit_and, bit_or, bit_xor}
use Rattle.tn_alu.specs.declared.answers.Answer.{Answer}
use Rattle.tn_alu.specs.SignedWords.{signed}
use Rattle.tn_alu.specs.Checked.{checked}
use Rattle.tn_alu.specs.Divisions.{quotient, remainder}
use Rattle.tn_alu.specs.Longs.{low_word, high_word, long_product, long_sum, low_difference, borrow_of}
use Rattle.tn_alu.specs.Shifts.{shifted_left, shifted_right}
use Rattle.tn_cpu.specs.declared.arithmetic.Pair.{Pair}
use Rattle.tn_cpu.specs.declared.arithmetic.Pair.TheVariants.{Bsub, Diff, Add, Prod, Gt, Wsub, Sub, Rem, Div}
use Rattle.tn_cpu.specs.declared.arithmetic.Pair.TheVariants.{Xor, Shr, Shl, And, Or, Sum, Mul}
use Rattle.tn_cpu.specs.declared.arithmetic.Long.{Long}
use Rattle.tn_cpu.specs.declared.arithmetic.Long.TheVariants.{Lmul, Lsum, Ldiff}
use Rattle.tn_cpu.specs.Effects.{unchecked, truth}

-- of an operation on A and B
abbrev pub answer_of : Pair → ℕ → ℕ → Answer
answer_of Bsub a b = unchecked (a + b)
answer_of Diff a b = unchecked (b + (2 ^ 32 - a))
answer_of Add a b = checked (signed b +ℤ signed a)
answer_of Prod a b = unchecked (b * a)
answer_of Gt a b = unchecked (truth (int_lt (signed a) (signed b)))
answer_of Wsub a b = unchecked (a + 4 * b)
answer_of Sub a b = checked (signed b -ℤ signed a)
answer_of Rem a b = remainder b a
answer_of Div a b = quotient b a
answer_of Xor a b = unchecked (bit_xor b a)
answer_of Shr a b = shifted_right b a
answer_of Shl a b = shifted_left b a
answer_of And a b = unchecked (bit_and b a)
answer_of Or a b = unchecked (bit_or b a)
answer_of Sum a b = unchecked (b + a)
answer_of Mul a b = checked (signed b *ℤ signed a)

-- the words that an operation on all three registers leaves in A and in B
abbrev pub low_of : Long → ℕ → ℕ → ℕ → ℕ
low_of Lmul a b c = low_word (long_product a b c)
low_of Lsum a b c = low_word (long_sum a b c)
low_of Ldiff a b c = low_difference a b c

abbrev pub high_of : Long → ℕ → ℕ → ℕ → ℕ
high_of Lmul a b c = high_word (long_product a b c)
high_of Lsum a b c = high_word (long_sum a b c)
high_of Ldiff a b c = borrow_of a b c
