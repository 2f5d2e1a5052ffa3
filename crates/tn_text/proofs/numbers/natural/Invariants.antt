use Rattle.std.proofs.Common.{◌≡◌, true, take}
use Rattle.std.specs.Char.{is_digit}
use Rattle.std.specs.List.{list_all}
use Rattle.std.specs.Str.Parse.{digits_value}
use Rattle.tn_text.proofs.numbers.natural.Given as goal

-- what was seen are digits of this value
abbrev pub invariant-loop-digit : goal.invariant-loop-digit
invariant-loop-digit l =
    (list_all (λ c. is_digit c l.radix) (take l.digit-index l.digits) ≡ true)
    × (l.value ≡ digits_value l.radix (take l.digit-index l.digits))
