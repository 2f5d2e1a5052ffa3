use Rattle.std.proofs.Common.{◌≡◌, ◌++◌, take}
use Rattle.tn_list.specs.ListingTexts.{hex_text}
use Rattle.tn_list.proofs.listing_lines.add_digits.Given as goal

-- the digits of the bytes so far
abbrev pub invariant-loop-byte : goal.invariant-loop-byte
invariant-loop-byte l = l.line.items ≡ l.initial.line.items ++ hex_text (take l.byte-index l.bytes)
