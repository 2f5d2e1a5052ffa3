-- What a token is in the place of a name, of a file's name or of a number.
use Rattle.std.specs.Prelude.{ℕ, List, Option, Some, None, Result, Ok, Err, if◌then◌else◌}
use Rattle.tn_text.specs.declared.faults.Cause.{Cause}
use Rattle.tn_text.specs.declared.faults.FaultCode.TheVariants.{BadLine, BadNumber, NameTooLong}
use Rattle.tn_text.specs.Faults.{bare}
use Rattle.tn_text.specs.Names.{is_name_spelling, is_name_up_to}
use Rattle.tn_text.specs.FileNames.{is_file_name}
use Rattle.tn_text.specs.Numbers.{number_of}

-- the name of at most so many bytes
unfoldable pub name_at : ℕ → List ℕ → Result (List ℕ) Cause
name_at limit token = if is_name_up_to limit token then Ok token else Err (bare (if is_name_spelling token then NameTooLong else BadLine))

abbrev pub or_bad_number : Option ℕ → Result ℕ Cause
or_bad_number None = Err (bare BadNumber)
or_bad_number (Some word) = Ok word

-- the word of the number
abbrev pub number_at : List ℕ → Result ℕ Cause
number_at token = or_bad_number (number_of token)

-- the file's name, of a token of one byte at least
unfoldable pub file_name_at : List ℕ → Result (List ℕ) Cause
file_name_at token = if is_file_name token then Ok token else Err (bare NameTooLong)
