-- Names of files.
use Rattle.std.specs.Prelude.{ℕ, Bool, ◌&&◌, nat_le, List, length}
use Rattle.tn_text.specs.declared.limits.TheConstants.{FILE_NAME_LIMIT}

-- a file's name: 1 to 255 bytes
abbrev pub is_file_name : List ℕ → Bool
is_file_name text = nat_le 1 (length text) && nat_le (length text) FILE_NAME_LIMIT
