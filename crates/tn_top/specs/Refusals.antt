-- Why commands are refused, and the status and the line of each refusal.
use Rattle.std.specs.Prelude.{ℕ, List, [], ◌++◌, Result, Ok, Err, codes}
use Rattle.std.specs.Fmt.{decimal}
use Rattle.tn_text.specs.declared.limits.Limit.{Limit}
use Rattle.tn_text.specs.Limits.{limit_word}
use Rattle.tn_text.specs.WordTexts.{spaced}
use Rattle.tn_text.specs.FaultLines.{place_text, fault_line}
use Rattle.tn_top.specs.declared.statuses.Status.{Status}
use Rattle.tn_top.specs.declared.statuses.Status.TheVariants as status
use Rattle.tn_top.specs.declared.refusals.Refusal.{Refusal}
use Rattle.tn_top.specs.declared.refusals.Refusal.TheVariants as refusal

-- the line where words spell no command
abbrev pub usage_line : List ℕ
usage_line = codes "usage: tn flat, one, asm, lib, build, list, tree, replay or grid\n"

-- the line where a limit is passed, by this count
unfoldable pub limit_line : Limit → ℕ → List ℕ
limit_line limit count = codes "limit " ++ limit_word limit ++ spaced (decimal count) ++ codes "\n"

-- the line where a file cannot be read, and where it cannot be written
unfoldable pub unread_line : List ℕ → List ℕ
unread_line file = codes "cannot read " ++ file ++ codes "\n"

unfoldable pub unwritten_line : List ℕ → List ℕ
unwritten_line file = codes "cannot write " ++ file ++ codes "\n"

-- the line where the output cannot be printed to
abbrev pub unprinted_line : List ℕ
unprinted_line = codes "cannot print\n"

-- the line where the step that a line of a file names, by its tokens, is not enabled
unfoldable pub not_enabled_line : List ℕ → ℕ → List ℕ → List ℕ
not_enabled_line file line tokens = place_text file line ++ codes "not enabled: " ++ tokens ++ codes "\n"

-- the line where memory ran out
abbrev pub memory_line : List ℕ
memory_line = codes "no memory\n"

-- the line of a refusal
unfoldable pub refused_line : Refusal → List ℕ
refused_line (refusal.Fault file first) = fault_line file first
refused_line (refusal.Limit limit count) = limit_line limit count
refused_line (refusal.Unread file) = unread_line file
refused_line (refusal.Unwritten file) = unwritten_line file
refused_line refusal.Unprinted = unprinted_line
refused_line (refusal.NotEnabled file line tokens) = not_enabled_line file line tokens.items
refused_line refusal.NoMemory = memory_line

-- the status of a command that was done or refused
abbrev pub end_status : {T : Type 0} → Result T Refusal → Status
end_status (Ok done) = status.Done
end_status (Err (refusal.Fault file first)) = status.Fault
end_status (Err (refusal.Limit limit count)) = status.Limit
end_status (Err (refusal.Unread file)) = status.ReadFault
end_status (Err (refusal.Unwritten file)) = status.WriteFault
end_status (Err refusal.Unprinted) = status.OutFault
end_status (Err (refusal.NotEnabled file line tokens)) = status.NotEnabled
end_status (Err refusal.NoMemory) = status.NoMemory

-- its line; what was done has none
abbrev pub end_line : {T : Type 0} → Result T Refusal → List ℕ
end_line (Ok done) = []
end_line (Err why) = refused_line why
