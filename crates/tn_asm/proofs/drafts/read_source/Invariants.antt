use Rattle.std.proofs.Common.{◌+◌, ◌≤◌, length}
use Rattle.tn_text.proofs.ReadingLoops.{ReadsOn}
use Rattle.tn_asm.specs.Assembling.{source_line, finish, source_read}
use Rattle.tn_asm.specs.Inner.Drafts.{drawn}
use Rattle.tn_asm.proofs.drafts.read_source.Given as goal

-- reading what is left gives what reading the text gives, and each line took a byte at least
abbrev pub invariant-loop-line : goal.invariant-loop-line
invariant-loop-line l =
    ReadsOn source_line finish (drawn l.draft) l.draft.line l.rest (source_read l.text) × (l.draft.line + length l.rest ≤ length l.text)

abbrev pub decreases-loop-line : goal.decreases-loop-line
decreases-loop-line l = length l.rest
