use Rattle.std.proofs.Common.{◌+◌, ◌≤◌, length}
use Rattle.tn_modtext.specs.Inner.LibraryDrafts.{drawn_library, whole_library, library_step, library_read}
use Rattle.tn_modtext.proofs.PieceLoops.{ReadsOn}
use Rattle.tn_modtext.proofs.library_drafts.read_library_parts.Given as goal

-- reading what is left gives what reading the text gives, and each line took a byte at least
abbrev pub invariant-loop-line : goal.invariant-loop-line
invariant-loop-line l =
    ReadsOn library_step whole_library (drawn_library l.draft) l.number l.rest (library_read l.text)
    × (l.number + length l.rest ≤ length l.text)

abbrev pub decreases-loop-line : goal.decreases-loop-line
decreases-loop-line l = length l.rest
