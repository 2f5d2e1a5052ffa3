use Rattle.std.proofs.Common.{◌+◌, ◌≤◌, length}
use Rattle.tn_modtext.specs.Inner.Drafts.{drawn, whole, draft_step, parts_read}
use Rattle.tn_modtext.proofs.PieceLoops.{ReadsOn}
use Rattle.tn_modtext.proofs.drafts.read_parts.Given as goal

-- reading what is left gives what reading the text gives, and each line took a byte at least
abbrev pub invariant-loop-line : goal.invariant-loop-line
invariant-loop-line l =
    ReadsOn draft_step whole (drawn l.draft) l.number l.rest (parts_read l.text) × (l.number + length l.rest ≤ length l.text)

abbrev pub decreases-loop-line : goal.decreases-loop-line
decreases-loop-line l = length l.rest
