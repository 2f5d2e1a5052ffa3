use Rattle.std.proofs.Common.{ℕ, ◌<◌, take, All}
use Rattle.tn_tool_cases.proofs.links.are_within.Given as goal

-- the places so far are among them
abbrev pub invariant-loop-place : goal.invariant-loop-place
invariant-loop-place l = All (λ (place : ℕ). place < l.count) (take l.place-index l.places)
