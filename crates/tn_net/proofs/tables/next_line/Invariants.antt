use Rattle.std.specs.Prelude.{MatchOption}
use Rattle.tn_net.specs.Inner.Tables.{AllBefore, IsNext}
use Rattle.tn_net.proofs.tables.next_line.Given as goal

-- the line that would be next, if there were no more lines
abbrev pub invariant-loop-j : goal.invariant-loop-j
invariant-loop-j l = MatchOption l.best (AllBefore l.lines l.from l.j) (λ k. IsNext l.lines l.from l.j k)
