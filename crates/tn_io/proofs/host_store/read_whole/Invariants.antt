use Rattle.std.proofs.Common.{◌≤◌, vec_len}
use Rattle.tn_io.proofs.host_store.read_whole.Given as goal

-- no more bytes than the limit were read
abbrev pub invariant-loop : goal.invariant-loop
invariant-loop g l = vec_len l.into ≤ l.limit
