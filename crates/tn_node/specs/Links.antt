-- What a node does on a link: the byte that it offers, the bytes that it takes, and what follows.
use Rattle.std.specs.Prelude.{ℕ, ◌+◌, ◌-◌, ◌==◌, Bool, true, false, not, ◌&&◌, nat_lt, Option, Some, None, is_some, slice_index_or}
use Rattle.std.specs.Prelude.{slice_set, if◌then◌else◌}
use Rattle.std.specs.Result.{result_unwrap_or}
use Rattle.std.specs.Int.{w32, to_le_bytes}
use Rattle.tn_mem.specs.Spaces.{Access}
use Rattle.tn_cpu.specs.States.{State}
use Rattle.tn_cpu.specs.Queues.{woken}
use Rattle.tn_node.specs.declared.engines.Engine.{Engine}
use Rattle.tn_node.specs.declared.modes.Expects.{Expects}
use Rattle.tn_node.specs.declared.modes.Stage.{Stage}
use Rattle.tn_node.specs.declared.modes.Stage.TheVariants.{Reset, Poking, Peeking, Replying, Booting, Refused, Over}
use Rattle.tn_node.specs.Engines.{engine_of, moved}
use Rattle.tn_node.specs.Nodes.{NodeState, nothing_expected}
use Rattle.tn_node.specs.Bootstraps.{bootstrapped}

-- whether the node takes a byte of a link
abbrev pub wants_at : {M : Type 0} → Stage → ℕ → NodeState M → Bool
wants_at Reset l n = true
wants_at Poking l n = l == n.expects.link
wants_at Peeking l n = l == n.expects.link
wants_at Booting l n = l == n.expects.link
wants_at Replying l n = false
wants_at (Refused why) l n = is_some (engine_of n.inputs l)
wants_at Over l n = is_some (engine_of n.inputs l)

abbrev pub wants : {M : Type 0} → ℕ → NodeState M → Bool
wants l n = wants_at n.stage l n

-- whether a link is that of a reply
abbrev pub is_reply_at : Stage → ℕ → ℕ → Bool
is_reply_at Replying l link = l == link
is_reply_at Reset l link = false
is_reply_at Poking l link = false
is_reply_at Peeking l link = false
is_reply_at Booting l link = false
is_reply_at (Refused why) l link = false
is_reply_at Over l link = false

abbrev pub is_reply : {M : Type 0} → ℕ → NodeState M → Bool
is_reply l n = is_reply_at n.stage l n.expects.link

-- the next byte of a reply, the lowest of the word first, unless one is not acknowledged
abbrev pub reply_byte : Expects → Option ℕ
reply_byte e = if nat_lt e.got 4 && not e.sent then Some (slice_index_or (to_le_bytes w32 e.word) e.got 0) else None

-- the next byte of an output engine, unless one is not acknowledged
abbrev pub output_byte : {M : Type 0} → Access M → M → Option Engine → Option ℕ
output_byte access m None = None
output_byte access m (Some e) = if nat_lt 0 e.left && not e.sent then Some (result_unwrap_or (access.byte m e.pointer) 0) else None

-- the byte that the node offers on a link
unfoldable pub offers : {M : Type 0} → Access M → ℕ → NodeState M → Option ℕ
offers access l n = if is_reply l n then reply_byte n.expects else output_byte access n.cpu.memory (engine_of n.outputs l)

-- the byte of an engine has gone out
abbrev pub engine_sent : Option Engine → Option Engine
engine_sent None = None
engine_sent (Some e) = Some (record (moved e) { sent = true })

-- the byte that was offered has gone out, and is not acknowledged
unfoldable pub marked_sent : {M : Type 0} → ℕ → NodeState M → NodeState M
marked_sent l n =
    if is_reply l n
    then record n { expects = record n.expects { got = n.expects.got + 1; left = n.expects.left - 1; sent = true } }
    else record n { outputs = slice_set n.outputs l (engine_sent (engine_of n.outputs l)) }

-- whether a byte of a link is not acknowledged
abbrev pub is_sent : Option Engine → Bool
is_sent None = false
is_sent (Some e) = e.sent

abbrev pub awaits : {M : Type 0} → ℕ → NodeState M → Bool
awaits l n = if is_reply l n then n.expects.sent else is_sent (engine_of n.outputs l)

-- behind the fourth acknowledge of a reply the node is in reset again
abbrev pub reply_acknowledged : {M : Type 0} → NodeState M → NodeState M
reply_acknowledged n =
    if n.expects.got == 4
    then record n { stage = Reset; expects = nothing_expected }
    else record n { expects = record n.expects { sent = false } }

-- an engine that has no byte left closes, and its process is woken
abbrev pub engine_acknowledged : {M : Type 0} → Access M → ℕ → Option Engine → NodeState M → NodeState M
engine_acknowledged access l None n = n
engine_acknowledged access l (Some e) n =
    if e.left == 0
    then record n { outputs = slice_set n.outputs l None; cpu = woken access e.process n.cpu }
    else record n { outputs = slice_set n.outputs l (Some (record e { sent = false })) }

-- the byte that had gone out is acknowledged
unfoldable pub acknowledged : {M : Type 0} → Access M → ℕ → NodeState M → NodeState M
acknowledged access l n = if is_reply l n then reply_acknowledged n else engine_acknowledged access l (engine_of n.outputs l) n

-- a byte for an input engine goes to its pointer. An engine that has no byte left closes, and its
-- process is woken
abbrev pub byte_stored : {M : Type 0} → Access M → ℕ → ℕ → State M → State M
byte_stored access a byte s = record s { memory = result_unwrap_or (access.set_byte s.memory a byte) s.memory }

abbrev pub engine_taken : {M : Type 0} → Access M → ℕ → ℕ → Option Engine → NodeState M → NodeState M
engine_taken access l byte None n = n
engine_taken access l byte (Some e) n =
    if e.left == 1
    then record n { inputs = slice_set n.inputs l None; cpu = woken access e.process (byte_stored access e.pointer byte n.cpu) }
    else record n { inputs = slice_set n.inputs l (Some (moved e)); cpu = byte_stored access e.pointer byte n.cpu }

-- whether the bootstrap takes the bytes
abbrev pub is_booting : Stage → Bool
is_booting Over = false
is_booting (Refused why) = false
is_booting Reset = true
is_booting Poking = true
is_booting Peeking = true
is_booting Replying = true
is_booting Booting = true

-- the node after a byte on a link
unfoldable pub taken : {M : Type 0} → Access M → ℕ → ℕ → NodeState M → NodeState M
taken access l byte n =
    if is_booting n.stage then bootstrapped access n.stage l byte n else engine_taken access l byte (engine_of n.inputs l) n
