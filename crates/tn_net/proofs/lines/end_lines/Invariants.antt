use Rattle.std.proofs.Common.{◌≡◌, ◌++◌, map, take}
use Rattle.tn_net.specs.Lines.{host_lines, wire_line}
use Rattle.tn_net.proofs.lines.end_lines.Given as goal

-- the lines of the wires so far stand behind that of the host
abbrev pub invariant-loop-wire : goal.invariant-loop-wire
invariant-loop-wire l =
    (l.wire-items ≡ l.raw.wires.items) × (l.lines.items ≡ host_lines l.raw.host ++ map wire_line (take l.wire-index l.raw.wires.items))
