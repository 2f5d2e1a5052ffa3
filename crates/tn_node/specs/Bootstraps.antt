-- The bootstrap of a processor, after the T425 data sheet: what it does with a byte of its boot link.
use Rattle.std.specs.Prelude.{false, ℕ, ◌+◌, ◌-◌, ◌*◌, ◌%◌, ◌^◌, ◌==◌, nat_lt, Result, Ok, Err, if◌then◌else◌}
use Rattle.tn_mem.specs.declared.touches.Touch.{Touch}
use Rattle.tn_mem.specs.Spaces.{Access}
use Rattle.tn_word.specs.Words.{mem_start}
use Rattle.tn_cpu.specs.States.{booted}
use Rattle.tn_cpu.specs.Turns.{why_of}
use Rattle.tn_node.specs.declared.modes.Expects.{Expects}
use Rattle.tn_node.specs.declared.modes.Stage.{Stage}
use Rattle.tn_node.specs.declared.modes.Stage.TheVariants.{Reset, Poking, Peeking, Replying, Booting, Refused, Over}
use Rattle.tn_node.specs.Nodes.{NodeState, nothing_expected}

-- the first byte is the control byte: 0 for a poke, 1 for a peek, else the length of a bootstrap
abbrev pub stage_of : ℕ → Stage
stage_of control = if control == 0 then Poking else (if control == 1 then Peeking else Booting)

-- how many bytes follow it
abbrev pub follow : ℕ → ℕ
follow control = if control == 0 then 8 else (if control == 1 then 4 else control)

abbrev pub began : {M : Type 0} → ℕ → ℕ → NodeState M → NodeState M
began l control n = record n { stage = stage_of control; expects = record nothing_expected { link = l; left = follow control } }

-- a word of whose bytes, the lowest first, those below a place are known, with the byte at that place
abbrev pub with_byte : ℕ → ℕ → ℕ → ℕ
with_byte place byte word = word % 256 ^ place + byte * 256 ^ place

-- a byte of the address, which comes first, or of the word
abbrev pub gathered : ℕ → Expects → Expects
gathered byte e =
    if nat_lt e.got 4
    then record e { address = with_byte e.got byte e.address; got = e.got + 1; left = e.left - 1 }
    else record e { word = with_byte (e.got - 4) byte e.word; got = e.got + 1; left = e.left - 1 }

-- the memory refused what a bootstrap asked of it
abbrev pub refused : {M : Type 0} → Touch → NodeState M → NodeState M
refused touch n = record n { stage = Refused (why_of touch); expects = nothing_expected }

-- after a poke the node is in reset again
abbrev pub poked : {M : Type 0} → Result M Touch → NodeState M → NodeState M
poked (Ok m) n = record n { cpu = record n.cpu { memory = m }; stage = Reset; expects = nothing_expected }
poked (Err touch) n = refused touch n

-- after a peek of an address by a link it replies with the word
abbrev pub peeked : {M : Type 0} → Result ℕ Touch → ℕ → ℕ → NodeState M → NodeState M
peeked (Ok word) l address n =
    record n { stage = Replying; expects = record { link = l; got = 0; left = 4; address = address; word = word; sent = false } }
peeked (Err touch) l address n = refused touch n

abbrev pub poking : {M : Type 0} → Access M → Expects → NodeState M → NodeState M
poking access e n = if e.left == 0 then poked (access.set_word n.cpu.memory e.address e.word) n else record n { expects = e }

abbrev pub peeking : {M : Type 0} → Access M → Expects → NodeState M → NodeState M
peeking access e n = if e.left == 0 then peeked (access.word n.cpu.memory e.address) e.link e.address n else record n { expects = e }

-- behind the last byte of a bootstrap it runs
abbrev pub boot_stored : {M : Type 0} → Result M Touch → Expects → NodeState M → NodeState M
boot_stored (Ok m) e n =
    if e.left == 1
    then record n { cpu = booted (e.got + 1) (record n.cpu { memory = m }); stage = Over; expects = nothing_expected }
    else record n { cpu = record n.cpu { memory = m }; expects = record e { got = e.got + 1; left = e.left - 1 } }
boot_stored (Err touch) e n = refused touch n

-- the node after a byte on its boot link
unfoldable pub bootstrapped : {M : Type 0} → Access M → Stage → ℕ → ℕ → NodeState M → NodeState M
bootstrapped access Reset l byte n = began l byte n
bootstrapped access Poking l byte n = poking access (gathered byte n.expects) n
bootstrapped access Peeking l byte n = peeking access (gathered byte n.expects) n
bootstrapped access Booting l byte n = boot_stored (access.set_byte n.cpu.memory (mem_start + n.expects.got) byte) n.expects n
bootstrapped access Replying l byte n = n
bootstrapped access (Refused why) l byte n = n
bootstrapped access Over l byte n = n
