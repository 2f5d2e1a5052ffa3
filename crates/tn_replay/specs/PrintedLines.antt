-- The lines that a replay prints.
use Rattle.std.specs.Prelude.{ℕ, ◌/◌, ◌%◌, Bool, true, false, List, [], ◌∷◌, ◌++◌, Option, Some, None, Result, Ok, Err, codes}
use Rattle.std.specs.Fmt.{decimal, digit_glyph}
use Rattle.std.specs.List.{flat_map}
use Rattle.tn_text.specs.WordTexts.{word_text}
use Rattle.tn_mem.specs.declared.touches.Touch.{Touch}
use Rattle.tn_cpu.specs.declared.outcomes.Why.{Why}
use Rattle.tn_cpu.specs.declared.outcomes.Why.TheVariants as why
use Rattle.tn_cpu.specs.declared.registers.Reg.{Reg}
use Rattle.tn_cpu.specs.declared.registers.Reg.TheVariants as reg
use Rattle.tn_node.specs.declared.engines.Engine.{Engine}
use Rattle.tn_node.specs.declared.modes.Mode.{Mode}
use Rattle.tn_node.specs.declared.modes.Mode.TheVariants as mode
use Rattle.tn_node.specs.Nodes.{NodeState, mode_of}

-- pieces one after the other
abbrev pub joined : List (List ℕ) → List ℕ
joined pieces = flat_map (λ piece. piece) pieces

-- a word, or a question mark where none is defined
abbrev pub reg_text : Reg → List ℕ
reg_text reg.Undefined = codes "?"
reg_text (reg.Word w) = word_text w

-- why a processor stopped
abbrev pub why_word : Why → List ℕ
why_word why.Undefined = codes "undefined"
why_word why.Outside = codes "outside"
why_word why.Halted = codes "halted"
why_word why.BadOp = codes "badop"
why_word why.Code = codes "code"
why_word why.Stray = codes "stray"

-- the word of a mode
abbrev pub mode_word : Mode → List ℕ
mode_word mode.Reset = codes "reset"
mode_word mode.Poking = codes "poking"
mode_word mode.Peeking = codes "peeking"
mode_word mode.Replying = codes "replying"
mode_word mode.Booting = codes "booting"
mode_word mode.Running = codes "running"
mode_word mode.Idle = codes "idle"
mode_word (mode.Stopped w) = codes "stopped-" ++ why_word w

-- whether the instruction pointer and the workspace pointer are those of a program
abbrev pub has_pointers : Mode → Bool
has_pointers mode.Reset = false
has_pointers mode.Poking = false
has_pointers mode.Peeking = false
has_pointers mode.Replying = false
has_pointers mode.Booting = false
has_pointers mode.Running = true
has_pointers mode.Idle = false
has_pointers (mode.Stopped w) = true

abbrev pub pointer_text : Bool → ℕ → List ℕ
pointer_text true w = word_text w
pointer_text false w = codes "?"

abbrev pub flag_text : Bool → List ℕ
flag_text true = codes "1"
flag_text false = codes "0"

-- the label that an address belongs to, and how far behind it lies
abbrev pub symbol_text : Option (List ℕ × ℕ) → List ℕ
symbol_text None = []
symbol_text (Some found) = joined (codes " @ " ∷ found.0 ∷ codes "+" ∷ decimal found.1 ∷ [])

-- NAME MODE i=I w=W a=A b=B c=C o=OREG e=E h=H f=FRONT, and the label that I belongs to
unfoldable pub state_line : {M : Type 0} → List ℕ → Option (List ℕ × ℕ) → NodeState M → List ℕ
state_line name symbol n =
    joined (name ∷ codes " " ∷ mode_word (mode_of n) ∷ codes " i=" ∷ pointer_text (has_pointers (mode_of n)) n.cpu.iptr
    ∷ codes " w=" ∷ pointer_text (has_pointers (mode_of n)) n.cpu.wptr ∷ codes " a=" ∷ reg_text n.cpu.a ∷ codes " b="
    ∷ reg_text n.cpu.b ∷ codes " c=" ∷ reg_text n.cpu.c ∷ codes " o=" ∷ word_text n.cpu.oreg ∷ codes " e="
    ∷ flag_text n.cpu.error ∷ codes " h=" ∷ flag_text n.cpu.halt ∷ codes " f=" ∷ reg_text n.cpu.front ∷ symbol_text symbol
    ∷ codes "\n" ∷ [])

-- a byte: # and two upper-case hexadecimal digits, or another text where there is none
abbrev pub byte_text : ℕ → List ℕ
byte_text b = 35 ∷ digit_glyph true (b / 16 % 16) ∷ digit_glyph true (b % 16) ∷ []

abbrev pub byte_or : List ℕ → Option ℕ → List ℕ
byte_or other None = other
byte_or other (Some b) = byte_text b

-- an engine that takes bytes, and one that sends them
abbrev pub input_text : Option Engine → List ℕ
input_text None = codes "- -"
input_text (Some e) = joined (word_text e.pointer ∷ codes " " ∷ decimal e.left ∷ [])

abbrev pub output_text : Option Engine → List ℕ
output_text None = codes "- - -"
output_text (Some e) = joined (word_text e.pointer ∷ codes " " ∷ decimal e.left ∷ codes " " ∷ flag_text e.sent ∷ [])

-- NAME.L in POINTER LEFT out POINTER LEFT SENT latch BYTE
unfoldable pub link_line : List ℕ → ℕ → Option Engine → Option Engine → Option ℕ → List ℕ
link_line name l input output latch =
    joined (name ∷ codes "." ∷ decimal l ∷ codes " in " ∷ input_text input ∷ codes " out " ∷ output_text output ∷ codes " latch "
    ∷ byte_or (codes "-") latch ∷ codes "\n" ∷ [])

-- NAME ADDRESS WORD, with a question mark where no word may be loaded
abbrev pub loaded_text : Result ℕ Touch → List ℕ
loaded_text (Ok w) = word_text w
loaded_text (Err touch) = codes "?"

unfoldable pub word_line : List ℕ → ℕ → Result ℕ Touch → List ℕ
word_line name address word = joined (name ∷ codes " " ∷ word_text address ∷ codes " " ∷ loaded_text word ∷ codes "\n" ∷ [])

-- host left L got G
unfoldable pub host_line : ℕ → ℕ → List ℕ
host_line left got = joined (codes "host left " ∷ decimal left ∷ codes " got " ∷ decimal got ∷ codes "\n" ∷ [])

-- got I BYTE, with a question mark where fewer bytes are kept
unfoldable pub got_line : ℕ → Option ℕ → List ℕ
got_line place byte = joined (codes "got " ∷ decimal place ∷ codes " " ∷ byte_or (codes "?") byte ∷ codes "\n" ∷ [])

-- steps M
unfoldable pub steps_line : ℕ → List ℕ
steps_line steps = joined (codes "steps " ∷ decimal steps ∷ codes "\n" ∷ [])

-- rest M, or budget M
unfoldable pub settle_line : Bool → ℕ → List ℕ
settle_line true made = joined (codes "rest " ∷ decimal made ∷ codes "\n" ∷ [])
settle_line false made = joined (codes "budget " ∷ decimal made ∷ codes "\n" ∷ [])

-- of the symbolic network: held before it begins; then same, or the processor that stopped first, and why
abbrev pub held_line : List ℕ
held_line = codes "held\n"

abbrev pub same_line : List ℕ
same_line = codes "same\n"

-- stopped NAME WHY
unfoldable pub stopped_line : List ℕ → Why → List ℕ
stopped_line name w = joined (codes "stopped " ∷ name ∷ codes " " ∷ why_word w ∷ codes "\n" ∷ [])
