-- Reading a text line by line, and its first fault.
use Rattle.std.specs.Prelude.{◌≡◌, ⊤, ℕ, ◌+◌, List, [], ◌∷◌, ◌++◌, length, Result, Ok, Err, if◌then◌else◌}
use Rattle.std.specs.Str.Lines.{lines}
use Rattle.tn_text.specs.declared.faults.Cause.{Cause}
use Rattle.tn_text.specs.declared.faults.Fault.{Fault}
use Rattle.tn_text.specs.declared.faults.FaultCode.TheVariants.{NotAscii}
use Rattle.tn_text.specs.declared.faults.ReadFault.{ReadFault}
use Rattle.tn_text.specs.declared.faults.ReadFault.TheVariants as read
use Rattle.tn_text.specs.Faults.{bare, fault_at}
use Rattle.tn_text.specs.Lines.{is_ascii_line, tokens}

-- a value, or the next step's value or cause
abbrev pub result_then : {A B E : Type 0} → Result A E → (A → Result B E) → Result B E
result_then (Ok a) f = f a
result_then (Err e) f = Err e

-- a cause at its line
abbrev pub placed : {A : Type 0} → ℕ → Result A Cause → Result A Fault
placed line (Ok a) = Ok a
placed line (Err cause) = Err (fault_at line cause)

-- Reads lines, of which n stand before, one after the other from a state, and ends with the state
-- behind the last. A cause gets the number of its line; what is lacking at the end, that of the
-- line behind the last.
unfoldable pub read_lines : {L S A : Type 0} → (S → L → Result S Cause) → (S → Result A Cause) → S → ℕ → List L → Result A Fault
read_lines step finish s n [] = placed (n + 1) (finish s)
read_lines step finish s n (line ∷ ls) = result_then (placed (n + 1) (step s line)) (λ t. read_lines step finish t (n + 1) ls)

-- the step over each of the lines leads from one state to the other
unfoldable pub Walks : {L S : Type 0} → (S → L → Result S Cause) → S → List L → S → Type 0
Walks step s [] t = s ≡ t
Walks {S} step s (line ∷ ls) t = (u : S) × (step s line ≡ Ok u) × Walks step u ls t

-- the fault is that of the first line that the step refuses
pub record IsFirstBadLine {L S : Type 0} (step : S → L → Result S Cause) (s : S) (ls : List L) (fault : Fault) : Type 0 where
  pub before : List L
  pub line : L
  pub after : List L
  pub state : S
  pub cause : Cause
  pub lines : ls ≡ before ++ line ∷ after
  pub walks : Walks step s before state
  pub refused : step state line ≡ Err cause
  pub placed : fault ≡ fault_at (length before + 1) cause

-- the step refuses no line, and the fault is what is lacking at the end
pub record IsLacking {L S A : Type 0} (step : S → L → Result S Cause) (finish : S → Result A Cause) (s : S) (ls : List L)
    (fault : Fault) : Type 0 where
  pub state : S
  pub cause : Cause
  pub walks : Walks step s ls state
  pub refused : finish state ≡ Err cause
  pub placed : fault ≡ fault_at (length ls + 1) cause

-- the step over the tokens of a line, where they say anything
abbrev pub said : {S : Type 0} → (S → List (List ℕ) → Result S Cause) → S → List (List ℕ) → Result S Cause
said step s [] = Ok s
said step s (word ∷ words) = step s (word ∷ words)

-- the tokens of a line, where only bytes stand in it that may
unfoldable pub line_tokens : List ℕ → Result (List (List ℕ)) Cause
line_tokens line = if is_ascii_line line then Ok (tokens line) else Err (bare NotAscii)

-- the step over a line of a text with tokens: bytes that may not stand in a line come before all
-- other faults, and a line without tokens says nothing
unfoldable pub token_step : {S : Type 0} → (S → List (List ℕ) → Result S Cause) → S → List ℕ → Result S Cause
token_step step s line = result_then (line_tokens line) (said step s)

-- what reading the lines of a text with tokens gives
abbrev pub read_text : {S A : Type 0} → (S → List (List ℕ) → Result S Cause) → (S → Result A Cause) → S → List ℕ → Result A Fault
read_text step finish s text = read_lines (token_step step) finish s 0 (lines text)

-- a reader gives this answer, unless there is no memory
abbrev pub Gives : {T A : Type 0} → (T → A) → Result T ReadFault → Result A Fault → Type 0
Gives seen (Ok value) answer = Ok (seen value) ≡ answer
Gives seen (Err (read.Fault fault)) answer = Err fault ≡ answer
Gives seen (Err read.NoMemory) answer = ⊤

-- what reading a text gives: exactly the values that the text stands for, and else its first fault
pub record IsReading {A : Type 0} (StandsFor : A → Type 0) (IsFault : Fault → Type 0) (reading : Result A Fault) : Type 0 where
  pub found : (value : A) → reading ≡ Ok value → StandsFor value
  pub only : (value : A) → StandsFor value → reading ≡ Ok value
  pub fault : (fault : Fault) → reading ≡ Err fault → IsFault fault
  pub refused : (fault : Fault) → IsFault fault → reading ≡ Err fault
