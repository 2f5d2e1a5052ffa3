-- Reading a flat source gives the instructions that its lines say, or the fault of the first line
-- with something wrong.
use Rattle.std.proofs.Common.{◌≡◌, ℕ, ◌⊎◌, inl, inr, ℤ, List, [], ◌∷◌, ◌++◌, Some, None, Ok, Err, refl, sym, ap, ◌∙◌}
use Rattle.std.proofs.Common.{subst, append_assoc, append-nil}
use Rattle.std.specs.List.{All, AllByRecursion}
use Rattle.std.proofs.lemmas.List.Elements.{All-nil, All-cons, recursion_from_All}
use Rattle.std.proofs.lemmas.Option.{same_Some}
use Rattle.std.specs.Str.Lines.{lines}
use Rattle.tn_isa.specs.declared.functions.Fun.{Fun}
use Rattle.tn_text.specs.declared.faults.Cause.{Cause}
use Rattle.tn_text.specs.declared.faults.Fault.{Fault}
use Rattle.tn_text.specs.Reading.{token_step, Walks, IsFirstBadLine, IsLacking, IsReading}
use Rattle.tn_text.proofs.Results.{ok-ok, err-err, ok-err, none-some}
use Rattle.tn_text.proofs.Walking.{walk_of, of_walk, first_fault, of_first_bad}
use Rattle.tn_asm.specs.FlatSources.{LineSays, LinesSay, IsFlat, IsFlatFault, line_cause}
use Rattle.tn_asm.specs.FlatReading.{flat_step, flat_read}
use Rattle.tn_asm.proofs.FlatLines.{GoodLine, WrongLine, line_read, line_says_same, line_fine}

-- a line that is read says what was added, and nothing is wrong with it
line_of : (s t : List (Fun × ℤ)) (line : List ℕ) → token_step flat_step s line ≡ Ok t
    → (here : List (Fun × ℤ)) × LineSays line here × (t ≡ s ++ here) × (line_cause line ≡ None)
line_of s t line e = at (line_read s line)
  where
    at : GoodLine s line ⊎ WrongLine s line → (here : List (Fun × ℤ)) × LineSays line here × (t ≡ s ++ here) × (line_cause line ≡ None)
    at (inl g) = (g.here, g.says, ok-ok (token_step flat_step s line) t (s ++ g.here) e g.read, g.fine)
    at (inr b) = ok-err (token_step flat_step s line) t b.cause e b.read

-- a line that says something is read
of_line : (s here : List (Fun × ℤ)) (line : List ℕ) → LineSays line here → token_step flat_step s line ≡ Ok (s ++ here)
of_line s here line says = at (line_read s line)
  where
    at : GoodLine s line ⊎ WrongLine s line → token_step flat_step s line ≡ Ok (s ++ here)
    at (inl g) = g.read ∙ ap (λ h. Ok (s ++ h)) (line_says_same line g.here here g.says says)
    at (inr b) = none-some (line_cause line) b.cause (line_fine line here says) b.wrong

-- a line that is refused has something wrong
cause_of : (s : List (Fun × ℤ)) (line : List ℕ) (cause : Cause) → token_step flat_step s line ≡ Err cause → line_cause line ≡ Some cause
cause_of s line cause e = at (line_read s line)
  where
    at : GoodLine s line ⊎ WrongLine s line → line_cause line ≡ Some cause
    at (inl g) = ok-err (token_step flat_step s line) (s ++ g.here) cause g.read e
    at (inr b) = b.wrong ∙ ap Some (err-err (token_step flat_step s line) b.cause cause b.read e)

-- lines that were walked say what was added
says_of_walk : (ls : List (List ℕ)) (s t : List (Fun × ℤ)) → Walks (token_step flat_step) s ls t
    → (below : List (Fun × ℤ)) × LinesSay ls below × (t ≡ s ++ below)
unfolding Walks LinesSay
says_of_walk [] s t w = ([], refl, sym w ∙ sym (append-nil s))
says_of_walk (line ∷ ls) s t w =
    let first = line_of s w.0 line w.1 in
    let more = says_of_walk ls w.0 t w.2 in
    (first.0 ++ more.0, (first.0, more.0, first.1, more.1, refl), more.2 ∙ (ap (λ u. u ++ more.0) first.2 ∙ append_assoc s first.0 more.0))

-- lines that say something are walked
walk_of_says : (ls : List (List ℕ)) (s below : List (Fun × ℤ)) → LinesSay ls below → Walks (token_step flat_step) s ls (s ++ below)
unfolding Walks LinesSay
walk_of_says [] s below e = sym (ap (λ b. s ++ b) e ∙ append-nil s)
walk_of_says (line ∷ ls) s below (here, rest, says, more, is) = (
  s ++ here,
  of_line s here line says,
  subst (Walks (token_step flat_step) (s ++ here) ls)
      (append_assoc s here rest ∙ ap (λ b. s ++ b) (sym is)) (walk_of_says ls (s ++ here) rest more),
)

-- nothing is wrong with lines that were walked
good_of_walk : (ls : List (List ℕ)) (s t : List (Fun × ℤ)) → Walks (token_step flat_step) s ls t → All (λ l. line_cause l ≡ None) ls
unfolding Walks
good_of_walk [] s t w = All-nil (λ l. line_cause l ≡ None)
good_of_walk (line ∷ ls) s t w = All-cons (λ l. line_cause l ≡ None) line ls (line_of s w.0 line w.1).3 (good_of_walk ls w.0 t w.2)

-- what is read is what the text says
pub flat-found : (text : List ℕ) (instructions : List (Fun × ℤ)) → flat_read text ≡ Ok instructions → IsFlat text instructions
flat-found text instructions e =
    let walked = walk_of (token_step flat_step) Ok [] 0 (lines text) instructions e in
    let says = says_of_walk (lines text) [] walked.0 walked.1 in
    let same : walked.0 ≡ instructions = ok-ok (Ok walked.0) walked.0 instructions refl walked.2 in
    subst (LinesSay (lines text)) (sym says.2 ∙ same) says.1

-- what the text says is read
pub flat-only : (text : List ℕ) (instructions : List (Fun × ℤ)) → IsFlat text instructions → flat_read text ≡ Ok instructions
flat-only text instructions says =
    of_walk (token_step flat_step) Ok [] instructions 0 (lines text) (walk_of_says (lines text) [] instructions says)

-- a fault that is read is that of the first line with something wrong
pub flat-fault : (text : List ℕ) (fault : Fault) → flat_read text ≡ Err fault → IsFlatFault text fault
flat-fault text fault e = at (first_fault (token_step flat_step) Ok [] (lines text) fault e)
  where
    at : IsFirstBadLine (token_step flat_step) [] (lines text) fault
        ⊎ IsLacking {A = List (Fun × ℤ)} (token_step flat_step) Ok [] (lines text) fault → IsFlatFault text fault
    at (inl h) =
        record {
          before = h.before;
          line = h.line;
          after = h.after;
          cause = h.cause;
          lines = h.lines;
          good = good_of_walk h.before [] h.state h.walks;
          bad = cause_of h.state h.line h.cause h.refused;
          placed = h.placed;
        }
    at (inr h) = ok-err (Ok h.state) h.state h.cause refl h.refused

-- lines with nothing wrong are walked
walk_of_good : (ls : List (List ℕ)) (s : List (Fun × ℤ)) → AllByRecursion (λ l. line_cause l ≡ None) ls
    → (t : List (Fun × ℤ)) × Walks (token_step flat_step) s ls t
unfolding Walks
walk_of_good [] s good = (s, refl)
walk_of_good (line ∷ ls) s (fine, good) = at (line_read s line) (λ t. walk_of_good ls t good)
  where
    at : GoodLine s line ⊎ WrongLine s line → ((t : List (Fun × ℤ)) → (u : List (Fun × ℤ)) × Walks (token_step flat_step) t ls u)
        → (t : List (Fun × ℤ)) × Walks (token_step flat_step) s (line ∷ ls) t
    at (inl g) more = let rest = more (s ++ g.here) in (rest.0, (s ++ g.here, g.read, rest.1))
    at (inr b) more = none-some (line_cause line) b.cause fine b.wrong

-- a line with something wrong is refused
refused_for : (s : List (Fun × ℤ)) (line : List ℕ) (cause : Cause) → line_cause line ≡ Some cause → token_step flat_step s line ≡ Err cause
refused_for s line cause wrong = at (line_read s line)
  where
    at : GoodLine s line ⊎ WrongLine s line → token_step flat_step s line ≡ Err cause
    at (inl g) = none-some (line_cause line) cause g.fine wrong
    at (inr b) = let same : b.cause ≡ cause = same_Some b.cause cause (sym b.wrong ∙ wrong) in b.read ∙ ap Err same

-- the fault of the first line with something wrong is read
pub flat-refused : (text : List ℕ) (fault : Fault) → IsFlatFault text fault → flat_read text ≡ Err fault
flat-refused text fault h =
    let walked = walk_of_good h.before [] (recursion_from_All (λ l. line_cause l ≡ None) h.before h.good) in
    of_first_bad (token_step flat_step) Ok [] (lines text) fault (record {
      before = h.before;
      line = h.line;
      after = h.after;
      state = walked.0;
      cause = h.cause;
      lines = h.lines;
      walks = walked.1;
      refused = refused_for walked.0 h.line h.cause h.bad;
      placed = h.placed;
    })

-- what reading a text gives is what it stands for, or its first fault
pub flat_reading : (text : List ℕ) → IsReading (IsFlat text) (IsFlatFault text) (flat_read text)
flat_reading text = record { found = flat-found text; only = flat-only text; fault = flat-fault text; refused = flat-refused text }
