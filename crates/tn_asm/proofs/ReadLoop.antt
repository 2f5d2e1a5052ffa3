-- The loop that reads a source.
use Rattle.std.proofs.Common.{◌≡◌, ℕ, ◌+◌, List, [], ◌∷◌, Result, Ok, Err, refl, sym, ap, ◌∙◌, subst}
use Rattle.std.specs.Str.Lines.{lines}
use Rattle.tn_text.specs.declared.faults.Cause.{Cause}
use Rattle.tn_text.specs.declared.faults.Fault.{Fault}
use Rattle.tn_text.specs.declared.faults.ReadFault.{ReadFault}
use Rattle.tn_text.specs.declared.faults.ReadFault.TheVariants as read
use Rattle.tn_text.specs.Faults.{fault_at}
use Rattle.tn_text.specs.Reading.{placed, line_tokens, Gives}
use Rattle.tn_text.proofs.ReadingLoops.{ReadsOn, reads-line, reads-bad}
use Rattle.tn_text.proofs.Results.{ok-ok}
use Rattle.tn_modtext.proofs.Results.{then-ok}
use Rattle.tn_asm.specs.declared.statements.Statement.{Statement}
use Rattle.tn_asm.specs.declared.statements.Statement.TheVariants as statement
use Rattle.tn_asm.specs.Said.{words_said}
use Rattle.tn_asm.specs.Numbered.{NumberedParts}
use Rattle.tn_asm.specs.Assembling.{Gathered, after, with_all, words_taken, counted, source_line, finish}

-- a statement is no line more
after_line : (g : Gathered) (x : Statement) → (after g x).line ≡ g.line
after_line g (statement.Module name) = refl
after_line g (statement.Import import) = refl
after_line g (statement.Export name) = refl
after_line g statement.Code = refl
after_line g statement.Data = refl
after_line g (statement.Item i) = refl
after_line g (statement.Cell c) = refl

all_line : (g : Gathered) (xs : List Statement) → (with_all g xs).line ≡ g.line
all_line g [] = refl
all_line g (x ∷ xs) = all_line (after g x) xs ∙ after_line g x

-- a line is one line more
line_counts : (g t : Gathered) (line : List ℕ) → source_line g line ≡ Ok t → t.line ≡ g.line + 1
unfolding source_line
line_counts g t line e =
    let words = then-ok (line_tokens line) (words_taken (counted g)) t e in
    let said = then-ok (words_said g.section words.0) (λ xs. Ok (with_all (counted g) xs)) t words.2 in
    let same : with_all (counted g) said.0 ≡ t = ok-ok (Ok (with_all (counted g) said.0)) (with_all (counted g) said.0) t refl said.2 in
    ap (λ (u : Gathered). u.line) (sym same) ∙ all_line (counted g) said.0

placed_ok : {A : Type 0} (n : ℕ) (r : Result A Cause) (a : A) → Ok a ≡ placed n r → r ≡ Ok a
placed_ok n (Ok b) a e = let same : a ≡ b = cc in ap Ok (sym same)
placed_ok n (Err cause) a e = absurd cc

module _ (g : Gathered) (rest : List ℕ) (whole : Result NumberedParts Fault) (on : ReadsOn source_line finish g g.line rest whole)
    (line behind : List ℕ) (cut : lines rest ≡ line ∷ lines behind) where
  -- the next line is read
  pub line_good : (t : Gathered) → Ok t ≡ placed (g.line + 1) (source_line g line) → ReadsOn source_line finish t t.line behind whole
  line_good t e =
      let read : source_line g line ≡ Ok t = placed_ok (g.line + 1) (source_line g line) t e in
      subst (λ k. ReadsOn source_line finish t k behind whole) (sym (line_counts g t line read))
      (reads-line source_line finish g g.line rest whole on line behind t cut read)

  pub line_longer : (t : Gathered) → Ok t ≡ placed (g.line + 1) (source_line g line) → t.line ≡ g.line + 1
  line_longer t e = line_counts g t line (placed_ok (g.line + 1) (source_line g line) t e)

  line_refused : (fault : Fault) → Err fault ≡ placed (g.line + 1) (source_line g line) → Err fault ≡ whole
  line_refused fault e = at (source_line g line) refl e
    where
      at : (r : Result Gathered Cause) → source_line g line ≡ r → Err fault ≡ placed (g.line + 1) r → Err fault ≡ whole
      at (Ok t) is q = absurd cc
      at (Err cause) is q =
          let same : fault ≡ fault_at (g.line + 1) cause = cc in
          ap Err same ∙ sym (reads-bad source_line finish g g.line rest whole on line behind cause cut is)

  -- the next line is refused, or there is no memory
  pub line_stopped : {T U : Type 0} (seen : T → Gathered) (gives : U → NumberedParts) (why : ReadFault)
      → Gives seen (Err why) (placed (g.line + 1) (source_line g line)) → Gives gives (Err why) whole
  line_stopped seen gives (read.Fault fault) h = line_refused fault h
  line_stopped seen gives read.NoMemory h = tt
