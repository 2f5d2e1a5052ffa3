-- The loop that reads a configuration.
use Rattle.std.proofs.Common.{◌≡◌, ℕ, ◌+◌, ◌⊎◌, inl, inr, List, [], ◌∷◌, ◌++◌, Option, Some, None}
use Rattle.std.proofs.Common.{Result, Ok, Err, refl, sym, ap, ◌∙◌, subst}
use Rattle.std.specs.Str.Lines.{lines}
use Rattle.tn_text.specs.declared.faults.Cause.{Cause}
use Rattle.tn_text.specs.declared.faults.Fault.{Fault}
use Rattle.tn_text.specs.declared.faults.ReadFault.{ReadFault}
use Rattle.tn_text.specs.declared.faults.ReadFault.TheVariants as read
use Rattle.tn_text.specs.Faults.{fault_at}
use Rattle.tn_text.specs.Reading.{placed, result_then, Gives}
use Rattle.tn_text.proofs.ReadingLoops.{ReadsOn, reads-line, reads-bad}
use Rattle.tn_text.proofs.Results.{ok-ok, ok-err}
use Rattle.tn_config.specs.declared.statements.Setting.{Setting}
use Rattle.tn_config.specs.declared.statements.Statement.{Statement}
use Rattle.tn_config.specs.declared.statements.Statement.TheVariants as statement
use Rattle.tn_config.specs.Configurations.{BlockState, ConfigState}
use Rattle.tn_config.specs.SoFar.{DraftState, ReaderState}
use Rattle.tn_config.specs.ConfigReading.{begun, ended, set_in, end_in, take, counted, config_line, finish}
use Rattle.tn_config.proofs.Lines.{Silent, Telling, Wrong, line_read}

-- a statement is no line more
abbrev SameOk : ReaderState → ReaderState → Type 0
SameOk u t = let one : Result ReaderState Cause = Ok u in one ≡ Ok t

same_lines : (u t : ReaderState) → SameOk u t → t.lines ≡ u.lines
same_lines u t e = ap (λ (s : ReaderState). s.lines) (sym (ok-ok (Ok u) u t refl e))

set_lines : (s : ReaderState) (o : Option DraftState) (x : Setting) → (set_in s o x).lines ≡ s.lines
set_lines s None x = refl
set_lines s (Some d) x = refl

end_lines : (s t : ReaderState) (o : Option DraftState) → end_in s o ≡ Ok t → t.lines ≡ s.lines
end_lines s t None e = same_lines s t e
end_lines s t (Some d) e = at (ended d) e
  where
    at : (r : Result BlockState Cause) → result_then r (λ b. Ok (record s { blocks = s.blocks ++ b ∷ []; draft = None })) ≡ Ok t
        → t.lines ≡ s.lines
    at (Ok b) e = same_lines (record s { blocks = s.blocks ++ b ∷ []; draft = None }) t e
    at (Err cause) e = absurd cc

take_lines : (s t : ReaderState) (st : Statement) → take s st ≡ Ok t → t.lines ≡ s.lines
unfolding take
take_lines s t (statement.Processor name size) e = same_lines (record s { draft = Some (begun s.lines name size) }) t e
take_lines s t (statement.Host name link) e =
    same_lines (record s { host = Some (record { name = name; link = link; line = s.lines }) }) t e
take_lines s t (statement.Wire one l two m) e =
    same_lines (record s { wires = s.wires ++ record { one = one; one_link = l; two = two; two_link = m; line = s.lines } ∷ [] }) t e
take_lines s t (statement.Set x) e = same_lines (set_in s s.draft x) t e ∙ set_lines s s.draft x
take_lines s t statement.End e = end_lines s t s.draft e

-- a line is one line more
pub line_counts : (s t : ReaderState) (line : List ℕ) → config_line s line ≡ Ok t → t.lines ≡ s.lines + 1
line_counts s t line e = at (line_read s line)
  where
    at : Silent s line ⊎ (Telling s line ⊎ Wrong s line) → t.lines ≡ s.lines + 1
    at (inl q) = same_lines (counted s) t (sym q.read ∙ e)
    at (inr (inl q)) = take_lines (counted s) t q.told (sym q.read ∙ e)
    at (inr (inr w)) = ok-err (config_line s line) t w.cause e w.read

placed_ok : {A : Type 0} (n : ℕ) (r : Result A Cause) (a : A) → Ok a ≡ placed n r → r ≡ Ok a
placed_ok n (Ok b) a e = let same : a ≡ b = cc in ap Ok (sym same)
placed_ok n (Err cause) a e = absurd cc

module _ (s : ReaderState) (rest : List ℕ) (whole : Result ConfigState Fault) (on : ReadsOn config_line finish s s.lines rest whole)
    (line behind : List ℕ) (cut : lines rest ≡ line ∷ lines behind) where
  -- the next line is read
  pub line_good : (t : ReaderState) → Ok t ≡ placed (s.lines + 1) (config_line s line)
      → ReadsOn config_line finish t t.lines behind whole
  line_good t e =
      let read : config_line s line ≡ Ok t = placed_ok (s.lines + 1) (config_line s line) t e in
      subst (λ k. ReadsOn config_line finish t k behind whole) (sym (line_counts s t line read))
      (reads-line config_line finish s s.lines rest whole on line behind t cut read)

  pub line_longer : (t : ReaderState) → Ok t ≡ placed (s.lines + 1) (config_line s line) → t.lines ≡ s.lines + 1
  line_longer t e = line_counts s t line (placed_ok (s.lines + 1) (config_line s line) t e)

  line_refused : (fault : Fault) → Err fault ≡ placed (s.lines + 1) (config_line s line) → Err fault ≡ whole
  line_refused fault e = at (config_line s line) refl e
    where
      at : (r : Result ReaderState Cause) → config_line s line ≡ r → Err fault ≡ placed (s.lines + 1) r → Err fault ≡ whole
      at (Ok t) is q = absurd cc
      at (Err cause) is q =
          let same : fault ≡ fault_at (s.lines + 1) cause = cc in
          ap Err same ∙ sym (reads-bad config_line finish s s.lines rest whole on line behind cause cut is)

  -- the next line is refused, or there is no memory
  pub line_stopped : {T U : Type 0} (seen : T → ReaderState) (gives : U → ConfigState) (why : ReadFault)
      → Gives seen (Err why) (placed (s.lines + 1) (config_line s line)) → Gives gives (Err why) whole
  line_stopped seen gives (read.Fault fault) h = line_refused fault h
  line_stopped seen gives read.NoMemory h = tt
