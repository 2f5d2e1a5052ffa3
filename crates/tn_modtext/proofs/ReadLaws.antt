-- Reading the lines of a text gives the module that they spell, or the fault of the first line that
-- may not stand at its place.
use Rattle.std.proofs.Common.{◌≡◌, ℕ, ◌+◌, Bool, true, false, cond, List, [], ◌∷◌, ◌++◌, length, map}
use Rattle.std.proofs.Common.{All, Result, Ok, Err, refl, sym, ap, ◌∙◌, subst, append_assoc, append-nil}
use Rattle.std.specs.List.{list_all, flat_map, join_with_byte, AllByRecursion}
use Rattle.std.proofs.lemmas.List.Elements.{All-nil, All-cons, recursion_from_All}
use Rattle.tn_text.specs.declared.faults.Cause.{Cause}
use Rattle.tn_text.specs.declared.faults.Fault.{Fault}
use Rattle.tn_text.specs.Reading.{placed, read_lines, Walks, IsReading}
use Rattle.tn_text.proofs.Walking.{walk_of, of_walk}
use Rattle.tn_module.specs.Modules.{Parts}
use Rattle.tn_modtext.specs.declared.forms.Section.{Section}
use Rattle.tn_modtext.specs.declared.lines.Line.{Line}
use Rattle.tn_modtext.specs.Forms.{form_word, stands, section_after}
use Rattle.tn_modtext.specs.Lines.{line_form, line_args, line_words, line_text, line_spelling, ended, lines_of, spelling, IsSpelled}
use Rattle.tn_modtext.specs.Lines.{HasSpelling}
use Rattle.tn_modtext.specs.Pieces.{pieces, is_strict_byte, strict_tokens}
use Rattle.tn_modtext.specs.LinesAt.{line_at}
use Rattle.tn_modtext.specs.LineFaults.{section_step, is_end, lacks_end, ends_at, IsLineFault}
use Rattle.tn_modtext.specs.Inner.Drafts.{Drawn, blank, after, whole, draft_said, draft_step, parts_read}
use Rattle.tn_modtext.proofs.SplitLaws.{tokens-only, tokens-found, put_together, pieces-together, pieces-ended}
use Rattle.tn_modtext.proofs.SplitLaws.{strict_words}
use Rattle.tn_modtext.proofs.WordLaws.{words-tokens}
use Rattle.tn_modtext.proofs.LineLaws.{IsLineAt, line-found, line-only}
use Rattle.tn_modtext.proofs.DraftLaws.{written, Fresh, fresh-blank, grows, whole-found, whole-lacks, whole-refused, Leads}
use Rattle.tn_modtext.proofs.DraftLaws.{whole_draft, leads-module, whole-draft}
use Rattle.tn_modtext.proofs.Results.{then-ok}
use Rattle.tn_modtext.proofs.SectionLaws.{told-fault, kept-fault}

-- the line with its line feed, as it is read
abbrev piece_of : Line → List ℕ × Bool
piece_of l = (line_text l, true)

-- ---- one line

record IsStepOver (d : Drawn) (piece : List ℕ × Bool) (e : Drawn) : Type 0 where
  line : Line
  here : IsLineAt d.section (line_words line) line
  text : piece ≡ piece_of line
  step : e ≡ after d line

step-found : (d e : Drawn) (piece : List ℕ × Bool) → draft_step d piece ≡ Ok e → IsStepOver d piece e
unfolding line_text
step-found d e piece q =
    let tokens = then-ok (strict_tokens piece) (draft_said d) e q in
    let said = then-ok (line_at d.section tokens.0) (λ l. Ok (after d l)) e tokens.2 in
    let cut = tokens-found piece tokens.0 tokens.1 in
    let found = line-found d.section tokens.0 said.0 said.1 in
    let same : after d said.0 ≡ e = cc in
    let text : join_with_byte 32 (line_words said.0) ≡ piece.0 = ap (join_with_byte 32) found.tokens ∙ cut.text in
    record {
      line = said.0;
      here = record { stands = found.stands; tokens = refl; spelled = found.spelled };
      text = ap (λ t. (t, piece.1)) (sym text) ∙ ap (λ b. (join_with_byte 32 (line_words said.0), b)) cut.ended;
      step = sym same;
    }

step-only : (d : Drawn) (l : Line) → stands d.section (line_form l) ≡ true → IsSpelled l → draft_step d (piece_of l) ≡ Ok (after d l)
unfolding line_text
step-only d l h spelled =
    let tokens : strict_tokens (join_with_byte 32 (line_words l), true) ≡ Ok (line_words l) =
    tokens-only (form_word (line_form l)) (line_args l) (words-tokens l spelled) in
    rw (tokens, line-only d.section l h spelled) refl

-- ---- lines one after the other

record IsWalked (d : Drawn) (ps : List (List ℕ × Bool)) (e : Drawn) : Type 0 where
  lines : List Line
  texts : ps ≡ map piece_of lines
  spelled : All IsSpelled lines
  written : written e.section e ≡ written d.section d ++ lines
  fresh : Fresh e.section e

walked : (ps : List (List ℕ × Bool)) (d e : Drawn) → Fresh d.section d → Walks draft_step d ps e → IsWalked d ps e
unfolding Walks
walked [] d e f w =
    subst (IsWalked d []) w
    (record { lines = []; texts = refl; spelled = All-nil IsSpelled; written = sym (append-nil (written d.section d)); fresh = f })
walked (p ∷ ps) d e f (u, first, rest) =
    let step = step-found d u p first in
    let grow = grows d.section d step.line step.here.stands f in
    let fresh_u : Fresh u.section u = subst (λ v. Fresh v.section v) (sym step.step) grow.fresh in
    let more = walked ps u e fresh_u rest in
    let lines_u : written u.section u ≡ written d.section d ++ step.line ∷ [] =
    ap (λ v. written v.section v) step.step ∙ grow.lines in
    record {
      lines = step.line ∷ more.lines;
      texts = ap (λ q. q ∷ ps) step.text ∙ ap (λ qs. piece_of step.line ∷ qs) more.texts;
      spelled = All-cons IsSpelled step.line more.lines step.here.spelled more.spelled;
      written = more.written ∙ (ap (λ ls. ls ++ more.lines) lines_u ∙ append_assoc (written d.section d) (step.line ∷ []) more.lines);
      fresh = more.fresh;
    }

walk-of-leads : (ls : List Line) (d e : Drawn) → AllByRecursion IsSpelled ls → Leads d ls e → Walks draft_step d (map piece_of ls) e
unfolding Leads Walks
walk-of-leads [] d e all leads = leads
walk-of-leads (l ∷ ls) d e (spelled, all) (h, leads) = (after d l, step-only d l h spelled, walk-of-leads ls (after d l) e all leads)

-- ---- a text and its lines

texts_ended : (ls : List Line) → put_together (map piece_of ls) ≡ flat_map line_spelling ls
texts_ended [] = refl
texts_ended (l ∷ ls) = ap (λ rest. line_spelling l ++ rest) (texts_ended ls)

pub lines_ended : (ls : List Line) → flat_map ended (map line_text ls) ≡ flat_map line_spelling ls
lines_ended [] = refl
lines_ended (l ∷ ls) = ap (λ rest. line_spelling l ++ rest) (lines_ended ls)

pieces_mapped : (ls : List Line) → map (λ t. (t, true)) (map line_text ls) ≡ map piece_of ls
pieces_mapped [] = refl
pieces_mapped (l ∷ ls) = ap (λ rest. piece_of l ∷ rest) (pieces_mapped ls)

strict_text : (l : Line) → IsSpelled l → list_all is_strict_byte (line_text l) ≡ true
unfolding line_text
strict_text l h = strict_words (line_words l) (words-tokens l h)

pub strict_texts : (ls : List Line) → AllByRecursion IsSpelled ls → list_all (list_all is_strict_byte) (map line_text ls) ≡ true
strict_texts [] h = refl
strict_texts (l ∷ ls) (h, more) = rw (strict_text l h, strict_texts ls more) refl

pieces_of_lines : (ls : List Line) → AllByRecursion IsSpelled ls → pieces (flat_map line_spelling ls) ≡ map piece_of ls
pieces_of_lines ls h =
    ap pieces (sym (lines_ended ls)) ∙ (pieces-ended (map line_text ls) (strict_texts ls h) ∙ pieces_mapped ls)

-- ---- what is read is spelled, and what is spelled is read

parts-found : (text : List ℕ) (m : Parts) → parts_read text ≡ Ok m → HasSpelling m × (text ≡ spelling m)
parts-found text m e =
    let read = walk_of draft_step whole blank 0 (pieces text) m e in
    let walk = walked (pieces text) blank read.0 fresh-blank read.1 in
    let end = whole-found read.0 m read.2 in
    let lines : walk.lines ≡ lines_of m =
    sym walk.written ∙ (ap (λ s. written s read.0) end.ended ∙ end.lines) in (
      subst (All IsSpelled) lines walk.spelled,
      sym (pieces-together text) ∙ (ap put_together walk.texts ∙ (texts_ended walk.lines ∙ ap (flat_map line_spelling) lines)),
    )

parts-only : (text : List ℕ) (m : Parts) → HasSpelling m × (text ≡ spelling m) → parts_read text ≡ Ok m
parts-only text m (spelled, is) =
    let all = recursion_from_All IsSpelled (lines_of m) spelled in
    let walk = walk-of-leads (lines_of m) blank (whole_draft m) all (leads-module m) in
    ap parts_read is
    ∙ (ap (read_lines draft_step whole blank 0) (pieces_of_lines (lines_of m) all)
    ∙ (of_walk draft_step whole blank (whole_draft m) 0 (map piece_of (lines_of m)) walk
    ∙ ap (placed (0 + length (map piece_of (lines_of m)) + 1)) (whole-draft m)))

-- ---- the section alone tells the fault

ends_err : (s : Section) (cause : Cause) → ends_at s ≡ Err cause → (is_end s ≡ false) × (cause ≡ lacks_end)
ends_err s cause e = at (is_end s) e
  where
    at : (b : Bool) → cond {A = Result (Unit {0}) Cause} b (Ok tt) (Err lacks_end) ≡ Err cause → (b ≡ false) × (cause ≡ lacks_end)
    at true e = absurd cc
    at false e = (refl, cc)

parts-fault : (text : List ℕ) (fault : Fault) → parts_read text ≡ Err fault → IsLineFault text fault
unfolding section_step
parts-fault text =
    told-fault (λ d. d.section) line_at after (λ l. section_after (line_form l)) (λ d l. refl) whole ends_at blank (pieces text) lacks
  where
    lacks : (d : Drawn) (cause : Cause) → Walks draft_step blank (pieces text) d → whole d ≡ Err cause → ends_at d.section ≡ Err cause
    lacks d cause walks refused =
        let found = whole-refused d cause (walked (pieces text) blank d fresh-blank walks).fresh refused in
        rw found.0 (ap Err (sym found.1))

parts-refused : (text : List ℕ) (fault : Fault) → IsLineFault text fault → parts_read text ≡ Err fault
unfolding section_step
parts-refused text =
    kept-fault (λ d. d.section) line_at after (λ l. section_after (line_form l)) (λ d l. refl) whole ends_at blank (pieces text) lacks
  where
    lacks : (d : Drawn) (cause : Cause) → ends_at d.section ≡ Err cause → whole d ≡ Err cause
    lacks d cause refused =
        let found = ends_err d.section cause refused in
        whole-lacks d found.0 ∙ ap Err (sym found.1)

-- reading the lines of a text gives the module that they spell, or the first fault of a line
pub parts_reading : (text : List ℕ) → IsReading (λ m. HasSpelling m × (text ≡ spelling m)) (IsLineFault text) (parts_read text)
parts_reading text =
    record { found = parts-found text; only = parts-only text; fault = parts-fault text; refused = parts-refused text }
