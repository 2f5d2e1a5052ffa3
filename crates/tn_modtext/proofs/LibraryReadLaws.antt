-- Reading the lines of a text gives the modules whose library they spell, or the fault of the first
-- line that may not stand at its place.
use Rattle.std.proofs.Common.{◌≡◌, ℕ, Bool, true, false, cond, List, [], ◌∷◌, ◌++◌, map, All}
use Rattle.std.proofs.Common.{Result, Ok, Err, refl, sym, ap, ◌∙◌, subst, append_assoc, append-nil}
use Rattle.std.specs.Prelude.{codes}
use Rattle.std.specs.List.{list_all, flat_map, join_with_byte, AllByRecursion}
use Rattle.std.specs.Str.{bytes_eq}
use Rattle.std.proofs.lemmas.List.{map-append, flat_map_more}
use Rattle.std.proofs.lemmas.List.Concat.{flat_map-append}
use Rattle.std.proofs.lemmas.List.Elements.{All-nil, All-push, recursion_from_All}
use Rattle.std.proofs.lemmas.Slice.Eq.{bytes_eq-Decides}
use Rattle.tn_text.specs.declared.faults.Cause.{Cause}
use Rattle.tn_text.specs.declared.faults.Fault.{Fault}
use Rattle.tn_text.specs.declared.faults.FaultCode.TheVariants.{BadLine}
use Rattle.tn_text.specs.Faults.{bare}
use Rattle.tn_text.specs.Reading.{result_then, read_lines, Walks, IsReading}
use Rattle.tn_text.proofs.Walking.{walk_of, of_walk}
use Rattle.tn_module.specs.Modules.{Parts}
use Rattle.tn_modtext.specs.declared.forms.Section.{Section}
use Rattle.tn_modtext.specs.declared.forms.Section.TheVariants as section
use Rattle.tn_modtext.specs.declared.lines.Line.{Line}
use Rattle.tn_modtext.specs.declared.lines.Line.TheVariants as module_line
use Rattle.tn_modtext.specs.declared.library_lines.LibrarySection.{LibrarySection}
use Rattle.tn_modtext.specs.declared.library_lines.LibrarySection.TheVariants as library
use Rattle.tn_modtext.specs.declared.library_lines.LibraryLine.{LibraryLine}
use Rattle.tn_modtext.specs.declared.library_lines.LibraryLine.TheVariants as line
use Rattle.tn_modtext.specs.Forms.{form_word, stands, section_after}
use Rattle.tn_modtext.specs.Lines.{line_form, line_args, line_words, line_text, lines_of, spelling, ended, IsSpelled, HasSpelling}
use Rattle.tn_modtext.specs.Pieces.{pieces, is_strict_byte, strict_tokens}
use Rattle.tn_modtext.specs.LinesAt.{line_at}
use Rattle.tn_modtext.specs.LineFaults.{is_end}
use Rattle.tn_modtext.specs.LibraryLines.{is_head, is_last, module_line_at, library_line_at, library_section_after}
use Rattle.tn_modtext.specs.LibraryFaults.{library_section_step, library_ends_at, IsLibraryLineFault}
use Rattle.tn_modtext.specs.Libraries.{library_spelling}
use Rattle.tn_modtext.specs.Inner.Drafts.{Drawn, blank, after, parts_with, whole}
use Rattle.tn_modtext.specs.Inner.LibraryDrafts.{DrawnLibrary, blank_library, read_whole, with_draft, after_library_line, whole_library}
use Rattle.tn_modtext.specs.Inner.LibraryDrafts.{library_said}
use Rattle.tn_modtext.specs.Inner.LibraryDrafts.{library_step, library_read}
use Rattle.tn_modtext.proofs.SplitLaws.{both, list_all-append, is_token_byte, tokens-only, tokens-found, put_together, pieces-together}
use Rattle.tn_modtext.proofs.SplitLaws.{together-ended}
use Rattle.tn_modtext.proofs.SplitLaws.{pieces-ended}
use Rattle.tn_modtext.proofs.WordLaws.{words-tokens}
use Rattle.tn_modtext.proofs.LineLaws.{line-found, line-only}
use Rattle.tn_modtext.proofs.DraftLaws.{written, Fresh, fresh-blank, Grows, grows, at_end, whole-at_end, IsWhole, whole-found, Leads}
use Rattle.tn_modtext.proofs.DraftLaws.{whole_draft, leads-module}
use Rattle.tn_modtext.proofs.ReadLaws.{lines_ended, strict_texts}
use Rattle.tn_modtext.proofs.SectionLaws.{told-fault, kept-fault}
use Rattle.tn_modtext.proofs.Results.{then-ok}

-- ---- the lines of a library as texts

abbrev library_words : LibraryLine → List (List ℕ)
library_words line.Head = codes "tlib" ∷ codes "1" ∷ []
library_words (line.Module l) = line_words l
library_words line.End = codes "endlib" ∷ []

abbrev library_text : LibraryLine → List ℕ
library_text line.Head = codes "tlib 1"
library_text (line.Module l) = line_text l
library_text line.End = codes "endlib"

library_joined : (l : LibraryLine) → join_with_byte 32 (library_words l) ≡ library_text l
unfolding line_text
library_joined line.Head = refl
library_joined (line.Module l) = refl
library_joined line.End = refl

abbrev ended_piece : List ℕ → List ℕ × Bool
ended_piece text = (text, true)

abbrev module_texts : Parts → List (List ℕ)
module_texts m = map line_text (lines_of m)

abbrev front : List Parts → List (List ℕ)
front ms = library_text line.Head ∷ flat_map module_texts ms

abbrev library_texts : List Parts → List (List ℕ)
library_texts ms = front ms ++ library_text line.End ∷ []

front-more : (ms : List Parts) (m : Parts) → front (ms ++ m ∷ []) ≡ front ms ++ module_texts m
front-more ms m = sym (flat_map_more module_texts (library_text line.Head ∷ []) ms m)

modules_ended : (ms : List Parts) → flat_map ended (flat_map module_texts ms) ≡ flat_map spelling ms
modules_ended [] = refl
modules_ended (m ∷ ms) =
    flat_map-append ended (module_texts m) (flat_map module_texts ms)
    ∙ (ap (λ text. text ++ flat_map ended (flat_map module_texts ms)) (lines_ended (lines_of m))
    ∙ ap (λ text. spelling m ++ text) (modules_ended ms))

library_ended : (ms : List Parts) → flat_map ended (library_texts ms) ≡ library_spelling ms
library_ended ms =
    ap (λ text. codes "tlib 1\n" ++ text)
    (flat_map-append ended (flat_map module_texts ms) (library_text line.End ∷ [])
    ∙ ap (λ text. text ++ codes "endlib\n") (modules_ended ms))

modules_strict : (ms : List Parts) → AllByRecursion HasSpelling ms → list_all (list_all is_strict_byte) (flat_map module_texts ms) ≡ true
modules_strict [] h = refl
modules_strict (m ∷ ms) (h, more) =
    list_all-append (list_all is_strict_byte) (module_texts m) (flat_map module_texts ms)
    (strict_texts (lines_of m) (recursion_from_All IsSpelled (lines_of m) h)) (modules_strict ms more)

library_pieces : (ms : List Parts) → AllByRecursion HasSpelling ms → pieces (library_spelling ms) ≡ map ended_piece (library_texts ms)
library_pieces ms h =
    ap pieces (sym (library_ended ms)) ∙ pieces-ended (library_texts ms)
    (list_all-append (list_all is_strict_byte) (front ms) (library_text line.End ∷ []) (modules_strict ms h) refl)

-- ---- one line

-- the line may stand in the section
abbrev Stands : LibrarySection → LibraryLine → Type 0
Stands library.Head line.Head = Unit {0}
Stands library.Between line.End = Unit {0}
Stands library.Between (line.Module l) = (stands section.Head (line_form l) ≡ true) × IsSpelled l
Stands (library.Inside s) (line.Module l) = (stands s (line_form l) ≡ true) × IsSpelled l
Stands s l = ⊥

head-words : (words : List (List ℕ)) → is_head words ≡ true → words ≡ library_words line.Head
head-words [] e = absurd cc
head-words (t ∷ []) e = absurd cc
head-words (t ∷ u ∷ []) e =
    let tests = both (bytes_eq t (codes "tlib")) (bytes_eq u (codes "1")) e in
    ap (λ w. w ∷ u ∷ []) ((bytes_eq-Decides t (codes "tlib")).0 tests.0)
    ∙ ap (λ w. codes "tlib" ∷ w ∷ []) ((bytes_eq-Decides u (codes "1")).0 tests.1)
head-words (t ∷ u ∷ v ∷ ts) e = absurd cc

last-words : (words : List (List ℕ)) → is_last words ≡ true → words ≡ library_words line.End
last-words [] e = absurd cc
last-words (t ∷ []) e = ap (λ w. w ∷ []) ((bytes_eq-Decides t (codes "endlib")).0 e)
last-words (t ∷ u ∷ ts) e = absurd cc

record IsLine (s : LibrarySection) (words : List (List ℕ)) (l : LibraryLine) : Type 0 where
  stands : Stands s l
  tokens : words ≡ library_words l

record IsModuleLine (s : Section) (words : List (List ℕ)) (l : LibraryLine) : Type 0 where
  part : Line
  is : l ≡ line.Module part
  stands : stands s (line_form part) ≡ true
  spelled : IsSpelled part
  tokens : words ≡ line_words part

module-line-found : (s : Section) (words : List (List ℕ)) (l : LibraryLine) → module_line_at s words ≡ Ok l → IsModuleLine s words l
module-line-found s words l e =
    let said = then-ok (line_at s words) (λ k. Ok (line.Module k)) l e in
    let found = line-found s words said.0 said.1 in
    let same : line.Module said.0 ≡ l = cc in
    record { part = said.0; is = sym same; stands = found.stands; spelled = found.spelled; tokens = sym found.tokens }

line-at-found : (s : LibrarySection) (words : List (List ℕ)) (l : LibraryLine) → library_line_at s words ≡ Ok l → IsLine s words l
line-at-found library.Head words l e = at (is_head words) refl e
  where
    at : (b : Bool) → is_head words ≡ b → cond {A = Result LibraryLine Cause} b (Ok line.Head) (Err (bare BadLine)) ≡ Ok l
        → IsLine library.Head words l
    at true is q =
        let same : line.Head ≡ l = cc in
        subst (IsLine library.Head words) same (record { stands = tt; tokens = head-words words is })
    at false is q = absurd cc
line-at-found library.Between words l e = at (is_last words) refl e
  where
    at : (b : Bool) → is_last words ≡ b → cond {A = Result LibraryLine Cause} b (Ok line.End) (module_line_at section.Head words) ≡ Ok l
        → IsLine library.Between words l
    at true is q =
        let same : line.End ≡ l = cc in
        subst (IsLine library.Between words) same (record { stands = tt; tokens = last-words words is })
    at false is q =
        let found = module-line-found section.Head words l q in
        subst (IsLine library.Between words) (sym found.is) (record { stands = (found.stands, found.spelled); tokens = found.tokens })
line-at-found (library.Inside s) words l e =
    let found = module-line-found s words l e in
    subst (IsLine (library.Inside s) words) (sym found.is) (record { stands = (found.stands, found.spelled); tokens = found.tokens })
line-at-found library.End words l e = absurd cc

first_is_not_last : (l : Line) → stands section.Head (line_form l) ≡ true → is_last (line_words l) ≡ false
first_is_not_last module_line.Head h = refl
first_is_not_last l h = absurd cc

line-at-only : (s : LibrarySection) (l : LibraryLine) → Stands s l → library_line_at s (library_words l) ≡ Ok l
line-at-only library.Head line.Head h = refl
line-at-only library.Between line.End h = refl
line-at-only library.Between (line.Module l) h = rw (first_is_not_last l h.0, line-only section.Head l h.0 h.1) refl
line-at-only (library.Inside s) (line.Module l) h = rw (line-only s l h.0 h.1) refl
line-at-only s l h = absurd h

words_strict : (s : LibrarySection) (l : LibraryLine) → Stands s l
    → strict_tokens (ended_piece (join_with_byte 32 (library_words l))) ≡ Ok (library_words l)
unfolding is_token_byte
words_strict s line.Head h = tokens-only (codes "tlib") (codes "1" ∷ []) refl
words_strict s line.End h = tokens-only (codes "endlib") [] refl
words_strict library.Between (line.Module l) h = tokens-only (form_word (line_form l)) (line_args l) (words-tokens l h.1)
words_strict (library.Inside s) (line.Module l) h = tokens-only (form_word (line_form l)) (line_args l) (words-tokens l h.1)
words_strict s l h = absurd h

record IsStepOver (d : DrawnLibrary) (piece : List ℕ × Bool) (e : DrawnLibrary) : Type 0 where
  line : LibraryLine
  stands : Stands d.section line
  text : piece ≡ ended_piece (library_text line)
  step : e ≡ after_library_line d line

step-found : (d e : DrawnLibrary) (piece : List ℕ × Bool) → library_step d piece ≡ Ok e → IsStepOver d piece e
step-found d e piece q =
    let tokens = then-ok (strict_tokens piece) (library_said d) e q in
    let said = then-ok (library_line_at d.section tokens.0) (λ l. Ok (after_library_line d l)) e tokens.2 in
    let cut = tokens-found piece tokens.0 tokens.1 in
    let found = line-at-found d.section tokens.0 said.0 said.1 in
    let same : after_library_line d said.0 ≡ e = cc in
    let text : piece.0 ≡ library_text said.0 = sym cut.text ∙ (ap (join_with_byte 32) found.tokens ∙ library_joined said.0) in
    record {
      line = said.0;
      stands = found.stands;
      text = ap (λ t. (t, piece.1)) text ∙ ap (λ b. (library_text said.0, b)) cut.ended;
      step = sym same;
    }

step-only : (d : DrawnLibrary) (l : LibraryLine) → Stands d.section l
    → library_step d (ended_piece (library_text l)) ≡ Ok (after_library_line d l)
step-only d l h =
    ap (λ t. library_step d (ended_piece t)) (sym (library_joined l))
    ∙ (ap (λ r. result_then r (library_said d)) (words_strict d.section l h)
    ∙ ap (λ r. result_then r (λ k. Ok (after_library_line d k))) (line-at-only d.section l h))

-- ---- the lines so far

abbrev texts_so_far : LibrarySection → DrawnLibrary → List (List ℕ)
texts_so_far library.Head d = []
texts_so_far library.Between d = front d.modules
texts_so_far (library.Inside s) d = front d.modules ++ map line_text (written s d.draft)
texts_so_far library.End d = library_texts d.modules

-- what the draft of the module holds in a section
abbrev Draws : LibrarySection → DrawnLibrary → Type 0
Draws library.Head d = (d.modules ≡ []) × (d.draft ≡ blank)
Draws library.Between d = d.draft ≡ blank
Draws (library.Inside s) d = Fresh s d.draft × All IsSpelled (written s d.draft)
Draws library.End d = Unit {0}

record Kept (d : DrawnLibrary) : Type 0 where
  spelled : All HasSpelling d.modules
  draws : Draws d.section d

record IsGrown (all : List (List ℕ)) (e : DrawnLibrary) : Type 0 where
  texts : texts_so_far e.section e ≡ all
  kept : Kept e

module-grows : (s : Section) (d : DrawnLibrary) (l : Line) → All HasSpelling d.modules → Fresh s d.draft → All IsSpelled (written s d.draft)
    → stands s (line_form l) ≡ true → IsSpelled l
    → IsGrown (front d.modules ++ map line_text (written s d.draft ++ l ∷ [])) (after_library_line d (line.Module l))
module-grows s d l modules fresh spelled h spelled_l = at (is_end (section_after (line_form l))) refl (grows s d.draft l h fresh)
  where
    lines : All IsSpelled (written s d.draft ++ l ∷ [])
    lines = All-push IsSpelled (written s d.draft) l spelled spelled_l

    at : (b : Bool) → is_end (section_after (line_form l)) ≡ b → Grows s d.draft l
        → IsGrown (front d.modules ++ map line_text (written s d.draft ++ l ∷ [])) (with_draft d (after d.draft l) b)
    at false test grow =
        record {
          texts = ap (λ ls. front d.modules ++ map line_text ls) grow.lines;
          kept = record { spelled = modules; draws = (grow.fresh, subst (All IsSpelled) (sym grow.lines) lines) };
        }
    at true test grow =
        let end : section_after (line_form l) ≡ section.End = at_end (section_after (line_form l)) test in
        let named : Fresh section.End (after d.draft l) = subst (λ u. Fresh u (after d.draft l)) end grow.fresh in
        let m : Parts = parts_with (after d.draft l) named.name in
        let is : whole (after d.draft l) ≡ Ok m = whole-at_end (after d.draft l) named.name named.is test in
        let found : IsWhole (after d.draft l) m = whole-found (after d.draft l) m is in
        let same : lines_of m ≡ written s d.draft ++ l ∷ [] =
        sym found.lines ∙ (ap (λ u. written u (after d.draft l)) (sym end) ∙ grow.lines) in
        record {
          texts = ap (λ r. front (d.modules ++ read_whole r)) is
              ∙ (front-more d.modules m ∙ ap (λ ls. front d.modules ++ map line_text ls) same);
          kept = record {
            spelled = subst (λ r. All HasSpelling (d.modules ++ read_whole r)) (sym is)
                (All-push HasSpelling d.modules m modules (subst (All IsSpelled) (sym same) lines));
            draws = refl;
          };
        }

library-grows : (d : DrawnLibrary) (l : LibraryLine) → Kept d → Stands d.section l
    → IsGrown (texts_so_far d.section d ++ library_text l ∷ []) (after_library_line d l)
library-grows d l k h = at d.section l k.draws h
  where
    at : (s : LibrarySection) (l : LibraryLine) → Draws s d → Stands s l
        → IsGrown (texts_so_far s d ++ library_text l ∷ []) (after_library_line d l)
    at library.Head line.Head draws h = record { texts = ap front draws.0; kept = record { spelled = k.spelled; draws = draws.1 } }
    at library.Between line.End draws h = record { texts = refl; kept = record { spelled = k.spelled; draws = tt } }
    at library.Between (line.Module l) draws h =
        module-grows section.Head d l k.spelled (subst (Fresh section.Head) (sym draws) fresh-blank) (All-nil IsSpelled) h.0 h.1
    at (library.Inside s) (line.Module l) draws h =
        let grown = module-grows s d l k.spelled draws.0 draws.1 h.0 h.1 in
        record {
          texts = grown.texts ∙ (ap (λ ts. front d.modules ++ ts) (map-append line_text (written s d.draft) (l ∷ []))
              ∙ sym (append_assoc (front d.modules) (map line_text (written s d.draft)) (line_text l ∷ [])));
          kept = grown.kept;
        }
    at s l draws h = absurd h

record IsWalked (d : DrawnLibrary) (ps : List (List ℕ × Bool)) (e : DrawnLibrary) : Type 0 where
  texts : List (List ℕ)
  pieces : ps ≡ map ended_piece texts
  written : texts_so_far e.section e ≡ texts_so_far d.section d ++ texts
  kept : Kept e

walked : (ps : List (List ℕ × Bool)) (d e : DrawnLibrary) → Kept d → Walks library_step d ps e → IsWalked d ps e
unfolding Walks
walked [] d e k w =
    subst (IsWalked d []) w (record { texts = []; pieces = refl; written = sym (append-nil (texts_so_far d.section d)); kept = k })
walked (p ∷ ps) d e k (u, first, rest) =
    let step = step-found d u p first in
    let grow = library-grows d step.line k step.stands in
    let more = walked ps u e (subst Kept (sym step.step) grow.kept) rest in
    let here : texts_so_far u.section u ≡ texts_so_far d.section d ++ library_text step.line ∷ [] =
    ap (λ v. texts_so_far v.section v) step.step ∙ grow.texts in
    record {
      texts = library_text step.line ∷ more.texts;
      pieces = ap (λ q. q ∷ ps) step.text ∙ ap (λ qs. ended_piece (library_text step.line) ∷ qs) more.pieces;
      written = more.written ∙ (ap (λ ts. ts ++ more.texts) here
          ∙ append_assoc (texts_so_far d.section d) (library_text step.line ∷ []) more.texts);
      kept = more.kept;
    }

-- ---- what is read is spelled

record IsFinished (d : DrawnLibrary) (ms : List Parts) : Type 0 where
  section : d.section ≡ library.End
  modules : d.modules ≡ ms

finished : (d : DrawnLibrary) (ms : List Parts) → whole_library d ≡ Ok ms → IsFinished d ms
finished d ms e = at d.section refl e
  where
    at : (s : LibrarySection) → d.section ≡ s → result_then (library_ends_at s) (λ _. Ok d.modules) ≡ Ok ms → IsFinished d ms
    at library.Head is q = absurd cc
    at library.Between is q = absurd cc
    at (library.Inside s) is q = absurd cc
    at library.End is q = let same : d.modules ≡ ms = cc in record { section = is; modules = same }

library-found : (text : List ℕ) (ms : List Parts) → library_read text ≡ Ok ms → All HasSpelling ms × (text ≡ library_spelling ms)
library-found text ms e =
    let read = walk_of library_step whole_library blank_library 0 (pieces text) ms e in
    let kept : Kept blank_library = record { spelled = All-nil HasSpelling; draws = (refl, refl) } in
    let walk = walked (pieces text) blank_library read.0 kept read.1 in
    let end = finished read.0 ms read.2 in
    let texts : walk.texts ≡ library_texts ms =
    sym walk.written ∙ (ap (λ s. texts_so_far s read.0) end.section ∙ ap library_texts end.modules) in (
      subst (All HasSpelling) end.modules walk.kept.spelled,
      sym (pieces-together text) ∙ (ap put_together walk.pieces ∙ (together-ended walk.texts
          ∙ (ap (flat_map ended) texts ∙ library_ended ms))),
    )

-- ---- and what is spelled is read

walks-joined : (ps qs : List (List ℕ × Bool)) (d e f : DrawnLibrary) → Walks library_step d ps e → Walks library_step e qs f
    → Walks library_step d (ps ++ qs) f
unfolding Walks
walks-joined [] qs d e f w v = subst (λ u. Walks library_step u qs f) (sym w) v
walks-joined (p ∷ ps) qs d e f (u, first, rest) v = (u, first, walks-joined ps qs u e f rest v)

abbrev between : List Parts → DrawnLibrary
between ms = record { section = library.Between; modules = ms; draft = blank }

abbrev inside : List Parts → LibrarySection → Drawn → DrawnLibrary
inside ms s d = record { section = s; modules = ms; draft = d }

abbrev MayStand : LibrarySection → Drawn → Type 0
MayStand s d = (l : Line) → stands d.section (line_form l) ≡ true → IsSpelled l → Stands s (line.Module l)

module _ (m : Parts) (ms : List Parts) where
  abbrev Remains : List Line → LibrarySection → Drawn → Type 0
  Remains ls s d = Walks library_step (inside ms s d) (map ended_piece (map line_text ls)) (between (ms ++ m ∷ []))

  lines-walk : (ls : List Line) (s : LibrarySection) (d : Drawn) → is_end d.section ≡ false → MayStand s d → AllByRecursion IsSpelled ls
      → Leads d ls (whole_draft m) → Remains ls s d
  unfolding Leads Walks
  lines-walk [] s d inner may all leads =
      let clash : true ≡ false = ap (λ e. is_end e.section) (sym leads) ∙ inner in
      absurd cc
  lines-walk (l ∷ ls) s d inner may (spelled, all) (h, leads) =
      at (is_end (section_after (line_form l))) refl (step-only (inside ms s d) (line.Module l) (may l h spelled))
      (λ t e i f. lines-walk ls t e i f all)
    where
      ends : (ks : List Line) → section_after (line_form l) ≡ section.End → Leads (after d l) ks (whole_draft m)
          → library_step (inside ms s d) (ended_piece (line_text l)) ≡ Ok (with_draft (inside ms s d) (after d l) true)
          → Remains (l ∷ ks) s d
      ends [] is same first = (
        with_draft (inside ms s d) (after d l) true,
        first,
        ap (λ e. with_draft (inside ms s d) e true) same,
      )
      ends (k ∷ ks) is (stands_k, more) first =
          let clash : stands section.End (line_form k) ≡ true = ap (λ t. stands t (line_form k)) (sym is) ∙ stands_k in
          absurd cc

      at : (b : Bool) → is_end (section_after (line_form l)) ≡ b
          → library_step (inside ms s d) (ended_piece (line_text l))
          ≡ Ok (with_draft (inside ms s d) (after d l) (is_end (section_after (line_form l))))
          → ((t : LibrarySection) (e : Drawn) → is_end e.section ≡ false → MayStand t e → Leads e ls (whole_draft m) → Remains ls t e)
          → Remains (l ∷ ls) s d
      at false test first more = (
        with_draft (inside ms s d) (after d l) false,
        first ∙ ap (λ b. Ok (with_draft (inside ms s d) (after d l) b)) test,
        more (library.Inside (section_after (line_form l))) (after d l) test (λ k stands_k spelled_k. (stands_k, spelled_k)) leads,
      )
      at true test first more =
          ends ls (at_end (section_after (line_form l)) test) leads (first ∙ ap (λ b. Ok (with_draft (inside ms s d) (after d l) b)) test)

  module-walk : HasSpelling m → Walks library_step (between ms) (map ended_piece (module_texts m)) (between (ms ++ m ∷ []))
  module-walk h =
      lines-walk (lines_of m) library.Between blank refl (λ l stands_l spelled. (stands_l, spelled))
      (recursion_from_All IsSpelled (lines_of m) h) (leads-module m)

modules-walk : (ms before : List Parts) → AllByRecursion HasSpelling ms
    → Walks library_step (between before) (map ended_piece (flat_map module_texts ms)) (between (before ++ ms))
unfolding Walks
modules-walk [] before h = ap between (sym (append-nil before))
modules-walk (m ∷ ms) before (h, more) =
    let rest : Walks library_step (between (before ++ m ∷ [])) (map ended_piece (flat_map module_texts ms)) (between (before ++ m ∷ ms)) =
    subst (λ all. Walks library_step (between (before ++ m ∷ [])) (map ended_piece (flat_map module_texts ms)) (between all))
    (append_assoc before (m ∷ []) ms) (modules-walk ms (before ++ m ∷ []) more) in
    subst (λ ps. Walks library_step (between before) ps (between (before ++ m ∷ ms)))
    (sym (map-append ended_piece (module_texts m) (flat_map module_texts ms)))
    (walks-joined (map ended_piece (module_texts m)) (map ended_piece (flat_map module_texts ms)) (between before)
    (between (before ++ m ∷ [])) (between (before ++ m ∷ ms)) (module-walk m before h) rest)

abbrev ended_library : List Parts → DrawnLibrary
ended_library ms = record { section = library.End; modules = ms; draft = blank }

library-walk : (ms : List Parts) → AllByRecursion HasSpelling ms
    → Walks library_step blank_library (map ended_piece (library_texts ms)) (ended_library ms)
unfolding Walks
library-walk ms h =
    let last : Walks library_step (between ms) (ended_piece (library_text line.End) ∷ []) (ended_library ms) =
    (ended_library ms, step-only (between ms) line.End tt, refl) in
    let rest = walks-joined (map ended_piece (flat_map module_texts ms)) (ended_piece (library_text line.End) ∷ [])
    (between []) (between ms)
    (ended_library ms) (modules-walk ms [] h) last in (
      between [],
      step-only blank_library line.Head tt,
      subst (λ ps. Walks library_step (between []) ps (ended_library ms))
          (sym (map-append ended_piece (flat_map module_texts ms) (library_text line.End ∷ []))) rest,
    )

library-only : (text : List ℕ) (ms : List Parts) → All HasSpelling ms × (text ≡ library_spelling ms) → library_read text ≡ Ok ms
library-only text ms (spelled, is) =
    let all = recursion_from_All HasSpelling ms spelled in
    ap library_read is
    ∙ (ap (read_lines library_step whole_library blank_library 0) (library_pieces ms all)
    ∙ of_walk library_step whole_library blank_library (ended_library ms) 0 (map ended_piece (library_texts ms)) (library-walk ms all))

-- ---- the section alone tells the fault

moves : (d : DrawnLibrary) (l : LibraryLine) → (after_library_line d l).section ≡ library_section_after l
moves d line.Head = refl
moves d (line.Module l) = at (is_end (section_after (line_form l)))
  where
    at : (b : Bool) → (with_draft d (after d.draft l) b).section ≡ cond b library.Between (library.Inside (section_after (line_form l)))
    at true = refl
    at false = refl
moves d line.End = refl

library-fault : (text : List ℕ) (fault : Fault) → library_read text ≡ Err fault → IsLibraryLineFault text fault
unfolding library_section_step
library-fault text =
    told-fault (λ d. d.section) library_line_at after_library_line library_section_after moves whole_library library_ends_at blank_library
    (pieces text) lacks
  where
    lacks : (d : DrawnLibrary) (cause : Cause) → Walks library_step blank_library (pieces text) d → whole_library d ≡ Err cause
        → library_ends_at d.section ≡ Err cause
    lacks d cause walks e = at (library_ends_at d.section) e
      where
        at : (r : Result (Unit {0}) Cause) → result_then r (λ _. Ok d.modules) ≡ Err cause → r ≡ Err cause
        at (Ok x) q = absurd cc
        at (Err why) q = cc

library-refused : (text : List ℕ) (fault : Fault) → IsLibraryLineFault text fault → library_read text ≡ Err fault
unfolding library_section_step
library-refused text =
    kept-fault (λ d. d.section) library_line_at after_library_line library_section_after moves whole_library library_ends_at blank_library
    (pieces text) (λ d cause e. ap (λ r. result_then r (λ _. Ok d.modules)) e)

-- reading the lines of a text gives the modules of the library that they spell, or the first fault of a line
pub library_reading : (text : List ℕ)
    → IsReading (λ ms. All HasSpelling ms × (text ≡ library_spelling ms)) (IsLibraryLineFault text) (library_read text)
library_reading text =
    record { found = library-found text; only = library-only text; fault = library-fault text; refused = library-refused text }
