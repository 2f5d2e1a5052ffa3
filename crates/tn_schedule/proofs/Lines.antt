-- A line says nothing, or a statement that may stand there, or something is wrong with it.
use Rattle.std.proofs.Common.{◌≡◌, ℕ, ◌+◌, ◌⊎◌, inl, inr, Bool, true, false, List, [], ◌∷◌, Option, Some, None, Ok, Err}
use Rattle.std.proofs.Common.{refl, sym, ap, ◌∙◌}
use Rattle.tn_text.specs.declared.faults.Cause.{Cause}
use Rattle.tn_text.specs.declared.faults.FaultCode.TheVariants.{NotAscii, BadLine}
use Rattle.tn_text.specs.Faults.{bare}
use Rattle.tn_text.specs.Lines.{is_ascii_line, tokens}
use Rattle.tn_text.specs.Reading.{result_then, line_tokens}
use Rattle.tn_schedule.specs.declared.keywords.Keyword.{Keyword}
use Rattle.tn_schedule.specs.declared.statements.Statement.{Statement}
use Rattle.tn_schedule.specs.Keywords.{keyword_named}
use Rattle.tn_schedule.specs.Statements.{keyword_of, WordsSay, LineSays, statement_said}
use Rattle.tn_schedule.specs.Schedules.{may_stand}
use Rattle.tn_schedule.specs.ScheduleFaults.{statement_cause, words_cause, line_cause, arguments_cause}
use Rattle.tn_schedule.specs.ScheduleReading.{ReaderState, take, words_said, counted, take_words, schedule_line}
use Rattle.tn_schedule.proofs.Arguments.{GoodArguments, WrongArguments, arguments_read, said_of}

-- the line says nothing
pub record Silent (names : List (List ℕ)) (s : ReaderState) (line : List ℕ) : Type 0 where
  pub says : LineSays names (s.lines + 1) line []
  pub read : schedule_line names s line ≡ Ok (counted s)
  pub fine : line_cause names s.first line ≡ None

-- it says a statement that may stand there
pub record Telling (names : List (List ℕ)) (s : ReaderState) (line : List ℕ) : Type 0 where
  pub told : Statement
  pub says : LineSays names (s.lines + 1) line ((s.lines + 1, told) ∷ [])
  pub stands : may_stand s.first (keyword_of told) ≡ true
  pub read : schedule_line names s line ≡ Ok (take (counted s) told)
  pub fine : line_cause names s.first line ≡ None

-- something is wrong with it
pub record Wrong (names : List (List ℕ)) (s : ReaderState) (line : List ℕ) : Type 0 where
  pub cause : Cause
  pub read : schedule_line names s line ≡ Err cause
  pub wrong : line_cause names s.first line ≡ Some cause

line_tokens-bytes : (line : List ℕ) → is_ascii_line line ≡ false → line_tokens line ≡ Err (bare NotAscii)
unfolding line_tokens
line_tokens-bytes line e = rw e refl

line_tokens-ascii : (line : List ℕ) → is_ascii_line line ≡ true → line_tokens line ≡ Ok (tokens line)
unfolding line_tokens
line_tokens-ascii line e = rw e refl

-- the first statement of a list that has one
abbrev first_said : Statement → List (ℕ × Statement) → Statement
first_said st [] = st
first_said st (p ∷ ps) = p.1

module _ (names : List (List ℕ)) (s : ReaderState) (line : List ℕ) where
  abbrev Any : Type 0
  Any = Silent names s line ⊎ (Telling names s line ⊎ Wrong names s line)

  line_cause-bytes : is_ascii_line line ≡ false → line_cause names s.first line ≡ Some (bare NotAscii)
  unfolding line_cause
  line_cause-bytes e = rw e refl

  line_cause-tokens : is_ascii_line line ≡ true → line_cause names s.first line ≡ words_cause names s.first (tokens line)
  unfolding line_cause
  line_cause-tokens e = rw e refl

  schedule_line-bytes : is_ascii_line line ≡ false → schedule_line names s line ≡ Err (bare NotAscii)
  unfolding schedule_line
  schedule_line-bytes e = ap (λ r. result_then r (take_words names (counted s))) (line_tokens-bytes line e)

  schedule_line-tokens : is_ascii_line line ≡ true → schedule_line names s line ≡ take_words names (counted s) (tokens line)
  unfolding schedule_line
  schedule_line-tokens e = ap (λ r. result_then r (take_words names (counted s))) (line_tokens-ascii line e)

  module _ (ascii : is_ascii_line line ≡ true) (word : List ℕ) (ts : List (List ℕ)) (are : tokens line ≡ word ∷ ts) where
    read_is : schedule_line names s line ≡ result_then (words_said names s.first word ts) (λ x. Ok (take (counted s) x))
    read_is = schedule_line-tokens ascii ∙ ap (take_words names (counted s)) are

    cause_is : line_cause names s.first line ≡ statement_cause names s.first (keyword_named word) ts
    cause_is = line_cause-tokens ascii ∙ ap (words_cause names s.first) are

    -- the word is no keyword that may stand there
    misplaced : words_said names s.first word ts ≡ Err (bare BadLine)
        → statement_cause names s.first (keyword_named word) ts ≡ Some (bare BadLine) → Wrong names s line
    misplaced r w =
        record {
          cause = bare BadLine;
          read = read_is ∙ ap (λ r. result_then r (λ x. Ok (take (counted s) x))) r;
          wrong = cause_is ∙ w;
        }

    no_keyword : keyword_named word ≡ None → Wrong names s line
    unfolding words_said
    no_keyword e = misplaced (rw e refl) (rw e refl)

    module _ (k : Keyword) (e : keyword_named word ≡ Some k) where
      may_not : may_stand s.first k ≡ false → Wrong names s line
      unfolding words_said
      may_not f = misplaced (rw (e, f) refl) (rw (e, f) refl)

      module _ (f : may_stand s.first k ≡ true) where
        said_is : words_said names s.first word ts ≡ statement_said names k ts
        unfolding words_said
        said_is = rw (e, f) refl

        cause_told : statement_cause names s.first (keyword_named word) ts ≡ arguments_cause names k ts
        cause_told = rw (e, f) refl

        told : GoodArguments names k ts → Telling names s line
        told g =
            record {
              told = g.s;
              says = (ascii, rw are (g.s, e ∙ ap Some (sym g.kind), g.says, refl));
              stands = ap (may_stand s.first) g.kind ∙ f;
              read = read_is ∙ ap (λ r. result_then r (λ x. Ok (take (counted s) x))) (said_is ∙ g.read);
              fine = cause_is ∙ (cause_told ∙ g.fine);
            }

        ill_told : WrongArguments names k ts → Wrong names s line
        ill_told w =
            record {
              cause = w.cause;
              read = read_is ∙ ap (λ r. result_then r (λ x. Ok (take (counted s) x))) (said_is ∙ w.read);
              wrong = cause_is ∙ (cause_told ∙ w.wrong);
            }

        read_told : GoodArguments names k ts ⊎ WrongArguments names k ts → Any
        read_told (inl g) = inr (inl (told g))
        read_told (inr w) = inr (inr (ill_told w))

      by_place : (b : Bool) → may_stand s.first k ≡ b → Any
      by_place true f = read_told f (arguments_read names k ts)
      by_place false f = inr (inr (may_not f))

    by_keyword : (o : Option Keyword) → keyword_named word ≡ o → Any
    by_keyword None e = inr (inr (no_keyword e))
    by_keyword (Some k) e = by_place k e (may_stand s.first k) refl

  -- any line
  pub line_read : Silent names s line ⊎ (Telling names s line ⊎ Wrong names s line)
  line_read = at (is_ascii_line line) refl
    where
      by : (ws : List (List ℕ)) → tokens line ≡ ws → is_ascii_line line ≡ true → Any
      by [] are e =
          inl (record {
            says = (e, rw are refl);
            read = schedule_line-tokens e ∙ ap (take_words names (counted s)) are;
            fine = line_cause-tokens e ∙ ap (words_cause names s.first) are;
          })
      by (word ∷ ts) are e = by_keyword e word ts are (keyword_named word) refl

      at : (b : Bool) → is_ascii_line line ≡ b → Any
      at false e = inr (inr (record { cause = bare NotAscii; read = schedule_line-bytes e; wrong = line_cause-bytes e }))
      at true e = by (tokens line) refl e

  -- a line that says nothing is read so
  pub silent_read : LineSays names (s.lines + 1) line [] → schedule_line names s line ≡ Ok (counted s)
  silent_read says = at (tokens line) refl says.1
    where
      at : (ws : List (List ℕ)) → tokens line ≡ ws → WordsSay names (s.lines + 1) ws [] → schedule_line names s line ≡ Ok (counted s)
      at [] are w = schedule_line-tokens says.0 ∙ ap (take_words names (counted s)) are
      at (word ∷ ts) are (st, e, h, is) = absurd cc

  -- a line that says a statement that may stand there is read so
  pub telling_read : (n : ℕ) (st : Statement) → LineSays names (s.lines + 1) line ((n, st) ∷ [])
      → may_stand s.first (keyword_of st) ≡ true → schedule_line names s line ≡ Ok (take (counted s) st)
  telling_read n st says stands = at (tokens line) refl says.1
    where
      at : (ws : List (List ℕ)) → tokens line ≡ ws → WordsSay names (s.lines + 1) ws ((n, st) ∷ [])
          → schedule_line names s line ≡ Ok (take (counted s) st)
      at [] are w = absurd cc
      at (word ∷ ts) are (st2, e, h, is) =
          let same : st ≡ st2 = ap (first_said st) is in
          let may : may_stand s.first (keyword_of st2) ≡ true = ap (λ x. may_stand s.first (keyword_of x)) (sym same) ∙ stands in
          read_is says.0 word ts are
          ∙ (ap (λ r. result_then r (λ x. Ok (take (counted s) x)))
          (said_is says.0 word ts are (keyword_of st2) e may ∙ said_of names ts st2 h)
          ∙ ap (λ x. Ok (take (counted s) x)) (sym same))
