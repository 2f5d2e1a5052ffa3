-- A line says nothing, or a statement that may stand there, or something is wrong with it.
use Rattle.std.proofs.Common.{◌≡◌, ℕ, ◌+◌, ◌⊎◌, inl, inr, Bool, true, false, List, [], ◌∷◌, Option, Some, None, Ok, Err}
use Rattle.std.proofs.Common.{refl, sym, ap, ◌∙◌}
use Rattle.tn_text.specs.declared.faults.Cause.{Cause}
use Rattle.tn_text.specs.declared.faults.FaultCode.TheVariants.{NotAscii, BadLine}
use Rattle.tn_text.specs.Faults.{bare}
use Rattle.tn_text.specs.Lines.{is_ascii_line, tokens}
use Rattle.tn_text.specs.Reading.{result_then, line_tokens}
use Rattle.tn_config.specs.declared.keywords.Keyword.{Keyword}
use Rattle.tn_config.specs.declared.statements.Statement.{Statement}
use Rattle.tn_config.specs.Keywords.{keyword_named}
use Rattle.tn_config.specs.Statements.{keyword_of, WordsSay, LineSays, statement_said}
use Rattle.tn_config.specs.SoFar.{ReaderState}
use Rattle.tn_config.specs.ConfigFaults.{may_stand, lack_at, places, or_else, arguments_cause, statement_cause, words_cause, line_cause}
use Rattle.tn_config.specs.ConfigReading.{take, words_said, counted, take_words, config_line}
use Rattle.tn_config.proofs.Arguments.{GoodArguments, WrongArguments, arguments_read, said_of}

-- the line says nothing
pub record Silent (s : ReaderState) (line : List ℕ) : Type 0 where
  pub says : LineSays (s.lines + 1) line []
  pub read : config_line s line ≡ Ok (counted s)
  pub fine : line_cause s line ≡ None

-- it says a statement that may stand there
pub record Telling (s : ReaderState) (line : List ℕ) : Type 0 where
  pub told : Statement
  pub says : LineSays (s.lines + 1) line ((s.lines + 1, told) ∷ [])
  pub stands : may_stand s (keyword_of told) ≡ true
  pub read : config_line s line ≡ take (counted s) told
  pub lacking : line_cause s line ≡ lack_at s.draft (keyword_of told)

-- something is wrong with it
pub record Wrong (s : ReaderState) (line : List ℕ) : Type 0 where
  pub cause : Cause
  pub read : config_line s line ≡ Err cause
  pub wrong : line_cause s line ≡ Some cause

line_tokens-bytes : (line : List ℕ) → is_ascii_line line ≡ false → line_tokens line ≡ Err (bare NotAscii)
unfolding line_tokens
line_tokens-bytes line e = rw e refl

line_tokens-ascii : (line : List ℕ) → is_ascii_line line ≡ true → line_tokens line ≡ Ok (tokens line)
unfolding line_tokens
line_tokens-ascii line e = rw e refl

line_cause-bytes : (s : ReaderState) (line : List ℕ) → is_ascii_line line ≡ false → line_cause s line ≡ Some (bare NotAscii)
unfolding line_cause
line_cause-bytes s line e = rw e refl

line_cause-tokens : (s : ReaderState) (line : List ℕ) → is_ascii_line line ≡ true → line_cause s line ≡ words_cause s (tokens line)
unfolding line_cause
line_cause-tokens s line e = rw e refl

config_line-bytes : (s : ReaderState) (line : List ℕ) → is_ascii_line line ≡ false → config_line s line ≡ Err (bare NotAscii)
unfolding config_line
config_line-bytes s line e = ap (λ r. result_then r (take_words (counted s))) (line_tokens-bytes line e)

config_line-tokens : (s : ReaderState) (line : List ℕ) → is_ascii_line line ≡ true
    → config_line s line ≡ take_words (counted s) (tokens line)
unfolding config_line
config_line-tokens s line e = ap (λ r. result_then r (take_words (counted s))) (line_tokens-ascii line e)

-- a statement may stand there on the next line where it may on this
may_stand-counted : (s : ReaderState) (k : Keyword) → may_stand (counted s) k ≡ may_stand s k
unfolding may_stand
may_stand-counted s k = refl

-- the first statement of a list that has one
abbrev first_said : Statement → List (ℕ × Statement) → Statement
first_said st [] = st
first_said st (p ∷ ps) = p.1

module _ (s : ReaderState) (line : List ℕ) where
  module _ (ascii : is_ascii_line line ≡ true) (word : List ℕ) (ts : List (List ℕ)) (are : tokens line ≡ word ∷ ts) where
    read_is : config_line s line ≡ result_then (words_said (counted s) word ts) (take (counted s))
    read_is = config_line-tokens s line ascii ∙ ap (take_words (counted s)) are

    cause_is : line_cause s line ≡ statement_cause s (keyword_named word) ts
    cause_is = line_cause-tokens s line ascii ∙ ap (words_cause s) are

    -- the word is no keyword that may stand there
    misplaced : words_said (counted s) word ts ≡ Err (bare BadLine) → statement_cause s (keyword_named word) ts ≡ Some (bare BadLine)
        → Wrong s line
    misplaced r w =
        record {
          cause = bare BadLine;
          read = read_is ∙ ap (λ r. result_then r (take (counted s))) r;
          wrong = cause_is ∙ w;
        }

    no_keyword : keyword_named word ≡ None → Wrong s line
    unfolding words_said
    no_keyword e = misplaced (rw e refl) (rw e refl)

    module _ (k : Keyword) (e : keyword_named word ≡ Some k) where
      may_not : may_stand s k ≡ false → Wrong s line
      unfolding words_said
      may_not f = misplaced (rw (e, may_stand-counted s k, f) refl) (rw (e, f) refl)

      module _ (f : may_stand s k ≡ true) where
        said_is : words_said (counted s) word ts ≡ statement_said k ts
        unfolding words_said
        said_is = rw (e, may_stand-counted s k, f) refl

        cause_told : statement_cause s (keyword_named word) ts ≡ or_else (arguments_cause (places k) ts) (lack_at s.draft k)
        cause_told = rw (e, f) refl

        told : GoodArguments k ts → Telling s line
        told g = record {
          told = g.s;
          says = (ascii, rw are (g.s, e ∙ ap Some (sym g.kind), g.says, refl));
          stands = ap (may_stand s) g.kind ∙ f;
          read = read_is ∙ ap (λ r. result_then r (take (counted s))) (said_is ∙ g.read);
          lacking =
              cause_is ∙ (cause_told ∙ (ap (λ c. or_else c (lack_at s.draft k)) g.fine ∙ ap (lack_at s.draft) (sym g.kind)));
        }

        ill_told : WrongArguments k ts → Wrong s line
        ill_told w = record {
          cause = w.cause;
          read = read_is ∙ ap (λ r. result_then r (take (counted s))) (said_is ∙ w.read);
          wrong = cause_is ∙ (cause_told ∙ ap (λ c. or_else c (lack_at s.draft k)) w.wrong);
        }

        read_told : GoodArguments k ts ⊎ WrongArguments k ts → Silent s line ⊎ (Telling s line ⊎ Wrong s line)
        read_told (inl g) = inr (inl (told g))
        read_told (inr w) = inr (inr (ill_told w))

      by_place : (b : Bool) → may_stand s k ≡ b → Silent s line ⊎ (Telling s line ⊎ Wrong s line)
      by_place true f = read_told f (arguments_read k ts)
      by_place false f = inr (inr (may_not f))

    by_keyword : (o : Option Keyword) → keyword_named word ≡ o → Silent s line ⊎ (Telling s line ⊎ Wrong s line)
    by_keyword None e = inr (inr (no_keyword e))
    by_keyword (Some k) e = by_place k e (may_stand s k) refl

  -- any line
  pub line_read : Silent s line ⊎ (Telling s line ⊎ Wrong s line)
  line_read = at (is_ascii_line line) refl
    where
      by : (ws : List (List ℕ)) → tokens line ≡ ws → is_ascii_line line ≡ true → Silent s line ⊎ (Telling s line ⊎ Wrong s line)
      by [] are e =
          inl (record {
            says = (e, rw are refl);
            read = config_line-tokens s line e ∙ ap (take_words (counted s)) are;
            fine = line_cause-tokens s line e ∙ ap (words_cause s) are;
          })
      by (word ∷ ts) are e = by_keyword e word ts are (keyword_named word) refl

      at : (b : Bool) → is_ascii_line line ≡ b → Silent s line ⊎ (Telling s line ⊎ Wrong s line)
      at false e =
          inr (inr (record { cause = bare NotAscii; read = config_line-bytes s line e; wrong = line_cause-bytes s line e }))
      at true e = by (tokens line) refl e

  -- a line that says nothing is read so
  pub silent_read : LineSays (s.lines + 1) line [] → config_line s line ≡ Ok (counted s)
  silent_read says = at (tokens line) refl says.1
    where
      at : (ws : List (List ℕ)) → tokens line ≡ ws → WordsSay (s.lines + 1) ws [] → config_line s line ≡ Ok (counted s)
      at [] are w = config_line-tokens s line says.0 ∙ ap (take_words (counted s)) are
      at (word ∷ ts) are (st, e, h, is) = absurd cc

  -- a line that says a statement that may stand there is read so
  pub telling_read : (n : ℕ) (st : Statement) → LineSays (s.lines + 1) line ((n, st) ∷ []) → may_stand s (keyword_of st) ≡ true
      → config_line s line ≡ take (counted s) st
  telling_read n st says stands = at (tokens line) refl says.1
    where
      at : (ws : List (List ℕ)) → tokens line ≡ ws → WordsSay (s.lines + 1) ws ((n, st) ∷ [])
          → config_line s line ≡ take (counted s) st
      at [] are w = absurd cc
      at (word ∷ ts) are (st2, e, h, is) =
          let same : st ≡ st2 = ap (first_said st) is in
          let may : may_stand s (keyword_of st2) ≡ true = ap (λ x. may_stand s (keyword_of x)) (sym same) ∙ stands in
          read_is says.0 word ts are
          ∙ (ap (λ r. result_then r (take (counted s))) (said_is says.0 word ts are (keyword_of st2) e may ∙ said_of ts st2 h)
          ∙ ap (take (counted s)) (sym same))
