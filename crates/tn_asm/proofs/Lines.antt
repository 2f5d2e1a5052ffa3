-- Lines that are walked are those that say what was gathered.
use Rattle.std.proofs.Common.{◌≡◌, ℕ, ◌+◌, Bool, true, false, List, [], ◌∷◌, ◌++◌, length, Some, Result, Ok, Err, refl, sym, ap, ◌∙◌, subst}
use Rattle.std.proofs.Common.{arith, append-nil, append_assoc}
use Rattle.std.proofs.lemmas.Option.{same_Some}
use Rattle.tn_text.specs.declared.faults.Cause.{Cause}
use Rattle.tn_text.specs.declared.faults.FaultCode.TheVariants.{NotAscii}
use Rattle.tn_text.specs.Faults.{bare}
use Rattle.tn_text.specs.Lines.{is_ascii_line, tokens}
use Rattle.tn_text.specs.Reading.{result_then, line_tokens, Walks}
use Rattle.tn_text.proofs.Results.{ok-ok, err-err}
use Rattle.tn_modtext.proofs.Results.{then-ok, then-of}
use Rattle.tn_asm.specs.declared.statements.Section.{Section}
use Rattle.tn_asm.specs.declared.statements.Section.TheVariants as section
use Rattle.tn_asm.specs.declared.statements.Statement.{Statement}
use Rattle.tn_asm.specs.Said.{words_said}
use Rattle.tn_asm.specs.Sources.{LineSays, LinesSay, section_behind, at_line}
use Rattle.tn_asm.specs.SourceFaults.{refusal, words_cause, line_cause}
use Rattle.tn_asm.specs.Assembling.{Gathered, with_all, words_taken, counted, source_line}
use Rattle.tn_asm.proofs.WordLaws.{words_agree}
use Rattle.tn_asm.proofs.Suiting.{words_suit}
use Rattle.tn_asm.proofs.Gathering.{so_far, section-append, Named, Grows, all_grown}

-- ---- a line

module _ (g : Gathered) (line : List ℕ) where
  line-bytes : is_ascii_line line ≡ false → source_line g line ≡ Err (bare NotAscii)
  unfolding source_line line_tokens
  line-bytes e = rw e refl

  line-words : is_ascii_line line ≡ true → source_line g line ≡ words_taken (counted g) (tokens line)
  unfolding source_line line_tokens
  line-words e = rw e refl

cause-bytes : (s : Section) (line : List ℕ) → is_ascii_line line ≡ false → line_cause s line ≡ Some (bare NotAscii)
unfolding line_cause
cause-bytes s line e = rw e refl

cause-words : (s : Section) (line : List ℕ) → is_ascii_line line ≡ true → line_cause s line ≡ words_cause s (tokens line)
unfolding line_cause
cause-words s line e = rw e refl

-- a line that says something is taken
pub record Taken (g : Gathered) (line : List ℕ) (t : Gathered) : Type 0 where
  pub here : List Statement
  pub says : LineSays g.section line here
  pub is : t ≡ with_all (counted g) here

line_found : (g t : Gathered) (line : List ℕ) → source_line g line ≡ Ok t → Taken g line t
line_found g t line e = at (is_ascii_line line) refl
  where
    at : (b : Bool) → is_ascii_line line ≡ b → Taken g line t
    at false is = absurd (let no = sym (line-bytes g line is) ∙ e in cc)
    at true is =
        let k = then-ok (words_said g.section (tokens line)) (λ xs. Ok (with_all (counted g) xs)) t (sym (line-words g line is) ∙ e) in
        record {
          here = k.0;
          says = (is, (words_agree g.section (tokens line)).found k.0 k.1);
          is = sym (ok-ok (Ok (with_all (counted g) k.0)) (with_all (counted g) k.0) t refl k.2);
        }

line_only : (g : Gathered) (line : List ℕ) (here : List Statement) → LineSays g.section line here
    → source_line g line ≡ Ok (with_all (counted g) here)
line_only g line here says =
    line-words g line says.0
    ∙ then-of (words_said g.section (tokens line)) (λ xs. Ok (with_all (counted g) xs)) here (with_all (counted g) here)
    ((words_agree g.section (tokens line)).only here says.1) refl

-- what is refused has a cause, and what has a cause is refused
refused_is : {A B : Type 0} (r : Result A Cause) (f : A → B) (cause : Cause) → result_then r (λ a. Ok (f a)) ≡ Err cause
    → refusal r ≡ Some cause
refused_is (Ok a) f cause e = absurd cc
refused_is {A} {B} (Err why) f cause e = let r : Result B Cause = Err why in ap Some (err-err r why cause refl e)

is_refused : {A B : Type 0} (r : Result A Cause) (f : A → B) (cause : Cause) → refusal r ≡ Some cause
    → result_then r (λ a. Ok (f a)) ≡ Err cause
is_refused (Ok a) f cause e = absurd cc
is_refused (Err why) f cause e = ap Err (same_Some why cause e)

pub line_wrong : (g : Gathered) (line : List ℕ) (cause : Cause) → source_line g line ≡ Err cause → line_cause g.section line ≡ Some cause
line_wrong g line cause e = at (is_ascii_line line) refl
  where
    at : (b : Bool) → is_ascii_line line ≡ b → line_cause g.section line ≡ Some cause
    at false is =
        cause-bytes g.section line is ∙ ap Some (err-err (source_line g line) (bare NotAscii) cause (line-bytes g line is) e)
    at true is =
        cause-words g.section line is ∙ (sym (words_agree g.section (tokens line)).refused
        ∙ refused_is (words_said g.section (tokens line)) (with_all (counted g)) cause (sym (line-words g line is) ∙ e))

pub wrong_line : (g : Gathered) (line : List ℕ) (cause : Cause) → line_cause g.section line ≡ Some cause → source_line g line ≡ Err cause
wrong_line g line cause e = at (is_ascii_line line) refl
  where
    at : (b : Bool) → is_ascii_line line ≡ b → source_line g line ≡ Err cause
    at false is = line-bytes g line is ∙ ap Err (same_Some (bare NotAscii) cause (sym (cause-bytes g.section line is) ∙ e))
    at true is =
        line-words g line is ∙ is_refused (words_said g.section (tokens line)) (with_all (counted g)) cause
        ((words_agree g.section (tokens line)).refused ∙ (sym (cause-words g.section line is) ∙ e))

-- ---- lines

-- a line's statements are gathered behind those of the lines before
line_grows : (n : ℕ) (said : List (ℕ × Statement)) (line : List ℕ) (here : List Statement) → Named said
    → LineSays (section_behind section.Head said) line here → Grows (n + 1) said here
line_grows n said line here named says =
    all_grown (n + 1) said here named (words_suit (section_behind section.Head said) (tokens line) here says.1)

-- lines say what was gathered from them
pub record Walked (n : ℕ) (said : List (ℕ × Statement)) (ls : List (List ℕ)) (t : Gathered) : Type 0 where
  pub below : List (ℕ × Statement)
  pub say : LinesSay (section_behind section.Head said) n ls below
  pub is : t ≡ so_far (n + length ls) (said ++ below)
  pub named : Named (said ++ below)

pub walked : (ls : List (List ℕ)) (n : ℕ) (said : List (ℕ × Statement)) (t : Gathered) → Named said
    → Walks source_line (so_far n said) ls t → Walked n said ls t
unfolding Walks LinesSay
walked [] n said t named w =
    let at : n + 0 ≡ n = omega arith in
    record {
      below = [];
      say = refl;
      is = sym w ∙ (ap (λ k. so_far k said) (sym at) ∙ ap (so_far (n + 0)) (sym (append-nil said)));
      named = subst Named (sym (append-nil said)) named;
    }
walked (line ∷ ls) n said t named w =
    let first = line_found (so_far n said) w.0 line w.1 in
    let grows = line_grows n said line first.here named first.says in
    let more = said ++ at_line (n + 1) first.here in
    let rest = walked ls (n + 1) more t grows.named (subst (λ g. Walks source_line g ls t) (first.is ∙ grows.is) w.2) in
    let at : (n + 1) + length ls ≡ n + length (line ∷ ls) = omega arith in
    let joined : more ++ rest.below ≡ said ++ (at_line (n + 1) first.here ++ rest.below) =
    append_assoc said (at_line (n + 1) first.here) rest.below in
    record {
      below = at_line (n + 1) first.here ++ rest.below;
      say = (
        first.here,
        rest.below,
        first.says,
        subst (λ s. LinesSay s (n + 1) ls rest.below) (section-append section.Head said (at_line (n + 1) first.here)) rest.say,
        refl,
      );
      is = rest.is ∙ (ap (λ k. so_far k (more ++ rest.below)) at ∙ ap (so_far (n + length (line ∷ ls))) joined);
      named = subst Named joined rest.named;
    }

-- and what they say is gathered from them
pub record Walk (n : ℕ) (said : List (ℕ × Statement)) (ls : List (List ℕ)) (below : List (ℕ × Statement)) : Type 0 where
  pub walks : Walks source_line (so_far n said) ls (so_far (n + length ls) (said ++ below))
  pub named : Named (said ++ below)

pub walk_of_says : (ls : List (List ℕ)) (n : ℕ) (said below : List (ℕ × Statement)) → Named said
    → LinesSay (section_behind section.Head said) n ls below → Walk n said ls below
unfolding Walks LinesSay
walk_of_says [] n said below named say =
    let at : n + 0 ≡ n = omega arith in
    let joined : said ≡ said ++ below = sym (ap (λ b. said ++ b) say ∙ append-nil said) in
    record { walks = ap (λ k. so_far k said) (sym at) ∙ ap (so_far (n + 0)) joined; named = subst Named joined named }
walk_of_says (line ∷ ls) n said below named (here, rest, says, more, is) =
    let grows = line_grows n said line here named says in
    let front = said ++ at_line (n + 1) here in
    let walk = walk_of_says ls (n + 1) front rest grows.named
    (subst (λ s. LinesSay s (n + 1) ls rest) (sym (section-append section.Head said (at_line (n + 1) here))) more) in
    let at : (n + 1) + length ls ≡ n + length (line ∷ ls) = omega arith in
    let joined : front ++ rest ≡ said ++ below =
    append_assoc said (at_line (n + 1) here) rest ∙ ap (λ b. said ++ b) (sym is) in
    record {
      walks = (
        so_far (n + 1) front,
        line_only (so_far n said) line here says ∙ ap Ok grows.is,
        subst (Walks source_line (so_far (n + 1) front) ls)
            (ap (λ k. so_far k (front ++ rest)) at ∙ ap (so_far (n + length (line ∷ ls))) joined) walk.walks,
      );
      named = subst Named joined walk.named;
    }
