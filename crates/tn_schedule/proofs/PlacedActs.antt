-- A schedule that a text stands for has few acts, and those that print are of processors.
use Rattle.std.proofs.Common.{◌≡◌, ℕ, suc, ◌+◌, ◌<◌, ◌≤◌, List, [], ◌∷◌, ◌++◌, length, All, sym, ap, ◌∙◌, subst, arith}
use Rattle.std.specs.List.{filter_map}
use Rattle.std.specs.Str.{bytes_eq}
use Rattle.std.specs.Str.Lines.{lines}
use Rattle.std.proofs.lemmas.List.Elements.{All-nil, All-cons}
use Rattle.std.proofs.lemmas.List.Quantifiers.{position-Some}
use Rattle.tn_text.specs.declared.limits.TheConstants.{LINE_LIMIT}
use Rattle.tn_text.specs.Lines.{tokens}
use Rattle.tn_schedule.specs.declared.acts.Act.{Act}
use Rattle.tn_schedule.specs.declared.acts.Act.TheVariants as act
use Rattle.tn_schedule.specs.declared.acts.Line.{Line}
use Rattle.tn_schedule.specs.declared.statements.Statement.{Statement}
use Rattle.tn_schedule.specs.declared.statements.Statement.TheVariants as statement
use Rattle.tn_schedule.specs.Places.{IsProcessor}
use Rattle.tn_schedule.specs.Statements.{ArgumentsSay, WordsSay, LinesSay}
use Rattle.tn_schedule.specs.Schedules.{ScheduleState, IsPlaced, act_in, IsSchedule}

module _ (names : List (List ℕ)) where
  abbrev Placed : Line → Type 0
  Placed line = IsPlaced (length names) line.act

  -- few acts, all of them placed
  record FewPlaced (said : List (ℕ × Statement)) (most : ℕ) : Type 0 where
    placed : All Placed (filter_map act_in said)
    few : length (filter_map act_in said) ≤ most

  within : (name : List ℕ) (p : ℕ) → IsProcessor names name p → p < length names
  within name p is = (position-Some (λ n. bytes_eq n name) names p [] is).0

  act_placed : (arguments : List (List ℕ)) (a : Act) → ArgumentsSay names arguments (statement.Does a) → IsPlaced (length names) a
  unfolding ArgumentsSay
  act_placed arguments (act.Pick x) says = tt
  act_placed arguments (act.Settle most back) says = tt
  act_placed arguments act.Release says = tt
  act_placed arguments (act.Show p) says = within says.0 p says.2
  act_placed arguments (act.Links p) says = within says.0 p says.2
  act_placed arguments (act.Word p address) says = within says.0 p says.2
  act_placed arguments act.Host says = tt
  act_placed arguments (act.Got place) says = tt
  act_placed arguments act.Steps says = tt
  act_placed arguments act.Same says = tt

  one_placed : (number : ℕ) (s : Statement) (arguments : List (List ℕ)) (below : List (ℕ × Statement)) (most : ℕ)
      → ArgumentsSay names arguments s → FewPlaced below most → FewPlaced ((number, s) ∷ below) (suc most)
  one_placed number (statement.Power byte error halt) arguments below most says others =
      let few = others.few in record { placed = others.placed; few = omega (arith, few) }
  one_placed number (statement.Does a) arguments below most says others =
      let few = others.few in
      record {
        placed = All-cons Placed (record { line = number; act = a }) (filter_map act_in below) (act_placed arguments a says) others.placed;
        few = omega (arith, few);
      }

  words_placed : (number : ℕ) (ts : List (List ℕ)) (here below said : List (ℕ × Statement)) (most : ℕ) → WordsSay names number ts here
      → said ≡ here ++ below → FewPlaced below most → FewPlaced said (suc most)
  words_placed number [] here below said most says are others =
      let same : below ≡ said = sym (are ∙ ap (λ (h : List (ℕ × Statement)). h ++ below) says) in
      let few = others.few in
      subst (λ (x : List (ℕ × Statement)). FewPlaced x (suc most)) same (record { placed = others.placed; few = omega (arith, few) })
  words_placed number (word ∷ arguments) here below said most says are others =
      subst (λ (x : List (ℕ × Statement)). FewPlaced x (suc most))
      (sym (are ∙ ap (λ (h : List (ℕ × Statement)). h ++ below) says.3))
      (one_placed number says.0 arguments below most says.2 others)

  lines_placed : (n : ℕ) (ls : List (List ℕ)) (said : List (ℕ × Statement)) → LinesSay names n ls said → FewPlaced said (length ls)
  unfolding LinesSay
  lines_placed n [] said says =
      subst (λ (x : List (ℕ × Statement)). FewPlaced x 0) (sym says) (record { placed = All-nil Placed; few = omega arith })
  lines_placed n (line ∷ ls) said says =
      words_placed (n + 1) (tokens line) says.0 says.1 said (length ls) says.2.1 says.4 (lines_placed (n + 1) ls says.1 says.3)

  pub acts_placed : (text : List ℕ) (s : ScheduleState) → IsSchedule names text s → All Placed s.lines
  acts_placed text s is =
      subst (λ (x : List Line). All Placed x) (sym is.1.acts) (lines_placed 0 (lines text) is.1.said is.1.say).placed

  pub acts_few : (text : List ℕ) (s : ScheduleState) → IsSchedule names text s → length s.lines ≤ LINE_LIMIT
  acts_few text s is =
      let few = (lines_placed 0 (lines text) is.1.said is.1.say).few in
      let same : length s.lines ≡ length (filter_map act_in is.1.said) = ap (λ (x : List Line). length x) is.1.acts in
      let limit = is.0 in
      omega (arith, few, same, limit)
