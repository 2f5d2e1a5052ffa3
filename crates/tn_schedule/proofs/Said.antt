-- What lines say, and what reading them one after the other makes of it.
use Rattle.std.proofs.Common.{◌≡◌, ℕ, ◌+◌, ◌⊎◌, inl, inr, true, false, List, [], ◌∷◌, ◌++◌, length}
use Rattle.std.proofs.Common.{Ok, refl, sym, ap, ◌∙◌, subst, append_assoc, append-nil, arith}
use Rattle.std.specs.List.{filter_map}
use Rattle.tn_text.specs.Lines.{tokens}
use Rattle.tn_text.specs.Reading.{Walks}
use Rattle.tn_text.proofs.Results.{ok-ok, ok-err}
use Rattle.tn_schedule.specs.declared.statements.Statement.{Statement}
use Rattle.tn_schedule.specs.declared.statements.Statement.TheVariants as statement
use Rattle.tn_schedule.specs.Statements.{WordsSay, LineSays, LinesSay}
use Rattle.tn_schedule.specs.Schedules.{may_stand, AllStand, act_in, power_in}
use Rattle.tn_schedule.specs.ScheduleFaults.{is_silent}
use Rattle.tn_schedule.specs.ScheduleReading.{ReaderState, nothing_read, take, counted, schedule_line}
use Rattle.tn_schedule.proofs.Lines.{Silent, Telling, Wrong, line_read, silent_read, telling_read}

-- the same said on so many lines
abbrev pub at_line : ℕ → ReaderState → ReaderState
at_line n s = record s { lines = n }

-- one statement after the other is taken, each on its line
abbrev pub taken : ReaderState → List (ℕ × Statement) → ReaderState
taken s [] = s
taken s (p ∷ said) = taken (take (at_line p.0 s) p.1) said

pub take_line : (s : ReaderState) (x : Statement) → (take s x).lines ≡ s.lines
unfolding take
take_line s (statement.Power byte error halt) = refl
take_line s (statement.Does a) = refl

take_first : (s : ReaderState) (x : Statement) → (take s x).first ≡ false
unfolding take
take_first s (statement.Power byte error halt) = refl
take_first s (statement.Does a) = refl

-- the number of lines does not matter where a statement is taken on its own
taken_at : (n m : ℕ) (s : ReaderState) (said : List (ℕ × Statement)) → at_line n (taken (at_line m s) said) ≡ at_line n (taken s said)
taken_at n m s [] = refl
taken_at n m s (p ∷ said) = refl

-- what a line says is nothing or one statement
data SaysHere (n : ℕ) (here : List (ℕ × Statement)) : Type 0 where
  nothing : here ≡ [] → SaysHere n here
  something : (s : Statement) → here ≡ (n, s) ∷ [] → SaysHere n here

says_here : (names : List (List ℕ)) (n : ℕ) (words : List (List ℕ)) (here : List (ℕ × Statement)) → WordsSay names n words here
    → SaysHere n here
says_here names n [] here w = nothing w
says_here names n (word ∷ ts) here (s, e, h, is) = something s is

-- lines that were walked say statements, each where it may stand
pub says_of_walk : (names : List (List ℕ)) (ls : List (List ℕ)) (s t : ReaderState) → Walks (schedule_line names) s ls t
    → (said : List (ℕ × Statement)) × LinesSay names s.lines ls said × AllStand s.first said
    × (t ≡ at_line (s.lines + length ls) (taken s said))
unfolding Walks LinesSay AllStand
says_of_walk names [] s t w =
    let here : s.lines ≡ s.lines + 0 = omega arith in ([], refl, tt, sym w ∙ ap (λ n. at_line n s) here)
says_of_walk names (line ∷ ls) s t w = at (line_read names s line) (says_of_walk names ls w.0 t w.2)
  where
    longer : (s.lines + 1) + length ls ≡ s.lines + length (line ∷ ls)
    longer = omega arith

    at : Silent names s line ⊎ (Telling names s line ⊎ Wrong names s line)
        → (said : List (ℕ × Statement)) × LinesSay names w.0.lines ls said × AllStand w.0.first said
        × (t ≡ at_line (w.0.lines + length ls) (taken w.0 said))
        → (said : List (ℕ × Statement)) × LinesSay names s.lines (line ∷ ls) said × AllStand s.first said
        × (t ≡ at_line (s.lines + length (line ∷ ls)) (taken s said))
    at (inl q) (said, says, stand, is) =
        let same : w.0 ≡ counted s = ok-ok (schedule_line names s line) w.0 (counted s) w.1 q.read in (
          said,
          ([], said, q.says, subst (λ (u : ReaderState). LinesSay names u.lines ls said) same says, refl),
          subst (λ (u : ReaderState). AllStand u.first said) same stand,
          is
              ∙ (ap (λ (u : ReaderState). at_line (u.lines + length ls) (taken u said)) same
              ∙ (ap (λ n. at_line n (taken (counted s) said)) longer ∙ taken_at (s.lines + length (line ∷ ls)) (s.lines + 1) s said)),
        )
    at (inr (inl q)) (said, says, stand, is) =
        let same : w.0 ≡ take (counted s) q.told = ok-ok (schedule_line names s line) w.0 (take (counted s) q.told) w.1 q.read in
        let lines : w.0.lines ≡ s.lines + 1 = ap (λ (u : ReaderState). u.lines) same ∙ take_line (counted s) q.told in
        let first : w.0.first ≡ false = ap (λ (u : ReaderState). u.first) same ∙ take_first (counted s) q.told in (
          (s.lines + 1, q.told) ∷ said,
          ((s.lines + 1, q.told) ∷ [], said, q.says, subst (λ n. LinesSay names n ls said) lines says, refl),
          (q.stands, subst (λ b. AllStand b said) first stand),
          is
              ∙ (ap (λ n. at_line (n + length ls) (taken w.0 said)) lines
              ∙ (ap (λ n. at_line n (taken w.0 said)) longer
              ∙ ap (λ u. at_line (s.lines + length (line ∷ ls)) (taken u said)) same)),
        )
    at (inr (inr q)) rest = ok-err (schedule_line names s line) w.0 q.cause w.1 q.read

-- lines that say statements, each where it may stand, are walked
pub walk_of_says : (names : List (List ℕ)) (ls : List (List ℕ)) (s : ReaderState) (said : List (ℕ × Statement))
    → LinesSay names s.lines ls said → AllStand s.first said
    → Walks (schedule_line names) s ls (at_line (s.lines + length ls) (taken s said))
unfolding Walks LinesSay AllStand
walk_of_says names [] s said e stand =
    let here : s.lines ≡ s.lines + 0 = omega arith in
    ap (λ n. at_line n s) here ∙ ap (λ said. at_line (s.lines + 0) (taken s said)) (sym e)
walk_of_says names (line ∷ ls) s said (here, below, one, more, is) stand =
    at (says_here names (s.lines + 1) (tokens line) here one.1) (walk_of_says names ls)
  where
    longer : (s.lines + 1) + length ls ≡ s.lines + length (line ∷ ls)
    longer = omega arith

    at : SaysHere (s.lines + 1) here
        → ((u : ReaderState) (said : List (ℕ × Statement)) → LinesSay names u.lines ls said → AllStand u.first said
        → Walks (schedule_line names) u ls (at_line (u.lines + length ls) (taken u said)))
        → (u : ReaderState) × (schedule_line names s line ≡ Ok u)
        × Walks (schedule_line names) u ls (at_line (s.lines + length (line ∷ ls)) (taken s said))
    at (nothing e) walk =
        let all : said ≡ below = is ∙ ap (λ here. here ++ below) e in
        let end : at_line ((s.lines + 1) + length ls) (taken (counted s) below) ≡ at_line (s.lines + length (line ∷ ls)) (taken s said) =
        ap (λ n. at_line n (taken (counted s) below)) longer
        ∙ (taken_at (s.lines + length (line ∷ ls)) (s.lines + 1) s below
        ∙ ap (λ said. at_line (s.lines + length (line ∷ ls)) (taken s said)) (sym all)) in (
          counted s,
          silent_read names s line (subst (LineSays names (s.lines + 1) line) e one),
          subst (Walks (schedule_line names) (counted s) ls) end (walk (counted s) below more (subst (AllStand s.first) all stand)),
        )
    at (something st e) walk =
        let all : said ≡ (s.lines + 1, st) ∷ below = is ∙ ap (λ here. here ++ below) e in
        let stands : AllStand s.first ((s.lines + 1, st) ∷ below) = subst (AllStand s.first) all stand in
        let u : ReaderState = take (counted s) st in
        let lines : u.lines ≡ s.lines + 1 = take_line (counted s) st in
        let end : at_line (u.lines + length ls) (taken u below) ≡ at_line (s.lines + length (line ∷ ls)) (taken s said) =
        ap (λ n. at_line (n + length ls) (taken u below)) lines
        ∙ (ap (λ n. at_line n (taken u below)) longer ∙ ap (λ said. at_line (s.lines + length (line ∷ ls)) (taken s said)) (sym all)) in (
          u,
          telling_read names s line (s.lines + 1) st (subst (LineSays names (s.lines + 1) line) e one) stands.0,
          subst (Walks (schedule_line names) u ls) end
              (walk u below (subst (λ n. LinesSay names n ls below) (sym lines) more)
              (subst (λ b. AllStand b below) (sym (take_first (counted s) st)) stands.1)),
        )

-- what was taken: the acts in order
taken_acts : (s : ReaderState) (said : List (ℕ × Statement)) → (taken s said).acts ≡ s.acts ++ filter_map act_in said
unfolding take
taken_acts s [] = sym (append-nil s.acts)
taken_acts s ((n, statement.Power byte error halt) ∷ said) = taken_acts (take (at_line n s) (statement.Power byte error halt)) said
taken_acts s ((n, statement.Does a) ∷ said) =
    taken_acts (take (at_line n s) (statement.Does a)) said ∙ append_assoc s.acts (record { line = n; act = a } ∷ [])
    (filter_map act_in said)

-- `power` stands no more behind a first statement
taken_power : (s : ReaderState) (said : List (ℕ × Statement)) → AllStand false said → (taken s said).power ≡ s.power
unfolding take AllStand may_stand
taken_power s [] stand = refl
taken_power s ((n, statement.Power byte error halt) ∷ said) stand = absurd cc
taken_power s ((n, statement.Does a) ∷ said) stand = taken_power (take (at_line n s) (statement.Does a)) said stand.1

taken_first : (s : ReaderState) (said : List (ℕ × Statement)) → s.first ≡ false → (taken s said).first ≡ false
unfolding take
taken_first s [] e = e
taken_first s ((n, statement.Power byte error halt) ∷ said) e = taken_first (take (at_line n s) (statement.Power byte error halt)) said refl
taken_first s ((n, statement.Does a) ∷ said) e = taken_first (take (at_line n s) (statement.Does a)) said refl

-- what was taken from the beginning of a text
pub all_acts : (said : List (ℕ × Statement)) → (taken nothing_read said).acts ≡ filter_map act_in said
all_acts said = taken_acts nothing_read said

pub all_power : (said : List (ℕ × Statement)) → AllStand true said → (taken nothing_read said).power ≡ power_in said
unfolding take AllStand
all_power [] stand = refl
all_power ((n, statement.Power byte error halt) ∷ said) stand =
    taken_power (take (at_line n nothing_read) (statement.Power byte error halt)) said stand.1
all_power ((n, statement.Does a) ∷ said) stand = taken_power (take (at_line n nothing_read) (statement.Does a)) said stand.1

pub all_first : (said : List (ℕ × Statement)) → (taken nothing_read said).first ≡ is_silent said
unfolding take
all_first [] = refl
all_first ((n, statement.Power byte error halt) ∷ said) = taken_first (take (at_line n nothing_read) (statement.Power byte error halt))
    said refl
all_first ((n, statement.Does a) ∷ said) = taken_first (take (at_line n nothing_read) (statement.Does a)) said refl
