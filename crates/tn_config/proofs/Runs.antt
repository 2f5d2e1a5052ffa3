-- What a configuration may begin with is read.
use Rattle.std.proofs.Common.{◌≡◌, ℕ, ◌+◌, ◌≤◌, true, List, [], ◌∷◌, ◌++◌, map, length, Option, Some, None, Ok, refl, sym, ap}
use Rattle.std.proofs.Common.{◌∙◌, subst, append_assoc, append-nil, arith, All}
use Rattle.std.specs.List.{filter_map, flat_map}
use Rattle.std.proofs.lemmas.List.Elements.{All-head, All-tail}
use Rattle.tn_text.specs.Lines.{tokens}
use Rattle.tn_text.specs.Reading.{Walks}
use Rattle.tn_config.specs.declared.statements.Setting.{Setting}
use Rattle.tn_config.specs.declared.statements.Statement.{Statement}
use Rattle.tn_config.specs.declared.statements.Statement.TheVariants as statement
use Rattle.tn_config.specs.Statements.{keyword_of, WordsSay, LineSays, LinesSay}
use Rattle.tn_config.specs.Parts.{Part, ABlock, AHost, AWire, inside, part_lines, IsWhole, IsBlock, host_in}
use Rattle.tn_config.specs.SoFar.{ReaderState, Opened, opened_lines, so_far, SaysOnce}
use Rattle.tn_config.specs.ConfigFaults.{may_stand, IsBeginning}
use Rattle.tn_config.specs.ConfigReading.{take, counted, config_line}
use Rattle.tn_config.proofs.Collected.{free_before}
use Rattle.tn_config.proofs.Lines.{silent_read, telling_read}
use Rattle.tn_config.proofs.Steps.{more_body, take_processor, take_host, take_wire, take_set, take_end, may-before, whole_ends, whole_once}

-- the same said on so many lines
abbrev pub at_line : ℕ → ReaderState → ReaderState
at_line n s = record s { lines = n }

-- one statement after the other is read, each where it may stand
unfoldable pub Runs : ReaderState → List (ℕ × Statement) → ReaderState → Type 0
Runs s [] t = at_line 0 s ≡ at_line 0 t
Runs s (p ∷ said) t =
    (u : ReaderState) × (may_stand s (keyword_of p.1) ≡ true) × (take (at_line p.0 s) p.1 ≡ Ok u) × (u.lines ≡ p.0) × Runs u said t

-- the number of lines does not matter
Runs-at : (n : ℕ) (s : ReaderState) (said : List (ℕ × Statement)) (t : ReaderState) → Runs s said t → Runs (at_line n s) said t
unfolding Runs may_stand
Runs-at n s [] t r = r
Runs-at n s (p ∷ said) t r = r

line_here : (n : ℕ) (s : ReaderState) → s.lines ≡ n → at_line n s ≡ s
line_here n s e = ap (λ k. at_line k s) (sym e)

-- what a line says is nothing or one statement
data SaysHere (n : ℕ) (here : List (ℕ × Statement)) : Type 0 where
  nothing : here ≡ [] → SaysHere n here
  something : (s : Statement) → here ≡ (n, s) ∷ [] → SaysHere n here

says_here : (n : ℕ) (line : List ℕ) (here : List (ℕ × Statement)) → LineSays n line here → SaysHere n here
says_here n line here says = at (tokens line) says.1
  where
    at : (ws : List (List ℕ)) → WordsSay n ws here → SaysHere n here
    at [] w = nothing w
    at (word ∷ ts) (s, e, h, is) = something s is

-- lines are walked whose statements are read
pub walk_of_runs : (ls : List (List ℕ)) (n : ℕ) (said : List (ℕ × Statement)) (s t : ReaderState) → LinesSay n ls said → s.lines ≡ n
    → Runs s said t → Walks config_line s ls (at_line (n + length ls) t)
unfolding Walks LinesSay Runs
walk_of_runs [] n said s t e here r =
    let ends : at_line 0 s ≡ at_line 0 t = subst (λ said. Runs s said t) e r in
    let stays : n ≡ n + 0 = omega arith in
    sym (line_here n s here) ∙ (ap (at_line n) ends ∙ ap (λ k. at_line k t) stays)
walk_of_runs (line ∷ ls) n said s t (front, below, one, more, is) here r =
    at (says_here (n + 1) line front one) (λ u b more h r. walk_of_runs ls (n + 1) b u t more h r)
  where
    longer : (n + 1) + length ls ≡ n + length (line ∷ ls)
    longer = omega arith

    next : s.lines + 1 ≡ n + 1
    next = ap (λ k. k + 1) here

    says : LineSays (s.lines + 1) line front
    says = subst (λ k. LineSays k line front) (sym next) one

    run : Runs s (front ++ below) t
    run = subst (λ said. Runs s said t) is r

    at : SaysHere (n + 1) front
        → ((u : ReaderState) (b : List (ℕ × Statement)) → LinesSay (n + 1) ls b → u.lines ≡ n + 1 → Runs u b t
        → Walks config_line u ls (at_line ((n + 1) + length ls) t))
        → (u : ReaderState) × (config_line s line ≡ Ok u) × Walks config_line u ls (at_line (n + length (line ∷ ls)) t)
    at (nothing e) walk =
        let none : Runs s below t = subst (λ front. Runs s (front ++ below) t) e run in
        let rest = walk (counted s) below more next (Runs-at (s.lines + 1) s below t none) in (
          counted s,
          silent_read s line (subst (LineSays (s.lines + 1) line) e says),
          subst (λ k. Walks config_line (counted s) ls (at_line k t)) longer rest,
        )
    at (something st e) walk =
        let some : Runs s ((n + 1, st) ∷ below) t = subst (λ front. Runs s (front ++ below) t) e run in
        let rest = walk some.0 below more some.3 some.4 in (
          some.0,
          telling_read s line (n + 1) st (subst (LineSays (s.lines + 1) line) e says) some.1
              ∙ (ap (λ k. take (at_line k s) st) next ∙ some.2),
          subst (λ k. Walks config_line some.0 ls (at_line k t)) longer rest,
        )

module _ (parts : List Part) (said : List (ℕ × Statement)) (t : ReaderState) where
  -- the lines of a block that is not ended
  pub body_runs : (xs : List (ℕ × Setting)) (o : Opened) (m : ℕ) → SaysOnce (o.body ++ xs)
      → ((k : ℕ) → Runs (so_far k parts (Some (record o { body = o.body ++ xs }))) said t)
      → Runs (so_far m parts (Some o)) (map inside xs ++ said) t
  unfolding Runs may_stand
  body_runs [] o m once behind =
      subst (λ body. Runs (so_far m parts (Some (record o { body = body }))) said t) (append-nil o.body) (behind m)
  body_runs (x ∷ xs) o m once behind =
      let again : (o.body ++ x ∷ []) ++ xs ≡ o.body ++ x ∷ xs = append_assoc o.body (x ∷ []) xs in (
        so_far x.0 parts (Some (more_body o x.0 x.1)),
        may-before o x.0 x.1 xs once,
        take_set x.0 parts o x.1,
        refl,
        body_runs xs (more_body o x.0 x.1) x.0 (subst SaysOnce (sym again) once)
            (λ k. subst (λ body. Runs (so_far k parts (Some (record o { body = body }))) said t) (sym again) (behind k)),
      )

pub parts_run : (ps parts : List Part) (said : List (ℕ × Statement)) (t : ReaderState) (m : ℕ) → All IsWhole ps
    → length (filter_map host_in (parts ++ ps)) ≤ 1 → ((k : ℕ) → Runs (so_far k (parts ++ ps) None) said t)
    → Runs (so_far m parts None) (flat_map part_lines ps ++ said) t
unfolding Runs may_stand
parts_run [] parts said t m whole host behind =
    subst (λ ps. Runs (so_far m ps None) said t) (append-nil parts) (behind m)
parts_run (ABlock b body e ∷ ps) parts said t m whole host behind =
    let again : (parts ++ ABlock b body e ∷ []) ++ ps ≡ parts ++ ABlock b body e ∷ ps = append_assoc parts (ABlock b body e ∷ []) ps in
    let is : IsBlock body b = All-head IsWhole (ABlock b body e) ps whole in
    let o : Opened = record { line = b.lines.processor; name = b.name; size = b.size; body = [] } in
    let rest : Runs (so_far e (parts ++ ABlock b body e ∷ []) None) (flat_map part_lines ps ++ said) t =
    parts_run ps (parts ++ ABlock b body e ∷ []) said t e (All-tail IsWhole (ABlock b body e) ps whole)
    (subst (λ ps. length (filter_map host_in ps) ≤ 1) (sym again) host)
    (λ k. subst (λ ps. Runs (so_far k ps None) said t) (sym again) (behind k)) in
    let ends : (k : ℕ) → Runs (so_far k parts (Some (record o { body = body }))) ((e, statement.End) ∷ (flat_map part_lines ps ++ said)) t =
    λ k. (
      so_far e (parts ++ ABlock b body e ∷ []) None,
      refl,
      take_end e parts (record o { body = body }) b (whole_ends b body is),
      refl,
      rest,
    ) in
    let lines : map inside body ++ ((e, statement.End) ∷ (flat_map part_lines ps ++ said))
    ≡ ((map inside body ++ (e, statement.End) ∷ []) ++ flat_map part_lines ps) ++ said =
    sym (append_assoc (map inside body ++ (e, statement.End) ∷ []) (flat_map part_lines ps) said
    ∙ append_assoc (map inside body) ((e, statement.End) ∷ []) (flat_map part_lines ps ++ said)) in (
      so_far b.lines.processor parts (Some o),
      refl,
      take_processor b.lines.processor parts b.name b.size,
      refl,
      subst (λ said. Runs (so_far b.lines.processor parts (Some o)) said t) lines
          (body_runs parts ((e, statement.End) ∷ (flat_map part_lines ps ++ said)) t body o b.lines.processor (whole_once b body is) ends),
    )
parts_run (AHost h ∷ ps) parts said t m whole host behind =
    let again : (parts ++ AHost h ∷ []) ++ ps ≡ parts ++ AHost h ∷ ps = append_assoc parts (AHost h ∷ []) ps in (
      so_far h.line (parts ++ AHost h ∷ []) None,
      free_before host_in parts (AHost h) ps refl host,
      take_host h.line parts h.name h.link,
      refl,
      parts_run ps (parts ++ AHost h ∷ []) said t h.line (All-tail IsWhole (AHost h) ps whole)
          (subst (λ ps. length (filter_map host_in ps) ≤ 1) (sym again) host)
          (λ k. subst (λ ps. Runs (so_far k ps None) said t) (sym again) (behind k)),
    )
parts_run (AWire w ∷ ps) parts said t m whole host behind =
    let again : (parts ++ AWire w ∷ []) ++ ps ≡ parts ++ AWire w ∷ ps = append_assoc parts (AWire w ∷ []) ps in (
      so_far w.line (parts ++ AWire w ∷ []) None,
      refl,
      take_wire w.line parts w.one w.one_link w.two w.two_link,
      refl,
      parts_run ps (parts ++ AWire w ∷ []) said t w.line (All-tail IsWhole (AWire w) ps whole)
          (subst (λ ps. length (filter_map host_in ps) ≤ 1) (sym again) host)
          (λ k. subst (λ ps. Runs (so_far k ps None) said t) (sym again) (behind k)),
    )

opened_run : (parts : List Part) (opened : Option Opened) (k m : ℕ) → ((o : Opened) → opened ≡ Some o → SaysOnce o.body)
    → Runs (so_far k parts None) (opened_lines opened) (so_far m parts opened)
unfolding Runs may_stand
opened_run parts None k m once = refl
opened_run parts (Some o) k m once =
    let begun : Opened = record o { body = [] } in (
      so_far o.line parts (Some begun),
      refl,
      take_processor o.line parts o.name o.size,
      refl,
      subst (λ said. Runs (so_far o.line parts (Some begun)) said (so_far m parts (Some o))) (append-nil (map inside o.body))
          (body_runs parts [] (so_far m parts (Some o)) o.body begun o.line (once o refl) (λ j. refl)),
    )

pub walk_of_beginning : (ls : List (List ℕ)) (parts : List Part) (opened : Option Opened) → IsBeginning ls parts opened
    → Walks config_line (so_far 0 [] None) ls (so_far (length ls) parts opened)
walk_of_beginning ls parts opened b =
    let from : Runs (so_far 0 [] None) (flat_map part_lines parts ++ opened_lines opened) (so_far (length ls) parts opened) =
    parts_run parts [] (opened_lines opened) (so_far (length ls) parts opened) 0 b.whole b.host
    (λ k. opened_run parts opened k (length ls) b.once) in
    let runs : Runs (so_far 0 [] None) b.said (so_far (length ls) parts opened) =
    subst (λ said. Runs (so_far 0 [] None) said (so_far (length ls) parts opened)) (sym b.are) from in
    let count : 0 + length ls ≡ length ls = omega arith in
    subst (λ k. Walks config_line (so_far 0 [] None) ls (so_far k parts opened)) count
    (walk_of_runs ls 0 b.said (so_far 0 [] None) (so_far (length ls) parts opened) b.say refl runs)
