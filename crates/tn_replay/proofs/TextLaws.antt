-- Pieces of text one behind the other.
use Rattle.std.proofs.Common.{◌≡◌, ℕ, List, [], ◌∷◌, ◌++◌, Option, refl, sym, ap, ◌∙◌, append_assoc, append-nil}
use Rattle.std.specs.Prelude.{codes}
use Rattle.std.specs.Fmt.{decimal}
use Rattle.tn_text.specs.WordTexts.{word_text}
use Rattle.tn_cpu.specs.States.{State}
use Rattle.tn_node.specs.declared.engines.Engine.{Engine}
use Rattle.tn_node.specs.declared.modes.Mode.{Mode}
use Rattle.tn_node.specs.Nodes.{NodeState, mode_of}
use Rattle.tn_replay.specs.PrintedLines.{joined, reg_text, mode_word, has_pointers, pointer_text, flag_text, symbol_text, state_line}
use Rattle.tn_replay.specs.PrintedLines.{byte_or, input_text, output_text, link_line}

-- their joins, all to the right
pub ruleset text_steps = (append_assoc, append-nil)

-- ---- the line of a state

abbrev pub mode_pieces : List ℕ → Mode → List (List ℕ)
mode_pieces name m = name ∷ codes " " ∷ mode_word m ∷ []

abbrev pub pointer_pieces : {M : Type 0} → Mode → State M → List (List ℕ)
pointer_pieces m s =
    codes " i=" ∷ pointer_text (has_pointers m) s.iptr ∷ codes " w=" ∷ pointer_text (has_pointers m) s.wptr ∷ []

abbrev pub stack_pieces : {M : Type 0} → State M → List (List ℕ)
stack_pieces s = codes " a=" ∷ reg_text s.a ∷ codes " b=" ∷ reg_text s.b ∷ codes " c=" ∷ reg_text s.c ∷ []

abbrev pub flag_pieces : {M : Type 0} → State M → List (List ℕ)
flag_pieces s =
    codes " o=" ∷ word_text s.oreg ∷ codes " e=" ∷ flag_text s.error ∷ codes " h=" ∷ flag_text s.halt ∷ codes " f="
    ∷ reg_text s.front ∷ []

module _ {M : Type 0} (name : List ℕ) (symbol : Option (List ℕ × ℕ)) where
  abbrev whole_line : Mode → State M → List ℕ
  whole_line m s =
      joined (mode_pieces name m) ++ (joined (pointer_pieces m s) ++ (joined (stack_pieces s) ++ (joined (flag_pieces s)
      ++ (symbol_text symbol ++ codes "\n"))))

  line_whole : (n : NodeState M) → whole_line (mode_of n) n.cpu ≡ state_line name symbol n
  unfolding state_line
  line_whole n = simp (append_assoc, append-nil)

  pub state_put : (n : NodeState M) (m : Mode) (s t : State M) → m ≡ mode_of n → s ≡ n.cpu → s ≡ t → (o0 o1 o2 o3 o4 o5 o6 : List ℕ)
      → o1 ≡ o0 ++ joined (mode_pieces name m) → o2 ≡ o1 ++ joined (pointer_pieces m t) → o3 ≡ o2 ++ joined (stack_pieces t)
      → o4 ≡ o3 ++ joined (flag_pieces t) → o5 ≡ o4 ++ symbol_text symbol → o6 ≡ o5 ++ codes "\n" → o6 ≡ o0 ++ state_line name symbol n
  state_put n m s t is cpu same o0 o1 o2 o3 o4 o5 o6 e1 e2 e3 e4 e5 e6 =
      let a = joined (mode_pieces name m) in
      let b = joined (pointer_pieces m t) in
      let c = joined (stack_pieces t) in
      let d = joined (flag_pieces t) in
      let all : o6 ≡ (((((o0 ++ a) ++ b) ++ c) ++ d) ++ symbol_text symbol) ++ codes "\n" =
      e6 ∙ ap (λ o. o ++ codes "\n") (e5 ∙ ap (λ o. o ++ symbol_text symbol) (e4 ∙ ap (λ o. o ++ d) (e3 ∙ ap (λ o. o ++ c)
      (e2 ∙ ap (λ o. o ++ b) e1)))) in
      all ∙ six_joined o0 a b c d (symbol_text symbol) (codes "\n")
      ∙ ap (λ (x : State M). o0 ++ whole_line m x) (sym same ∙ cpu)
      ∙ ap (λ (x : Mode). o0 ++ whole_line x n.cpu) is
      ∙ ap (λ text. o0 ++ text) (line_whole n)
    where
      six_joined : (o a b c d e f : List ℕ)
          → (((((o ++ a) ++ b) ++ c) ++ d) ++ e) ++ f ≡ o ++ (a ++ (b ++ (c ++ (d ++ (e ++ f)))))
      six_joined o a b c d e f = simp append_assoc

-- ---- the line of a link

pub link_put : (name : List ℕ) (l : ℕ) (input output : Option Engine) (latch : Option ℕ) (o0 o1 o2 o3 o4 o5 : List ℕ)
    → o1 ≡ o0 ++ name → o2 ≡ o1 ++ joined (codes "." ∷ decimal l ∷ []) → o3 ≡ o2 ++ joined (codes " in " ∷ input_text input ∷ [])
    → o4 ≡ o3 ++ joined (codes " out " ∷ output_text output ∷ [])
    → o5 ≡ o4 ++ joined (codes " latch " ∷ byte_or (codes "-") latch ∷ codes "\n" ∷ [])
    → o5 ≡ o0 ++ link_line name l input output latch
unfolding link_line
link_put name l input output latch o0 o1 o2 o3 o4 o5 e1 e2 e3 e4 e5 =
    let all : o5 ≡ ((((o0 ++ name) ++ joined (codes "." ∷ decimal l ∷ [])) ++ joined (codes " in " ∷ input_text input ∷ []))
    ++ joined (codes " out " ∷ output_text output ∷ [])) ++ joined (codes " latch " ∷ byte_or (codes "-") latch ∷ codes "\n" ∷ []) =
    e5 ∙ ap (λ o. o ++ joined (codes " latch " ∷ byte_or (codes "-") latch ∷ codes "\n" ∷ []))
    (e4 ∙ ap (λ o. o ++ joined (codes " out " ∷ output_text output ∷ []))
    (e3 ∙ ap (λ o. o ++ joined (codes " in " ∷ input_text input ∷ []))
    (e2 ∙ ap (λ o. o ++ joined (codes "." ∷ decimal l ∷ [])) e1))) in
    all ∙ simp (append_assoc, append-nil)
