-- The text of a module, piece by piece.
use Rattle.std.proofs.Common.{◌≡◌, ℕ, ◌+◌, ◌≤◌, ◌<◌, List, [], ◌∷◌, ◌++◌, length, get_or, take, map}
use Rattle.std.proofs.Common.{refl, sym, ap, ◌∙◌, append_assoc, append-nil}
use Rattle.std.proofs.lemmas.List.{take_more, take_all, map-append}
use Rattle.std.specs.List.{flat_map, join_with_byte}
use Rattle.std.proofs.lemmas.List.Concat.{flat_map-append}
use Rattle.tn_module.specs.Modules.{Parts}
use Rattle.tn_modtext.specs.declared.lines.Line.{Line}
use Rattle.tn_modtext.specs.declared.lines.Line.TheVariants as line
use Rattle.tn_modtext.specs.Forms.{form_word}
use Rattle.tn_modtext.specs.Lines.{line_form, line_args, line_text, line_spelling, lines_of, spelling}
use Rattle.tn_modtext.specs.Inner.Writing.{args_text}

-- ---- the loops that put one thing after the other

module _ {X : Type 0} (whole : List X → List ℕ) (text : X → List ℕ)
    (grows : (ys : List X) (y : X) → whole (ys ++ y ∷ []) ≡ whole ys ++ text y)
    (xs : List X) (start held : List ℕ) (k : ℕ) (so_far : held ≡ start ++ whole (take k xs)) where
  -- one more
  pub put-more : (x : X) (new : List ℕ) → k < length xs → x ≡ get_or xs k x → new ≡ held ++ text x → new ≡ start ++ whole (take (k + 1) xs)
  put-more x new l x_is new_is =
      let taken : take (k + 1) xs ≡ take k xs ++ x ∷ [] = take_more xs k x l ∙ ap (λ y. take k xs ++ y ∷ []) (sym x_is) in
      new_is ∙ (ap (λ t. t ++ text x) so_far ∙ (append_assoc start (whole (take k xs)) (text x)
      ∙ ap (λ t. start ++ t) (sym (grows (take k xs) x) ∙ ap whole (sym taken))))

  -- all
  pub put-all : length xs ≤ k → held ≡ start ++ whole xs
  put-all past = so_far ∙ ap (λ ys. start ++ whole ys) (take_all k xs past)

-- one text more
pub text-grows : {X : Type 0} (text : X → List ℕ) (ys : List X) (y : X) → flat_map text (ys ++ y ∷ []) ≡ flat_map text ys ++ text y
text-grows text ys y = flat_map-append text ys (y ∷ []) ∙ ap (λ t. flat_map text ys ++ t) (append-nil (text y))

-- one line more
pub lines-grow : {X : Type 0} (f : X → Line) (ys : List X) (y : X)
    → flat_map line_spelling (map f (ys ++ y ∷ [])) ≡ flat_map line_spelling (map f ys) ++ line_spelling (f y)
lines-grow f ys y = ap (flat_map line_spelling) (map-append f ys (y ∷ [])) ∙ text-grows line_spelling (map f ys) (f y)

-- ---- a line

-- tokens one blank apart are the first, and a blank before each other
joined : (word : List ℕ) (args : List (List ℕ)) → join_with_byte 32 (word ∷ args) ≡ word ++ args_text args
joined word [] = sym (append-nil word)
joined word (a ∷ []) = refl
joined word (a ∷ b ∷ more) = ap (λ rest. word ++ 32 ∷ rest) (joined a (b ∷ more))

-- a line is its first word, what stands behind it, and a line feed
pub line-written : (before with_word with_args after : List ℕ) (l : Line) → with_word ≡ before ++ form_word (line_form l)
    → with_args ≡ with_word ++ args_text (line_args l) → after ≡ with_args ++ 10 ∷ [] → after ≡ before ++ line_spelling l
unfolding line_text
line-written before with_word with_args after l one two three =
    let text = joined (form_word (line_form l)) (line_args l) in
    rw text
    (three ∙ (ap (λ t. t ++ 10 ∷ []) (two ∙ ap (λ t. t ++ args_text (line_args l)) one)
    ∙ (append_assoc (before ++ form_word (line_form l)) (args_text (line_args l)) (10 ∷ [])
    ∙ (append_assoc before (form_word (line_form l)) (args_text (line_args l) ++ 10 ∷ [])
    ∙ ap (λ t. before ++ t) (sym (append_assoc (form_word (line_form l)) (args_text (line_args l)) (10 ∷ [])))))))

-- ---- a module

single : (l : Line) → flat_map line_spelling (l ∷ []) ≡ line_spelling l
single l = append-nil (line_spelling l)

pub record Writes (m : Parts) (t0 t1 t2 t3 t4 t5 t6 t7 t8 t9 : List ℕ) : Type 0 where
  pub head : t1 ≡ t0 ++ line_spelling line.Head
  pub name : t2 ≡ t1 ++ line_spelling (line.Name m.name)
  pub imports : t3 ≡ t2 ++ flat_map line_spelling (map line.Import m.imports)
  pub exports : t4 ≡ t3 ++ flat_map line_spelling (map line.Export m.exports)
  pub code : t5 ≡ t4 ++ line_spelling line.Code
  pub items : t6 ≡ t5 ++ flat_map line_spelling (map line.Item m.items)
  pub cells_begin : t7 ≡ t6 ++ line_spelling line.Data
  pub cells : t8 ≡ t7 ++ flat_map line_spelling (map line.Cell m.cells)
  pub end : t9 ≡ t8 ++ line_spelling line.End

-- the same as one text
pub module-written : (m : Parts) (t0 t1 t2 t3 t4 t5 t6 t7 t8 t9 : List ℕ) → Writes m t0 t1 t2 t3 t4 t5 t6 t7 t8 t9 → t9 ≡ t0 ++ spelling m
unfolding lines_of
module-written m t0 t1 t2 t3 t4 t5 t6 t7 t8 t9 w =
    grown (((((((line.Head ∷ line.Name m.name ∷ []) ++ map line.Import m.imports) ++ map line.Export m.exports) ++ line.Code ∷ [])
    ++ map line.Item m.items) ++ line.Data ∷ []) ++ map line.Cell m.cells) (line.End ∷ []) t8 t9
    (grown ((((((line.Head ∷ line.Name m.name ∷ []) ++ map line.Import m.imports) ++ map line.Export m.exports) ++ line.Code ∷ [])
    ++ map line.Item m.items) ++ line.Data ∷ []) (map line.Cell m.cells) t7 t8
    (grown (((((line.Head ∷ line.Name m.name ∷ []) ++ map line.Import m.imports) ++ map line.Export m.exports) ++ line.Code ∷ [])
    ++ map line.Item m.items) (line.Data ∷ []) t6 t7
    (grown ((((line.Head ∷ line.Name m.name ∷ []) ++ map line.Import m.imports) ++ map line.Export m.exports) ++ line.Code ∷ [])
    (map line.Item m.items) t5 t6
    (grown (((line.Head ∷ line.Name m.name ∷ []) ++ map line.Import m.imports) ++ map line.Export m.exports) (line.Code ∷ []) t4 t5
    (grown ((line.Head ∷ line.Name m.name ∷ []) ++ map line.Import m.imports) (map line.Export m.exports) t3 t4
    (grown (line.Head ∷ line.Name m.name ∷ []) (map line.Import m.imports) t2 t3
    (grown (line.Head ∷ []) (line.Name m.name ∷ []) t1 t2 (w.head ∙ ap (λ t. t0 ++ t) (sym (single line.Head)))
    (w.name ∙ ap (λ t. t1 ++ t) (sym (single (line.Name m.name))))) w.imports) w.exports)
    (w.code ∙ ap (λ t. t4 ++ t) (sym (single line.Code)))) w.items)
    (w.cells_begin ∙ ap (λ t. t6 ++ t) (sym (single line.Data)))) w.cells)
    (w.end ∙ ap (λ t. t8 ++ t) (sym (single line.End)))
  where
    grown : (front more : List Line) (one two : List ℕ) → one ≡ t0 ++ flat_map line_spelling front
        → two ≡ one ++ flat_map line_spelling more → two ≡ t0 ++ flat_map line_spelling (front ++ more)
    grown front more one two p q =
        q ∙ (ap (λ t. t ++ flat_map line_spelling more) p
        ∙ (append_assoc t0 (flat_map line_spelling front) (flat_map line_spelling more)
        ∙ ap (λ t. t0 ++ t) (sym (flat_map-append line_spelling front more))))
