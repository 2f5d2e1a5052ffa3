-- The labels of cells that lie at no multiple of 4, one cell after the other.
use Rattle.std.proofs.Common.{◌≡◌, ℕ, ◌+◌, ◌<◌, List, [], ◌∷◌, ◌++◌, length, get_or, drop, refl, sym, ap, ◌∙◌, append_assoc}
use Rattle.std.proofs.lemmas.List.{drop_more}
use Rattle.std.specs.Option.{option_to_list}
use Rattle.tn_module.specs.declared.modules.Cell.{Cell}
use Rattle.tn_module.specs.Names.{misaligned_label, misaligned_from, end_of}

first : (at : ℕ) (c : Cell) (cs : List Cell) → misaligned_from at (c ∷ cs) ≡ option_to_list (misaligned_label at c) ++ misaligned_from
    (end_of at c) cs
unfolding misaligned_from
first at c cs = refl

pub none_left : (at : ℕ) → misaligned_from at [] ≡ []
unfolding misaligned_from
none_left at = refl

pub one_more : (cells : List Cell) (names new whole : List (List ℕ)) (at next i : ℕ) (c : Cell) → i < length cells → c ≡ get_or cells i c
    → new ≡ names ++ option_to_list (misaligned_label at c) → next ≡ end_of at c → names ++ misaligned_from at (drop i cells) ≡ whole
    → new ++ misaligned_from next (drop (i + 1) cells) ≡ whole
one_more cells names new whole at next i c h is found moved so_far =
    ap (λ l. l ++ misaligned_from next (drop (i + 1) cells)) found
    ∙ append_assoc names (option_to_list (misaligned_label at c)) (misaligned_from next (drop (i + 1) cells))
    ∙ ap (λ n. names ++ (option_to_list (misaligned_label at c) ++ misaligned_from n (drop (i + 1) cells))) moved
    ∙ ap (λ l. names ++ l) (sym (first at c (drop (i + 1) cells)))
    ∙ ap (λ x. names ++ misaligned_from at (x ∷ drop (i + 1) cells)) is
    ∙ ap (λ l. names ++ misaligned_from at l) (sym (drop_more cells i c h))
    ∙ so_far
