-- The lines that name files are among those of the text.
use Rattle.std.proofs.Common.{◌≡◌, ℕ, ◌+◌, ◌-◌, ◌≤◌, ◌⊎◌, inl, inr, List, [], ◌∷◌, ◌++◌, length, length-append, map, All, refl, sym, ap}
use Rattle.std.proofs.Common.{◌∙◌, subst, arith}
use Rattle.std.specs.List.{filter_map, flat_map}
use Rattle.std.specs.Str.Lines.{lines}
use Rattle.std.proofs.lemmas.List.{length-map}
use Rattle.std.proofs.lemmas.List.Elements.{All-head, All-tail}
use Rattle.tn_config.specs.declared.statements.Setting.{Setting}
use Rattle.tn_config.specs.declared.statements.Setting.TheVariants as setting
use Rattle.tn_config.specs.declared.statements.Statement.TheVariants as statement
use Rattle.tn_config.specs.Configurations.{BlockState, ConfigState, file_lines}
use Rattle.tn_config.specs.Parts.{Part, ABlock, AHost, AWire, inside, part_lines, IsWhole, IsConfig, block_in, module_in, library_in}
use Rattle.tn_config.proofs.Admitted.{lines_count, lines_few}

-- a line of a block names one file at most
body_files : (body : List (ℕ × Setting)) → length (filter_map module_in body) + length (filter_map library_in body) ≤ length body
body_files [] = omega arith
body_files ((line, setting.Code address) ∷ body) = let rest = body_files body in omega arith
body_files ((line, setting.Data address) ∷ body) = let rest = body_files body in omega arith
body_files ((line, setting.Workspace wptr below above) ∷ body) = let rest = body_files body in omega arith
body_files ((line, setting.Module file) ∷ body) = let rest = body_files body in omega arith
body_files ((line, setting.Library file) ∷ body) = let rest = body_files body in omega arith
body_files ((line, setting.Entry label) ∷ body) = let rest = body_files body in omega arith
body_files ((line, setting.Arg word) ∷ body) = let rest = body_files body in omega arith

-- how many files the blocks name
block_files : List BlockState → ℕ
block_files blocks = length (flat_map (λ b. b.modules) blocks) + length (flat_map (λ b. b.libraries) blocks)

-- where any are named, two lines more begin and end a block
NameLess : List BlockState → ℕ → Type 0
NameLess blocks count = (block_files blocks ≡ 0) ⊎ (block_files blocks + 2 ≤ count)

one_more : (b : BlockState) (blocks : List BlockState) (body count : ℕ) → length b.modules + length b.libraries ≤ body
    → NameLess blocks count → NameLess (b ∷ blocks) (2 + body + count)
unfolding NameLess block_files
one_more b blocks body count here (inl none) =
    inr (omega (
      arith,
      here,
      none,
      length-append b.modules (flat_map (λ b. b.modules) blocks),
      length-append b.libraries (flat_map (λ b. b.libraries) blocks),
    ))
one_more b blocks body count here (inr less) =
    inr (omega (
      arith,
      here,
      less,
      length-append b.modules (flat_map (λ b. b.modules) blocks),
      length-append b.libraries (flat_map (λ b. b.libraries) blocks),
    ))

weaker : (blocks : List BlockState) (count more : ℕ) → count ≤ more → NameLess blocks count → NameLess blocks more
unfolding NameLess
weaker blocks count more h (inl none) = inl none
weaker blocks count more h (inr less) = inr (omega arith)

parts_files : (parts : List Part) → All IsWhole parts → NameLess (filter_map block_in parts) (length (flat_map part_lines parts))
unfolding NameLess block_files
parts_files [] whole = inl refl
parts_files (ABlock b body end ∷ parts) whole =
    let is = All-head IsWhole (ABlock b body end) parts whole in
    let named : length b.modules + length b.libraries ≤ length body =
    subst (λ ms. length ms + length b.libraries ≤ length body) is.modules
    (subst (λ ls. length (filter_map module_in body) + length ls ≤ length body) is.libraries (body_files body)) in
    let inner : length (map inside body) ≡ length body = length-map body inside in
    weaker (b ∷ filter_map block_in parts) (2 + length body + length (flat_map part_lines parts))
    (length (flat_map part_lines (ABlock b body end ∷ parts)))
    (omega (
      arith,
      inner,
      length-append (part_lines (ABlock b body end)) (flat_map part_lines parts),
      length-append (map inside body) ((end, statement.End) ∷ []),
    ))
    (one_more b (filter_map block_in parts) (length body) (length (flat_map part_lines parts)) named
    (parts_files parts (All-tail IsWhole (ABlock b body end) parts whole)))
parts_files (AHost h ∷ parts) whole =
    weaker (filter_map block_in parts) (length (flat_map part_lines parts)) (length (flat_map part_lines (AHost h ∷ parts)))
    (omega arith) (parts_files parts (All-tail IsWhole (AHost h) parts whole))
parts_files (AWire w ∷ parts) whole =
    weaker (filter_map block_in parts) (length (flat_map part_lines parts)) (length (flat_map part_lines (AWire w ∷ parts)))
    (omega arith) (parts_files parts (All-tail IsWhole (AWire w) parts whole))

at_most : (c : ConfigState) (count bytes : ℕ) → count ≤ bytes → NameLess c.blocks count → file_lines c ≤ bytes - 1
unfolding NameLess block_files
at_most c count bytes h (inl none) = omega (arith, none)
at_most c count bytes h (inr less) = omega (arith, less)

-- fewer lines name files than the text has bytes
pub files_few : (text : List ℕ) (c : ConfigState) → IsConfig text c → file_lines c ≤ length text - 1
files_few text c is =
    at_most c (length (flat_map part_lines is.parts)) (length text)
    (omega (arith, ap length is.are, lines_count (lines text) 0 is.said is.say, lines_few text))
    (subst (λ bs. NameLess bs (length (flat_map part_lines is.parts))) is.blocks (parts_files is.parts is.whole))
