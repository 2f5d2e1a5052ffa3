-- Where the rows of a table stand once it is assembled.
use Rattle.std.proofs.Common.{◌≡◌, ℕ, ◌+◌, List, [], ◌∷◌, ◌++◌, length, map, zero-add, ◌∙◌, ap, append_assoc, length-append, arith}
use Rattle.std.proofs.lemmas.Grind.{flat_map-append}
use Rattle.std.specs.List.{flat_map}
use Rattle.tn_loader.specs.Instructions.{Instruction, Row, bytes_at, assembled_from, assembled, StandAtOffsets}

-- the bytes of two lists of instructions are those of the first, and then those of the second from where the first ends
pub assembled_from-append : (at : ℕ) (xs ys : List Instruction)
    → assembled_from at (xs ++ ys) ≡ assembled_from at xs ++ assembled_from (at + length (assembled_from at xs)) ys
unfolding assembled_from
assembled_from-append at [] ys = ap (λ n. assembled_from n ys) (omega arith)
assembled_from-append at (x ∷ xs) ys =
    let next : ℕ = at + length (bytes_at at x) in
    let head : List ℕ = bytes_at at x in
    let tail : List ℕ = assembled_from next xs in
    let rest : assembled_from next (xs ++ ys) ≡ tail ++ assembled_from (next + length tail) ys = assembled_from-append next xs ys in
    let moved : at + length (head ++ tail) ≡ next + length tail = omega (arith, length-append head tail) in
    cc (append_assoc head tail (assembled_from (next + length tail) ys))

-- where the instructions of each row begin, in a table that begins at an offset
unfoldable pub starts : ℕ → List Row → List ℕ
starts at [] = []
starts at (r ∷ rest) = at ∷ starts (at + length (assembled_from at r.instructions)) rest

-- where the offsets of a table are those at which its rows begin, a row's offset is the length of what stands before it
placed_from : (before table after : List Row) (here : Row) (at : ℕ) → map (λ r. r.offset) table ≡ starts at table
    → table ≡ before ++ here ∷ after → at + length (assembled_from at (flat_map (λ r. r.instructions) before)) ≡ here.offset
unfolding starts assembled_from
placed_from [] [] after here at same split = cc
placed_from (b ∷ before) [] after here at same split = cc
placed_from [] (r ∷ rest) after here at same split =
    let is_here : r ≡ here = cc in
    let begins : r.offset ≡ at = cc in
    let offset_of : r.offset ≡ here.offset = ap (λ q. q.offset) is_here in
    omega arith
placed_from (b ∷ before) (r ∷ rest) after here at same split =
    let is_b : r ≡ b = cc in
    let next : ℕ = at + length (assembled_from at r.instructions) in
    let same_rest : map (λ q. q.offset) rest ≡ starts next rest = cc in
    let split_rest : rest ≡ before ++ here ∷ after = cc in
    let later : next + length (assembled_from next (flat_map (λ q. q.instructions) before)) ≡ here.offset =
    placed_from before rest after here next same_rest split_rest in
    let tail : List Instruction = flat_map (λ q. q.instructions) before in
    let joined = ap length (assembled_from-append at r.instructions tail) in
    let sizes = length-append (assembled_from at r.instructions) (assembled_from next tail) in
    rw (← is_b) (omega (arith, joined, sizes))

-- the same from offset 0
pub stand_at_offsets : (table : List Row) → map (λ r. r.offset) table ≡ starts 0 table → StandAtOffsets table
unfolding assembled
stand_at_offsets table same before after here split = omega (arith, placed_from before table after here 0 same split)

-- the bytes of the rows of a table, and then those of the further rows from where the first end
pub assembled-append : (before after : List Row) → assembled (before ++ after) ≡ assembled before
    ++ assembled_from (length (assembled before)) (flat_map (λ r. r.instructions) after)
unfolding assembled
assembled-append before after =
    let first : List Instruction = flat_map (λ r. r.instructions) before in
    let second : List Instruction = flat_map (λ r. r.instructions) after in
    let parts = flat_map-append (λ (r : Row). r.instructions) before after in
    ap (assembled_from 0) parts ∙ rw zero-add at (assembled_from-append 0 first second)
