-- Why items got no sizes.
use Rattle.std.specs.Prelude.{⊤, List}
use Rattle.tn_layout.specs.declared.pieces.Piece.{Piece}
use Rattle.tn_layout.specs.Sizes.{IsTooLong}
use Rattle.tn_link.specs.declared.linking.LinkFault.{LinkFault}
use Rattle.tn_link.specs.declared.linking.LinkFault.TheVariants.{Items, Cells, Code, NoMemory}

-- the code is too long, or there is no memory
abbrev pub IsLengthFault : List Piece → LinkFault → Type 0
IsLengthFault pieces (Items n) = ⊥
IsLengthFault pieces (Cells n) = ⊥
IsLengthFault pieces (Code n) = IsTooLong pieces n
IsLengthFault pieces NoMemory = ⊤
