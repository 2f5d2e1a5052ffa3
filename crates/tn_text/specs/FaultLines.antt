-- The line that a fault is told by.
use Rattle.std.specs.Prelude.{ℕ, List, [], ◌++◌, codes}
use Rattle.std.specs.Fmt.{decimal}
use Rattle.tn_text.specs.declared.faults.Region.{Region}
use Rattle.tn_text.specs.declared.faults.Detail.{Detail}
use Rattle.tn_text.specs.declared.faults.Detail.TheVariants.{Nothing, Named, Lacks, LinkEnd, One, Two}
use Rattle.tn_text.specs.declared.faults.Fault.{Fault}
use Rattle.tn_text.specs.WordTexts.{word_text, spaced}
use Rattle.tn_text.specs.Faults.{fault_word, lack_word, part_word}

-- a region's part, its first address and the address after its last
unfoldable pub region_text : Region → List ℕ
region_text region = spaced (part_word region.part) ++ spaced (word_text region.from) ++ spaced (word_text region.to)

-- what a fault names, a blank before each
unfoldable pub detail_text : Detail → List ℕ
detail_text Nothing = []
detail_text (Named name) = spaced name
detail_text (Lacks lack) = spaced (lack_word lack)
detail_text (LinkEnd name link) = spaced name ++ spaced (decimal link)
detail_text (One name region) = spaced name ++ region_text region
detail_text (Two name first second) = spaced name ++ region_text first ++ region_text second

-- the place that a printed line speaks of
unfoldable pub place_text : List ℕ → ℕ → List ℕ
place_text file line = file ++ codes ":" ++ decimal line ++ codes ": "

-- the line of a fault in a file: FILE:LINE: WORD and the details
unfoldable pub fault_line : List ℕ → Fault → List ℕ
fault_line file fault = place_text file fault.line ++ fault_word fault.code ++ detail_text fault.detail ++ codes "\n"
