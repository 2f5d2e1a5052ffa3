-- The texts of a grid of processors, each wired to its neighbours, all of which run one small program.
use Rattle.std.specs.Prelude.{ℕ, zero, suc, ◌+◌, ◌*◌, ◌/◌, ◌%◌, nat_lt, List, [], ◌∷◌, ◌++◌, codes, if◌then◌else◌}
use Rattle.std.specs.Fmt.{decimal}
use Rattle.std.specs.List.{flat_map}
use Rattle.tn_text.specs.WordTexts.{word_text}

-- pieces one after the other
abbrev pub joined : List (List ℕ) → List ℕ
joined pieces = flat_map (λ piece. piece) pieces

-- the texts of the first so many numbers
unfoldable pub texts_of : (ℕ → List ℕ) → ℕ → List ℕ
texts_of f zero = []
texts_of f (suc k) = texts_of f k ++ f k

-- the name of the processor in row r and column c: p and the two digits
abbrev pub cell_name : ℕ → ℕ → List ℕ
cell_name r c = 112 ∷ (48 + r) ∷ (48 + c) ∷ []

-- the block of the processor at place k, counted row by row, in a grid of n by n
abbrev pub cell_block : ℕ → ℕ → List ℕ
cell_block n k =
    joined (codes "processor " ∷ cell_name (k / n) (k % n)
    ∷ codes " 65536\ncode #80000400\ndata #80002400\nworkspace #80002800 16 16\n"
    ∷ codes "module worker.tmod\nlibrary fin.tlib\nentry main\narg "
    ∷ word_text k ∷ codes "\nend\n" ∷ [])

-- the wire to the next processor of the row, and to that of the column
abbrev pub right_wire : ℕ → ℕ → List ℕ
right_wire n k =
    if nat_lt (k % n + 1) n
    then joined (codes "wire " ∷ cell_name (k / n) (k % n) ∷ codes " 1 " ∷ cell_name (k / n) (k % n + 1) ∷ codes " 3\n" ∷ [])
    else []

abbrev pub down_wire : ℕ → ℕ → List ℕ
down_wire n k =
    if nat_lt (k / n + 1) n
    then joined (codes "wire " ∷ cell_name (k / n) (k % n) ∷ codes " 2 " ∷ cell_name (k / n + 1) (k % n) ∷ codes " 0\n" ∷ [])
    else []

abbrev pub cell_wires : ℕ → ℕ → List ℕ
cell_wires n k = right_wire n k ++ down_wire n k

-- the configuration: the blocks row by row, the host at link 0 of the first, and the wires
unfoldable pub grid_config : ℕ → List ℕ
grid_config n =
    texts_of (cell_block n) (n * n) ++ (codes "host p00 0\n" ++ texts_of (cell_wires n) (n * n))

-- two instructions of the program: a number, and where it is stored
abbrev pub counting : ℕ → List ℕ
counting i = joined (codes "i ldc " ∷ decimal i ∷ codes "\ni stl 1\n" ∷ [])

-- the module that each processor runs: it counts to 2000, and stops
unfoldable pub worker_text : List ℕ
worker_text =
    codes "tmod 1\nname worker\nimport code finish\nexport main\ncode\nl main\n"
    ++ (texts_of counting 2000 ++ codes "i j finish\ndata\nl count\nw 0\nend\n")

-- the library that it stops by
abbrev pub finish_text : List ℕ
finish_text =
    joined (codes "tlib 1\ntmod 1\nname spare\nexport spare\ncode\nl spare\no ret\ndata\nend\n"
    ∷ codes "tmod 1\nname fin\nexport finish\ncode\nl finish\no stopp\ndata\nend\nendlib\n" ∷ [])
