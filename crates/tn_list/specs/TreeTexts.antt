-- The text that a load tree is printed as.
use Rattle.std.specs.Prelude.{ℕ, zero, suc, List, [], ◌++◌, length, codes, slice_index_or, Option, Some, None}
use Rattle.std.specs.Fmt.{decimal}
use Rattle.tn_text.specs.WordTexts.{spaced}
use Rattle.tn_net.specs.Trees.{LoadNode, node_at}

-- the name of a processor
abbrev pub name_of : List (List ℕ) → ℕ → List ℕ
name_of names p = slice_index_or names p []

-- a word and a number, a blank before each
unfoldable pub word_and_number : List ℕ → ℕ → List ℕ
word_and_number word number = spaced word ++ spaced (decimal number)

-- what a node boots from: the host, or its parent and the parent's link
unfoldable pub source_text : List (List ℕ) → List LoadNode → Option ℕ → ℕ → List ℕ
source_text names nodes None link = spaced (codes "host")
source_text names nodes (Some parent) link = word_and_number (name_of names (node_at nodes parent).processor) link

-- NAME boot K
unfoldable pub boot_text : List (List ℕ) → LoadNode → List ℕ
boot_text names node = name_of names node.processor ++ word_and_number (codes "boot") node.boot_link

-- from SOURCE, with a blank before it
unfoldable pub from_text : List (List ℕ) → List LoadNode → LoadNode → List ℕ
from_text names nodes node = spaced (codes "from") ++ source_text names nodes node.parent node.parent_link

-- a word and a number at the end of a line
unfoldable pub last_text : List ℕ → ℕ → List ℕ
last_text word number = word_and_number word number ++ codes "\n"

-- the line of a node, which gets so many bytes: NAME boot K from host received R, or
-- NAME boot K from PARENT L received R
unfoldable pub node_line : List (List ℕ) → List LoadNode → LoadNode → ℕ → List ℕ
node_line names nodes node received =
    boot_text names node ++ from_text names nodes node ++ last_text (codes "received") received

-- the lines of the first nodes, which get so many bytes each
unfoldable pub node_lines : List (List ℕ) → List LoadNode → (ℕ → ℕ) → ℕ → List ℕ
node_lines names nodes received zero = []
node_lines names nodes received (suc k) =
    node_lines names nodes received k ++ node_line names nodes (node_at nodes k) (received k)

-- a line of a word and a number
unfoldable pub count_line : List ℕ → ℕ → List ℕ
count_line word number = word ++ spaced (decimal number) ++ codes "\n"

-- the lines of all nodes in load order, of the stream, which is what the first gets, and of the steps
unfoldable pub tree_text : List (List ℕ) → List LoadNode → (ℕ → ℕ) → ℕ → List ℕ
tree_text names nodes received steps =
    node_lines names nodes received (length nodes) ++ count_line (codes "stream") (received 0) ++ count_line (codes "steps") steps
