-- What a text stands for may be written, and what it says of a network may be checked.
use Rattle.std.proofs.Common.{◌≡◌, ◌≢◌, ℕ, suc, ◌+◌, ◌<◌, ◌≤◌, ◌^◌, Bool, true, false, cond, List, [], ◌∷◌, ◌++◌, length, map}
use Rattle.std.proofs.Common.{Option, Some, None, option_map, refl, sym, ap, ◌∙◌, subst, arith, All, length-append}
use Rattle.std.specs.Bool.{⊤, ◌==◌}
use Rattle.std.specs.List.{filter_map, cons_option, flat_map, slice_split, onto_first, AllPairs}
use Rattle.std.specs.Option.{option_to_list}
use Rattle.std.specs.Str.Lines.{lines, lines_of_parts}
use Rattle.std.proofs.lemmas.Bool.Decides.{nat_tests}
use Rattle.std.proofs.lemmas.List.Elements.{All-nil, All-cons, All-head, All-tail, All-append, All-weaker, All-map}
use Rattle.std.proofs.lemmas.List.{length-map}
use Rattle.std.proofs.lemmas.List.Kept.{AllPairs-cons}
use Rattle.std.proofs.lemmas.List.Splits.{length-slice_split}
use Rattle.tn_text.specs.Lines.{is_feed}
use Rattle.tn_text.specs.Names.{is_name}
use Rattle.tn_text.specs.declared.limits.TheConstants.{PROCESSOR_LIMIT}
use Rattle.tn_mem.specs.Sizes.{IsMemorySize}
use Rattle.tn_net.specs.declared.lines.EndLine.{EndLine}
use Rattle.tn_net.specs.Lines.{host_lines, wire_line, end_lines, HasLinks, DifferInNumber, IsAdmitted}
use Rattle.tn_config.specs.declared.configurations.HostLine.{HostLine}
use Rattle.tn_config.specs.declared.configurations.WireLine.{WireLine}
use Rattle.tn_config.specs.declared.statements.Setting.{Setting}
use Rattle.tn_config.specs.declared.statements.Setting.TheVariants as setting
use Rattle.tn_config.specs.declared.statements.Statement.{Statement}
use Rattle.tn_config.specs.declared.statements.Statement.TheVariants as statement
use Rattle.tn_config.specs.Configurations.{BlockState, ConfigState}
use Rattle.tn_config.specs.Places.{is_size, is_address, is_count, is_link}
use Rattle.tn_config.specs.Statements.{LinesSay}
use Rattle.tn_config.specs.Parts.{Part, ABlock, AHost, AWire, inside, part_lines, IsWhole, IsBlock, IsConfig, block_in, host_in, wire_in}
use Rattle.tn_config.specs.Parts.{code_in, cells_in, workspace_in, entry_in, module_in, library_in, arg_in}
use Rattle.tn_config.specs.Networks.{named_size, host_end, wire_ends, described}
use Rattle.tn_config.specs.Writable.{is_file_token, IsWritableBlock, IsWritableHost, IsWritableWire, IsWritable}
use Rattle.tn_config.proofs.Fits.{SettingFits, Fits, Fitting, silent, telling, line_fits}

-- ---- parts of lists

all_left : {X : Type 0} (P : X → Type 0) (xs ys : List X) → All P (xs ++ ys) → All P xs
all_left P [] ys h = All-nil P
all_left P (x ∷ xs) ys h = All-cons P x xs (All-head P x (xs ++ ys) h) (all_left P xs ys (All-tail P x (xs ++ ys) h))

all_right : {X : Type 0} (P : X → Type 0) (xs ys : List X) → All P (xs ++ ys) → All P ys
all_right P [] ys h = h
all_right P (x ∷ xs) ys h = all_right P xs ys (All-tail P x (xs ++ ys) h)

all_mapped : {X Y : Type 0} (P : Y → Type 0) (f : X → Y) (xs : List X) → All P (map f xs) → All (λ x. P (f x)) xs
all_mapped P f [] h = All-nil (λ x. P (f x))
all_mapped P f (x ∷ xs) h =
    All-cons (λ x. P (f x)) x xs (All-head P (f x) (map f xs) h) (all_mapped P f xs (All-tail P (f x) (map f xs) h))

all_flat : {X Y : Type 0} (P : Y → Type 0) (f : X → List Y) (xs : List X) → All P (flat_map f xs) → All (λ x. All P (f x)) xs
all_flat P f [] h = All-nil (λ x. All P (f x))
all_flat P f (x ∷ xs) h =
    All-cons (λ x. All P (f x)) x xs (all_left P (f x) (flat_map f xs) h) (all_flat P f xs (all_right P (f x) (flat_map f xs) h))

-- what is collected of elements, each of which gives what has the property
all_collected : {X Y : Type 0} (f : X → Option Y) (P : X → Type 0) (Q : Y → Type 0)
    → ((x : X) → P x → (y : Y) → f x ≡ Some y → Q y) → (xs : List X) → All P xs → All Q (filter_map f xs)
all_collected f P Q gives [] h = All-nil Q
all_collected {X} {Y} f P Q gives (x ∷ xs) h =
    at (f x) refl (gives x (All-head P x xs h)) (all_collected f P Q gives xs (All-tail P x xs h))
  where
    at : (o : Option Y) → f x ≡ o → ((y : Y) → f x ≡ Some y → Q y) → All Q (filter_map f xs) → All Q (cons_option o (filter_map f xs))
    at None e g all = all
    at (Some y) e g all = All-cons Q y (filter_map f xs) (g y e) all

all_both : {X : Type 0} (P Q : X → Type 0) (xs : List X) → All P xs → All Q xs → All (λ x. P x × Q x) xs
all_both P Q xs h k = λ i d lt. (h i d lt, k i d lt)

-- ---- what is said fits

abbrev SaidFits : ℕ × Statement → Type 0
SaidFits p = Fits p.1

said_fits : (ls : List (List ℕ)) (n : ℕ) (said : List (ℕ × Statement)) → LinesSay n ls said → All SaidFits said
unfolding LinesSay
said_fits [] n said e = subst (All SaidFits) (sym e) (All-nil SaidFits)
said_fits (line ∷ ls) n said (front, below, one, more, is) =
    subst (All SaidFits) (sym is)
    (All-append SaidFits front below (at (line_fits (n + 1) line front one)) (said_fits ls (n + 1) below more))
  where
    at : Fitting (n + 1) front → All SaidFits front
    at (silent e) = subst (All SaidFits) (sym e) (All-nil SaidFits)
    at (telling s f e) = subst (All SaidFits) (sym e) (All-cons SaidFits (n + 1, s) [] f (All-nil SaidFits))

-- ---- blocks

abbrev BodyFits : ℕ × Setting → Type 0
BodyFits x = SettingFits x.1

code_fits : (x : ℕ × Setting) → BodyFits x → (y : ℕ × ℕ) → code_in x ≡ Some y → is_address y.1 ≡ true
code_fits (n, setting.Code a) f y e = let same : (n, a) ≡ y = cc in subst (λ y. is_address y.1 ≡ true) same f
code_fits (n, _) f y e = absurd cc

cells_fit : (x : ℕ × Setting) → BodyFits x → (y : ℕ × ℕ) → cells_in x ≡ Some y → is_address y.1 ≡ true
cells_fit (n, setting.Data a) f y e = let same : (n, a) ≡ y = cc in subst (λ y. is_address y.1 ≡ true) same f
cells_fit (n, _) f y e = absurd cc

abbrev WorkspaceFits : ℕ × ℕ × ℕ × ℕ → Type 0
WorkspaceFits y = (is_address y.1 ≡ true) × (is_count y.2 ≡ true) × (is_count y.3 ≡ true)

workspace_fits : (x : ℕ × Setting) → BodyFits x → (y : ℕ × ℕ × ℕ × ℕ) → workspace_in x ≡ Some y → WorkspaceFits y
workspace_fits (n, setting.Workspace a b c) f y e = let same : (n, a, b, c) ≡ y = cc in subst WorkspaceFits same f
workspace_fits (n, _) f y e = absurd cc

entry_fits : (x : ℕ × Setting) → BodyFits x → (y : ℕ × List ℕ) → entry_in x ≡ Some y → is_name y.1 ≡ true
entry_fits (n, setting.Entry a) f y e = let same : (n, a) ≡ y = cc in subst (λ y. is_name y.1 ≡ true) same f
entry_fits (n, _) f y e = absurd cc

module_fits : (x : ℕ × Setting) → BodyFits x → (y : List ℕ) → module_in x ≡ Some y → is_file_token y ≡ true
module_fits (n, setting.Module a) f y e = let same : a ≡ y = cc in subst (λ y. is_file_token y ≡ true) same f
module_fits (n, _) f y e = absurd cc

library_fits : (x : ℕ × Setting) → BodyFits x → (y : List ℕ) → library_in x ≡ Some y → is_file_token y ≡ true
library_fits (n, setting.Library a) f y e = let same : a ≡ y = cc in subst (λ y. is_file_token y ≡ true) same f
library_fits (n, _) f y e = absurd cc

arg_fits : (x : ℕ × Setting) → BodyFits x → (y : ℕ) → arg_in x ≡ Some y → y < 2 ^ 32
arg_fits (n, setting.Arg a) f y e = let same : a ≡ y = cc in subst (λ y. y < 2 ^ 32) same f
arg_fits (n, _) f y e = absurd cc

-- the one of which something is collected
module _ (body : List (ℕ × Setting)) (fits : All BodyFits body) where
  the_one : {Y : Type 0} (f : ℕ × Setting → Option Y) (Q : Y → Type 0) → ((x : ℕ × Setting) → BodyFits x → (y : Y) → f x ≡ Some y → Q y)
      → (y : Y) → filter_map f body ≡ y ∷ [] → Q y
  the_one f Q gives y are = All-head Q y [] (subst (All Q) are (all_collected f BodyFits Q gives body fits))

  block_writable : (b : BlockState) → IsBlock body b → is_name b.name ≡ true → is_size b.size ≡ true → IsWritableBlock b
  block_writable b h name size =
      let workspace : WorkspaceFits (b.lines.workspace, b.wptr, b.below, b.above) =
      the_one workspace_in WorkspaceFits workspace_fits (b.lines.workspace, b.wptr, b.below, b.above) h.workspace in
      record {
        name = name;
        size = size;
        code = the_one code_in (λ y. is_address y.1 ≡ true) code_fits (b.lines.code, b.code) h.code;
        cells = the_one cells_in (λ y. is_address y.1 ≡ true) cells_fit (b.lines.cells, b.cells) h.cells;
        wptr = workspace.0;
        below = workspace.1;
        above = workspace.2;
        some = h.some;
        modules = subst (All (λ file. is_file_token file ≡ true)) h.modules
            (all_collected module_in BodyFits (λ file. is_file_token file ≡ true) module_fits body fits);
        libraries = subst (All (λ file. is_file_token file ≡ true)) h.libraries
            (all_collected library_in BodyFits (λ file. is_file_token file ≡ true) library_fits body fits);
        entry = the_one entry_in (λ y. is_name y.1 ≡ true) entry_fits (b.lines.entry, b.entry) h.entry;
        args = subst (All (λ word. word < 2 ^ 32)) h.args (all_collected arg_in BodyFits (λ word. word < 2 ^ 32) arg_fits body fits);
      }

-- ---- parts

abbrev PartFits : Part → Type 0
PartFits p = IsWhole p × All SaidFits (part_lines p)

block_fits : (p : Part) → PartFits p → (b : BlockState) → block_in p ≡ Some b → IsWritableBlock b
block_fits (ABlock b body end) (whole, fits) y e =
    let same : b ≡ y = cc in
    let first : Fits (statement.Processor b.name b.size) =
    All-head SaidFits (b.lines.processor, statement.Processor b.name b.size) (map inside body ++ (end, statement.End) ∷ []) fits in
    let rest =
    All-tail SaidFits (b.lines.processor, statement.Processor b.name b.size) (map inside body ++ (end, statement.End) ∷ []) fits in
    let settings : All BodyFits body =
    all_mapped SaidFits inside body (all_left SaidFits (map inside body) ((end, statement.End) ∷ []) rest) in
    subst IsWritableBlock same (block_writable body settings b whole first.0 first.1)
block_fits (AHost h) f y e = absurd cc
block_fits (AWire w) f y e = absurd cc

host_fits : (p : Part) → PartFits p → (h : HostLine) → host_in p ≡ Some h → IsWritableHost h
host_fits (ABlock b body end) f y e = absurd cc
host_fits (AHost h) (whole, fits) y e =
    let same : h ≡ y = cc in
    subst IsWritableHost same (All-head SaidFits (h.line, statement.Host h.name h.link) [] fits)
host_fits (AWire w) f y e = absurd cc

wire_fits : (p : Part) → PartFits p → (w : WireLine) → wire_in p ≡ Some w → IsWritableWire w
wire_fits (ABlock b body end) f y e = absurd cc
wire_fits (AHost h) f y e = absurd cc
wire_fits (AWire w) (whole, fits) y e =
    let same : w ≡ y = cc in
    subst IsWritableWire same (All-head SaidFits (w.line, statement.Wire w.one w.one_link w.two w.two_link) [] fits)

module _ (text : List ℕ) (c : ConfigState) (is : IsConfig text c) where
  parts_fit : All PartFits is.parts
  parts_fit =
      all_both IsWhole (λ p. All SaidFits (part_lines p)) is.parts is.whole
      (all_flat SaidFits part_lines is.parts (subst (All SaidFits) is.are (said_fits (lines text) 0 is.said is.say)))

  -- what a text stands for may be written
  pub config_writable : IsWritable c
  config_writable =
      record {
        blocks = subst (All IsWritableBlock) is.blocks (all_collected block_in PartFits IsWritableBlock block_fits is.parts parts_fit);
        host = λ h e. All-head IsWritableHost h [] (subst (All IsWritableHost) (is.host ∙ ap option_to_list e)
            (all_collected host_in PartFits IsWritableHost host_fits is.parts parts_fit));
        wires = subst (All IsWritableWire) is.wires (all_collected wire_in PartFits IsWritableWire wire_fits is.parts parts_fit);
      }

-- ---- the numbers of lines

-- each number is greater than the one before it
abbrev Rises : ℕ → List (ℕ × Statement) → Type 0
Rises m [] = ⊤
Rises m (p ∷ said) = (m < p.0) × Rises p.0 said

rises_lower : (m n : ℕ) (said : List (ℕ × Statement)) → m ≤ n → Rises n said → Rises m said
rises_lower m n [] h r = tt
rises_lower m n (p ∷ said) h r = (omega (arith, r.0), r.1)

rises_behind : (m : ℕ) (xs ys : List (ℕ × Statement)) → Rises m (xs ++ ys) → Rises m ys
rises_behind m [] ys r = r
rises_behind m (p ∷ xs) ys r = rises_lower m p.0 ys (omega (arith, r.0)) (rises_behind p.0 xs ys r.1)

lines_rise : (ls : List (List ℕ)) (n : ℕ) (said : List (ℕ × Statement)) → LinesSay n ls said → Rises n said
unfolding LinesSay
lines_rise [] n said e = subst (Rises n) (sym e) tt
lines_rise (line ∷ ls) n said (front, below, one, more, is) =
    subst (Rises n) (sym is) (at (line_fits (n + 1) line front one) (lines_rise ls (n + 1) below more))
  where
    at : Fitting (n + 1) front → Rises (n + 1) below → Rises n (front ++ below)
    at (silent e) r = subst (λ front. Rises n (front ++ below)) (sym e) (rises_lower n (n + 1) below (omega arith) r)
    at (telling s f e) r = subst (λ front. Rises n (front ++ below)) (sym e) (omega arith, r)

-- a line says one thing at most
pub lines_count : (ls : List (List ℕ)) (n : ℕ) (said : List (ℕ × Statement)) → LinesSay n ls said → length said ≤ length ls
unfolding LinesSay
lines_count [] n said e = rw e (omega arith)
lines_count (line ∷ ls) n said (front, below, one, more, is) =
    let few : length front ≤ 1 = at (line_fits (n + 1) line front one) in
    let rest : length below ≤ length ls = lines_count ls (n + 1) below more in
    let sum : length said ≡ length front + length below = ap length is ∙ length-append front below in
    omega arith
  where
    at : Fitting (n + 1) front → length front ≤ 1
    at (silent e) = rw e (omega arith)
    at (telling s f e) = rw e (omega arith)

-- the lines of hosts and wires, as a network is checked by
abbrev host_entry : HostLine → EndLine
host_entry h = record { one = record { name = h.name; link = h.link }; two = None; line = h.line }

abbrev wire_entry : WireLine → EndLine
wire_entry w = wire_line (wire_ends w)

abbrev entries : List Part → List EndLine
entries parts = map host_entry (filter_map host_in parts) ++ map wire_entry (filter_map wire_in parts)

-- no two have one number
abbrev Apart : List EndLine → Type 0
Apart [] = ⊤
Apart (x ∷ xs) = All (λ y. x.line ≢ y.line) xs × Apart xs

abbrev Behind : ℕ → List EndLine → Type 0
Behind m xs = All (λ y. m < y.line) xs

earlier : (m n : ℕ) (xs : List EndLine) → m ≤ n → Behind n xs → Behind m xs
earlier m n xs h b = All-weaker (λ y. n < y.line) (λ y. m < y.line) (λ y lt. omega (arith, lt)) xs b

other : (x : EndLine) (xs : List EndLine) → Behind x.line xs → All (λ y. x.line ≢ y.line) xs
other x xs b = All-weaker (λ y. x.line < y.line) (λ y. x.line ≢ y.line) (λ y lt. differs x.line y.line lt) xs b
  where
    differs : (a b : ℕ) → a < b → a ≢ b
    differs a b lt e = absurd (omega (arith, e))

-- one more between others, with a lower number
inserted : (xs ys : List EndLine) (x : EndLine) → Behind x.line (xs ++ ys) → Apart (xs ++ ys) → Apart (xs ++ x ∷ ys)
inserted [] ys x b a = (other x ys b, a)
inserted (y ∷ xs) ys x b a = (
  All-append (λ z. y.line ≢ z.line) xs (x ∷ ys) (all_left (λ z. y.line ≢ z.line) xs ys a.0)
      (All-cons (λ z. y.line ≢ z.line) x ys (differs y.line x.line (All-head (λ z. x.line < z.line) y (xs ++ ys) b))
      (all_right (λ z. y.line ≢ z.line) xs ys a.0)),
  inserted xs ys x (All-tail (λ z. x.line < z.line) y (xs ++ ys) b) a.1,
)
  where
    differs : (a b : ℕ) → b < a → a ≢ b
    differs a b lt e = absurd (omega (arith, e))

inserted_behind : (m : ℕ) (xs ys : List EndLine) (x : EndLine) → m < x.line → Behind m (xs ++ ys) → Behind m (xs ++ x ∷ ys)
inserted_behind m xs ys x lt b =
    All-append (λ y. m < y.line) xs (x ∷ ys) (all_left (λ y. m < y.line) xs ys b)
    (All-cons (λ y. m < y.line) x ys lt (all_right (λ y. m < y.line) xs ys b))

entries_apart : (parts : List Part) (m : ℕ) → Rises m (flat_map part_lines parts) → Behind m (entries parts) × Apart (entries parts)
entries_apart [] m r = (All-nil (λ (y : EndLine). m < y.line), tt)
entries_apart (ABlock b body end ∷ parts) m r =
    entries_apart parts m (rises_behind m (part_lines (ABlock b body end)) (flat_map part_lines parts) r)
entries_apart (AHost h ∷ parts) m r =
    let rest = entries_apart parts h.line r.1 in (
      All-cons (λ y. m < y.line) (host_entry h) (entries parts) r.0 (earlier m h.line (entries parts) (omega (arith, r.0)) rest.0),
      (other (host_entry h) (entries parts) rest.0, rest.1),
    )
entries_apart (AWire w ∷ parts) m r =
    let rest = entries_apart parts w.line r.1 in
    let hosts : List EndLine = map host_entry (filter_map host_in parts) in
    let wires : List EndLine = map wire_entry (filter_map wire_in parts) in (
      inserted_behind m hosts wires (wire_entry w) r.0 (earlier m w.line (entries parts) (omega (arith, r.0)) rest.0),
      inserted hosts wires (wire_entry w) rest.0 rest.1,
    )

apart_pairs : (xs : List EndLine) → Apart xs → AllPairs (λ x y. x.line ≢ y.line) xs
apart_pairs [] a = λ i j d ij jl. absurd (omega arith)
apart_pairs (x ∷ xs) a = AllPairs-cons (λ x y. x.line ≢ y.line) x xs a.0 (apart_pairs xs a.1)

-- each wire has a line
wires_count : (parts : List Part) → length (filter_map wire_in parts) ≤ length (flat_map part_lines parts)
wires_count [] = omega arith
wires_count (ABlock b body end ∷ parts) =
    let rest = wires_count parts in
    omega (arith, length-append (part_lines (ABlock b body end)) (flat_map part_lines parts))
wires_count (AHost h ∷ parts) = let rest = wires_count parts in omega arith
wires_count (AWire w ∷ parts) = let rest = wires_count parts in omega arith

-- a line has a byte at least
pub lines_few : (text : List ℕ) → length (lines text) ≤ length text
lines_few [] = omega arith
lines_few (x ∷ xs) =
    at (is_feed x) (slice_split is_feed xs) (omega (arith, length-slice_split is_feed xs)) (lines_few xs)
  where
    onto : (part : List ℕ) (parts : List (List ℕ)) → length (lines_of_parts (part ∷ parts)) ≤ length xs
        → length (lines_of_parts ((x ∷ part) ∷ parts)) ≤ suc (length xs)
    onto part [] h =
        let some : (length (x ∷ part) == 0) ≡ false = grind (arith, nat_tests) in rw some (omega arith)
    onto part (next ∷ parts) h = omega arith

    at : (b : Bool) (parts : List (List ℕ)) → 0 < length parts → length (lines_of_parts parts) ≤ length xs
        → length (lines_of_parts (cond b ([] ∷ parts) (onto_first x parts))) ≤ suc (length xs)
    at true [] some h = absurd (omega arith)
    at true (part ∷ parts) some h = omega arith
    at false [] some h = absurd (omega arith)
    at false (part ∷ parts) some h = onto part parts h

-- ---- the description of a network

memory_size : (n : ℕ) → is_size n ≡ true → IsMemorySize n
memory_size n h = (grind (arith, nat_tests), grind (arith, nat_tests), grind (arith, nat_tests))

link_few : (l : ℕ) → is_link l ≡ true → l < 4
link_few l h = grind (arith, nat_tests)

host_links : (h : HostLine) → IsWritableHost h → HasLinks (host_entry h)
host_links h w = record { one = link_few h.link w.1; two = λ end e. absurd cc }

wire_links : (w : WireLine) → IsWritableWire w → HasLinks (wire_entry w)
wire_links w h =
    record {
      one = link_few w.one_link h.1;
      two = λ end e. let same : record { name = w.two; link = w.two_link } ≡ end = cc in
          subst (λ end. end.link < 4) same (link_few w.two_link h.3);
    }

host_entries : (o : Option HostLine) → host_lines (option_map host_end o) ≡ map host_entry (option_to_list o)
host_entries None = refl
host_entries (Some h) = refl

wire_entries : (ws : List WireLine) → map wire_line (map wire_ends ws) ≡ map wire_entry ws
wire_entries [] = refl
wire_entries (w ∷ ws) = ap (λ rest. wire_entry w ∷ rest) (wire_entries ws)

host_list : (c : ConfigState) → IsWritable c → (o : Option HostLine) → c.host ≡ o → All HasLinks (map host_entry (option_to_list o))
host_list c w None e = All-nil HasLinks
host_list c w (Some h) e = All-cons HasLinks (host_entry h) [] (host_links h (w.host h e)) (All-nil HasLinks)

module _ (text : List ℕ) (c : ConfigState) (is : IsConfig text c) where
  ends_are : end_lines (described c) ≡ entries is.parts
  ends_are =
      ap (λ hs. hs ++ map wire_line (map wire_ends c.wires)) (host_entries c.host ∙ ap (map host_entry) (sym is.host))
      ∙ ap (λ ws. map host_entry (filter_map host_in is.parts) ++ ws) (wire_entries c.wires ∙ ap (map wire_entry) (sym is.wires))

  sizes_fit : All (λ b. IsMemorySize b.1) (map named_size c.blocks)
  sizes_fit =
      All-map (λ b. IsMemorySize b.1) named_size c.blocks
      (All-weaker IsWritableBlock (λ b. IsMemorySize b.size) (λ b w. memory_size b.size w.size) c.blocks (config_writable text c is).blocks)

  links_fit : All HasLinks (end_lines (described c))
  links_fit =
      let w = config_writable text c is in
      All-append HasLinks (host_lines (option_map host_end c.host)) (map wire_line (map wire_ends c.wires))
      (subst (All HasLinks) (sym (host_entries c.host)) (host_list c w c.host refl))
      (subst (All HasLinks) (sym (wire_entries c.wires))
      (All-map HasLinks wire_entry c.wires (All-weaker IsWritableWire (λ w. HasLinks (wire_entry w)) wire_links c.wires w.wires)))

  numbers_differ : DifferInNumber (end_lines (described c))
  numbers_differ =
      let rise : Rises 0 (flat_map part_lines is.parts) = subst (Rises 0) is.are (lines_rise (lines text) 0 is.said is.say) in
      let apart : Apart (end_lines (described c)) = subst Apart (sym ends_are) (entries_apart is.parts 0 rise).1 in
      λ j k jk kl. apart_pairs (end_lines (described c)) apart j k
      (record { one = record { name = []; link = 0 }; two = None; line = 0 }) jk kl

  -- what a text of at most 64 processors says of a network may be checked
  pub config_admitted : length text < 2 ^ 30 → length c.blocks ≤ PROCESSOR_LIMIT → IsAdmitted (described c)
  config_admitted short few =
      let lines_short : c.lines ≤ length text = rw (← is.count) (lines_few text) in
      let wires_short : length c.wires ≤ length text =
      rw (← is.wires) (omega (arith, wires_count is.parts, ap length is.are, lines_count (lines text) 0 is.said is.say, lines_few text)) in
      let names : length (map named_size c.blocks) ≡ length c.blocks = length-map c.blocks named_size in
      let wires : length (map wire_ends c.wires) ≡ length c.wires = length-map c.wires wire_ends in
      record {
        few = omega arith;
        sizes = λ p p_lt. sizes_fit p ([], 0, 0) p_lt;
        links = λ k k_lt. links_fit k (record { one = record { name = []; link = 0 }; two = None; line = 0 }) k_lt;
        numbers = numbers_differ;
        lines = omega arith;
        short = omega arith;
      }
