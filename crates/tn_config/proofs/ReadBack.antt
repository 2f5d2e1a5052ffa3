-- What was written is read back.
use Rattle.std.proofs.Common.{◌≡◌, ◌≢◌, ℕ, ◌+◌, true, List, [], ◌∷◌, ◌++◌, length, map, Option, Some, None, option_map}
use Rattle.std.proofs.Common.{refl, sym, ap, ◌∙◌, subst, arith, All, append-nil}
use Rattle.std.specs.Prelude.{codes}
use Rattle.std.specs.List.{filter_map, cons_option, flat_map, list_all}
use Rattle.std.specs.Option.{option_to_list}
use Rattle.std.specs.Str.Lines.{lines}
use Rattle.std.proofs.lemmas.List.Concat.{flat_map-append}
use Rattle.std.proofs.lemmas.List.Folds.{flat_map-map}
use Rattle.std.proofs.lemmas.List.Elements.{All-nil, All-cons, All-head, All-tail, All-append, All-map, filter_map-append}
use Rattle.tn_config.specs.declared.configurations.HostLine.{HostLine}
use Rattle.tn_config.specs.declared.configurations.WireLine.{WireLine}
use Rattle.tn_config.specs.declared.statements.Setting.{Setting}
use Rattle.tn_config.specs.declared.statements.Setting.TheVariants as setting
use Rattle.tn_config.specs.declared.statements.Statement.{Statement}
use Rattle.tn_config.specs.declared.statements.Statement.TheVariants as statement
use Rattle.tn_config.specs.Configurations.{BlockState, ConfigState}
use Rattle.tn_config.specs.Statements.{LinesSay}
use Rattle.tn_config.specs.Parts.{Part, ABlock, AHost, AWire, inside, part_lines, IsWhole, IsBlock, IsConfig, block_in, host_in, wire_in}
use Rattle.tn_config.specs.Parts.{code_in, cells_in, workspace_in, entry_in, module_in, library_in, arg_in}
use Rattle.tn_config.specs.Spellings.{statement_line, statement_spelling, block_settings, block_statements, host_statement, wire_statement}
use Rattle.tn_config.specs.Spellings.{config_statements, config_spelling}
use Rattle.tn_config.specs.Writable.{IsWritableBlock, IsWritable}
use Rattle.tn_config.specs.Writable.{unnumbered_block, unnumbered_host, unnumbered_wire, unnumbered, IsReadBack}
use Rattle.tn_config.proofs.TextLaws.{is_plain_byte, lines-ended}
use Rattle.tn_config.proofs.Fits.{SettingFits, Fits, line_plain, line_says}
use Rattle.tn_config.proofs.ConfigLaws.{config_only}

-- ---- statements and settings on one line after the other, of which n stand before

abbrev numbered : ℕ → List Statement → List (ℕ × Statement)
numbered n [] = []
numbered n (s ∷ ss) = (n + 1, s) ∷ numbered (n + 1) ss

abbrev body_from : ℕ → List Setting → List (ℕ × Setting)
body_from n [] = []
body_from n (x ∷ xs) = (n + 1, x) ∷ body_from (n + 1) xs

numbered-append : (n : ℕ) (ss ts : List Statement) → numbered n (ss ++ ts) ≡ numbered n ss ++ numbered (n + length ss) ts
numbered-append n [] ts = let stays : n ≡ n + 0 = omega arith in ap (λ k. numbered k ts) stays
numbered-append n (s ∷ ss) ts =
    let next : (n + 1) + length ss ≡ n + length (s ∷ ss) = omega arith in
    ap (λ rest. (n + 1, s) ∷ rest) (numbered-append (n + 1) ss ts ∙ ap (λ k. numbered (n + 1) ss ++ numbered k ts) next)

body-append : (n : ℕ) (xs ys : List Setting) → body_from n (xs ++ ys) ≡ body_from n xs ++ body_from (n + length xs) ys
body-append n [] ys = let stays : n ≡ n + 0 = omega arith in ap (λ k. body_from k ys) stays
body-append n (x ∷ xs) ys =
    let next : (n + 1) + length xs ≡ n + length (x ∷ xs) = omega arith in
    ap (λ rest. (n + 1, x) ∷ rest) (body-append (n + 1) xs ys ∙ ap (λ k. body_from (n + 1) xs ++ body_from k ys) next)

numbered-set : (n : ℕ) (xs : List Setting) → numbered n (map statement.Set xs) ≡ map inside (body_from n xs)
numbered-set n [] = refl
numbered-set n (x ∷ xs) = ap (λ rest. (n + 1, statement.Set x) ∷ rest) (numbered-set (n + 1) xs)

-- the lines of statements that fit say them
lines_say : (ss : List Statement) (n : ℕ) → All Fits ss → LinesSay n (map statement_line ss) (numbered n ss)
unfolding LinesSay
lines_say [] n h = refl
lines_say (s ∷ ss) n h = (
  (n + 1, s) ∷ [],
  numbered (n + 1) ss,
  line_says (n + 1) s (All-head Fits s ss h),
  lines_say ss (n + 1) (All-tail Fits s ss h),
  refl,
)

lines_plain : (ss : List Statement) → All Fits ss → list_all (list_all is_plain_byte) (map statement_line ss) ≡ true
lines_plain [] h = refl
lines_plain (s ∷ ss) h = rw (line_plain s (All-head Fits s ss h), lines_plain ss (All-tail Fits s ss h)) refl

lines_spelled : (ss : List Statement) → All Fits ss → lines (flat_map statement_spelling ss) ≡ map statement_line ss
lines_spelled ss h =
    ap lines (sym (flat_map-map (λ (line : List ℕ). line ++ codes "\n") statement_line ss))
    ∙ lines-ended (map statement_line ss) (lines_plain ss h)

-- ---- a block

-- nothing, or each, is collected of settings of one kind
module _ {A Y : Type 0} (f : ℕ × Setting → Option Y) (make : A → Setting) where
  none_of : ((n : ℕ) (a : A) → f (n, make a) ≡ None) → (n : ℕ) (xs : List A) → filter_map f (body_from n (map make xs)) ≡ []
  none_of none n [] = refl
  none_of none n (a ∷ xs) = rw (none (n + 1) a) (none_of none (n + 1) xs)

each_of : {A : Type 0} (f : ℕ × Setting → Option A) (make : A → Setting) → ((n : ℕ) (a : A) → f (n, make a) ≡ Some a) → (n : ℕ)
    (xs : List A) → filter_map f (body_from n (map make xs)) ≡ xs
each_of f make each n [] = refl
each_of f make each n (a ∷ xs) = rw (each (n + 1) a) (ap (λ rest. a ∷ rest) (each_of f make each (n + 1) xs))

module _ (n : ℕ) (b : BlockState) where
  -- how many lines stand before those of the libraries, and before the line of the entry
  abbrev at_libraries : ℕ
  at_libraries = n + 1 + 1 + 1 + 1 + length (map setting.Module b.modules)

  abbrev at_entry : ℕ
  at_entry = at_libraries + length (map setting.Library b.libraries)

  -- the block with the numbers of its lines
  abbrev placed_block : BlockState
  placed_block =
      record b {
        lines = record {
          processor = n + 1;
          code = n + 1 + 1;
          cells = n + 1 + 1 + 1;
          workspace = n + 1 + 1 + 1 + 1;
          entry = at_entry + 1;
        };
      }

  abbrev body : List (ℕ × Setting)
  body = body_from (n + 1) (block_settings b)

  module _ {Y : Type 0} (f : ℕ × Setting → Option Y) where
    -- what is collected of the lines of a block
    abbrev first_three : List Y
    first_three =
        cons_option (f (n + 1 + 1, setting.Code b.code)) (cons_option (f (n + 1 + 1 + 1, setting.Data b.cells))
        (cons_option (f (n + 1 + 1 + 1 + 1, setting.Workspace b.wptr b.below b.above)) []))

    behind_three : (rest : List (ℕ × Setting)) → filter_map f ((n + 1 + 1, setting.Code b.code) ∷ (n + 1 + 1 + 1, setting.Data b.cells)
        ∷ (n + 1 + 1 + 1 + 1, setting.Workspace b.wptr b.below b.above) ∷ rest) ≡ first_three ++ filter_map f rest
    behind_three rest =
        filter_map-append f ((n + 1 + 1, setting.Code b.code) ∷ (n + 1 + 1 + 1, setting.Data b.cells)
        ∷ (n + 1 + 1 + 1 + 1, setting.Workspace b.wptr b.below b.above) ∷ []) rest

    collected : (modules libraries args : List Y) → filter_map f (body_from (n + 1 + 1 + 1 + 1) (map setting.Module b.modules)) ≡ modules
        → filter_map f (body_from at_libraries (map setting.Library b.libraries)) ≡ libraries
        → filter_map f (body_from (at_entry + 1) (map setting.Arg b.args)) ≡ args
        → filter_map f body ≡ first_three ++ (modules ++ (libraries ++ cons_option (f (at_entry + 1, setting.Entry b.entry)) args))
    unfolding block_settings
    collected modules libraries args m l a =
        behind_three (body_from (n + 1 + 1 + 1 + 1)
        (map setting.Module b.modules ++ (map setting.Library b.libraries ++ setting.Entry b.entry ∷ map setting.Arg b.args)))
        ∙ ap (λ rest. first_three ++ rest)
        (ap (filter_map f) (body-append (n + 1 + 1 + 1 + 1) (map setting.Module b.modules)
        (map setting.Library b.libraries ++ setting.Entry b.entry ∷ map setting.Arg b.args))
        ∙ (filter_map-append f (body_from (n + 1 + 1 + 1 + 1) (map setting.Module b.modules))
        (body_from at_libraries (map setting.Library b.libraries ++ setting.Entry b.entry ∷ map setting.Arg b.args))
        ∙ (ap (λ front. front ++ filter_map f
        (body_from at_libraries (map setting.Library b.libraries ++ setting.Entry b.entry ∷ map setting.Arg b.args))) m
        ∙ ap (λ rest. modules ++ rest)
        (ap (filter_map f) (body-append at_libraries (map setting.Library b.libraries) (setting.Entry b.entry ∷ map setting.Arg b.args))
        ∙ (filter_map-append f (body_from at_libraries (map setting.Library b.libraries))
        (body_from at_entry (setting.Entry b.entry ∷ map setting.Arg b.args))
        ∙ (ap (λ front. front ++ filter_map f (body_from at_entry (setting.Entry b.entry ∷ map setting.Arg b.args))) l
        ∙ ap (λ rest. libraries ++ cons_option (f (at_entry + 1, setting.Entry b.entry)) rest) a))))))

  is_block : b.modules ≢ [] → IsBlock body placed_block
  is_block some =
      record {
        code = collected code_in [] [] [] (none_of code_in setting.Module (λ k a. refl) (n + 1 + 1 + 1 + 1) b.modules)
            (none_of code_in setting.Library (λ k a. refl) at_libraries b.libraries)
            (none_of code_in setting.Arg (λ k a. refl) (at_entry + 1) b.args);
        cells = collected cells_in [] [] [] (none_of cells_in setting.Module (λ k a. refl) (n + 1 + 1 + 1 + 1) b.modules)
            (none_of cells_in setting.Library (λ k a. refl) at_libraries b.libraries)
            (none_of cells_in setting.Arg (λ k a. refl) (at_entry + 1) b.args);
        workspace = collected workspace_in [] [] []
            (none_of workspace_in setting.Module (λ k a. refl) (n + 1 + 1 + 1 + 1) b.modules)
            (none_of workspace_in setting.Library (λ k a. refl) at_libraries b.libraries)
            (none_of workspace_in setting.Arg (λ k a. refl) (at_entry + 1) b.args);
        entry = collected entry_in [] [] [] (none_of entry_in setting.Module (λ k a. refl) (n + 1 + 1 + 1 + 1) b.modules)
            (none_of entry_in setting.Library (λ k a. refl) at_libraries b.libraries)
            (none_of entry_in setting.Arg (λ k a. refl) (at_entry + 1) b.args);
        modules = collected module_in b.modules [] []
            (each_of module_in setting.Module (λ k a. refl) (n + 1 + 1 + 1 + 1) b.modules)
            (none_of module_in setting.Library (λ k a. refl) at_libraries b.libraries)
            (none_of module_in setting.Arg (λ k a. refl) (at_entry + 1) b.args) ∙ append-nil b.modules;
        some = some;
        libraries = collected library_in [] b.libraries []
            (none_of library_in setting.Module (λ k a. refl) (n + 1 + 1 + 1 + 1) b.modules)
            (each_of library_in setting.Library (λ k a. refl) at_libraries b.libraries)
            (none_of library_in setting.Arg (λ k a. refl) (at_entry + 1) b.args) ∙ append-nil b.libraries;
        args = collected arg_in [] [] b.args (none_of arg_in setting.Module (λ k a. refl) (n + 1 + 1 + 1 + 1) b.modules)
            (none_of arg_in setting.Library (λ k a. refl) at_libraries b.libraries)
            (each_of arg_in setting.Arg (λ k a. refl) (at_entry + 1) b.args);
      }

  -- the number of its last line
  abbrev end_line : ℕ
  end_line = n + 1 + length (map statement.Set (block_settings b)) + 1

  abbrev block_part : Part
  block_part = ABlock placed_block body end_line

  block_numbered : numbered n (block_statements b) ≡ part_lines block_part
  block_numbered =
      ap (λ rest. (n + 1, statement.Processor b.name b.size) ∷ rest)
      (numbered-append (n + 1) (map statement.Set (block_settings b)) (statement.End ∷ [])
      ∙ ap (λ rest. rest ++ (end_line, statement.End) ∷ []) (numbered-set (n + 1) (block_settings b)))

-- ---- parts

abbrev block_parts : ℕ → List BlockState → List Part
block_parts n [] = []
block_parts n (b ∷ bs) = block_part n b ∷ block_parts (n + length (block_statements b)) bs

abbrev host_parts : ℕ → Option HostLine → List Part
host_parts n None = []
host_parts n (Some h) = AHost (record h { line = n + 1 }) ∷ []

abbrev wire_parts : ℕ → List WireLine → List Part
wire_parts n [] = []
wire_parts n (w ∷ ws) = AWire (record w { line = n + 1 }) ∷ wire_parts (n + 1) ws

blocks_numbered : (bs : List BlockState) (n : ℕ) → numbered n (flat_map block_statements bs) ≡ flat_map part_lines (block_parts n bs)
blocks_numbered [] n = refl
blocks_numbered (b ∷ bs) n =
    numbered-append n (block_statements b) (flat_map block_statements bs)
    ∙ (ap (λ front. front ++ numbered (n + length (block_statements b)) (flat_map block_statements bs)) (block_numbered n b)
    ∙ ap (λ rest. part_lines (block_part n b) ++ rest) (blocks_numbered bs (n + length (block_statements b))))

host_numbered : (o : Option HostLine) (n : ℕ) → numbered n (map host_statement (option_to_list o)) ≡ flat_map part_lines (host_parts n o)
host_numbered None n = refl
host_numbered (Some h) n = refl

wires_numbered : (ws : List WireLine) (n : ℕ) → numbered n (map wire_statement ws) ≡ flat_map part_lines (wire_parts n ws)
wires_numbered [] n = refl
wires_numbered (w ∷ ws) n = ap (λ rest. (n + 1, wire_statement w) ∷ rest) (wires_numbered ws (n + 1))

blocks_whole : (bs : List BlockState) (n : ℕ) → All IsWritableBlock bs → All IsWhole (block_parts n bs)
blocks_whole [] n h = All-nil IsWhole
blocks_whole (b ∷ bs) n h =
    All-cons IsWhole (block_part n b) (block_parts (n + length (block_statements b)) bs)
    (is_block n b (All-head IsWritableBlock b bs h).some)
    (blocks_whole bs (n + length (block_statements b)) (All-tail IsWritableBlock b bs h))

host_whole : (o : Option HostLine) (n : ℕ) → All IsWhole (host_parts n o)
host_whole None n = All-nil IsWhole
host_whole (Some h) n = All-cons IsWhole (AHost (record h { line = n + 1 })) [] tt (All-nil IsWhole)

wires_whole : (ws : List WireLine) (n : ℕ) → All IsWhole (wire_parts n ws)
wires_whole [] n = All-nil IsWhole
wires_whole (w ∷ ws) n = All-cons IsWhole (AWire (record w { line = n + 1 })) (wire_parts (n + 1) ws) tt (wires_whole ws (n + 1))

-- what the parts of one kind are of the others
blocks_hosts : (bs : List BlockState) (n : ℕ) → filter_map host_in (block_parts n bs) ≡ []
blocks_hosts [] n = refl
blocks_hosts (b ∷ bs) n = blocks_hosts bs (n + length (block_statements b))

blocks_wires : (bs : List BlockState) (n : ℕ) → filter_map wire_in (block_parts n bs) ≡ []
blocks_wires [] n = refl
blocks_wires (b ∷ bs) n = blocks_wires bs (n + length (block_statements b))

host_blocks : (o : Option HostLine) (n : ℕ) → filter_map block_in (host_parts n o) ≡ []
host_blocks None n = refl
host_blocks (Some h) n = refl

host_wires : (o : Option HostLine) (n : ℕ) → filter_map wire_in (host_parts n o) ≡ []
host_wires None n = refl
host_wires (Some h) n = refl

wires_blocks : (ws : List WireLine) (n : ℕ) → filter_map block_in (wire_parts n ws) ≡ []
wires_blocks [] n = refl
wires_blocks (w ∷ ws) n = wires_blocks ws (n + 1)

wires_hosts : (ws : List WireLine) (n : ℕ) → filter_map host_in (wire_parts n ws) ≡ []
wires_hosts [] n = refl
wires_hosts (w ∷ ws) n = wires_hosts ws (n + 1)

-- and of their own
blocks_unnumbered : (bs : List BlockState) (n : ℕ)
    → map unnumbered_block (filter_map block_in (block_parts n bs)) ≡ map unnumbered_block bs
blocks_unnumbered [] n = refl
blocks_unnumbered (b ∷ bs) n =
    ap (λ rest. unnumbered_block b ∷ rest) (blocks_unnumbered bs (n + length (block_statements b)))

wires_unnumbered : (ws : List WireLine) (n : ℕ) → map unnumbered_wire (filter_map wire_in (wire_parts n ws)) ≡ map unnumbered_wire ws
wires_unnumbered [] n = refl
wires_unnumbered (w ∷ ws) n = ap (λ rest. unnumbered_wire w ∷ rest) (wires_unnumbered ws (n + 1))

abbrev placed_host : ℕ → Option HostLine → Option HostLine
placed_host n o = option_map (λ (h : HostLine). record h { line = n + 1 }) o

host_placed : (o : Option HostLine) (n : ℕ) → filter_map host_in (host_parts n o) ≡ option_to_list (placed_host n o)
host_placed None n = refl
host_placed (Some h) n = refl

host_unnumbered : (o : Option HostLine) (n : ℕ) → option_map unnumbered_host (placed_host n o) ≡ option_map unnumbered_host o
host_unnumbered None n = refl
host_unnumbered (Some h) n = refl

-- ---- what fits

block_fits : (b : BlockState) → IsWritableBlock b → All Fits (block_statements b)
unfolding block_settings
block_fits b w =
    All-cons Fits (statement.Processor b.name b.size) (map statement.Set (block_settings b) ++ statement.End ∷ []) (w.name, w.size)
    (All-append Fits (map statement.Set (block_settings b)) (statement.End ∷ []) (All-map Fits statement.Set (block_settings b) settings)
    (All-cons Fits statement.End [] tt (All-nil Fits)))
  where
    entry : All SettingFits (setting.Entry b.entry ∷ map setting.Arg b.args)
    entry = All-cons SettingFits (setting.Entry b.entry) (map setting.Arg b.args) w.entry (All-map SettingFits setting.Arg b.args w.args)

    files : All SettingFits
        (map setting.Module b.modules ++ (map setting.Library b.libraries ++ setting.Entry b.entry ∷ map setting.Arg b.args))
    files =
        All-append SettingFits (map setting.Module b.modules)
        (map setting.Library b.libraries ++ setting.Entry b.entry ∷ map setting.Arg b.args)
        (All-map SettingFits setting.Module b.modules w.modules)
        (All-append SettingFits (map setting.Library b.libraries) (setting.Entry b.entry ∷ map setting.Arg b.args)
        (All-map SettingFits setting.Library b.libraries w.libraries) entry)

    settings : All SettingFits (block_settings b)
    settings =
        All-cons SettingFits (setting.Code b.code) (setting.Data b.cells ∷ setting.Workspace b.wptr b.below b.above
        ∷ (map setting.Module b.modules ++ (map setting.Library b.libraries ++ setting.Entry b.entry ∷ map setting.Arg b.args))) w.code
        (All-cons SettingFits (setting.Data b.cells) (setting.Workspace b.wptr b.below b.above
        ∷ (map setting.Module b.modules ++ (map setting.Library b.libraries ++ setting.Entry b.entry ∷ map setting.Arg b.args))) w.cells
        (All-cons SettingFits (setting.Workspace b.wptr b.below b.above)
        (map setting.Module b.modules ++ (map setting.Library b.libraries ++ setting.Entry b.entry ∷ map setting.Arg b.args))
        (w.wptr, w.below, w.above) files))

blocks_fit : (bs : List BlockState) → All IsWritableBlock bs → All Fits (flat_map block_statements bs)
blocks_fit [] h = All-nil Fits
blocks_fit (b ∷ bs) h =
    All-append Fits (block_statements b) (flat_map block_statements bs) (block_fits b (All-head IsWritableBlock b bs h))
    (blocks_fit bs (All-tail IsWritableBlock b bs h))

host_fits : (c : ConfigState) → IsWritable c → (o : Option HostLine) → c.host ≡ o → All Fits (map host_statement (option_to_list o))
host_fits c w None e = All-nil Fits
host_fits c w (Some h) e = All-cons Fits (host_statement h) [] (w.host h e) (All-nil Fits)

module _ (c : ConfigState) (w : IsWritable c) where
  statements_fit : All Fits (config_statements c)
  statements_fit =
      All-append Fits (flat_map block_statements c.blocks) (map host_statement (option_to_list c.host) ++ map wire_statement c.wires)
      (blocks_fit c.blocks w.blocks)
      (All-append Fits (map host_statement (option_to_list c.host)) (map wire_statement c.wires) (host_fits c w c.host refl)
      (All-map Fits wire_statement c.wires w.wires))

  -- how many lines stand before the host's, and before the wires
  abbrev at_host : ℕ
  at_host = 0 + length (flat_map block_statements c.blocks)

  abbrev at_wires : ℕ
  at_wires = at_host + length (map host_statement (option_to_list c.host))

  abbrev config_parts : List Part
  config_parts = block_parts 0 c.blocks ++ (host_parts at_host c.host ++ wire_parts at_wires c.wires)

  parts_numbered : numbered 0 (config_statements c) ≡ flat_map part_lines config_parts
  parts_numbered =
      numbered-append 0 (flat_map block_statements c.blocks) (map host_statement (option_to_list c.host) ++ map wire_statement c.wires)
      ∙ (ap (λ front. front ++ numbered at_host (map host_statement (option_to_list c.host) ++ map wire_statement c.wires))
      (blocks_numbered c.blocks 0)
      ∙ (ap (λ rest. flat_map part_lines (block_parts 0 c.blocks) ++ rest)
      (numbered-append at_host (map host_statement (option_to_list c.host)) (map wire_statement c.wires)
      ∙ (ap (λ front. front ++ numbered at_wires (map wire_statement c.wires)) (host_numbered c.host at_host)
      ∙ (ap (λ rest. flat_map part_lines (host_parts at_host c.host) ++ rest) (wires_numbered c.wires at_wires)
      ∙ sym (flat_map-append part_lines (host_parts at_host c.host) (wire_parts at_wires c.wires)))))
      ∙ sym (flat_map-append part_lines (block_parts 0 c.blocks) (host_parts at_host c.host ++ wire_parts at_wires c.wires))))

  module _ {Y : Type 0} (f : Part → Option Y) (blocks host wires : List Y) (b : filter_map f (block_parts 0 c.blocks) ≡ blocks)
      (h : filter_map f (host_parts at_host c.host) ≡ host) (t : filter_map f (wire_parts at_wires c.wires) ≡ wires) where
    parts_collected : filter_map f config_parts ≡ blocks ++ (host ++ wires)
    parts_collected =
        filter_map-append f (block_parts 0 c.blocks) (host_parts at_host c.host ++ wire_parts at_wires c.wires)
        ∙ (ap (λ front. front ++ filter_map f (host_parts at_host c.host ++ wire_parts at_wires c.wires)) b
        ∙ ap (λ rest. blocks ++ rest) (filter_map-append f (host_parts at_host c.host) (wire_parts at_wires c.wires)
        ∙ (ap (λ front. front ++ filter_map f (wire_parts at_wires c.wires)) h ∙ ap (λ rest. host ++ rest) t)))

  -- the configuration with the numbers of the lines that it is written on
  abbrev placed_config : ConfigState
  placed_config =
      record {
        blocks = filter_map block_in (block_parts 0 c.blocks);
        host = placed_host at_host c.host;
        wires = filter_map wire_in (wire_parts at_wires c.wires);
        lines = length (map statement_line (config_statements c));
      }

  config_lines : lines (config_spelling c) ≡ map statement_line (config_statements c)
  unfolding config_spelling
  config_lines = lines_spelled (config_statements c) statements_fit

  spelling_stands : IsConfig (config_spelling c) placed_config
  spelling_stands =
      record {
        said = numbered 0 (config_statements c);
        parts = config_parts;
        say = subst (λ ls. LinesSay 0 ls (numbered 0 (config_statements c))) (sym config_lines)
            (lines_say (config_statements c) 0 statements_fit);
        are = parts_numbered;
        whole = All-append IsWhole (block_parts 0 c.blocks) (host_parts at_host c.host ++ wire_parts at_wires c.wires)
            (blocks_whole c.blocks 0 w.blocks)
            (All-append IsWhole (host_parts at_host c.host) (wire_parts at_wires c.wires) (host_whole c.host at_host)
            (wires_whole c.wires at_wires));
        blocks = parts_collected block_in (filter_map block_in (block_parts 0 c.blocks)) [] [] refl (host_blocks c.host at_host)
            (wires_blocks c.wires at_wires) ∙ append-nil (filter_map block_in (block_parts 0 c.blocks));
        host = parts_collected host_in [] (option_to_list (placed_host at_host c.host)) [] (blocks_hosts c.blocks 0)
            (host_placed c.host at_host) (wires_hosts c.wires at_wires) ∙ append-nil (option_to_list (placed_host at_host c.host));
        wires = parts_collected wire_in [] [] (filter_map wire_in (wire_parts at_wires c.wires)) (blocks_wires c.blocks 0)
            (host_wires c.host at_host) refl;
        count = ap length config_lines;
      }

  same_unnumbered : unnumbered placed_config ≡ unnumbered c
  same_unnumbered =
      rw (blocks_unnumbered c.blocks 0, host_unnumbered c.host at_host, wires_unnumbered c.wires at_wires) refl

  -- reading what a configuration is written as gives it, but for the numbers of its lines
  pub read_back : IsReadBack (config_spelling c) c
  read_back = (placed_config, config_only (config_spelling c) placed_config spelling_stands, same_unnumbered)
