-- What the writers put, one piece after the other.
use Rattle.std.proofs.Common.{◌≡◌, ℕ, List, [], ◌∷◌, ◌++◌, map, sym, ap, ◌∙◌, append_assoc, append-nil}
use Rattle.std.specs.List.{flat_map}
use Rattle.std.proofs.lemmas.List.{map-append}
use Rattle.std.proofs.lemmas.List.Concat.{flat_map-append}
use Rattle.tn_config.specs.declared.statements.Setting.{Setting}
use Rattle.tn_config.specs.declared.statements.Setting.TheVariants as setting
use Rattle.tn_config.specs.declared.statements.Statement.{Statement}
use Rattle.tn_config.specs.declared.statements.Statement.TheVariants as statement
use Rattle.std.specs.Option.{option_to_list}
use Rattle.tn_config.specs.Configurations.{BlockState, ConfigState}
use Rattle.tn_config.specs.Spellings.{statement_spelling, block_settings, block_statements, host_statement, wire_statement}
use Rattle.tn_config.specs.Spellings.{config_spelling}

-- the text of statements
abbrev spelled : List Statement → List ℕ
spelled ss = flat_map statement_spelling ss

abbrev settings_spelled : List Setting → List ℕ
settings_spelled xs = spelled (map statement.Set xs)

abbrev first_three : BlockState → List Setting
first_three b = setting.Code b.code ∷ setting.Data b.cells ∷ setting.Workspace b.wptr b.below b.above ∷ []

-- a text with that of more statements behind it
grown : (text one two : List ℕ) (front more : List Setting) → one ≡ text ++ settings_spelled front → two ≡ one ++ settings_spelled more
    → two ≡ text ++ settings_spelled (front ++ more)
grown text one two front more p q =
    q ∙ (ap (λ t. t ++ settings_spelled more) p
    ∙ (append_assoc text (settings_spelled front) (settings_spelled more)
    ∙ ap (λ t. text ++ t) (sym (ap spelled (map-append statement.Set front more)
    ∙ flat_map-append statement_spelling (map statement.Set front) (map statement.Set more)))))

single : (x : Setting) → settings_spelled (x ∷ []) ≡ statement_spelling (statement.Set x)
single x = append-nil (statement_spelling (statement.Set x))

pub record PutsSettings (b : BlockState) (t0 t1 t2 t3 t4 t5 t6 t7 : List ℕ) : Type 0 where
  pub code : t1 ≡ t0 ++ statement_spelling (statement.Set (setting.Code b.code))
  pub cells : t2 ≡ t1 ++ statement_spelling (statement.Set (setting.Data b.cells))
  pub workspace : t3 ≡ t2 ++ statement_spelling (statement.Set (setting.Workspace b.wptr b.below b.above))
  pub modules : t4 ≡ t3 ++ settings_spelled (map setting.Module b.modules)
  pub libraries : t5 ≡ t4 ++ settings_spelled (map setting.Library b.libraries)
  pub entry : t6 ≡ t5 ++ statement_spelling (statement.Set (setting.Entry b.entry))
  pub args : t7 ≡ t6 ++ settings_spelled (map setting.Arg b.args)

-- the lines of a block between its first and its last
pub settings-put : (b : BlockState) (t0 t1 t2 t3 t4 t5 t6 t7 : List ℕ) → PutsSettings b t0 t1 t2 t3 t4 t5 t6 t7
    → t7 ≡ t0 ++ settings_spelled (block_settings b)
unfolding block_settings
settings-put b t0 t1 t2 t3 t4 t5 t6 t7 w =
    all ∙ ap (λ xs. t0 ++ settings_spelled xs) order
  where
    one : (front : List Setting) (before after : List ℕ) (x : Setting) → before ≡ t0 ++ settings_spelled front
        → after ≡ before ++ statement_spelling (statement.Set x) → after ≡ t0 ++ settings_spelled (front ++ x ∷ [])
    one front before after x p q = grown t0 before after front (x ∷ []) p (q ∙ ap (λ t. before ++ t) (sym (single x)))

    all : t7 ≡ t0 ++ settings_spelled ((((first_three b ++ map setting.Module b.modules) ++ map setting.Library b.libraries)
        ++ setting.Entry b.entry ∷ []) ++ map setting.Arg b.args)
    all =
        grown t0 t6 t7 (((first_three b ++ map setting.Module b.modules) ++ map setting.Library b.libraries) ++ setting.Entry b.entry ∷ [])
        (map setting.Arg b.args)
        (one ((first_three b ++ map setting.Module b.modules) ++ map setting.Library b.libraries) t5 t6 (setting.Entry b.entry)
        (grown t0 t4 t5 (first_three b ++ map setting.Module b.modules) (map setting.Library b.libraries)
        (grown t0 t3 t4 (first_three b) (map setting.Module b.modules)
        (one (setting.Code b.code ∷ setting.Data b.cells ∷ []) t2 t3 (setting.Workspace b.wptr b.below b.above)
        (one (setting.Code b.code ∷ []) t1 t2 (setting.Data b.cells)
        (w.code ∙ ap (λ t. t0 ++ t) (sym (single (setting.Code b.code)))) w.cells) w.workspace) w.modules) w.libraries) w.entry) w.args

    order : (((first_three b ++ map setting.Module b.modules) ++ map setting.Library b.libraries) ++ setting.Entry b.entry ∷ [])
        ++ map setting.Arg b.args
        ≡ first_three b
        ++ (map setting.Module b.modules ++ (map setting.Library b.libraries ++ setting.Entry b.entry ∷ map setting.Arg b.args))
    order = simp append_assoc

-- the lines of a block, which its first and its last are put around
pub block-put : (b : BlockState) (t0 t1 t2 t3 : List ℕ) → t1 ≡ t0 ++ statement_spelling (statement.Processor b.name b.size)
    → t2 ≡ t1 ++ settings_spelled (block_settings b) → t3 ≡ t2 ++ statement_spelling statement.End
    → t3 ≡ t0 ++ spelled (block_statements b)
block-put b t0 t1 t2 t3 first settings last =
    let end : spelled (statement.End ∷ []) ≡ statement_spelling statement.End = append-nil (statement_spelling statement.End) in
    let joined = flat_map-append statement_spelling (map statement.Set (block_settings b)) (statement.End ∷ []) in
    rw (last, settings, first, joined, end) (simp append_assoc)

-- the lines of a configuration
pub config-put : (c : ConfigState) (t0 t1 t2 t3 : List ℕ) → t1 ≡ t0 ++ spelled (flat_map block_statements c.blocks)
    → t2 ≡ t1 ++ spelled (map host_statement (option_to_list c.host)) → t3 ≡ t2 ++ spelled (map wire_statement c.wires)
    → t3 ≡ t0 ++ config_spelling c
unfolding config_spelling
config-put c t0 t1 t2 t3 blocks host wires =
    let outer = flat_map-append statement_spelling (flat_map block_statements c.blocks)
    (map host_statement (option_to_list c.host) ++ map wire_statement c.wires) in
    let inner = flat_map-append statement_spelling (map host_statement (option_to_list c.host)) (map wire_statement c.wires) in
    rw (wires, host, blocks, outer, inner) (simp append_assoc)
