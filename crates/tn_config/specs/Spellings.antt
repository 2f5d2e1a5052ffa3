-- The text that a configuration is written as.
use Rattle.std.specs.Prelude.{ℕ, List, [], ◌∷◌, ◌++◌, map, codes}
use Rattle.std.specs.List.{flat_map}
use Rattle.std.specs.Option.{option_to_list}
use Rattle.std.specs.Fmt.{decimal}
use Rattle.tn_text.specs.WordTexts.{word_text, spaced}
use Rattle.tn_config.specs.declared.configurations.HostLine.{HostLine}
use Rattle.tn_config.specs.declared.configurations.WireLine.{WireLine}
use Rattle.tn_config.specs.declared.statements.Setting.{Setting}
use Rattle.tn_config.specs.declared.statements.Setting.TheVariants as setting
use Rattle.tn_config.specs.declared.statements.Statement.{Statement}
use Rattle.tn_config.specs.declared.statements.Statement.TheVariants as statement
use Rattle.tn_config.specs.Keywords.{keyword_word}
use Rattle.tn_config.specs.Statements.{keyword_of}
use Rattle.tn_config.specs.Configurations.{BlockState, ConfigState}

-- the tokens behind the keyword: addresses and arguments are words, other numbers decimal
abbrev pub setting_tokens : Setting → List (List ℕ)
setting_tokens (setting.Code address) = word_text address ∷ []
setting_tokens (setting.Data address) = word_text address ∷ []
setting_tokens (setting.Workspace wptr below above) = word_text wptr ∷ decimal below ∷ decimal above ∷ []
setting_tokens (setting.Module file) = file ∷ []
setting_tokens (setting.Library file) = file ∷ []
setting_tokens (setting.Entry label) = label ∷ []
setting_tokens (setting.Arg word) = word_text word ∷ []

abbrev pub argument_tokens : Statement → List (List ℕ)
argument_tokens (statement.Processor name size) = name ∷ decimal size ∷ []
argument_tokens (statement.Host name link) = name ∷ decimal link ∷ []
argument_tokens (statement.Wire one l two m) = one ∷ decimal l ∷ two ∷ decimal m ∷ []
argument_tokens (statement.Set s) = setting_tokens s
argument_tokens statement.End = []

-- the line of a statement: the keyword, and a blank before each token behind it
unfoldable pub statement_line : Statement → List ℕ
statement_line s = keyword_word (keyword_of s) ++ flat_map spaced (argument_tokens s)

abbrev pub statement_spelling : Statement → List ℕ
statement_spelling s = statement_line s ++ codes "\n"

-- the lines of a block between its first and its last
unfoldable pub block_settings : BlockState → List Setting
block_settings b =
    setting.Code b.code ∷ setting.Data b.cells ∷ setting.Workspace b.wptr b.below b.above
    ∷ (map setting.Module b.modules ++ (map setting.Library b.libraries ++ setting.Entry b.entry ∷ map setting.Arg b.args))

-- the lines of a block
abbrev pub block_statements : BlockState → List Statement
block_statements b = statement.Processor b.name b.size ∷ (map statement.Set (block_settings b) ++ statement.End ∷ [])

abbrev pub host_statement : HostLine → Statement
host_statement h = statement.Host h.name h.link

abbrev pub wire_statement : WireLine → Statement
wire_statement w = statement.Wire w.one w.one_link w.two w.two_link

-- the lines of a configuration: the blocks in order, the host, the wires in order
abbrev pub config_statements : ConfigState → List Statement
config_statements c =
    flat_map block_statements c.blocks ++ (map host_statement (option_to_list c.host) ++ map wire_statement c.wires)

-- the text of a configuration
unfoldable pub config_spelling : ConfigState → List ℕ
config_spelling c = flat_map statement_spelling (config_statements c)
