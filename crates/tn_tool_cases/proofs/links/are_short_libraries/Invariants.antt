use Rattle.std.proofs.Common.{◌<◌, take, length, All}
use Rattle.tn_module.specs.declared.modules.Library.{Library}
use Rattle.tn_symbols.specs.Sources.{IsShortLibrary}
use Rattle.tn_tool_cases.proofs.links.are_short_libraries.Given as goal

-- the libraries so far are short
abbrev pub invariant-loop-library : goal.invariant-loop-library
invariant-loop-library l =
    All IsShortLibrary (take l.library-index l.shelf)
    × All (λ (x : Library). length x.modules.items < 10000) (take l.library-index l.shelf)
