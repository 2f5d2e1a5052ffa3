use Rattle.std.proofs.Common.{take, All}
use Rattle.tn_module.specs.Modules.{IsShort}
use Rattle.tn_tool_cases.proofs.links.are_short.Given as goal

-- the modules so far are short
abbrev pub invariant-loop-module : goal.invariant-loop-module
invariant-loop-module l = All IsShort (take l.module-index l.modules)
