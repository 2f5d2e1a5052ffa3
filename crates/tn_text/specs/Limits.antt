-- The limits: their words, and the greatest counts that they allow.
use Rattle.std.specs.Prelude.{ℕ, List, codes}
use Rattle.tn_text.specs.declared.limits.Limit.{Limit}
use Rattle.tn_text.specs.declared.limits.Limit.TheVariants.{File, Processors, Modules, Items, Cells, Code, Lines}
use Rattle.tn_text.specs.declared.limits.TheConstants.{FILE_LIMIT, PROCESSOR_LIMIT, MODULE_LIMIT, ITEM_LIMIT, CELL_LIMIT, CODE_LIMIT}
use Rattle.tn_text.specs.declared.limits.TheConstants.{LINE_LIMIT}

-- the word for a limit
abbrev pub limit_word : Limit → List ℕ
limit_word File = codes "file"
limit_word Processors = codes "processors"
limit_word Modules = codes "modules"
limit_word Items = codes "items"
limit_word Cells = codes "cells"
limit_word Code = codes "code"
limit_word Lines = codes "lines"

-- the greatest count
abbrev pub greatest : Limit → ℕ
greatest File = FILE_LIMIT
greatest Processors = PROCESSOR_LIMIT
greatest Modules = MODULE_LIMIT
greatest Items = ITEM_LIMIT
greatest Cells = CELL_LIMIT
greatest Code = CODE_LIMIT
greatest Lines = LINE_LIMIT
