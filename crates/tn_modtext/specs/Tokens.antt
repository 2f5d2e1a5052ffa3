-- What a token is in the place of a version, of the kind of an import and of a mnemonic. It is a bad
-- line where it is none.
use Rattle.std.specs.Prelude.{ℕ, List, Option, Some, None, Result, Ok, Err, if◌then◌else◌, codes, ⊤}
use Rattle.std.specs.Str.{bytes_eq}
use Rattle.tn_isa.specs.declared.functions.Fun.{Fun}
use Rattle.tn_isa.specs.declared.operations.Op.{Op}
use Rattle.tn_isa.specs.declared.mnemonics.Mnemonic.{Mnemonic}
use Rattle.tn_isa.specs.declared.mnemonics.Mnemonic.TheVariants.{Direct, Plain}
use Rattle.tn_text.specs.declared.faults.Cause.{Cause}
use Rattle.tn_text.specs.declared.faults.FaultCode.TheVariants.{BadLine}
use Rattle.tn_text.specs.Faults.{bare}
use Rattle.tn_module.specs.declared.modules.Kind.{Kind}
use Rattle.tn_module.specs.declared.modules.Kind.TheVariants.{Code, Cell}

abbrev pub version_at : List ℕ → Result ⊤ Cause
version_at token = if bytes_eq token (codes "1") then Ok tt else Err (bare BadLine)

abbrev pub kind_at : List ℕ → Result Kind Cause
kind_at token =
    if bytes_eq token (codes "code") then Ok Code else (if bytes_eq token (codes "data") then Ok Cell else Err (bare BadLine))

abbrev pub function_of : Option Mnemonic → Result Fun Cause
function_of None = Err (bare BadLine)
function_of (Some (Direct f)) = Ok f
function_of (Some (Plain op)) = Err (bare BadLine)

abbrev pub operation_of : Option Mnemonic → Result Op Cause
operation_of None = Err (bare BadLine)
operation_of (Some (Direct f)) = Err (bare BadLine)
operation_of (Some (Plain op)) = Ok op
