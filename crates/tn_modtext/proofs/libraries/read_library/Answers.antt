use Rattle.std.proofs.Common.{ℕ, Vec, Global, List, map, Result, Ok, Err, sym}
use Rattle.std.specs.Result.{result_map_both}
use Rattle.tn_text.specs.declared.faults.ReadFault.{ReadFault}
use Rattle.tn_text.proofs.Results.{of-error}
use Rattle.tn_module.specs.declared.modules.RawModule.{RawModule}
use Rattle.tn_module.specs.declared.modules.Library.{Library}
use Rattle.tn_module.specs.Modules.{Parts, module_of}
use Rattle.tn_modtext.specs.Libraries.{IsLibraryText, IsLibraryTextFault}
use Rattle.tn_modtext.specs.Readers.{Reads}
use Rattle.tn_modtext.specs.Inner.LibraryDrafts.{library_read}
use Rattle.tn_modtext.proofs.CheckLaws.{stopped-given}
use Rattle.tn_modtext.proofs.LibraryReadLaws.{library_reading}
use Rattle.tn_modtext.proofs.LibraryLaws.{room-library, library-read, library-stopped}
use Rattle.tn_modtext.proofs.libraries.read_library.Goals as goal

-- what the reader promises of an answer
abbrev Promised : List ℕ → Result Library ReadFault → Type 0
Promised text r = Reads (IsLibraryText text) (IsLibraryTextFault text) (result_map_both (λ l. l.modules.items) (λ why. why) r)

abbrev parts_of : Vec RawModule Global → List Parts
parts_of raws = map module_of raws.items

pub returns-in_err-raws : goal.returns-in_err-raws
returns-in_err-raws c =
    of-error (Promised c.args.text.now) c.from_residual.result c.in_err-raws.field-0.0 c.from_residual.ensures.1
    (library-stopped c.args.text.now c.in_err-raws.field-0.0
    (stopped-given parts_of (library_read c.args.text.now) c.in_err-raws.field-0.0 c.in_err-raws.ensures))

pub all_checked-requires : goal.all_checked-requires
all_checked-requires c =
    room-library c.args.text.now (map module_of c.in_ok-raws.raws.items)
    ((library_reading c.args.text.now).found (map module_of c.in_ok-raws.raws.items) (sym c.in_ok-raws.ensures)).1 c.requires

pub returns-in_err-modules : goal.returns-in_err-modules
returns-in_err-modules c =
    of-error (Promised c.args.text.now) c.from_residual-in_err-modules.result c.in_err-modules.field-0.0
    c.from_residual-in_err-modules.ensures.1
    (library-read c.args.text.now (map module_of c.in_ok-raws.raws.items) (Err c.in_err-modules.field-0.0) (sym c.in_ok-raws.ensures)
    c.in_err-modules.ensures)

pub returns : goal.returns
returns c =
    library-read c.args.text.now (map module_of c.in_ok-raws.raws.items) (Ok c.in_ok-modules.modules.items) (sym c.in_ok-raws.ensures)
    c.in_ok-modules.ensures
