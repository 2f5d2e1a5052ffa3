-- What was read from texts of files may become a system.
use Rattle.std.proofs.Common.{ℕ, ◌+◌, ◌<◌, ◌^◌, List, length, ap, arith}
use Rattle.std.specs.List.{flat_map}
use Rattle.tn_module.specs.Modules.{Parts}
use Rattle.tn_modtext.specs.Lines.{lines_of}
use Rattle.tn_modtext.specs.ModuleTexts.{IsModuleText}
use Rattle.tn_modtext.specs.Libraries.{IsLibraryText}
use Rattle.tn_modtext.proofs.ModuleLaws.{lines_below}
use Rattle.tn_modtext.proofs.LibraryLaws.{room-library}
use Rattle.tn_system.specs.Sources.{HasFewLines}

-- a module that stands in a file has few lines
pub few_lines : (text : List ℕ) (m : Parts) → IsModuleText text m → length text < 2 ^ 30 → HasFewLines m
few_lines text m is short = omega (arith, short, ap length is.spelled, lines_below (lines_of m))

-- and so have the modules of a library
pub few_library_lines : (text : List ℕ) (ms : List Parts) → IsLibraryText text ms → length text < 2 ^ 30
    → 1 + length (flat_map lines_of ms) < 2 ^ 30
few_library_lines text ms is short = room-library text ms is.spelled short
