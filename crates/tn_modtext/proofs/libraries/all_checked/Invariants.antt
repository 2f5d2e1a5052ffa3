use Rattle.std.proofs.Common.{◌≡◌, ◌++◌, map}
use Rattle.tn_module.specs.Modules.{module_of}
use Rattle.tn_modtext.proofs.LibraryLaws.{IsCheckedTo}
use Rattle.tn_modtext.proofs.libraries.all_checked.Given as goal

-- the modules so far were checked, and the lines before the next are counted
abbrev pub invariant-loop-raw : goal.invariant-loop-raw
invariant-loop-raw l =
    IsCheckedTo (map module_of l.yielded) l.modules.items l.before
    × (l.yielded ++ l.raw-iterator.rest.items ≡ l.fn.raws.items)
    × (goal.iterator-loop-raw).can_next l.raw-iterator
    × (goal.iterator-loop-raw).is_finite l.raw-iterator
