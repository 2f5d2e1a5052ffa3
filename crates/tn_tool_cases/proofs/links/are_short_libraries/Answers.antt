use Rattle.std.proofs.Common.{◌<◌, length, rules}
use Rattle.tn_module.specs.declared.modules.Library.{Library}
use Rattle.tn_module.proofs.Places.{all-grown, all-seen}
use Rattle.tn_symbols.specs.Sources.{IsShortLibrary}
use Rattle.tn_tool_cases.proofs.links.are_short_libraries.Goals as goal

pub loop-library-preserved : goal.loop-library-preserved
loop-library-preserved c = (
  all-grown IsShortLibrary c.args.shelf.now c.loop-library.library-index c.library-item.result c.loop-library-test.true
      c.library-item.is c.loop-library.invariant.0 (c.is_short_library.ensures.short (search rules)),
  all-grown (λ (l : Library). length l.modules.items < 10000) c.args.shelf.now c.loop-library.library-index c.library-item.result
      c.loop-library-test.true c.library-item.is c.loop-library.invariant.1 (c.is_short_library.ensures.few (search rules)),
)

pub returns-clause-short : goal.returns-clause-short
returns-clause-short c = λ _.
    all-seen IsShortLibrary c.args.shelf.now c.loop-library.library-index c.loop-library-test.false c.loop-library.invariant.0

pub returns-clause-few : goal.returns-clause-few
returns-clause-few c = λ _.
    all-seen (λ (l : Library). length l.modules.items < 10000) c.args.shelf.now c.loop-library.library-index c.loop-library-test.false
    c.loop-library.invariant.1
