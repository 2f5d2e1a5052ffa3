use Rattle.std.proofs.Common.{◌≡◌, ℕ, ◌<◌, List}
use Rattle.indexmap.specs.IndexMap.{get}
use Rattle.tn_module.specs.Names.{same_name}
use Rattle.tn_module.specs.Validity.{IsValid}
use Rattle.tn_symbols.specs.Choices.{module_at}
use Rattle.tn_link.specs.Inner.Tables.{label_among}
use Rattle.tn_link.proofs.tables.exports.Given as goal

abbrev pub invariant-loop-m : goal.invariant-loop-m
invariant-loop-m l = record {
  valid : (k : ℕ) → k < l.m → IsValid (module_at l.modules k);
  told : (name : List ℕ) → get same_name l.table name ≡ label_among l.modules l.m name;
}
