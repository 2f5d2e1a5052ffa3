use Rattle.std.proofs.Common.{◌≡◌, ◌-◌, ◌++◌, List, ℕ, Option, length, take, get_or, ap, sym, ◌∙◌, arith, append_assoc}
use Rattle.std.specs.Prelude.{replicate}
use Rattle.std.specs.Option.{option_or}
use Rattle.std.proofs.lemmas.List.{length-append, length-replicate}
use Rattle.indexmap.specs.IndexMap.{get}
use Rattle.tn_module.specs.declared.modules.Cell.{Cell}
use Rattle.tn_module.specs.Modules.{Parts, module_of}
use Rattle.tn_module.specs.Names.{same_name}
use Rattle.tn_symbols.specs.Choices.{module_at}
use Rattle.tn_symbols.proofs.FirstFaults.{part-at}
use Rattle.tn_link.specs.declared.tables.Start.{Start}
use Rattle.tn_link.specs.declared.tables.Target.{Target}
use Rattle.tn_link.specs.Places.{cells_size, cells_end, start, told, target}
use Rattle.tn_link.specs.Cells.{bytes_of_cells}
use Rattle.tn_link.specs.Inner.Frames.{frame_of}
use Rattle.tn_link.proofs.Ends.{starts-long, start-at, start_from, items-fit, cells-fit, cells-within, ends-more}
use Rattle.tn_link.proofs.Fitness.{tables-are, near-tables, usable-cells_by}
use Rattle.tn_link.proofs.cells.add_module.Goals as goal

pub bounds-plan-m : goal.bounds-plan-m
bounds-plan-m c = c.requires.here

pub bounds-plan-m-2 : goal.bounds-plan-m-2
bounds-plan-m-2 c = starts-long c.args.plan.now.modules.now c.args.plan.now.starts.now c.requires.plan.starts c.args.m c.requires.here

pub labels-requires-clause-items : goal.labels-requires-clause-items
labels-requires-clause-items c =
    items-fit c.args.plan.now.modules.now c.args.plan.now.starts.now c.requires.plan.starts c.args.m c.requires.here _
    (module_of c.raw-raw.result.now)
    (part-at (λ (p : Parts). p) c.args.plan.now.modules.now c.args.m (module_of c.raw-raw.result.now) c.index-plan-m.result
    c.requires.here
    c.index-plan-m.is (c.raw-raw.ensures.parts ∙ sym c.index-plan-m.is)) c.requires.plan.items

pub labels-requires-clause-cells : goal.labels-requires-clause-cells
labels-requires-clause-cells c =
    cells-fit c.args.plan.now.modules.now c.args.plan.now.starts.now c.requires.plan.starts c.args.m c.requires.here _
    (module_of c.raw-raw.result.now)
    (part-at (λ (p : Parts). p) c.args.plan.now.modules.now c.args.m (module_of c.raw-raw.result.now) c.index-plan-m.result
    c.requires.here
    c.index-plan-m.is (c.raw-raw.ensures.parts ∙ sym c.index-plan-m.is)) c.requires.plan.cells

pub overflow_sub-gap : goal.overflow_sub-gap
overflow_sub-gap c = omega (
  arith,
  c.len.ensures,
  c.args.bytes.now.ok,
  c.requires.before,
  ap (λ (s : Start). s.cell)
      (start-at c.args.plan.now.modules.now c.args.plan.now.starts.now c.requires.plan.starts c.args.m c.requires.here
      (start_from 0 0)),
)

pub add_cells-requires-clause-near : goal.add_cells-requires-clause-near
add_cells-requires-clause-near c =
    near-tables c.args.plan.now.modules.now c.args.plan.now.starts.now c.requires.plan.starts c.args.m c.requires.here
    (module_of c.raw-raw.result.now)
    (part-at (λ (p : Parts). p) c.args.plan.now.modules.now c.args.m (module_of c.raw-raw.result.now) c.index-plan-m.result
    c.requires.here
    c.index-plan-m.is (c.raw-raw.ensures.parts ∙ sym c.index-plan-m.is))
    (get same_name c.in_ok-own.own) (get same_name c.args.plan.now.exports.now)
    c.in_ok-own.ensures
    c.requires.plan.exports c.requires.plan.items c.requires.plan.cells _ (omega (arith, c.requires.frame.as_many))

pub add_cells-requires-clause-usable : goal.add_cells-requires-clause-usable
add_cells-requires-clause-usable c =
    usable-cells_by c.args.plan.now.modules.now c.args.plan.now.starts.now c.requires.plan.starts c.args.m c.requires.here
    (module_of c.raw-raw.result.now)
    (part-at (λ (p : Parts). p) c.args.plan.now.modules.now c.args.m (module_of c.raw-raw.result.now) c.index-plan-m.result
    c.requires.here
    c.index-plan-m.is (c.raw-raw.ensures.parts ∙ sym c.index-plan-m.is))
    (get same_name c.in_ok-own.own) (get same_name c.args.plan.now.exports.now)
    c.in_ok-own.ensures
    c.requires.plan.exports c.requires.plan.valid c.requires.plan.linkable.defined c.deref.result.now c.deref.ensures.value

pub add_cells-requires-clause-few : goal.add_cells-requires-clause-few
add_cells-requires-clause-few c =
    let same = part-at (λ (p : Parts). p) c.args.plan.now.modules.now c.args.m (module_of c.raw-raw.result.now) c.index-plan-m.result
    c.requires.here c.index-plan-m.is
    (c.raw-raw.ensures.parts ∙ sym c.index-plan-m.is) in
    omega (
      arith,
      ap (λ (l : List Cell). cells_size l) (c.deref.ensures.value ∙ ap (λ (p : Parts). p.cells) same),
      cells-within c.args.plan.now.modules.now c.args.m c.requires.here,
      c.requires.plan.cells,
    )

pub add_cells-requires-clause-room : goal.add_cells-requires-clause-room
add_cells-requires-clause-room c = omega (
  arith,
  ap length c.in_ok-add_zeros.ensures,
  length-append c.args.bytes.now.items (replicate
      ((get_or c.args.plan.now.starts.now c.args.m (start_from 0 0)).cell - c.len.result) 0),
  length-replicate {A = ℕ} ((get_or c.args.plan.now.starts.now c.args.m (start_from 0 0)).cell - c.len.result) 0,
  c.len.ensures,
  c.args.bytes.now.ok,
  c.requires.before,
  ap (λ (s : Start). s.cell)
      (start-at c.args.plan.now.modules.now c.args.plan.now.starts.now c.requires.plan.starts c.args.m c.requires.here
      (start_from 0 0)),
  cells-within c.args.plan.now.modules.now c.args.m c.requires.here,
  c.requires.plan.cells,
)

pub returns-clause-cells : goal.returns-clause-cells
returns-clause-cells c = λ sizes p.
    let same : module_of c.raw-raw.result.now ≡ module_at c.args.plan.now.modules.now c.args.m = part-at (λ (p : Parts). p)
    c.args.plan.now.modules.now c.args.m (module_of c.raw-raw.result.now) c.index-plan-m.result c.requires.here c.index-plan-m.is
    (c.raw-raw.ensures.parts ∙ sym c.index-plan-m.is) in
    let begins = ap (λ (s : Start). s.cell)
    (start-at c.args.plan.now.modules.now c.args.plan.now.starts.now c.requires.plan.starts c.args.m c.requires.here
    (start_from 0 0)) in
    let gap : (get_or c.args.plan.now.starts.now c.args.m (start_from 0 0)).cell - c.len.result
    ≡ (start c.args.plan.now.modules.now c.args.m).cell - cells_end (take c.args.m c.args.plan.now.modules.now) = omega
    (arith, c.len.ensures, c.args.bytes.now.ok, c.requires.before, begins) in
    let listed = c.deref.ensures.value ∙ ap (λ (p : Parts). p.cells) same in
    let tables = tables-are c.args.plan.now.modules.now c.args.plan.now.starts.now c.requires.plan.starts c.args.m c.requires.here
    (module_of c.raw-raw.result.now) same (get same_name c.in_ok-own.own) (get same_name c.args.plan.now.exports.now) c.in_ok-own.ensures
    c.requires.plan.exports in
    c.in_ok-add_cells.ensures.bytes sizes p
    ∙ ap (λ (l : List ℕ). l ++ bytes_of_cells (frame_of c.args.frame.now sizes)
    (told (λ (q : List ℕ). option_or (get same_name c.in_ok-own.own q) (get same_name c.args.plan.now.exports.now q)))
    c.deref.result.now
    (length c.deref.result.now)) c.in_ok-add_zeros.ensures
    ∙ ap (λ (f : List ℕ → Option Target). (c.args.bytes.now.items ++ replicate
    ((get_or c.args.plan.now.starts.now c.args.m (start_from 0 0)).cell - c.len.result) 0)
    ++ bytes_of_cells (frame_of c.args.frame.now sizes) (told f) c.deref.result.now (length c.deref.result.now)) tables
    ∙ ap (λ (l : List Cell). (c.args.bytes.now.items ++ replicate
    ((get_or c.args.plan.now.starts.now c.args.m (start_from 0 0)).cell - c.len.result) 0)
    ++ bytes_of_cells (frame_of c.args.frame.now sizes) (target c.args.plan.now.modules.now c.args.m) l (length l)) listed
    ∙ ap (λ n. (c.args.bytes.now.items ++ replicate n 0)
    ++ bytes_of_cells (frame_of c.args.frame.now sizes) (target c.args.plan.now.modules.now c.args.m)
    (module_at c.args.plan.now.modules.now c.args.m).cells (length (module_at c.args.plan.now.modules.now c.args.m).cells)) gap
    ∙ append_assoc c.args.bytes.now.items
    (replicate ((start c.args.plan.now.modules.now c.args.m).cell - cells_end (take c.args.m c.args.plan.now.modules.now)) 0)
    (bytes_of_cells (frame_of c.args.frame.now sizes) (target c.args.plan.now.modules.now c.args.m)
    (module_at c.args.plan.now.modules.now c.args.m).cells (length (module_at c.args.plan.now.modules.now c.args.m).cells))

pub returns-clause-long : goal.returns-clause-long
returns-clause-long c =
    let same : module_of c.raw-raw.result.now ≡ module_at c.args.plan.now.modules.now c.args.m = part-at (λ (p : Parts). p)
    c.args.plan.now.modules.now c.args.m (module_of c.raw-raw.result.now) c.index-plan-m.result c.requires.here c.index-plan-m.is
    (c.raw-raw.ensures.parts ∙ sym c.index-plan-m.is) in
    let begins = ap (λ (s : Start). s.cell)
    (start-at c.args.plan.now.modules.now c.args.plan.now.starts.now c.requires.plan.starts c.args.m c.requires.here
    (start_from 0 0)) in
    let gap : (get_or c.args.plan.now.starts.now c.args.m (start_from 0 0)).cell - c.len.result
    ≡ (start c.args.plan.now.modules.now c.args.m).cell - cells_end (take c.args.m c.args.plan.now.modules.now) = omega
    (arith, c.len.ensures, c.args.bytes.now.ok, c.requires.before, begins) in
    let listed = c.deref.ensures.value ∙ ap (λ (p : Parts). p.cells) same in
    omega (
      arith,
      c.in_ok-add_cells.ensures.long,
      ap (λ (l : List Cell). cells_size l) listed,
      ap length c.in_ok-add_zeros.ensures,
      length-append c.args.bytes.now.items (replicate
          ((get_or c.args.plan.now.starts.now c.args.m (start_from 0 0)).cell - c.len.result) 0),
      length-replicate {A = ℕ} ((get_or c.args.plan.now.starts.now c.args.m (start_from 0 0)).cell - c.len.result) 0,
      gap,
      c.requires.before,
      ends-more c.args.plan.now.modules.now c.args.m c.requires.here,
    )
