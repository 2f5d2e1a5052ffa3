use Rattle.std.proofs.Common.{Result, Ok, Err, OnErr}
use Rattle.tn_io.proofs.FilePlaces.{more_at, same_at}
use Rattle.tn_io.proofs.mem_store.append.Goals as goal

on_err_always : {T E P : Type 0} (r : Result T E) → P → OnErr r P
on_err_always (Ok x) p = tt
on_err_always (Err e) p = p

pub returns-in_err-extend_from_slice-clause-err : goal.returns-in_err-extend_from_slice-clause-err
returns-in_err-extend_from_slice-clause-err c =
    let place = rw (c.unwrap-i.ensures, c.deref.ensures.value) at c.place_of.ensures in
    on_err_always c.from_residual.result (same_at c.args.name.now c.args.files.now.items c.unwrap-i.result c.index_mut.result.now
    c.extend_from_slice.new.self place c.index_mut.ensures.value c.in_err-extend_from_slice.ensures.items)

pub returns-clause-ok : goal.returns-clause-ok
returns-clause-ok c =
    let place = rw (c.unwrap-i.ensures, c.deref.ensures.value) at c.place_of.ensures in
    more_at c.args.name.now c.args.files.now.items c.unwrap-i.result c.index_mut.result.now c.extend_from_slice.new.self place
    c.index_mut.ensures.value c.args.bytes.now c.in_ok-extend_from_slice.ensures.items
