use Rattle.std.proofs.Common.{◌++◌, map, Result, Ok, Err, OnOk, ap, ◌∙◌}
use Rattle.std.specs.List.{flat_map}
use Rattle.tn_module.specs.Modules.{module_of}
use Rattle.tn_modtext.specs.declared.lines.Line.TheVariants as line
use Rattle.tn_modtext.specs.Lines.{line_spelling}
use Rattle.tn_modtext.proofs.WritingLaws.{module-written}
use Rattle.tn_modtext.proofs.writers.put_module.Goals as goal

on-ok : {T E P Q : Type 0} (r : Result T E) → (P → Q) → OnOk r P → OnOk r Q
on-ok (Ok x) f p = f p
on-ok (Err e) f p = tt

pub returns : goal.returns
returns c =
    on-ok c.put_line-5.result (λ end. module-written (module_of c.args.raw.now) c.args.out.now.items c.put_line.new.out.items
    c.put_line-2.new.out.items c.put_imports.new.out.items c.put_exports.new.out.items c.put_line-3.new.out.items c.put_items.new.out.items
    c.put_line-4.new.out.items c.put_cells.new.out.items c.put_line-5.new.out.items (record {
      head = c.in_ok-put_line.ensures;
      name = c.in_ok-put_line-2.ensures;
      imports = c.in_ok-put_imports.ensures
          ∙ ap (λ xs. c.put_line-2.new.out.items ++ flat_map line_spelling (map line.Import xs)) c.deref.ensures.value;
      exports = c.in_ok-put_exports.ensures
          ∙ ap (λ xs. c.put_imports.new.out.items ++ flat_map line_spelling (map line.Export xs)) c.deref-2.ensures.value;
      code = c.in_ok-put_line-3.ensures;
      items = c.in_ok-put_items.ensures
          ∙ ap (λ xs. c.put_line-3.new.out.items ++ flat_map line_spelling (map line.Item xs)) c.deref-3.ensures.value;
      cells_begin = c.in_ok-put_line-4.ensures;
      cells = c.in_ok-put_cells.ensures
          ∙ ap (λ xs. c.put_line-4.new.out.items ++ flat_map line_spelling (map line.Cell xs)) c.deref-4.ensures.value;
      end = end;
    })) c.put_line-5.ensures
