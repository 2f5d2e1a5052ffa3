-- What reading one statement more makes of what has been said.
use Rattle.std.proofs.Common.{◌≡◌, ℕ, ◌≤◌, ◌⊎◌, inl, inr, true, List, [], ◌∷◌, ◌++◌, length, Some, None, Result, Ok, Err}
use Rattle.std.proofs.Common.{refl, sym, ap, ◌∙◌, is_some, is_none, arith}
use Rattle.std.specs.List.{filter_map}
use Rattle.tn_text.specs.declared.faults.Cause.{Cause}
use Rattle.tn_text.specs.declared.faults.Lack.TheVariants as lack
use Rattle.tn_text.specs.Reading.{result_then}
use Rattle.tn_config.specs.declared.statements.Setting.{Setting}
use Rattle.tn_config.specs.declared.statements.Setting.TheVariants as setting
use Rattle.tn_config.specs.declared.statements.Statement.TheVariants as statement
use Rattle.tn_config.specs.Configurations.{BlockState}
use Rattle.tn_config.specs.Statements.{setting_keyword}
use Rattle.tn_config.specs.Parts.{Part, ABlock, AHost, AWire, IsBlock, code_in, cells_in, workspace_in, entry_in, module_in, library_in}
use Rattle.tn_config.specs.Parts.{arg_in, block_in, host_in, wire_in}
use Rattle.tn_config.specs.SoFar.{DraftState, ReaderState, Opened, newer, latest, append_option, draft_so_far, so_far, SaysOnce}
use Rattle.tn_config.specs.ConfigFaults.{may_stand_inside, lack_of, lacks}
use Rattle.tn_config.specs.ConfigReading.{set, ended, nonempty, take}
use Rattle.tn_config.proofs.Collected.{collected-more, latest-more, once_more, free_before}

-- one line of a block more
abbrev pub more_body : Opened → ℕ → Setting → Opened
more_body o n x = record o { body = o.body ++ (n, x) ∷ [] }

-- each thing said of a block, with that of one line more
abbrev with_line : DraftState → ℕ → Setting → DraftState
with_line d n x =
    record {
      line = d.line;
      name = d.name;
      size = d.size;
      code = newer d.code (code_in (n, x));
      cells = newer d.cells (cells_in (n, x));
      workspace = newer d.workspace (workspace_in (n, x));
      entry = newer d.entry (entry_in (n, x));
      modules = append_option d.modules (module_in (n, x));
      libraries = append_option d.libraries (library_in (n, x));
      args = append_option d.args (arg_in (n, x));
    }

set_line : (d : DraftState) (n : ℕ) (x : Setting) → set d n x ≡ with_line d n x
unfolding set
set_line d n (setting.Code a) = refl
set_line d n (setting.Data a) = refl
set_line d n (setting.Workspace a b c) = refl
set_line d n (setting.Module a) = refl
set_line d n (setting.Library a) = refl
set_line d n (setting.Entry a) = refl
set_line d n (setting.Arg a) = refl

draft_so_far-more : (o : Opened) (n : ℕ) (x : Setting) → draft_so_far (more_body o n x) ≡ with_line (draft_so_far o) n x
draft_so_far-more o n x =
    rw (
      latest-more code_in o.body (n, x),
      latest-more cells_in o.body (n, x),
      latest-more workspace_in o.body (n, x),
      latest-more entry_in o.body (n, x),
      collected-more module_in o.body (n, x),
      collected-more library_in o.body (n, x),
      collected-more arg_in o.body (n, x),
    ) refl

pub set_more : (o : Opened) (n : ℕ) (x : Setting) → set (draft_so_far o) n x ≡ draft_so_far (more_body o n x)
set_more o n x = set_line (draft_so_far o) n x ∙ sym (draft_so_far-more o n x)

-- one part more
abbrev with_part : ℕ → List Part → Part → ReaderState
with_part n parts p =
    record {
      lines = n;
      blocks = append_option (filter_map block_in parts) (block_in p);
      host = newer (latest (filter_map host_in parts)) (host_in p);
      wires = append_option (filter_map wire_in parts) (wire_in p);
      draft = None;
    }

so_far-more : (n : ℕ) (parts : List Part) (p : Part) → so_far n (parts ++ p ∷ []) None ≡ with_part n parts p
so_far-more n parts p =
    rw (collected-more block_in parts p, latest-more host_in parts p, collected-more wire_in parts p) refl

module _ (n : ℕ) (parts : List Part) where
  pub take_processor : (name : List ℕ) (size : ℕ) → take (so_far n parts None) (statement.Processor name size)
      ≡ Ok (so_far n parts (Some (record { line = n; name = name; size = size; body = [] })))
  unfolding take
  take_processor name size = refl

  pub take_host : (name : List ℕ) (link : ℕ) → take (so_far n parts None) (statement.Host name link)
      ≡ Ok (so_far n (parts ++ AHost (record { name = name; link = link; line = n }) ∷ []) None)
  unfolding take
  take_host name link = ap Ok (sym (so_far-more n parts (AHost (record { name = name; link = link; line = n }))))

  pub take_wire : (one : List ℕ) (l : ℕ) (two : List ℕ) (m : ℕ) → take (so_far n parts None) (statement.Wire one l two m)
      ≡ Ok (so_far n (parts ++ AWire (record { one = one; one_link = l; two = two; two_link = m; line = n }) ∷ []) None)
  unfolding take
  take_wire one l two m =
      ap Ok (sym (so_far-more n parts (AWire (record { one = one; one_link = l; two = two; two_link = m; line = n }))))

  pub take_set : (o : Opened) (x : Setting) → take (so_far n parts (Some o)) (statement.Set x)
      ≡ Ok (so_far n parts (Some (more_body o n x)))
  unfolding take
  take_set o x = ap (λ d. Ok (record (so_far n parts (Some o)) { draft = Some d })) (set_more o n x)

  pub take_end : (o : Opened) (b : BlockState) → ended (draft_so_far o) ≡ Ok b
      → take (so_far n parts (Some o)) statement.End ≡ Ok (so_far n (parts ++ ABlock b o.body n ∷ []) None)
  unfolding take
  take_end o b e =
      ap (λ r. result_then r (λ b. Ok (record (so_far n parts (Some o)) { blocks = filter_map block_in parts ++ b ∷ []; draft = None }))) e
      ∙ ap Ok (sym (so_far-more n parts (ABlock b o.body n)))

  pub refuse_end : (o : Opened) (cause : Cause) → ended (draft_so_far o) ≡ Err cause
      → take (so_far n parts (Some o)) statement.End ≡ Err cause
  unfolding take
  refuse_end o cause e =
      ap (λ r. result_then r (λ b. Ok (record (so_far n parts (Some o)) { blocks = filter_map block_in parts ++ b ∷ []; draft = None }))) e

-- what may stand says something that nothing before it says
code_free : (d : DraftState) (n : ℕ) (x : Setting) → may_stand_inside d (setting_keyword x) ≡ true → is_some (code_in (n, x)) ≡ true
    → is_none d.code ≡ true
code_free d n (setting.Code a) may some = may
code_free d n _ may some = absurd cc

cells_free : (d : DraftState) (n : ℕ) (x : Setting) → may_stand_inside d (setting_keyword x) ≡ true
    → is_some (cells_in (n, x)) ≡ true → is_none d.cells ≡ true
cells_free d n (setting.Data a) may some = may
cells_free d n _ may some = absurd cc

workspace_free : (d : DraftState) (n : ℕ) (x : Setting) → may_stand_inside d (setting_keyword x) ≡ true
    → is_some (workspace_in (n, x)) ≡ true → is_none d.workspace ≡ true
workspace_free d n (setting.Workspace a b c) may some = may
workspace_free d n _ may some = absurd cc

entry_free : (d : DraftState) (n : ℕ) (x : Setting) → may_stand_inside d (setting_keyword x) ≡ true
    → is_some (entry_in (n, x)) ≡ true → is_none d.entry ≡ true
entry_free d n (setting.Entry a) may some = may
entry_free d n _ may some = absurd cc

pub once-more : (o : Opened) (n : ℕ) (x : Setting) → SaysOnce o.body → may_stand_inside (draft_so_far o) (setting_keyword x) ≡ true
    → SaysOnce (o.body ++ (n, x) ∷ [])
once-more o n x once may =
    record {
      code = once_more code_in o.body (n, x) (code_free (draft_so_far o) n x may) once.code;
      cells = once_more cells_in o.body (n, x) (cells_free (draft_so_far o) n x may) once.cells;
      workspace = once_more workspace_in o.body (n, x) (workspace_free (draft_so_far o) n x may) once.workspace;
      entry = once_more entry_in o.body (n, x) (entry_free (draft_so_far o) n x may) once.entry;
    }

-- where nothing is said twice, each line may stand behind those before it
pub may-before : (o : Opened) (n : ℕ) (x : Setting) (zs : List (ℕ × Setting)) → SaysOnce (o.body ++ (n, x) ∷ zs)
    → may_stand_inside (draft_so_far o) (setting_keyword x) ≡ true
may-before o n (setting.Code a) zs once = free_before code_in o.body (n, setting.Code a) zs refl once.code
may-before o n (setting.Data a) zs once = free_before cells_in o.body (n, setting.Data a) zs refl once.cells
may-before o n (setting.Workspace a b c) zs once = free_before workspace_in o.body (n, setting.Workspace a b c) zs refl once.workspace
may-before o n (setting.Entry a) zs once = free_before entry_in o.body (n, setting.Entry a) zs refl once.entry
may-before o n (setting.Module a) zs once = refl
may-before o n (setting.Library a) zs once = refl
may-before o n (setting.Arg a) zs once = refl

-- the end of a block: it is whole, or it lacks something
pub record EndsWhole (o : Opened) : Type 0 where
  pub b : BlockState
  pub is : IsBlock o.body b
  pub line : b.lines.processor ≡ o.line
  pub name : b.name ≡ o.name
  pub size : b.size ≡ o.size
  pub read : ended (draft_so_far o) ≡ Ok b
  pub fine : lack_of (draft_so_far o) ≡ None

pub record EndsLacking (o : Opened) : Type 0 where
  pub cause : Cause
  pub read : ended (draft_so_far o) ≡ Err cause
  pub wrong : lack_of (draft_so_far o) ≡ Some cause

single : {A : Type 0} (xs : List A) → length xs ≤ 1 → (xs ≡ []) ⊎ ((x : A) × (xs ≡ x ∷ []))
single [] h = inl refl
single (x ∷ []) h = inr (x, refl)
single (x ∷ y ∷ ys) h = absurd (omega arith)

pub end_read : (o : Opened) → SaysOnce o.body → EndsWhole o ⊎ EndsLacking o
unfolding ended
end_read o once =
    by (single (filter_map code_in o.body) once.code) (single (filter_map cells_in o.body) once.cells)
    (single (filter_map workspace_in o.body) once.workspace) (single (filter_map entry_in o.body) once.entry)
    (filter_map module_in o.body) refl
  where
    by : (filter_map code_in o.body ≡ []) ⊎ ((x : ℕ × ℕ) × (filter_map code_in o.body ≡ x ∷ []))
        → (filter_map cells_in o.body ≡ []) ⊎ ((x : ℕ × ℕ) × (filter_map cells_in o.body ≡ x ∷ []))
        → (filter_map workspace_in o.body ≡ []) ⊎ ((x : ℕ × ℕ × ℕ × ℕ) × (filter_map workspace_in o.body ≡ x ∷ []))
        → (filter_map entry_in o.body ≡ []) ⊎ ((x : ℕ × List ℕ) × (filter_map entry_in o.body ≡ x ∷ []))
        → (ms : List (List ℕ)) → filter_map module_in o.body ≡ ms → EndsWhole o ⊎ EndsLacking o
    by (inl e) c w t ms m = inr (record { cause = lacks lack.Code; read = rw e refl; wrong = rw e refl })
    by (inr (x, e)) (inl f) w t ms m = inr (record { cause = lacks lack.Data; read = rw (e, f) refl; wrong = rw (e, f) refl })
    by (inr (x, e)) (inr (y, f)) (inl g) t ms m =
        inr (record { cause = lacks lack.Workspace; read = rw (e, f, g) refl; wrong = rw (e, f, g) refl })
    by (inr (x, e)) (inr (y, f)) (inr (z, g)) (inl h) ms m =
        inr (record { cause = lacks lack.Entry; read = rw (e, f, g, h) refl; wrong = rw (e, f, g, h) refl })
    by (inr (x, e)) (inr (y, f)) (inr (z, g)) (inr (u, h)) [] m =
        inr (record { cause = lacks lack.Module; read = rw (e, f, g, h, m) refl; wrong = rw (e, f, g, h, m) refl })
    by (inr (x, e)) (inr (y, f)) (inr (z, g)) (inr (u, h)) (file ∷ files) m =
        inl (record {
          b = record {
            name = o.name;
            size = o.size;
            code = x.1;
            cells = y.1;
            wptr = z.1;
            below = z.2;
            above = z.3;
            modules = file ∷ files;
            libraries = filter_map library_in o.body;
            entry = u.1;
            args = filter_map arg_in o.body;
            lines = record { processor = o.line; code = x.0; cells = y.0; workspace = z.0; entry = u.0 };
          };
          is = record {
            code = e;
            cells = f;
            workspace = g;
            entry = h;
            modules = m;
            some = λ q. absurd cc;
            libraries = refl;
            args = refl;
          };
          line = refl;
          name = refl;
          size = refl;
          read = rw (e, f, g, h, m) refl;
          fine = rw (e, f, g, h, m) refl;
        })

nonempty_is : {B : Type 0} (xs : List (List ℕ)) (r : Result B Cause) → (xs ≡ [] → ⊥) → nonempty lack.Module xs r ≡ r
nonempty_is [] r some = absurd (some refl)
nonempty_is (x ∷ xs) r some = refl

-- the lines of a whole block end it
pub whole_ends : (b : BlockState) (body : List (ℕ × Setting)) → IsBlock body b
    → ended (draft_so_far (record { line = b.lines.processor; name = b.name; size = b.size; body = body })) ≡ Ok b
unfolding ended
whole_ends b body h =
    rw (h.code, h.cells, h.workspace, h.entry, h.modules, h.libraries, h.args) (nonempty_is b.modules (Ok b) h.some)

one_is_one : {A : Type 0} (xs : List A) (x : A) → xs ≡ x ∷ [] → length xs ≤ 1
one_is_one xs x e = rw e (omega arith)

pub whole_once : (b : BlockState) (body : List (ℕ × Setting)) → IsBlock body b → SaysOnce body
whole_once b body h =
    record {
      code = one_is_one (filter_map code_in body) (b.lines.code, b.code) h.code;
      cells = one_is_one (filter_map cells_in body) (b.lines.cells, b.cells) h.cells;
      workspace = one_is_one (filter_map workspace_in body) (b.lines.workspace, b.wptr, b.below, b.above) h.workspace;
      entry = one_is_one (filter_map entry_in body) (b.lines.entry, b.entry) h.entry;
    }
