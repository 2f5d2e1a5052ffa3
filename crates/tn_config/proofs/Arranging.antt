-- A statement that may stand behind what has been said, is arranged with it.
use Rattle.std.proofs.Common.{◌≡◌, ℕ, ◌≤◌, ◌⊎◌, inl, inr, true, false, List, [], ◌∷◌, ◌++◌, length, Option, Some, None, option_map}
use Rattle.std.proofs.Common.{Ok, Err, All, refl, sym, ap, ◌∙◌, subst, append_assoc, append-nil, arith}
use Rattle.std.specs.List.{filter_map, flat_map}
use Rattle.std.proofs.lemmas.Grind.{flat_map-append}
use Rattle.std.proofs.lemmas.List.{map-append}
use Rattle.std.proofs.lemmas.List.Elements.{All-push}
use Rattle.std.proofs.lemmas.Option.{same_Some}
use Rattle.tn_text.specs.declared.faults.Cause.{Cause}
use Rattle.tn_config.specs.declared.configurations.HostLine.{HostLine}
use Rattle.tn_config.specs.declared.configurations.WireLine.{WireLine}
use Rattle.tn_config.specs.declared.statements.Setting.{Setting}
use Rattle.tn_config.specs.declared.statements.Setting.TheVariants as setting
use Rattle.tn_config.specs.declared.statements.Statement.{Statement}
use Rattle.tn_config.specs.declared.statements.Statement.TheVariants as statement
use Rattle.tn_config.specs.Statements.{setting_keyword, keyword_of}
use Rattle.tn_config.specs.Parts.{Part, ABlock, AHost, AWire, inside, part_lines, IsWhole, host_in}
use Rattle.tn_config.specs.SoFar.{Opened, opened_lines, latest, draft_so_far, so_far, SaysOnce}
use Rattle.tn_config.specs.ConfigFaults.{may_stand, may_stand_inside, may_stand_outside, lack_at}
use Rattle.tn_config.specs.ConfigReading.{take}
use Rattle.tn_config.proofs.Collected.{once_more}
use Rattle.tn_config.proofs.Steps.{more_body, take_processor, take_host, take_wire, take_set, take_end, refuse_end, once-more, EndsWhole}
use Rattle.tn_config.proofs.Steps.{EndsLacking, end_read}

-- what has been said, as parts and a block that is not ended
pub record Arranged (said : List (ℕ × Statement)) (parts : List Part) (opened : Option Opened) : Type 0 where
  pub are : said ≡ flat_map part_lines parts ++ opened_lines opened
  pub whole : All IsWhole parts
  pub host : length (filter_map host_in parts) ≤ 1
  pub once : (o : Opened) → opened ≡ Some o → SaysOnce o.body

-- a statement with the number n that is read, and arranged
pub record Arranges (said : List (ℕ × Statement)) (parts : List Part) (opened : Option Opened) (n : ℕ) (s : Statement) : Type 0 where
  pub parts_then : List Part
  pub opened_then : Option Opened
  pub arranged : Arranged (said ++ (n, s) ∷ []) parts_then opened_then
  pub read : take (so_far n parts opened) s ≡ Ok (so_far n parts_then opened_then)
  pub fine : lack_at (option_map draft_so_far opened) (keyword_of s) ≡ None

-- the end of a block that lacks something
pub record Lacking (parts : List Part) (opened : Option Opened) (n : ℕ) (s : Statement) : Type 0 where
  pub cause : Cause
  pub read : take (so_far n parts opened) s ≡ Err cause
  pub wrong : lack_at (option_map draft_so_far opened) (keyword_of s) ≡ Some cause

never_outside : (host : Option HostLine) (x : Setting) → may_stand_outside host (setting_keyword x) ≡ false
never_outside host (setting.Code a) = refl
never_outside host (setting.Data a) = refl
never_outside host (setting.Workspace a b c) = refl
never_outside host (setting.Module a) = refl
never_outside host (setting.Library a) = refl
never_outside host (setting.Entry a) = refl
never_outside host (setting.Arg a) = refl

no_lack : (o : Opened) (x : Setting) → lack_at (Some (draft_so_far o)) (setting_keyword x) ≡ None
no_lack o (setting.Code a) = refl
no_lack o (setting.Data a) = refl
no_lack o (setting.Workspace a b c) = refl
no_lack o (setting.Module a) = refl
no_lack o (setting.Library a) = refl
no_lack o (setting.Entry a) = refl
no_lack o (setting.Arg a) = refl

module _ (said : List (ℕ × Statement)) (parts : List Part) (n : ℕ) where
  -- one part of one line more
  one_part : Arranged said parts None → (p : Part) (s : Statement) → IsWhole p → part_lines p ≡ (n, s) ∷ []
      → length (filter_map host_in (parts ++ p ∷ [])) ≤ 1 → Arranged (said ++ (n, s) ∷ []) (parts ++ p ∷ []) None
  one_part a p s whole are host =
      record {
        are =
            ap (λ u. u ++ (n, s) ∷ []) (a.are ∙ append-nil (flat_map part_lines parts))
            ∙ (ap (λ u. flat_map part_lines parts ++ u) (sym (append-nil ((n, s) ∷ [])))
            ∙ (ap (λ u. flat_map part_lines parts ++ (u ++ [])) (sym are)
            ∙ (sym (flat_map-append part_lines parts (p ∷ [])) ∙ sym (append-nil (flat_map part_lines (parts ++ p ∷ []))))));
        whole = All-push IsWhole parts p a.whole whole;
        host = host;
        once = λ o e. absurd cc;
      }

  outside : Arranged said parts None → (s : Statement) → may_stand_outside (latest (filter_map host_in parts)) (keyword_of s) ≡ true
      → Arranges said parts None n s
  outside a (statement.Processor name size) may =
      record {
        parts_then = parts;
        opened_then = Some (record { line = n; name = name; size = size; body = [] });
        arranged = record {
          are = ap (λ u. u ++ (n, statement.Processor name size) ∷ []) (a.are ∙ append-nil (flat_map part_lines parts));
          whole = a.whole;
          host = a.host;
          once = λ o e. subst (λ (o : Opened). SaysOnce o.body)
              (same_Some (record { line = n; name = name; size = size; body = [] }) o e) nothing_twice;
        };
        read = take_processor n parts name size;
        fine = refl;
      }
    where
      nothing_twice : SaysOnce []
      nothing_twice = record { code = omega arith; cells = omega arith; workspace = omega arith; entry = omega arith }
  outside a (statement.Host name link) may =
      let h : HostLine = record { name = name; link = link; line = n } in
      record {
        parts_then = parts ++ AHost h ∷ [];
        opened_then = None;
        arranged = one_part a (AHost h) (statement.Host name link) tt refl (once_more host_in parts (AHost h) (λ e. may) a.host);
        read = take_host n parts name link;
        fine = refl;
      }
  outside a (statement.Wire one l two m) may =
      let w : WireLine = record { one = one; one_link = l; two = two; two_link = m; line = n } in
      record {
        parts_then = parts ++ AWire w ∷ [];
        opened_then = None;
        arranged = one_part a (AWire w) (statement.Wire one l two m) tt refl (once_more host_in parts (AWire w) (λ e. absurd cc) a.host);
        read = take_wire n parts one l two m;
        fine = refl;
      }
  outside a (statement.Set x) may = let never = never_outside (latest (filter_map host_in parts)) x in absurd cc
  outside a statement.End may = absurd cc

  module _ (o : Opened) where
    -- one line of the block more
    one_line : Arranged said parts (Some o) → (x : Setting) → may_stand_inside (draft_so_far o) (setting_keyword x) ≡ true
        → Arranged (said ++ (n, statement.Set x) ∷ []) parts (Some (more_body o n x))
    one_line a x may =
        record {
          are =
              ap (λ u. u ++ (n, statement.Set x) ∷ []) a.are
              ∙ (append_assoc (flat_map part_lines parts) (opened_lines (Some o)) ((n, statement.Set x) ∷ [])
              ∙ ap (λ u. flat_map part_lines parts ++ ((o.line, statement.Processor o.name o.size) ∷ u))
              (sym (map-append inside o.body ((n, x) ∷ []))));
          whole = a.whole;
          host = a.host;
          once = λ p e. subst (λ (o : Opened). SaysOnce o.body) (same_Some (more_body o n x) p e) (once-more o n x (a.once o refl) may);
        }

    -- the block ends
    whole_block : Arranged said parts (Some o) → (e : EndsWhole o)
        → Arranged (said ++ (n, statement.End) ∷ []) (parts ++ ABlock e.b o.body n ∷ []) None
    whole_block a e =
        record {
          are =
              ap (λ u. u ++ (n, statement.End) ∷ []) a.are
              ∙ (append_assoc (flat_map part_lines parts) (opened_lines (Some o)) ((n, statement.End) ∷ [])
              ∙ (ap (λ u. flat_map part_lines parts ++ u) lines_are
              ∙ (sym (flat_map-append part_lines parts (ABlock e.b o.body n ∷ []))
              ∙ sym (append-nil (flat_map part_lines (parts ++ ABlock e.b o.body n ∷ []))))));
          whole = All-push IsWhole parts (ABlock e.b o.body n) a.whole e.is;
          host = once_more host_in parts (ABlock e.b o.body n) (λ e. absurd cc) a.host;
          once = λ p q. absurd cc;
        }
      where
        lines_are : opened_lines (Some o) ++ (n, statement.End) ∷ [] ≡ flat_map part_lines (ABlock e.b o.body n ∷ [])
        lines_are = rw (e.line, e.name, e.size) (sym (append-nil (opened_lines (Some o) ++ (n, statement.End) ∷ [])))

    within : Arranged said parts (Some o) → (s : Statement) → may_stand_inside (draft_so_far o) (keyword_of s) ≡ true
        → Arranges said parts (Some o) n s ⊎ Lacking parts (Some o) n s
    within a (statement.Processor name size) may = absurd cc
    within a (statement.Host name link) may = absurd cc
    within a (statement.Wire one l two m) may = absurd cc
    within a (statement.Set x) may =
        inl (record {
          parts_then = parts;
          opened_then = Some (more_body o n x);
          arranged = one_line a x may;
          read = take_set n parts o x;
          fine = no_lack o x;
        })
    within a statement.End may = at (end_read o (a.once o refl))
      where
        at : EndsWhole o ⊎ EndsLacking o → Arranges said parts (Some o) n statement.End ⊎ Lacking parts (Some o) n statement.End
        at (inl e) =
            inl (record {
              parts_then = parts ++ ABlock e.b o.body n ∷ [];
              opened_then = None;
              arranged = whole_block a e;
              read = take_end n parts o e.b e.read;
              fine = e.fine;
            })
        at (inr e) = inr (record { cause = e.cause; read = refuse_end n parts o e.cause e.read; wrong = e.wrong })

-- any statement that may stand there
pub arrange : (said : List (ℕ × Statement)) (parts : List Part) (opened : Option Opened) (n m : ℕ) (s : Statement)
    → Arranged said parts opened → may_stand (so_far m parts opened) (keyword_of s) ≡ true
    → Arranges said parts opened n s ⊎ Lacking parts opened n s
unfolding may_stand
arrange said parts None n m s a may = inl (outside said parts n a s may)
arrange said parts (Some o) n m s a may = within said parts n o a s may
