-- Lines that are walked are those that a configuration may begin with.
use Rattle.std.proofs.Common.{◌≡◌, ℕ, ◌+◌, ◌⊎◌, inl, inr, List, [], ◌∷◌, ◌++◌, length, Option, Some, None, Ok, Err, refl, sym, ap}
use Rattle.std.proofs.Common.{◌∙◌, subst, append_assoc, append-nil, arith, length-append}
use Rattle.std.proofs.lemmas.List.Elements.{All-nil}
use Rattle.std.proofs.lemmas.Option.{same_Some}
use Rattle.tn_text.specs.declared.faults.Cause.{Cause}
use Rattle.tn_text.specs.Reading.{Walks}
use Rattle.tn_text.proofs.Results.{ok-ok, err-err, ok-err, none-some}
use Rattle.tn_config.specs.declared.statements.Statement.{Statement}
use Rattle.tn_config.specs.Statements.{LineSays, LinesSay}
use Rattle.tn_config.specs.Parts.{Part, IsWhole}
use Rattle.tn_config.specs.SoFar.{ReaderState, Opened, so_far}
use Rattle.tn_config.specs.ConfigFaults.{line_cause, IsBeginning}
use Rattle.tn_config.specs.ConfigReading.{take, config_line}
use Rattle.tn_config.proofs.Lines.{Silent, Telling, Wrong, line_read}
use Rattle.tn_config.proofs.Arranging.{Arranged, Arranges, Lacking, arrange}

-- one line more says what it says behind the others
pub LinesSay-more : (n : ℕ) (ls : List (List ℕ)) (said : List (ℕ × Statement)) (line : List ℕ) (here : List (ℕ × Statement))
    → LinesSay n ls said → LineSays (n + length ls + 1) line here → LinesSay n (ls ++ line ∷ []) (said ++ here)
unfolding LinesSay
LinesSay-more n [] said line here e says =
    let at : n + 0 + 1 ≡ n + 1 = omega arith in
    (here, [], subst (λ k. LineSays k line here) at says, refl, ap (λ s. s ++ here) e ∙ sym (append-nil here))
LinesSay-more n (first ∷ ls) said line here (front, below, one, more, is) says =
    let at : n + length (first ∷ ls) + 1 ≡ (n + 1) + length ls + 1 = omega arith in (
      front,
      below ++ here,
      one,
      LinesSay-more (n + 1) ls below line here more (subst (λ k. LineSays k line here) at says),
      ap (λ s. s ++ here) is ∙ append_assoc front below here,
    )

arranged_in : (ls : List (List ℕ)) (parts : List Part) (opened : Option Opened) → (b : IsBeginning ls parts opened)
    → Arranged b.said parts opened
arranged_in ls parts opened b = record { are = b.are; whole = b.whole; host = b.host; once = b.once }

begins : (ls : List (List ℕ)) (said : List (ℕ × Statement)) (parts : List Part) (opened : Option Opened) → LinesSay 0 ls said
    → Arranged said parts opened → IsBeginning ls parts opened
begins ls said parts opened say a =
    record { said = said; say = say; are = a.are; whole = a.whole; host = a.host; once = a.once }

pub begins_empty : IsBeginning [] [] None
unfolding LinesSay
begins_empty =
    record {
      said = [];
      say = refl;
      are = refl;
      whole = All-nil IsWhole;
      host = omega arith;
      once = λ o e. absurd cc;
    }

-- a line more, which is read
pub record GoesOn (ls : List (List ℕ)) (line : List ℕ) (t : ReaderState) : Type 0 where
  pub parts : List Part
  pub opened : Option Opened
  pub begins : IsBeginning (ls ++ line ∷ []) parts opened
  pub is : t ≡ so_far (length (ls ++ line ∷ [])) parts opened

module _ (ls : List (List ℕ)) (parts : List Part) (opened : Option Opened) (b : IsBeginning ls parts opened) (line : List ℕ) where
  one_longer : length (ls ++ line ∷ []) ≡ length ls + 1
  one_longer = length-append ls (line ∷ [])

  told_more : (here : List (ℕ × Statement)) → LineSays (length ls + 1) line here → LinesSay 0 (ls ++ line ∷ []) (b.said ++ here)
  told_more here says =
      let at : length ls + 1 ≡ 0 + length ls + 1 = omega arith in
      LinesSay-more 0 ls b.said line here b.say (subst (λ k. LineSays k line here) at says)

  silent_on : Silent (so_far (length ls) parts opened) line → GoesOn ls line (so_far (length ls + 1) parts opened)
  silent_on q = record {
    parts = parts;
    opened = opened;
    begins =
        begins (ls ++ line ∷ []) b.said parts opened (subst (LinesSay 0 (ls ++ line ∷ [])) (append-nil b.said) (told_more [] q.says))
        (arranged_in ls parts opened b);
    is = ap (λ k. so_far k parts opened) (sym one_longer);
  }

  telling_on : (q : Telling (so_far (length ls) parts opened) line) → (a : Arranges b.said parts opened (length ls + 1) q.told)
      → GoesOn ls line (so_far (length ls + 1) a.parts_then a.opened_then)
  telling_on q a = record {
    parts = a.parts_then;
    opened = a.opened_then;
    begins =
        begins (ls ++ line ∷ []) (b.said ++ (length ls + 1, q.told) ∷ []) a.parts_then a.opened_then
        (told_more ((length ls + 1, q.told) ∷ []) q.says) a.arranged;
    is = ap (λ k. so_far k a.parts_then a.opened_then) (sym one_longer);
  }

  arranges : (q : Telling (so_far (length ls) parts opened) line)
      → Arranges b.said parts opened (length ls + 1) q.told ⊎ Lacking parts opened (length ls + 1) q.told
  arranges q = arrange b.said parts opened (length ls + 1) (length ls) q.told (arranged_in ls parts opened b) q.stands

  -- a line that is read goes on
  pub read_on : (t : ReaderState) → config_line (so_far (length ls) parts opened) line ≡ Ok t → GoesOn ls line t
  read_on t e = at (line_read (so_far (length ls) parts opened) line)
    where
      by : (q : Telling (so_far (length ls) parts opened) line)
          → Arranges b.said parts opened (length ls + 1) q.told ⊎ Lacking parts opened (length ls + 1) q.told → GoesOn ls line t
      by q (inl a) =
          subst (GoesOn ls line) (ok-ok (take (so_far (length ls + 1) parts opened) q.told)
          (so_far (length ls + 1) a.parts_then a.opened_then) t a.read (sym q.read ∙ e)) (telling_on q a)
      by q (inr l) = ok-err (take (so_far (length ls + 1) parts opened) q.told) t l.cause (sym q.read ∙ e) l.read

      at : Silent (so_far (length ls) parts opened) line
          ⊎ (Telling (so_far (length ls) parts opened) line ⊎ Wrong (so_far (length ls) parts opened) line) → GoesOn ls line t
      at (inl q) =
          subst (GoesOn ls line) (ok-ok (config_line (so_far (length ls) parts opened) line) (so_far (length ls + 1) parts opened) t
          q.read e) (silent_on q)
      at (inr (inl q)) = by q (arranges q)
      at (inr (inr w)) = ok-err (config_line (so_far (length ls) parts opened) line) t w.cause e w.read

  -- a line that is refused is wrong
  pub wrong_on : (cause : Cause) → config_line (so_far (length ls) parts opened) line ≡ Err cause
      → line_cause (so_far (length ls) parts opened) line ≡ Some cause
  wrong_on cause e = at (line_read (so_far (length ls) parts opened) line)
    where
      by : (q : Telling (so_far (length ls) parts opened) line)
          → Arranges b.said parts opened (length ls + 1) q.told ⊎ Lacking parts opened (length ls + 1) q.told
          → line_cause (so_far (length ls) parts opened) line ≡ Some cause
      by q (inl a) = ok-err (take (so_far (length ls + 1) parts opened) q.told) (so_far (length ls + 1) a.parts_then a.opened_then)
          cause a.read (sym q.read ∙ e)
      by q (inr l) =
          q.lacking ∙ (l.wrong ∙ ap Some (err-err (take (so_far (length ls + 1) parts opened) q.told) l.cause cause l.read
          (sym q.read ∙ e)))

      at : Silent (so_far (length ls) parts opened) line
          ⊎ (Telling (so_far (length ls) parts opened) line ⊎ Wrong (so_far (length ls) parts opened) line)
          → line_cause (so_far (length ls) parts opened) line ≡ Some cause
      at (inl q) = ok-err (config_line (so_far (length ls) parts opened) line) (so_far (length ls + 1) parts opened) cause q.read e
      at (inr (inl q)) = by q (arranges q)
      at (inr (inr w)) =
          w.wrong ∙ ap Some (err-err (config_line (so_far (length ls) parts opened) line) w.cause cause w.read e)

  -- a line that is wrong is refused
  pub refused_on : (cause : Cause) → line_cause (so_far (length ls) parts opened) line ≡ Some cause
      → config_line (so_far (length ls) parts opened) line ≡ Err cause
  refused_on cause e = at (line_read (so_far (length ls) parts opened) line)
    where
      by : (q : Telling (so_far (length ls) parts opened) line)
          → Arranges b.said parts opened (length ls + 1) q.told ⊎ Lacking parts opened (length ls + 1) q.told
          → config_line (so_far (length ls) parts opened) line ≡ Err cause
      by q (inl a) =
          none-some (line_cause (so_far (length ls) parts opened) line) cause (q.lacking ∙ a.fine) e
      by q (inr l) =
          q.read ∙ (l.read ∙ ap Err (same_Some l.cause cause (sym (q.lacking ∙ l.wrong) ∙ e)))

      at : Silent (so_far (length ls) parts opened) line
          ⊎ (Telling (so_far (length ls) parts opened) line ⊎ Wrong (so_far (length ls) parts opened) line)
          → config_line (so_far (length ls) parts opened) line ≡ Err cause
      at (inl q) =
          none-some (line_cause (so_far (length ls) parts opened) line) cause q.fine e
      at (inr (inl q)) = by q (arranges q)
      at (inr (inr w)) =
          w.read ∙ ap Err (same_Some w.cause cause (sym w.wrong ∙ e))

-- lines that are walked behind others
pub record Begun (ls : List (List ℕ)) (t : ReaderState) : Type 0 where
  pub parts : List Part
  pub opened : Option Opened
  pub begins : IsBeginning ls parts opened
  pub is : t ≡ so_far (length ls) parts opened

walked_on : (ls more : List (List ℕ)) (s t : ReaderState) → Begun ls s → Walks config_line s more t → Begun (ls ++ more) t
unfolding Walks
walked_on ls [] s t b w = subst (λ ks. Begun ks t) (sym (append-nil ls)) (subst (Begun ls) w b)
walked_on ls (line ∷ more) s t b w =
    let on = read_on ls b.parts b.opened b.begins line w.0 (ap (λ u. config_line u line) (sym b.is) ∙ w.1) in
    subst (λ ks. Begun ks t) (append_assoc ls (line ∷ []) more)
    (walked_on (ls ++ line ∷ []) more w.0 t (record { parts = on.parts; opened = on.opened; begins = on.begins; is = on.is }) w.2)

pub walked : (ls : List (List ℕ)) (t : ReaderState) → Walks config_line (so_far 0 [] None) ls t → Begun ls t
walked ls t w = walked_on [] ls (so_far 0 [] None) t (record { parts = []; opened = None; begins = begins_empty; is = refl }) w
