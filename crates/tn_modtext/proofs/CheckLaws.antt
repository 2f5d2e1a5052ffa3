-- A reader that reads lines, and then checks what they spell, has the faults of the lines first.
use Rattle.std.specs.Prelude.{⊤}
use Rattle.std.proofs.Common.{◌≡◌, ◌⊎◌, inl, inr, Result, Ok, Err, sym, ap, ◌∙◌, subst}
use Rattle.tn_text.specs.declared.faults.Fault.{Fault}
use Rattle.tn_text.specs.declared.faults.ReadFault.{ReadFault}
use Rattle.tn_text.specs.declared.faults.ReadFault.TheVariants as read
use Rattle.tn_text.specs.Reading.{Gives, IsReading}
use Rattle.tn_text.proofs.Results.{ok-ok, ok-err, err-err}
use Rattle.tn_modtext.specs.Readers.{Reads}

abbrev pub failed : {P : Type 0} → ReadFault → Result P ReadFault
failed why = Err why

-- what was not given as one thing was not given
pub stopped-given : {T P : Type 0} (seen : T → P) (reading : Result P Fault) (why : ReadFault) → Gives seen (Err why) reading
    → Gives {T = P} (λ v. v) (Err why) reading
stopped-given seen reading (read.Fault told) g = g
stopped-given seen reading read.NoMemory g = tt

-- the lines spell a value, and a check tells whether it is one that the text stands for, or what is wrong with it
module _ {P : Type 0} (Spelled : P → Type 0) (StandsFor : P → Type 0) (IsLine : Fault → Type 0) (IsWrong : P → Fault → Type 0)
    (reading : Result P Fault) (is : IsReading Spelled IsLine reading) (spells : (p : P) → StandsFor p → Spelled p)
    (fits : (p : P) (f : Fault) → StandsFor p → IsWrong p f → ⊥) (one : (p : P) (f g : Fault) → IsWrong p f → IsWrong p g → f ≡ g)
    (IsFault : Fault → Type 0) (of : (f : Fault) → IsFault f → IsLine f ⊎ ((p : P) × Spelled p × IsWrong p f))
    (to : (f : Fault) → IsLine f ⊎ ((p : P) × Spelled p × IsWrong p f) → IsFault f) where
  abbrev pub Checked : P → Result P ReadFault → Type 0
  Checked p (Ok q) = (q ≡ p) × StandsFor p
  Checked p (Err (read.Fault f)) = IsWrong p f
  Checked p (Err read.NoMemory) = ⊤

  only_value : (p q : P) → reading ≡ Ok p → StandsFor q → q ≡ p
  only_value p q e h = ok-ok reading q p (is.only q (spells q h)) e

  -- the lines were read, and what they spell was checked
  pub checked-reads : (p : P) (result : Result P ReadFault) → reading ≡ Ok p → Checked p result → Reads StandsFor IsFault result
  checked-reads p (Ok q) e (same, stands) =
      record {
        found = subst StandsFor (sym same) stands;
        only = λ value h. ap Ok (same ∙ sym (only_value p value e h));
        fault = λ fault q. absurd cc;
        refused = λ fault f. absurd (none fault (of fault f));
      }
    where
      none : (fault : Fault) → IsLine fault ⊎ ((r : P) × Spelled r × IsWrong r fault) → ⊥
      none fault (inl f) = ok-err reading p fault e (is.refused fault f)
      none fault (inr (r, spelled, wrong)) =
          fits p fault stands (subst (λ v. IsWrong v fault) (ok-ok reading r p (is.only r spelled) e) wrong)
  checked-reads p (Err (read.Fault why)) e wrong =
      record {
        found = tt;
        only = λ value h. absurd (fits p why (subst StandsFor (only_value p value e h) h) wrong);
        fault = λ fault q. to fault (inr (p, is.found p e, subst (IsWrong p) (told fault q) wrong));
        refused = λ fault f. first fault (of fault f);
      }
    where
      told : (fault : Fault) → failed {P = P} (read.Fault why) ≡ failed (read.Fault fault) → why ≡ fault
      told fault q = cc

      first : (fault : Fault) → IsLine fault ⊎ ((r : P) × Spelled r × IsWrong r fault)
          → Gives {T = P} (λ v. v) (failed (read.Fault why)) (Err fault)
      first fault (inl f) = ok-err reading p fault e (is.refused fault f)
      first fault (inr (r, spelled, other)) =
          ap Err (one p why fault wrong (subst (λ v. IsWrong v fault) (ok-ok reading r p (is.only r spelled) e) other))
  checked-reads p (Err read.NoMemory) e c =
      record { found = tt; only = λ value h. tt; fault = λ fault q. absurd cc; refused = λ fault f. tt }

  -- a line was refused, or there was no memory
  pub stopped-reads : (why : ReadFault) → Gives {T = P} (λ v. v) (Err why) reading → Reads StandsFor IsFault (Err why)
  stopped-reads (read.Fault why) g =
      record {
        found = tt;
        only = λ value h. ok-err reading value why (is.only value (spells value h)) (sym g);
        fault = λ fault q. to fault (inl (is.fault fault (sym g ∙ ap Err (same fault q))));
        refused = λ fault f. first fault (of fault f);
      }
    where
      same : (fault : Fault) → failed {P = P} (read.Fault why) ≡ failed (read.Fault fault) → why ≡ fault
      same fault q = cc

      first : (fault : Fault) → IsLine fault ⊎ ((r : P) × Spelled r × IsWrong r fault)
          → Gives {T = P} (λ v. v) (failed (read.Fault why)) (Err fault)
      first fault (inl f) = ap Err (err-err reading why fault (sym g) (is.refused fault f))
      first fault (inr (r, spelled, wrong)) = ok-err reading r why (is.only r spelled) (sym g)
  stopped-reads read.NoMemory g =
      record { found = tt; only = λ value h. tt; fault = λ fault q. absurd cc; refused = λ fault f. tt }
