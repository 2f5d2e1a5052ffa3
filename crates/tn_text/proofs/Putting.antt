-- Pieces that are put one after the other.
use Rattle.std.proofs.Common.{◌≡◌, ℕ, ◌+◌, ◌≤◌, inl, inr, List, [], ◌++◌, length, take, drop, Option, Some, None, Result, Ok, Err, IsErr}
use Rattle.std.proofs.Common.{refl, sym, ap, subst, ◌∙◌, append_assoc, append-nil, arith}
use Rattle.std.proofs.Math.Seq.{take-append-add, take-append_seam}
use Rattle.std.proofs.lemmas.List.{take-append-drop}
use Rattle.tn_text.specs.declared.puts.PutRefused.{PutRefused}
use Rattle.tn_text.specs.Counts.{Rose}
use Rattle.tn_text.specs.Puts.{Taken, taken_then, Puts}

taken_both : (a b : List ℕ) (o : Option (List ℕ)) → taken_then b (taken_then a o) ≡ taken_then (a ++ b) o
taken_both a b None = refl
taken_both a b (Some bs) = ap Some (append_assoc bs a b)

taken_nothing : (o : Option (List ℕ)) → o ≡ taken_then [] o
taken_nothing None = refl
taken_nothing (Some bs) = ap Some (sym (append-nil bs))

rose-since : (p q s : ℕ) → p ≤ q → Rose q s → Rose p s
rose-since p q s h (inl rose) = inl (omega arith)
rose-since p q s h (inr most) = inr most

-- nothing was put
pub Puts-nothing : {T : Type 0} (x : T) (p : Taken) → Puts [] (Ok x) p p
Puts-nothing x p = record { ok = taken_nothing p.bytes; err = tt; refused = tt; count = omega arith }

-- a piece by another name
pub Puts-as : {T : Type 0} {a b : List ℕ} {r : Result T PutRefused} {p q : Taken} → a ≡ b → Puts a r p q → Puts b r p q
Puts-as {r} {p} {q} e h = subst (λ piece. Puts piece r p q) e h

-- a piece and, behind it, another
pub Puts-joined : {T U : Type 0} {a b : List ℕ} {x : T} {r : Result U PutRefused} {p q s : Taken} → Puts a (Ok x) p q
    → Puts b r q s → Puts (a ++ b) r p s
Puts-joined {U} {a} {b} {r} {p} {q} {s} h k = at r k
  where
    at : (o : Result U PutRefused) → Puts b o q s → Puts (a ++ b) o p s
    at (Ok y) k = record {
      ok = k.ok ∙ ap (taken_then b) h.ok ∙ taken_both a b p.bytes;
      err = tt;
      refused = tt;
      count = omega (arith, h.count, k.count);
    }
    at (Err e) k = record {
      ok = tt;
      err = (
        length a + k.err.0,
        k.err.1 ∙ ap (taken_then (take k.err.0 b)) h.ok ∙ taken_both a (take k.err.0 b) p.bytes
            ∙ ap (λ piece. taken_then piece p.bytes) (sym (take-append-add a b k.err.0)),
      );
      refused = rose-since p.refusals q.refusals s.refusals h.count k.refused;
      count = omega (arith, h.count, k.count);
    }

-- a refused piece, behind which nothing was put
pub Puts-stopped : {T : Type 0} {a : List ℕ} {e : PutRefused} {p q : Taken} (b : List ℕ) → Puts {T = T} a (Err e) p q
    → Puts {T = T} (a ++ b) (Err e) p q
Puts-stopped {a} {p} {q} b h = record {
  ok = tt;
  err = (length (take h.err.0 a), h.err.1 ∙ ap (λ piece. taken_then piece p.bytes) (sym (front h.err.0)));
  refused = h.refused;
  count = h.count;
}
  where
    front : (k : ℕ) → take (length (take k a)) (a ++ b) ≡ take k a
    front k = ap (λ all. take (length (take k a)) (all ++ b)) (sym (take-append-drop k a))
        ∙ ap (take (length (take k a))) (append_assoc (take k a) (drop k a) b) ∙ take-append_seam (take k a) (drop k a ++ b)

-- a refusal that is handed on
pub Puts-refused : {T : Type 0} {a : List ℕ} {e : PutRefused} {r : Result T PutRefused} {p q : Taken} → IsErr r
    → Puts {T = T} a (Err e) p q → Puts a r p q
Puts-refused {T} {a} {r} {p} {q} is h = at r is
  where
    at : (o : Result T PutRefused) → IsErr o → Puts a o p q
    at (Ok x) is = absurd cc
    at (Err f) is = record { ok = tt; err = h.err; refused = h.refused; count = h.count }
