-- Texts that are printed one behind the other.
use Rattle.std.proofs.Common.{◌≡◌, ℕ, ◌+◌, ◌≤◌, inl, inr, List, [], ◌++◌, length, take, drop, Option, Some, None, Result, Ok, Err}
use Rattle.std.proofs.Common.{refl, sym, ap, subst, ◌∙◌, append_assoc, append-nil, arith}
use Rattle.std.specs.Prelude.{IsErrOf}
use Rattle.std.proofs.Math.Seq.{take-append-add, take-append_seam}
use Rattle.std.proofs.lemmas.List.{take-append-drop}
use Rattle.tn_text.specs.Counts.{Rose}
use Rattle.tn_io.specs.Outs.{Printed, told_then}
use Rattle.tn_list.specs.declared.faults.ListFault.{ListFault}
use Rattle.tn_list.specs.declared.faults.ListFault.TheVariants.{Out, NoMemory}
use Rattle.tn_list.specs.Lists.{Lists}
use Rattle.tn_list.specs.Inner.Printing.{Remains}

told_both : (a b : List ℕ) (o : Option (List ℕ)) → told_then b (told_then a o) ≡ told_then (a ++ b) o
told_both a b None = refl
told_both a b (Some bs) = ap Some (append_assoc bs a b)

told_nothing : (o : Option (List ℕ)) → o ≡ told_then [] o
told_nothing None = refl
told_nothing (Some bs) = ap Some (sym (append-nil bs))

rose-since : (p q s : ℕ) → p ≤ q → Rose q s → Rose p s
rose-since p q s h (inl rose) = inl (omega arith)
rose-since p q s h (inr most) = inr most

-- ---- texts

pub Lists-nothing : {T : Type 0} (x : T) (p : Printed) → Lists [] (Ok x) p p
Lists-nothing x p = record { ok = told_nothing p.bytes; refused = tt; failed = λ is. absurd cc; count = omega arith }

-- nothing was printed for want of memory
pub Lists-no_memory : {T : Type 0} (text : List ℕ) (p : Printed) → Lists {T = T} text (Err NoMemory) p p
Lists-no_memory text p = record { ok = tt; refused = (0, told_nothing p.bytes); failed = λ is. absurd cc; count = omega arith }

-- a text by another name
pub Lists-as : {T : Type 0} {a b : List ℕ} {r : Result T ListFault} {p q : Printed} → a ≡ b → Lists a r p q → Lists b r p q
Lists-as {r} {p} {q} e h = subst (λ text. Lists text r p q) e h

-- a text and, behind it, another
pub Lists-joined : {T U : Type 0} {a b : List ℕ} {x : T} {r : Result U ListFault} {p q s : Printed} → Lists a (Ok x) p q
    → Lists b r q s → Lists (a ++ b) r p s
Lists-joined {U} {a} {b} {r} {p} {q} {s} h k = at r k
  where
    at : (o : Result U ListFault) → Lists b o q s → Lists (a ++ b) o p s
    at (Ok y) k = record {
      ok = k.ok ∙ ap (told_then b) h.ok ∙ told_both a b p.bytes;
      refused = tt;
      failed = λ is. rose-since p.faults q.faults s.faults h.count (k.failed is);
      count = omega (arith, h.count, k.count);
    }
    at (Err e) k = record {
      ok = tt;
      refused = (
        length a + k.refused.0,
        k.refused.1 ∙ ap (told_then (take k.refused.0 b)) h.ok ∙ told_both a (take k.refused.0 b) p.bytes
            ∙ ap (λ text. told_then text p.bytes) (sym (take-append-add a b k.refused.0)),
      );
      failed = λ is. rose-since p.faults q.faults s.faults h.count (k.failed is);
      count = omega (arith, h.count, k.count);
    }

-- a text that was refused, behind which nothing was printed
pub Lists-stopped : {T : Type 0} {a : List ℕ} {e : ListFault} {p q : Printed} (b : List ℕ) → Lists {T = T} a (Err e) p q
    → Lists {T = T} (a ++ b) (Err e) p q
Lists-stopped {a} {p} {q} b h = record {
  ok = tt;
  refused = (length (take h.refused.0 a), h.refused.1 ∙ ap (λ text. told_then text p.bytes) (sym (front h.refused.0)));
  failed = h.failed;
  count = h.count;
}
  where
    front : (k : ℕ) → take (length (take k a)) (a ++ b) ≡ take k a
    front k = ap (λ all. take (length (take k a)) (all ++ b)) (sym (take-append-drop k a))
        ∙ ap (take (length (take k a))) (append_assoc (take k a) (drop k a) b) ∙ take-append_seam (take k a) (drop k a ++ b)

-- the answer of what was printed may be any
pub Lists-answered : {T U : Type 0} {a : List ℕ} {x : T} (y : U) {p q : Printed} → Lists a (Ok x) p q → Lists a (Ok y) p q
Lists-answered y h = record { ok = h.ok; refused = tt; failed = λ is. absurd cc; count = h.count }

-- ---- line by line

pub remains-all : (text : List ℕ) (p : Printed) → Remains text text p p
remains-all text p = record { done = []; lists = Lists-nothing tt p; whole = refl }

-- one line more
pub remains-less : {T : Type 0} {x : T} {text left line rest : List ℕ} {p q s : Printed} → left ≡ line ++ rest → Remains text left p q
    → Lists line (Ok x) q s → Remains text rest p s
remains-less {line} {rest} is r h = record {
  done = r.done ++ line;
  lists = Lists-answered tt (Lists-joined r.lists h);
  whole = append_assoc r.done line rest ∙ ap (λ l. r.done ++ l) (sym is) ∙ r.whole;
}

-- a line that was refused
pub remains-stopped : {T U : Type 0} {e : ListFault} {text left line : List ℕ} {p q s : Printed} (rest : List ℕ) → left ≡ line ++ rest
    → Remains text left p q → Lists {T = T} line (Err e) q s → Lists {T = U} text (Err e) p s
remains-stopped {line} rest is r h =
    let stopped = Lists-as (append_assoc r.done line rest ∙ ap (λ l. r.done ++ l) (sym is) ∙ r.whole)
    (Lists-stopped rest (Lists-joined r.lists h)) in
    record { ok = tt; refused = stopped.refused; failed = λ is. stopped.failed cc; count = stopped.count }

-- nothing is left
pub remains-nothing : {T : Type 0} (x : T) {text left : List ℕ} {p q : Printed} → left ≡ [] → Remains text left p q → Lists text (Ok x) p q
remains-nothing x is r =
    Lists-answered x (Lists-as (sym (append-nil r.done) ∙ ap (λ l. r.done ++ l) (sym is) ∙ r.whole) r.lists)

-- the last line, whatever is answered of it
pub remains-last : {T : Type 0} {r : Result T ListFault} {text left : List ℕ} {p q s : Printed} → Remains text left p q
    → Lists left r q s → Lists text r p s
remains-last r h = Lists-as r.whole (Lists-joined r.lists h)
