-- Items that lie one behind the other.
use Rattle.std.proofs.Common.{◌≡◌, inl, inr, ℕ, zero, suc, ◌+◌, ◌-◌, ◌<◌, ◌≤◌, List, length, get_or, sym, ap, ◌∙◌, subst, arith}
use Rattle.std.specs.Prelude.{nat_le, true, false}
use Rattle.std.proofs.lemmas.Bool.{cases_lt}
use Rattle.std.proofs.lemmas.Bool.Decides.{nat_tests}
use Rattle.tn_module.specs.Modules.{Parts}
use Rattle.tn_layout.proofs.Distances.{position-suc}
use Rattle.tn_link.specs.declared.linking.Placed.{Placed}
use Rattle.tn_link.specs.declared.linking.Linked.{Linked}
use Rattle.tn_link.specs.Cells.{Frame, frame}
use Rattle.tn_link.specs.Linking.{placed, IsLinked}
use Rattle.tn_link.specs.PieceLookUps.{AreAdjacent, IsPieceAt, HasNoPiece, begins}
use Rattle.tn_link.proofs.Listed.{placed-at}

-- those of a program do
pub placed-adjacent : (modules : List Parts) (f : Frame) → AreAdjacent (placed modules f)
placed-adjacent modules f i d within =
    let next = placed-at modules f (suc i) d within in
    let here = placed-at modules f i d (omega (arith, within)) in
    omega (arith, next.0, here.0, here.1, position-suc f.sizes i)

pub linked-adjacent : (modules : List Parts) (code_base cell_base : ℕ) (linked : Linked) → IsLinked modules code_base cell_base linked
    → AreAdjacent linked.placed.items
linked-adjacent modules code_base cell_base linked is =
    subst AreAdjacent (sym is.placed_are) (placed-adjacent modules (frame code_base cell_base is.sizes))

-- ---- searching

module _ (placed : List Placed) (adjacent : AreAdjacent placed) (d : Placed) where
  -- addresses don't fall, and rise behind an item with bytes
  pub rises : (i j : ℕ) → i ≤ j → j < length placed → (get_or placed i d).address ≤ (get_or placed j d).address
  rises i zero low within = let same : i ≡ 0 = omega (arith, low) in rw same (omega arith)
  rises i (suc j) low within = elim (cases_lt j i) [
    | inl above ↦ let same : i ≡ suc j = omega (arith, low, above) in rw same (omega arith)
    | inr below ↦ omega (arith, rises i j below (omega (arith, within)), adjacent j d within)
  ]

  pub rises-behind : (i j : ℕ) → i < j → j < length placed
      → (get_or placed i d).address + (get_or placed i d).size ≤ (get_or placed j d).address
  rises-behind i j low within =
      omega (arith, rises (suc i) j low within, adjacent i d (omega (arith, low, within)))

  -- behind those at or below an address, and the rest
  pub none-above : (address : ℕ) → ((k : ℕ) (e : Placed) → 0 ≤ k → k < length placed → nat_le (get_or placed k e).address address ≡ false)
      → HasNoPiece placed address
  none-above address above i is =
      let here = above i d (omega arith) is.within in
      let same = is.begins d in
      absurd (let large : address < (get_or placed i d).address = grind (arith, nat_tests) in omega (arith, large, same))

  -- only the last one at or below it can begin there
  pub only-last : (address behind : ℕ) → behind ≤ length placed
      → ((k : ℕ) (e : Placed) → 0 ≤ k → k < behind → nat_le (get_or placed k e).address address ≡ true)
      → ((k : ℕ) (e : Placed) → behind ≤ k → k < length placed → nat_le (get_or placed k e).address address ≡ false)
      → (i : ℕ) → IsPieceAt placed address i → suc i ≡ behind
  only-last address behind few low high i is = elim (cases_lt i behind) [
    | inl below ↦ elim (cases_lt (suc i) behind) [
      | inl before ↦ absurd (
          let next = rises-behind i (suc i) (omega arith) (omega (arith, few, before)) in
          let reached : (get_or placed (suc i) d).address ≤ address = (let t = low (suc i) d (omega arith) before in grind (arith, nat_tests)) in
          omega (arith, next, reached, is.begins d, is.has_bytes d))
      | inr from ↦ omega (arith, below, from)
    ]
    | inr from ↦ absurd (
        let past : address < (get_or placed i d).address = (let t = high i d from is.within in grind (arith, nat_tests)) in
        omega (arith, past, is.begins d))
  ]

-- such an item passes the test, and no item but the last at or below the address can be one
pub there-begins : (placed : List Placed) (address i : ℕ) (d : Placed) → IsPieceAt placed address i
    → begins (get_or placed i d) address ≡ true
there-begins placed address i d is = go (get_or placed i d) (is.has_bytes d) (is.begins d)
  where
    go : (p : Placed) → 0 < p.size → p.address ≡ address → begins p address ≡ true
    go p some same = grind (arith, nat_tests)

pub none-there : (placed : List Placed) → AreAdjacent placed → (address behind : ℕ) (d : Placed) → behind ≤ length placed
    → ((k : ℕ) (e : Placed) → 0 ≤ k → k < behind → nat_le (get_or placed k e).address address ≡ true)
    → ((k : ℕ) (e : Placed) → behind ≤ k → k < length placed → nat_le (get_or placed k e).address address ≡ false)
    → begins (get_or placed (behind - 1) d) address ≡ false → HasNoPiece placed address
none-there placed adjacent address behind d few low high fails i is =
    let last = only-last placed adjacent d address behind few low high i is in
    let place : behind - 1 ≡ i = omega (arith, last) in
    let clash : false ≡ true = sym fails ∙ ap (λ k. begins (get_or placed k d) address) place ∙ there-begins placed address i d is in
    absurd (let clear = clash in cc)
