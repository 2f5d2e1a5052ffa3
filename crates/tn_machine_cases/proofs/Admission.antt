-- A description that passes the tests may be checked.
use Rattle.std.proofs.Common.{◌≡◌, ℕ, zero, suc, ◌<◌, ◌≤◌, ◌-◌, ◌^◌, ◌≢◌, Bool, true, false, ◌&&◌, refl}
use Rattle.std.proofs.Common.{List, [], ◌∷◌, ◌++◌, length, map, arith, Option, None, Some}
use Rattle.std.proofs.lemmas.Bool.Decides.{nat_tests}
use Rattle.std.specs.List.{list_all}
use Rattle.tn_net.specs.RawNetworks.{RawLists}
use Rattle.tn_mem.specs.Sizes.{IsMemorySize}
use Rattle.tn_net.specs.Lines.{size_at, HasLinks, DifferInNumber, IsAdmitted, line_at, wire_line, host_lines}
use Rattle.tn_machine_cases.specs.Admission.{has_size, has_links, is_apart, are_apart, host_fits, passes}

-- the sizes of memories
sizes : (names : List (List ℕ × ℕ × ℕ)) → list_all has_size names ≡ true
    → (p : ℕ) → p < length names → IsMemorySize (size_at names p)
sizes [] fit p h = omega (arith, h)
sizes (n ∷ names) fit zero h = grind (arith, nat_tests)
sizes (n ∷ names) fit (suc p) h = sizes names (grind (arith, nat_tests)) p (omega (arith, h))

-- the links of wires
links : (wires : List (List ℕ × ℕ × List ℕ × ℕ × ℕ)) → list_all has_links wires ≡ true → (k : ℕ)
    → k < length (map wire_line wires) → HasLinks (line_at (map wire_line wires) k)
links [] fit k h = omega (arith, h)
links (w ∷ wires) fit zero h = grind (arith, nat_tests)
links (w ∷ wires) fit (suc k) h = links wires (grind (arith, nat_tests)) k (omega (arith, h))

-- a number that no wire has
apart : (number : ℕ) (wires : List (List ℕ × ℕ × List ℕ × ℕ × ℕ)) → is_apart number wires ≡ true → (k : ℕ)
    → k < length (map wire_line wires) → number ≢ (line_at (map wire_line wires) k).line
apart number [] fit k h = omega (arith, h)
apart number (w ∷ wires) fit zero h = grind (arith, nat_tests)
apart number (w ∷ wires) fit (suc k) h = apart number wires (grind (arith, nat_tests)) k (omega (arith, h))

-- the numbers of wires
numbers : (wires : List (List ℕ × ℕ × List ℕ × ℕ × ℕ)) → are_apart wires ≡ true → DifferInNumber (map wire_line wires)
numbers [] fit j k lower h = omega (arith, h)
numbers (w ∷ wires) fit j zero lower h = omega (arith, lower)
numbers (w ∷ wires) fit zero (suc k) lower h = apart w.4 wires (grind (arith, nat_tests)) k (omega (arith, h))
numbers (w ∷ wires) fit (suc j) (suc k) lower h = numbers wires (grind (arith, nat_tests)) j k (omega (arith, lower)) (omega (arith, h))

-- the links of the host's line and of wires
all_links : (host : Option (List ℕ × ℕ × ℕ)) (wires : List (List ℕ × ℕ × List ℕ × ℕ × ℕ))
    → host_fits host wires ≡ true → list_all has_links wires ≡ true → (k : ℕ)
    → k < length (host_lines host ++ map wire_line wires)
    → HasLinks (line_at (host_lines host ++ map wire_line wires) k)
all_links None wires host fit k h = links wires fit k h
all_links (Some x) wires host fit zero h = grind (arith, nat_tests)
all_links (Some x) wires host fit (suc k) h = links wires fit k (omega (arith, h))

-- the numbers of the host's line and of wires
all_numbers : (host : Option (List ℕ × ℕ × ℕ)) (wires : List (List ℕ × ℕ × List ℕ × ℕ × ℕ))
    → host_fits host wires ≡ true → are_apart wires ≡ true
    → DifferInNumber (host_lines host ++ map wire_line wires)
all_numbers None wires host fit j k lower h = numbers wires fit j k lower h
all_numbers (Some x) wires host fit j zero lower h = omega (arith, lower)
all_numbers (Some x) wires host fit zero (suc k) lower h = apart x.2 wires (grind (arith, nat_tests)) k (omega (arith, h))
all_numbers (Some x) wires host fit (suc j) (suc k) lower h = numbers wires fit j k (omega (arith, lower)) (omega (arith, h))

both : (a b : Bool) → (a && b) ≡ true → (a ≡ true) × (b ≡ true)
both true true h = (refl, refl)
both true false h = cc
both false b h = cc

pub admitted : (raw : RawLists) → length raw.names ≤ 64 → raw.lines < 2 ^ 32 - 1 → length raw.wires < 2 ^ 30
    → passes raw ≡ true → IsAdmitted raw
admitted raw few lines short passed =
    let sized = both (list_all has_size raw.names)
    (list_all has_links raw.wires && (are_apart raw.wires && host_fits raw.host raw.wires)) passed in
    let linked = both (list_all has_links raw.wires) (are_apart raw.wires && host_fits raw.host raw.wires) sized.1 in
    let rest = both (are_apart raw.wires) (host_fits raw.host raw.wires) linked.1 in
    record {
      few = few;
      sizes = sizes raw.names sized.0;
      links = all_links raw.host raw.wires rest.1 linked.0;
      numbers = all_numbers raw.host raw.wires rest.1 rest.0;
      lines = lines;
      short = short;
    }
