-- What bytes load, byte by byte.
use Rattle.std.proofs.Common.{◌≡◌, ℕ, ◌+◌, ◌<◌, true, false, List, [], ◌∷◌, ◌++◌, length, Some, None, All, refl, sym, ap, ◌∙◌, add-one}
use Rattle.std.proofs.Common.{append_assoc, length-append, length-take, get_or, take, drop, arith}
use Rattle.std.specs.Option.{option_map}
use Rattle.std.proofs.lemmas.List.{take-append-drop, take_more}
use Rattle.std.proofs.lemmas.List.Sums.{fold-append}
use Rattle.std.proofs.lemmas.List.Elements.{All-head, All-tail, All-more}
use Rattle.tn_isa.specs.declared.functions.Fun.{Fun}
use Rattle.tn_isa.specs.OperandRegister.{is_prefix, IsCoded, IsPrefix, function_of, loaded, shifted, operand_after, register_after}
use Rattle.tn_prefix.specs.Operand.{behind_one, loads_from, loads, LoadsAll}
use Rattle.tn_prefix.proofs.Cases.{same_found}

-- a prefix byte is read and changes the register
pub loads_from-prefix : (register byte : ℕ) (rest : List ℕ) → IsPrefix byte
    → loads_from register (byte ∷ rest) ≡ option_map behind_one (loads_from (operand_after register byte) rest)
unfolding loads_from
loads_from-prefix register byte rest h = rw h refl

-- any other byte ends the reading
pub loads_from-last : (register byte : ℕ) (rest : List ℕ) → is_prefix (function_of byte) ≡ false
    → loads_from register (byte ∷ rest) ≡ Some (function_of byte, loaded register byte, 1)
unfolding loads_from
loads_from-last register byte rest h = rw h refl

-- prefix bytes fold into the register, and the byte behind them is what is found
pub loads_from-append : (register : ℕ) (prefixes : List ℕ) (last : ℕ) (rest : List ℕ) → All IsPrefix prefixes
    → is_prefix (function_of last) ≡ false → loads_from register (prefixes ++ last ∷ rest)
    ≡ Some (function_of last, loaded (register_after register prefixes) last, length prefixes + 1)
loads_from-append register [] last rest all h = loads_from-last register last rest h
loads_from-append register (byte ∷ prefixes) last rest all h =
    loads_from-prefix register byte (prefixes ++ last ∷ rest) (All-head IsPrefix byte prefixes all)
    ∙ (ap (option_map behind_one) (loads_from-append (operand_after register byte) prefixes last rest
    (All-tail IsPrefix byte prefixes all) h)
    ∙ ap (λ n. Some (function_of last, loaded (register_after register (byte ∷ prefixes)) last, n + 1)) (add-one (length prefixes)))

-- prefix bytes alone load nothing
pub loads_from-prefixes : (register : ℕ) (prefixes : List ℕ) → All IsPrefix prefixes → loads_from register prefixes ≡ None
unfolding loads_from
loads_from-prefixes register [] all = refl
loads_from-prefixes register (byte ∷ prefixes) all =
    loads_from-prefix register byte prefixes (All-head IsPrefix byte prefixes all)
    ∙ ap (option_map behind_one) (loads_from-prefixes (operand_after register byte) prefixes (All-tail IsPrefix byte prefixes all))

-- one more prefix byte of a list is read
pub register_after_more : (bytes : List ℕ) (i register : ℕ) → i < length bytes → register ≡ register_after 0 (take i bytes)
    → All IsPrefix (take i bytes) → IsPrefix (get_or bytes i 0)
    → (operand_after register (get_or bytes i 0) ≡ register_after 0 (take (i + 1) bytes)) × All IsPrefix (take (i + 1) bytes)
register_after_more bytes i register h before all prefix =
    let byte = get_or bytes i 0 in
    let after : register_after 0 (take (i + 1) bytes) ≡ operand_after (register_after 0 (take i bytes)) byte =
    ap (register_after 0) (take_more bytes i 0 h) ∙ fold-append operand_after 0 (take i bytes) (byte ∷ []) in
    (sym (after ∙ ap (λ r. operand_after r byte) (sym before)), All-more IsPrefix bytes i 0 h all prefix)

-- bytes that load an operand do so whatever follows them
pub loads-LoadsAll : {bytes : List ℕ} {f : Fun} {operand : ℕ} → LoadsAll bytes f operand → (rest : List ℕ)
    → loads (bytes ++ rest) ≡ Some (f, operand, length bytes)
loads-LoadsAll {bytes} {f} {operand} h rest =
    let executes : is_prefix (function_of h.last) ≡ false = ap is_prefix h.names ∙ h.executes in
    let long : length h.prefixes + 1 ≡ length bytes = sym (ap length h.parts ∙ length-append h.prefixes (h.last ∷ [])) in
    ap (λ front. loads (front ++ rest)) h.parts
    ∙ (ap loads (append_assoc h.prefixes (h.last ∷ []) rest)
    ∙ (loads_from-append 0 h.prefixes h.last rest h.before executes
    ∙ same_found (function_of h.last) f (loaded (register_after 0 h.prefixes) h.last) operand (length h.prefixes + 1) (length bytes)
    h.names h.sees long))

-- the byte of a list behind its prefix bytes is found
module _ (bytes : List ℕ) (i register : ℕ) (f : Fun) (operand : ℕ) (h : i < length bytes) (before : register
    ≡ register_after 0 (take i bytes)) (all : All IsPrefix (take i bytes)) (names : function_of (get_or bytes i 0)
    ≡ f) (executes : IsCoded f) (sees : operand ≡ loaded register (get_or bytes i 0)) where
  pub LoadsAll-at : LoadsAll (take (i + 1) bytes) f operand
  LoadsAll-at = record {
    prefixes = take i bytes;
    last = get_or bytes i 0;
    parts = take_more bytes i 0 h;
    before = all;
    names = names;
    executes = executes;
    sees = ap (λ r. loaded r (get_or bytes i 0)) (sym before) ∙ sym sees;
  }

  pub loads_at : loads bytes ≡ Some (f, operand, i + 1)
  loads_at =
      let long : length (take (i + 1) bytes) ≡ i + 1 = simp length-take (omega arith) in
      ap loads (sym (take-append-drop (i + 1) bytes))
      ∙ (loads-LoadsAll LoadsAll-at (drop (i + 1) bytes)
      ∙ same_found f f operand operand (length (take (i + 1) bytes)) (i + 1) refl refl long)
