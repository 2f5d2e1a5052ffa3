use Rattle.std.proofs.Common.{◌≡◌, ℕ, ◌+◌, ◌*◌, ◌≤◌, vec_len, get_or}
use Rattle.tn_text.specs.declared.limits.TheConstants.{ITEM_LIMIT}
use Rattle.tn_layout.specs.Sizes.{position}
use Rattle.tn_link.proofs.code.positions.Given as goal

-- the positions so far, the last of which is the end
abbrev pub invariant-loop-size : goal.invariant-loop-size
invariant-loop-size l = record {
  long : vec_len l.positions ≡ l.size-index + 1;
  end : l.end ≡ position l.sizes l.size-index;
  small : l.end ≤ 255 * l.size-index;
  each : (k : ℕ) → k ≤ l.size-index → get_or l.positions.items k 0 ≡ position l.sizes k;
  bounded : (k : ℕ) → get_or l.positions.items k 0 ≤ 255 * ITEM_LIMIT;
}
