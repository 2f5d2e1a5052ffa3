use Rattle.std.proofs.Common.{List, rules, sym, subst, ◌∙◌, arith}
use Rattle.std.specs.Prelude.{nat_le}
use Rattle.std.proofs.lemmas.List.Sorted.{IsPartitionPoint-from_clause, IsPartitionedBy-leb}
use Rattle.tn_link.specs.declared.linking.Placed.{Placed}
use Rattle.tn_link.specs.PieceLookUps.{AreAdjacent, HasNoPiece}
use Rattle.tn_link.proofs.Adjacent.{rises, none-above, none-there}
use Rattle.tn_link.proofs.linking.Linked.piece_at.Goals as goal

pub returns-then-behind-eq0 : goal.returns-then-behind-eq0
returns-then-behind-eq0 c =
    let adjacent = subst AreAdjacent (sym c.deref-placed.ensures.value) c.requires.adjacent in
    let parted = IsPartitionedBy-leb (λ p. p.address) c.deref-placed.result.now c.args.address (λ i j d low within.
    rises c.deref-placed.result.now adjacent d i j low within) in
    let point = IsPartitionPoint-from_clause (λ p. nat_le p.address c.args.address) _ _ c.partition_point-behind.ensures.partitioned parted
    (λ a r q k. search rules) in
    subst (λ (l : List Placed). HasNoPiece l c.args.address) c.deref-placed.ensures.value (λ i is.
    none-above c.deref-placed.result.now adjacent (record { «module» = 0; item = 0; address = 0; size = 0 }) c.args.address
    (λ k e low within. point.1 k e (omega (arith, c.if-behind-eq0.true)) within) i is)

pub returns-else-begins : goal.returns-else-begins
returns-else-begins c =
    let adjacent = subst AreAdjacent (sym c.deref-placed.ensures.value) c.requires.adjacent in
    let parted = IsPartitionedBy-leb (λ p. p.address) c.deref-placed.result.now c.args.address (λ i j d low within.
    rises c.deref-placed.result.now adjacent d i j low within) in
    let point = IsPartitionPoint-from_clause (λ p. nat_le p.address c.args.address) _ _ c.partition_point-behind.ensures.partitioned parted
    (λ a r q k. search rules) in
    subst (λ (l : List Placed). HasNoPiece l c.args.address) c.deref-placed.ensures.value
    (none-there c.deref-placed.result.now adjacent c.args.address c.partition_point-behind.result _ c.partition_point-behind.ensures.bound
    point.0 point.1 (sym c.begins.ensures ∙ c.if-begins.false))
