use Rattle.std.proofs.Common.{rules, ◌-◌, arith}
use Rattle.std.specs.Prelude.{nat_le}
use Rattle.std.proofs.lemmas.List.Sorted.{IsPartitionPoint-from_clause, IsPartitionedBy-leb}
use Rattle.tn_sym.proofs.Stepping.{search-above, search-found, search-missed, rising-leb}
use Rattle.tn_sym.proofs.codes.search.Goals as goal

pub returns-then-behind-eq0-clause-value : goal.returns-then-behind-eq0-clause-value
returns-then-behind-eq0-clause-value c =
    let parted = IsPartitionedBy-leb (λ i. i.address) c.args.instructions.now c.args.address (λ i j d low within.
    rising-leb c.args.instructions.now c.requires.rising i j d low within) in
    let point = IsPartitionPoint-from_clause (λ i. nat_le i.address c.args.address) _ _ c.partition_point-behind.ensures.partitioned parted
    (λ a r q k. search rules) in
    search-above c.args.instructions.now c.requires.rising c.args.address
    (λ j d within. point.1 j d (omega (arith, c.if-behind-eq0.true)) within)

pub returns-then-last-address-clause-value : goal.returns-then-last-address-clause-value
returns-then-last-address-clause-value c =
    search-found c.args.instructions.now c.requires.rising c.args.address (c.partition_point-behind.result - 1) _
    (omega (arith, c.if-behind-eq0.false, c.partition_point-behind.ensures.bound)) c.if-last-address.true

pub returns-else-last-address-clause-value : goal.returns-else-last-address-clause-value
returns-else-last-address-clause-value c =
    let parted = IsPartitionedBy-leb (λ i. i.address) c.args.instructions.now c.args.address (λ i j d low within.
    rising-leb c.args.instructions.now c.requires.rising i j d low within) in
    let point = IsPartitionPoint-from_clause (λ i. nat_le i.address c.args.address) _ _ c.partition_point-behind.ensures.partitioned parted
    (λ a r q k. search rules) in
    search-missed c.args.instructions.now c.requires.rising c.args.address (c.partition_point-behind.result - 1) _
    (omega (arith, c.if-behind-eq0.false, c.partition_point-behind.ensures.bound)) c.if-last-address.false
    (point.0 (c.partition_point-behind.result - 1) _ (omega arith) (omega (arith, c.if-behind-eq0.false)))
    (λ j e behind within. point.1 j e (omega (arith, behind, c.if-behind-eq0.false)) within)
