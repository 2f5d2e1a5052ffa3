use Rattle.std.proofs.Common.{refl, ◌≡◌, ℕ, ◌+◌, ◌*◌, ◌<◌, ap, sym, subst, arith}
use Rattle.tn_network.proofs.BoardReads.{inside_nodes, latch_within, takes-then, takes-else, takes-none}
use Rattle.tn_network.proofs.boards.Board.can_take.Goals as goal

pub get-requires : goal.get-requires
get-requires g c κs = (refl, tt)

pub wants-requires : goal.wants-requires
wants-requires g c = c.requires

pub overflow_mul-p : goal.overflow_mul-p
overflow_mul-p g c = omega (arith, c.ranges.p.fits)

pub overflow_add-p : goal.overflow_add-p
overflow_add-p g c = omega (arith, c.ranges.p.fits, c.from.ensures, c.requires)

pub index-requires : goal.index-requires
index-requires g c =
    let found = c.in-Some.ensures.lookup in
    subst (λ (k : ℕ). 4 * c.args.p + c.from.result < k) (sym c.self.inside.latches.ok.0)
    (latch_within g.M.Space.access g.met.M.Space.lawful c.args.self.now _ _ _ _ c.self.view_is c.self.invariant
    c.args.p c.args.l (4 * c.args.p + c.from.result)
    (inside_nodes g.M.Space.access c.args.self.now _ _ _ _ c.self.view_is _ c.deref.ensures.value c.args.p
    c.in-Some.node.now found.3.0 found.1) c.requires (ap (λ (k : ℕ). 4 * c.args.p + k) c.from.ensures))

pub returns-then-wants : goal.returns-then-wants
returns-then-wants g c =
    let found = c.in-Some.ensures.lookup in
    let stands : 4 * c.args.p + c.from.result ≡ 4 * c.args.p + c.args.l = ap (λ (k : ℕ). 4 * c.args.p + k) c.from.ensures in
    takes-then g.M.Space.access c.args.self.now _ _ _ _ c.self.view_is _ c.deref.ensures.value c.args.p
    c.in-Some.node.now found.3.0 found.1 c.args.l _ c.wants.ensures _ _ _ c.if-wants.true
    (latch_within g.M.Space.access g.met.M.Space.lawful c.args.self.now _ _ _ _ c.self.view_is c.self.invariant
    c.args.p c.args.l _
    (inside_nodes g.M.Space.access c.args.self.now _ _ _ _ c.self.view_is _ c.deref.ensures.value c.args.p
    c.in-Some.node.now found.3.0 found.1) c.requires stands) stands c.index.ensures c.is_some.ensures

pub returns-else-wants : goal.returns-else-wants
returns-else-wants g c =
    let found = c.in-Some.ensures.lookup in
    takes-else g.M.Space.access c.args.self.now _ _ _ _ c.self.view_is _ c.deref.ensures.value c.args.p
    c.in-Some.node.now found.3.0 found.1 c.args.l _ c.wants.ensures c.if-wants.false

pub returns-in-None : goal.returns-in-None
returns-in-None g c =
    takes-none g.M.Space.access c.args.self.now _ _ _ _ c.self.view_is _ c.deref.ensures.value c.args.p
    c.in-None.ensures.lookup.3 c.args.l
