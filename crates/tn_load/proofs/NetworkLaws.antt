-- The laws of networks under way, as their functions state them.
use Rattle.tn_network.specs.NodeOps.{NodeOps}
use Rattle.tn_load.specs.Keep.{Anything, Keep, GoesAlong, GoesOn, EndsOnce}
use Rattle.tn_load.proofs.Keeping.{keeps-on, one-off, along}
use Rattle.tn_load.specs.Exchange.{Commute, Exchange}
use Rattle.tn_load.proofs.Ending as ending
use Rattle.tn_load.proofs.Diamonds.{joins}
use Rattle.tn_load.proofs.Descending as descending

pub keep : {N : Type 0} (ops : NodeOps N) → Keep ops
keep ops network holds missing kept plan s pick u on =
    (keeps-on ops network holds Anything missing kept plan s u pick on, one-off ops network holds Anything missing kept plan s u pick on)

pub goes_along : {N : Type 0} (ops : NodeOps N) → GoesAlong ops
goes_along ops network holds missing kept plan s picks u on = along ops network holds Anything missing kept plan s picks u on

pub goes_on : {N : Type 0} (ops : NodeOps N) → GoesOn ops
goes_on ops network holds missing kept plan s u rooted whole some =
    ending.goes_on ops network holds Anything missing kept plan s u rooted whole some

pub ends_once : {N : Type 0} (ops : NodeOps N) → EndsOnce ops
ends_once ops network holds missing kept plan s picks u rooted whole on = (
  ending.at_most ops network holds Anything missing kept plan s picks u rooted whole on,
  ending.rests ops network holds Anything missing kept plan s picks u rooted whole on,
  ending.one_end ops network holds Anything missing kept plan s picks u rooted whole on,
)

pub commute : {N : Type 0} (ops : NodeOps N) → Commute ops
commute ops network holds missing kept plan s one two u one_on two_on =
    joins ops network holds Anything missing kept plan s u one two one_on two_on

pub exchange : {N : Type 0} (ops : NodeOps N) → Exchange ops
exchange ops network holds missing kept plan s all picks u on rest picks_on = (
  descending.at_most ops network holds Anything missing kept all picks plan s u on rest picks_on,
  descending.rests ops network holds Anything missing kept all picks plan s u on rest picks_on,
  descending.same ops network holds Anything missing kept all picks plan s u on rest picks_on,
)
