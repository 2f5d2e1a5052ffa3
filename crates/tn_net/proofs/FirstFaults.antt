-- The first thing that is wrong with a description, from what each step of its check finds.
use Rattle.std.proofs.Common.{◌≡◌, ◌+◌, ◌<◌, List, length, refl, None, ℕ}
use Rattle.tn_text.specs.declared.faults.Fault.{Fault}
use Rattle.tn_text.specs.declared.faults.FaultCode.TheVariants.{NoHost}
use Rattle.tn_text.specs.declared.faults.Cause.{Cause}
use Rattle.tn_text.specs.Faults.{bare, fault_at}
use Rattle.tn_net.specs.RawNetworks.{RawLists}
use Rattle.tn_net.specs.Lines.{name_at, line_of, IsRepeated, AreDistinct, end_lines, line_at}
use Rattle.tn_net.specs.Faults.{duplicate, AreRight, FaultPlace, AtName, AtLine, AtHost, IsWrongAt, IsBefore, IsNetworkFault}
use Rattle.tn_net.specs.Inner.Tables.{IsFirstWrongLine}
use Rattle.tn_net.proofs.Faultless.{right_or_wrong}

-- the fault is that of the first processor whose name an earlier one has
pub record IsFirstRepeated (names : List (List ℕ × ℕ × ℕ)) (fault : Fault) : Type 0 where
  pub place : ℕ
  pub here : place < length names
  pub before : AreDistinct names place
  pub repeated : IsRepeated names place
  pub told : fault ≡ fault_at (line_of names place) (duplicate (name_at names place))

-- the host has no end, and the fault stands behind the last line
pub record LacksHost (raw : RawLists) (fault : Fault) : Type 0 where
  pub none : raw.host ≡ None
  pub told : fault ≡ fault_at (raw.lines + 1) (bare NoHost)

pub repeated : {raw : RawLists} {fault : Fault} → IsFirstRepeated raw.names fault → IsNetworkFault raw fault
repeated {raw} r = record {
  place = AtName r.place;
  cause = duplicate (name_at raw.names r.place);
  first = record { wrong = (r.here, r.repeated, refl); before = earlier };
  told = r.told;
}
  where
    earlier : (p : FaultPlace) (c : Cause) → IsBefore raw p (AtName r.place) → IsWrongAt raw p c → ⊥
    earlier (AtName j) c less w = r.before j less w.1
    earlier (AtLine j) c less w = less
    earlier AtHost c less w = less

pub wrong : {raw : RawLists} {fault : Fault} → AreDistinct raw.names (length raw.names) → IsFirstWrongLine raw.names (end_lines raw) fault
    → IsNetworkFault raw fault
wrong {raw} distinct r = record {
  place = AtLine r.place;
  cause = r.cause;
  first = record { wrong = (r.here, r.wrong); before = earlier };
  told = r.told;
}
  where
    earlier : (p : FaultPlace) (c : Cause) → IsBefore raw p (AtLine r.place) → IsWrongAt raw p c → ⊥
    earlier (AtName j) c less w = distinct j w.0 w.1
    earlier (AtLine j) c less w = right_or_wrong raw.names (end_lines raw) (line_at (end_lines raw) j) c (r.before j w.0 less) w.1
    earlier AtHost c less w = less

pub hostless : {raw : RawLists} {fault : Fault} → AreDistinct raw.names (length raw.names) → AreRight raw.names (end_lines raw)
    → LacksHost raw fault → IsNetworkFault raw fault
hostless {raw} distinct right r = record {
  place = AtHost;
  cause = bare NoHost;
  first = record { wrong = (r.none, refl); before = earlier };
  told = r.told;
}
  where
    earlier : (p : FaultPlace) (c : Cause) → IsBefore raw p AtHost → IsWrongAt raw p c → ⊥
    earlier (AtName j) c less w = distinct j w.0 w.1
    earlier (AtLine j) c less w = right_or_wrong raw.names (end_lines raw) (line_at (end_lines raw) j) c (right j w.0) w.1
    earlier AtHost c less w = less
