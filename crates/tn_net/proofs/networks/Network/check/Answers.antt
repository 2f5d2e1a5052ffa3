use Rattle.std.proofs.Common.{◌≡◌, ℕ, List, ◌<◌, ◌+◌, length, refl, sym, ◌∙◌, ap, subst, Err}
use Rattle.std.proofs.lemmas.List.{get_or_read}
use Rattle.tn_text.specs.declared.faults.ReadFault.TheVariants as read
use Rattle.tn_text.specs.declared.faults.FaultCode.TheVariants.{NoHost}
use Rattle.tn_text.specs.Faults.{fault_at, bare}
use Rattle.tn_net.specs.RawNetworks.{raw_of}
use Rattle.tn_net.specs.Lines.{line_of, name_at, IsKnown, IsRepeated, AreDistinct, end_lines}
use Rattle.tn_net.specs.Faults.{IsFaultless, IsNetworkFault, duplicate}
use Rattle.tn_net.specs.Inner.Tables.{IsFirstWrongLine}
use Rattle.tn_net.proofs.FirstFaults.{repeated, wrong, hostless}
use Rattle.tn_net.specs.Inner.Tables.{IsWired}
use Rattle.tn_net.proofs.Faultless.{faultless_or_fault, one_first_fault, gives_first}
use Rattle.tn_net.proofs.Joining.{error_is, no_value}
use Rattle.tn_net.proofs.Described.{Gives, gives, wired_read, described, paired, faultless, root_known}
use Rattle.tn_net.proofs.networks.Network.check.Goals as goal

pub returns-in-Some-clause-fault : goal.returns-in-Some-clause-fault
returns-in-Some-clause-fault c =
    λ fault is. let e : c.at.result ≡ fault = cc in subst (λ f. IsNetworkFault (raw_of c.args.raw.now) f) (told ∙ e)
    (repeated (record { place = c.in-Some.place; here = first.0; before = first.1; repeated = first.2; told = refl }))
  where
    first : (c.in-Some.place < length c.args.raw.now.names.items) × AreDistinct c.args.raw.now.names.items c.in-Some.place
        × IsRepeated c.args.raw.now.names.items c.in-Some.place
    first =
        subst (λ names. (c.in-Some.place < length names) × AreDistinct names c.in-Some.place
        × IsRepeated names c.in-Some.place) c.deref.ensures.value c.in-Some.ensures

    told : fault_at (line_of c.args.raw.now.names.items c.in-Some.place)
        (duplicate (name_at c.args.raw.now.names.items c.in-Some.place)) ≡ c.at.result
    told =
        ap (λ (x : List ℕ × ℕ × ℕ). fault_at x.2 (duplicate x.0))
        (sym (get_or_read c.args.raw.now.names.items c.in-Some.place c.index.result.now first.0 c.index.ensures _)) ∙ sym c.at.ensures

pub wired-requires-clause-distinct : goal.wired-requires-clause-distinct
wired-requires-clause-distinct c =
    subst (λ names. AreDistinct names (length names)) (c.deref.ensures.value ∙ sym c.deref-2.ensures.value) c.in_default.ensures

pub returns-in_err-fars-clause-fault : goal.returns-in_err-fars-clause-fault
returns-in_err-fars-clause-fault c = λ fault is.
    wrong (subst (λ names. AreDistinct names (length names)) c.deref.ensures.value c.in_default.ensures)
    (subst (λ names. IsFirstWrongLine names (end_lines (raw_of c.args.raw.now)) fault) c.deref-2.ensures.value
    (subst (λ lines. IsFirstWrongLine c.deref-2.result.now lines fault) (c.deref-3.ensures.value ∙ c.in_ok-lines.ensures)
    (c.in_err-fars.ensures.fault fault (ap Err (error_is c.from_residual-in_err-fars.result c.in_err-fars.field-0.0
    (read.Fault fault) c.from_residual-in_err-fars.ensures.1 is)))))

pub returns-in_default-host-clause-fault : goal.returns-in_default-host-clause-fault
returns-in_default-host-clause-fault c =
    λ fault is. let e : c.at-in_default-host.result ≡ fault = cc in subst (λ f. IsNetworkFault (raw_of c.args.raw.now) f) (told ∙ e)
    (hostless (subst (λ names. AreDistinct names (length names)) c.deref.ensures.value c.in_default.ensures) wired.right
    (record { none = c.in_default-host.is; told = refl }))
  where
    wired : IsWired c.args.raw.now.names.items (end_lines (raw_of c.args.raw.now)) c.in_ok-fars.fars.items
    wired =
        wired_read (raw_of c.args.raw.now) c.deref-2.result.now c.deref-3.result.now c.in_ok-fars.fars.items c.deref-2.ensures.value
        (c.deref-3.ensures.value ∙ c.in_ok-lines.ensures) c.in_ok-fars.ensures.wired

    told : fault_at (c.args.raw.now.lines + 1) (bare NoHost) ≡ c.at-in_default-host.result
    told = ap (λ cause. fault_at (c.args.raw.now.lines + 1) cause) (sym c.bare.ensures) ∙ sym c.at-in_default-host.ensures

pub unreachable-requires : goal.unreachable-requires
unreachable-requires c =
    c.in_default-named.ensures (subst (λ names. IsKnown names c.in-Some-host.name) (sym c.deref-4.ensures.value)
    (root_known (raw_of c.args.raw.now) (
      c.in-Some-host.name,
      c.in-Some-host.root_link,
      c.in-Some-host.field-0-2,
    ) wired.right c.in-Some-host.is))
  where
    wired : IsWired c.args.raw.now.names.items (end_lines (raw_of c.args.raw.now)) c.in_ok-fars.fars.items
    wired =
        wired_read (raw_of c.args.raw.now) c.deref-2.result.now c.deref-3.result.now c.in_ok-fars.fars.items c.deref-2.ensures.value
        (c.deref-3.ensures.value ∙ c.in_ok-lines.ensures) c.in_ok-fars.ensures.wired

pub invariant_of-result : goal.invariant_of-result
invariant_of-result c =
    paired (raw_of c.args.raw.now) (record {
      sizes = c.in_ok-sizes.sizes.items;
      fars = c.in_ok-fars.fars.items;
      root = c.in-Some-named.root;
      root_link = c.in-Some-host.root_link;
    })
    (gives (raw_of c.args.raw.now) c.deref.result.now c.deref-2.result.now c.deref-4.result.now c.deref-5.result.now c.deref-3.result.now
    (record {
      sizes = c.in_ok-sizes.sizes.items;
      fars = c.in_ok-fars.fars.items;
      root = c.in-Some-named.root;
      root_link = c.in-Some-host.root_link;
    }) c.in-Some-host.name c.in-Some-host.field-0-2 c.requires c.deref.ensures.value c.in_default.ensures c.deref-2.ensures.value
    (c.deref-3.ensures.value ∙ c.in_ok-lines.ensures) c.in_ok-fars.ensures.wired c.in-Some-host.is c.deref-4.ensures.value
    c.in-Some-named.ensures c.deref-5.ensures.value c.in_ok-sizes.ensures)

given : (c : goal.After-drop-lines-2) → Gives (raw_of c.args.raw.now)
    (record {
      sizes = c.in_ok-sizes.sizes.items;
      fars = c.in_ok-fars.fars.items;
      root = c.in-Some-named.root;
      root_link = c.in-Some-host.root_link;
    })
given c =
    gives (raw_of c.args.raw.now) c.deref.result.now c.deref-2.result.now c.deref-4.result.now c.deref-5.result.now c.deref-3.result.now
    (record {
      sizes = c.in_ok-sizes.sizes.items;
      fars = c.in_ok-fars.fars.items;
      root = c.in-Some-named.root;
      root_link = c.in-Some-host.root_link;
    }) c.in-Some-host.name c.in-Some-host.field-0-2 c.requires c.deref.ensures.value c.in_default.ensures c.deref-2.ensures.value
    (c.deref-3.ensures.value ∙ c.in_ok-lines.ensures) c.in_ok-fars.ensures.wired c.in-Some-host.is c.deref-4.ensures.value
    c.in-Some-named.ensures c.deref-5.ensures.value c.in_ok-sizes.ensures

pub returns-clause-network : goal.returns-clause-network
returns-clause-network c =
    described (raw_of c.args.raw.now) (record {
      sizes = c.in_ok-sizes.sizes.items;
      fars = c.in_ok-fars.fars.items;
      root = c.in-Some-named.root;
      root_link = c.in-Some-host.root_link;
    }) (given c)

pub returns-clause-faultless : goal.returns-clause-faultless
returns-clause-faultless c =
    faultless (raw_of c.args.raw.now) (record {
      sizes = c.in_ok-sizes.sizes.items;
      fars = c.in_ok-fars.fars.items;
      root = c.in-Some-named.root;
      root_link = c.in-Some-host.root_link;
    }) (given c)

pub returns-clause-pairing : goal.returns-clause-pairing
returns-clause-pairing c =
    paired (raw_of c.args.raw.now) (record {
      sizes = c.in_ok-sizes.sizes.items;
      fars = c.in_ok-fars.fars.items;
      root = c.in-Some-named.root;
      root_link = c.in-Some-host.root_link;
    }) (given c)

pub returns-clause-only : goal.returns-clause-only
returns-clause-only c =
    λ fault first. absurd (faultless_or_fault (raw_of c.args.raw.now) fault
    (faultless (raw_of c.args.raw.now) (record {
      sizes = c.in_ok-sizes.sizes.items;
      fars = c.in_ok-fars.fars.items;
      root = c.in-Some-named.root;
      root_link = c.in-Some-host.root_link;
    }) (given c)) first)

pub returns-in-Some-clause-only : goal.returns-in-Some-clause-only
returns-in-Some-clause-only c =
    λ fault first. ap Err (one_first_fault (raw_of c.args.raw.now) c.at.result fault c.requires.numbers
    (returns-in-Some-clause-fault c c.at.result refl) first)

pub returns-in_err-fars-clause-only : goal.returns-in_err-fars-clause-only
returns-in_err-fars-clause-only c =
    gives_first (raw_of c.args.raw.now) c.from_residual-in_err-fars.result c.requires.numbers (returns-in_err-fars-clause-fault c)
    (no_value (λ _. IsFaultless (raw_of c.args.raw.now)) c.from_residual-in_err-fars.result c.from_residual-in_err-fars.ensures.0)

pub returns-in_default-host-clause-only : goal.returns-in_default-host-clause-only
returns-in_default-host-clause-only c =
    λ fault first. ap Err (one_first_fault (raw_of c.args.raw.now) c.at-in_default-host.result fault c.requires.numbers
    (returns-in_default-host-clause-fault c c.at-in_default-host.result refl) first)
