-- Sources come to one thing: to a system, or to what they are refused with.
use Rattle.std.proofs.Common.{◌≡◌}
use Rattle.tn_system.specs.declared.systems.SystemFault.TheVariants as system
use Rattle.tn_system.specs.Sources.{Sources}
use Rattle.tn_system.specs.Systems.{SystemState, IsSystem}
use Rattle.tn_system.proofs.OneAnswer.{system_or_fault, one_system_fault}
use Rattle.tn_top.specs.Plans.{Answer, usage, unread, fault, limit, refused, done, IsRefused}

pub not_both : (s : Sources) (y : SystemState) (a : Answer) → IsSystem s y → IsRefused s a → ⊥
not_both s y (fault file first) h k = system_or_fault s y (system.Fault file first) h k.1
not_both s y (limit word count) h k = system_or_fault s y (system.Limit word count) h k.1
not_both s y usage h k = k
not_both s y (unread file) h k = k
not_both s y (refused file line tokens text) h k = k
not_both s y (done file text) h k = k

pub one_refusal : (s : Sources) (a b : Answer) → IsRefused s a → IsRefused s b → a ≡ b
one_refusal s (fault file first) (fault other second) h k =
    let same : system.Fault file first ≡ system.Fault other second =
    one_system_fault s h.0 (system.Fault file first) (system.Fault other second) h.1 k.1 in
    cc
one_refusal s (fault file first) (limit word count) h k =
    let same : system.Fault file first ≡ system.Limit word count =
    one_system_fault s h.0 (system.Fault file first) (system.Limit word count) h.1 k.1 in
    absurd cc
one_refusal s (limit word count) (fault file first) h k =
    let same : system.Limit word count ≡ system.Fault file first =
    one_system_fault s h.0 (system.Limit word count) (system.Fault file first) h.1 k.1 in
    absurd cc
one_refusal s (limit word count) (limit other number) h k =
    let same : system.Limit word count ≡ system.Limit other number =
    one_system_fault s h.0 (system.Limit word count) (system.Limit other number) h.1 k.1 in
    cc
one_refusal s (fault file first) usage h k = absurd k
one_refusal s (fault file first) (unread name) h k = absurd k
one_refusal s (fault file first) (refused name line tokens text) h k = absurd k
one_refusal s (fault file first) (done name text) h k = absurd k
one_refusal s (limit word count) usage h k = absurd k
one_refusal s (limit word count) (unread name) h k = absurd k
one_refusal s (limit word count) (refused name line tokens text) h k = absurd k
one_refusal s (limit word count) (done name text) h k = absurd k
one_refusal s usage b h k = absurd h
one_refusal s (unread file) b h k = absurd h
one_refusal s (refused file line tokens text) b h k = absurd h
one_refusal s (done file text) b h k = absurd h
