use Rattle.std.proofs.Common.{◌≡◌, ℕ, List, [], ◌∷◌, ◌++◌, ap, ◌∙◌, append_assoc}
use Rattle.tn_modtext.proofs.writers.put_difference.Goals as goal

-- two names with a minus sign between them
difference-put : (out high low one two three : List ℕ) → one ≡ out ++ 32 ∷ high → two ≡ one ++ 45 ∷ [] → three ≡ two ++ low
    → three ≡ out ++ 32 ∷ (high ++ 45 ∷ low)
difference-put out high low one two three o t e =
    e ∙ (ap (λ x. x ++ low) (t ∙ ap (λ x. x ++ 45 ∷ []) o)
    ∙ (append_assoc (out ++ 32 ∷ high) (45 ∷ []) low ∙ append_assoc out (32 ∷ high) (45 ∷ low)))

pub returns : goal.returns
returns c =
    difference-put c.args.out.now.items c.args.high.now c.args.low.now c.put_spaced.new.out.items c.push.new.self.items
    c.extend_from_slice.new.self.items
    (c.in_ok-put_spaced.ensures ∙ ap (λ name. c.args.out.now.items ++ 32 ∷ name) c.bytes.ensures.bytes) c.in_ok-push.ensures.items
    (c.in_ok-extend_from_slice.ensures.items ∙ ap (λ name. c.push.new.self.items ++ name) c.bytes-2.ensures.bytes)
