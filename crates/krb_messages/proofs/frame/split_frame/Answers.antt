use Rattle.std.proofs.Common.{◌≡◌, ℕ, ◌<◌, eqb, zero, suc, false, length, arith, refl, sym, ap, ◌∙◌}
use Rattle.std.proofs.lemmas.Bool.{eqb-true}
use Rattle.krb_messages.proofs.FrameLemmas.{refused, frame_stands, frame_opens, oid_stands, oid_opens, frame_found}
use Rattle.krb_messages.proofs.frame.split_frame.Goals as goal

ne_from_eqb : (n : ℕ) → eqb n 0 ≡ false → 0 < n
ne_from_eqb zero e = absurd cc
ne_from_eqb (suc n) e = omega arith

pub returns-in_err-contents-clause-none : goal.returns-in_err-contents-clause-none
returns-in_err-contents-clause-none c =
    refused _ _ _ (λ oid message frame. frame_stands oid _ message _ frame (rw c.new-frame.ensures at c.in_err-contents.ensures.none))

pub returns-in_err-end-clause-none : goal.returns-in_err-end-clause-none
returns-in_err-end-clause-none c =
    refused _ _ _ (λ oid message frame.
    let e = (frame_opens oid _ message _ frame _ _ (rw c.new-frame.ensures at c.in_ok-contents.ensures.found)).1 in
    let left = c.in_err-end.ensures.ok.1 e in
    absurd cc)

pub returns-in_err-oid-clause-none : goal.returns-in_err-oid-clause-none
returns-in_err-oid-clause-none c =
    refused _ _ _ (λ oid message frame.
    oid_stands oid _ message _ frame _ _ (rw c.new-frame.ensures at c.in_ok-contents.ensures.found) (rw c.new-inside.ensures at c.in_err-oid.ensures.none))

pub returns-then-is_empty-clause-none : goal.returns-then-is_empty-clause-none
returns-then-is_empty-clause-none c = λ oid message frame.
    let e = (oid_opens oid _ message _ frame _ _ _ _ (rw c.new-frame.ensures at c.in_ok-contents.ensures.found) (rw c.new-inside.ensures at c.in_ok-oid.ensures.found)).0 in
    omega (arith, frame.named, ap length e, eqb-true _ 0 (sym c.is_empty.ensures ∙ c.if-is_empty.true))

pub returns-in_err-message-clause-none : goal.returns-in_err-message-clause-none
returns-in_err-message-clause-none c =
    refused _ _ _ (λ oid message frame.
    let e = (oid_opens oid _ message _ frame _ _ _ _ (rw c.new-frame.ensures at c.in_ok-contents.ensures.found) (rw c.new-inside.ensures at c.in_ok-oid.ensures.found)).1 in
    c.in_err-message.ensures.none message (c.rest.ensures ∙ e))

pub returns-clause-found : goal.returns-clause-found
returns-clause-found c =
    frame_found _ _ _ _ _ _ (rw (c.new-frame.ensures, c.in_ok-end.ensures.ok.0 refl) at c.in_ok-contents.ensures.found) (rw c.new-inside.ensures at c.in_ok-oid.ensures.found)
    (ne_from_eqb _ (sym c.is_empty.ensures ∙ c.if-is_empty.false)) (sym c.rest.ensures ∙ c.in_ok-message.ensures.found)
