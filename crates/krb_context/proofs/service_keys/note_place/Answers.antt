use Rattle.std.proofs.Common.{ℕ, List, Some, cond, sym, ap, ◌∙◌}
use Rattle.std.specs.HashMap.{get}
use Rattle.krb_context.specs.AdditionalKeys.{same_components}
use Rattle.krb_context.proofs.ServiceKeyLemmas.{place_new, place_known}
use Rattle.krb_context.proofs.service_keys.note_place.Goals as goal

pub returns-in_ok-insert-clause-noted : goal.returns-in_ok-insert-clause-noted
returns-in_ok-insert-clause-noted c = λ other.
    place_new (get same_components c.args.places.now) (get same_components c.insert.new.self) c.args.components.now other c.args.place
    (sym c.contains_key.ensures ∙ c.if-not-contains_key.true)
    (c.in_ok-insert.ensures.updates.0 other
    ∙ ap (λ (k : List (List ℕ)). cond (same_components k other) (Some c.args.place) (get same_components c.args.places.now other)) c.in_ok-components.ensures)

pub returns-else-not-contains_key-clause-noted : goal.returns-else-not-contains_key-clause-noted
returns-else-not-contains_key-clause-noted c = λ other.
    place_known (get same_components c.args.places.now) c.args.components.now other c.args.place
    (sym c.contains_key.ensures ∙ c.if-not-contains_key.false)
