-- A start with a ticket has at most one outcome.
use Rattle.std.proofs.Common.{ℕ, List, Option, Some, None}
use Rattle.sspi_core.proofs.Once.{Once, then_once, gives_once}
use Rattle.sspi_core.specs.declared.draw.Draw.{Draw}
use Rattle.krb_as.specs.declared.key.Grant.{Grant}
use Rattle.krb_tgs.proofs.Once.{asks_tgs_once}
use Rattle.krb_tgs.specs.Fresh.{referral_of}
use Rattle.krb_ap.proofs.Once.{shows_ticket_once}
use Rattle.krb_initiator.specs.declared.seeker.Seeker.{Seeker}
use Rattle.krb_tickets.specs.Steps.{AsksWithHeld, ShowsHeld, GoesWith, StartsHeld}

goes_with_once : (referral : Option (List ℕ)) (seeker : Seeker) (held : Grant) (draw : Draw) → Once (λ r. GoesWith referral seeker held draw r)
unfolding ShowsHeld AsksWithHeld
goes_with_once None seeker held draw = record {
  same = λ r s h k. (then_once _ _ (shows_ticket_once seeker.errand held.suite held.key held.rep held.rep.crealm draw) (λ done. gives_once _)).same r s h k;
}
goes_with_once (Some realm) seeker held draw = record {
  same = λ r s h k. (then_once _ _ (asks_tgs_once seeker.asker seeker.wanted held _ _ _ draw) (λ begun. gives_once _)).same r s h k;
}

pub starts_held_once : (seeker : Seeker) (held : Grant) (draw : Draw) → Once (λ r. StartsHeld seeker held draw r)
starts_held_once seeker held draw = record {
  same = λ r s h k. (goes_with_once (referral_of seeker.asker.rules seeker.wanted.target held.facts held.rep) seeker held draw).same r s h k;
}
