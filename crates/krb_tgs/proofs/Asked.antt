-- A request goes to a KDC of the realm that is asked, and a referral is followed to the realm that it names.
use Rattle.std.proofs.Common.{◌≡◌, ℕ, Bool, true, false, List, Option, Some, None, Ok, ap, ◌∙◌}
use Rattle.std.specs.Prelude.{if◌then◌else◌}
use Rattle.sspi_core.proofs.Chain.{passed, gave}
use Rattle.sspi_core.specs.declared.draw.Draw.{Draw}
use Rattle.krb_messages.specs.declared.ticket.Ticket.{Ticket}
use Rattle.krb_as.proofs.Realms.{found_realm}
use Rattle.krb_as.specs.declared.asker.Asker.{Asker}
use Rattle.krb_as.specs.declared.key.Grant.{Grant}
use Rattle.krb_tgs.specs.TgsAsked.{url_for, AsksTgs, Follows}
use Rattle.krb_tgs.specs.declared.tgs.Begun.{Begun}
use Rattle.krb_tgs.specs.declared.wanted.Wanted.{Wanted}

module _ (asker : Asker) (wanted : Wanted) (shown : Grant) (home realm : List ℕ) (draw : Draw) (begun : Begun) where
  pub asked_realm : (tickets : Option (List Ticket)) → AsksTgs asker wanted shown home realm tickets draw (Ok begun) → begun.kdc.realm ≡ realm
  unfolding AsksTgs
  asked_realm tickets h =
      let key = passed _ _ _ h in
      let kdc = passed _ _ _ key.rest_held in
      ap (λ (b : Begun). b.kdc.realm) (gave _ _ kdc.rest_held) ∙ found_realm (url_for asker.kdc_url home realm) asker.env realm kdc.found kdc.first_held

  pub followed_realm : (hops : ℕ) (asked : List ℕ) → Follows asker wanted shown hops home asked realm draw (Ok begun) → begun.kdc.realm ≡ realm
  unfolding Follows
  followed_realm hops asked h =
      let few = passed _ _ _ h in
      let other = passed _ _ _ few.rest_held in
      asked_realm None other.rest_held

-- what refers to a realm names it in clear
pub referred_to : (ends : Bool) (named : Option (List ℕ)) (realm : List ℕ) → (if ends then None else named) ≡ Some realm → named ≡ Some realm
referred_to false named realm e = e
referred_to true named realm e = absurd cc
