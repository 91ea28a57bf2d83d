-- The body of a client's AS-REQ asks a KDC that has the client.
use Rattle.std.proofs.Common.{◌≡◌, ℕ, ◌+◌, ◌/◌, ◌<◌, pos, true, List, [], ◌∷◌, length, take, Some, refl, sym, subst, ap, arith, lit<, lit≤}
use Rattle.std.specs.Prelude.{codes}
use Rattle.std.proofs.lemmas.Int.{ints}
use Rattle.std.proofs.lemmas.List.{length-take}
use Rattle.krb_der.specs.Moment.{IsTime}
use Rattle.krb_der.specs.Schema.{is_ascii}
use Rattle.krb_messages.specs.Table.{principal_name, host_address}
use Rattle.krb_messages.specs.Layouts.{principal_name_row, host_address_row}
use Rattle.krb_exchange.specs.Table.{kdc_req_body}
use Rattle.krb_exchange.specs.Layouts.{kdc_req_body_row}
use Rattle.sspi_core.specs.declared.draw.Draw.{Draw}
use Rattle.krb_requests.specs.Bodies.{user_components}
use Rattle.krb_requests.specs.Pieces.{principal as name_with}
use Rattle.krb_as.specs.declared.client.Client.{Client}
use Rattle.krb_as.specs.declared.body.FirstService.TheVariants.{TicketGranting}
use Rattle.krb_as.specs.FirstBodies.{first_body}
use Rattle.krb_laws_ends.specs.Answers.{IsDraw}
use Rattle.krb_kdc.specs.declared.kdc.Kdc.{Kdc}
use Rattle.krb_kdc.specs.declared.kdc.Principal.{Principal}
use Rattle.krb_kdc.specs.Registers.{principal_with}
use Rattle.krb_laws_kdc.specs.Asking.{AsksFirst}
use Rattle.krb_laws_kdc.proofs.NameLemmas.{principal_names}

pub asks_first : (kdc : Kdc) (client : Client) (principal : Principal) (flags : ℕ) (own : Draw) → client.realm ≡ kdc.realm
    → principal_with (user_components client.name) kdc.principals ≡ Some principal → IsDraw own
    → AsksFirst kdc (name_with client.name_type (user_components client.name)) principal own.moment (first_body client TicketGranting flags own)
unfolding first_body kdc_req_body kdc_req_body_row principal_name principal_name_row host_address host_address_row
asks_first kdc client principal flags own realm known d =
    let realm_ascii : is_ascii client.realm ≡ true = subst (λ (r : List ℕ). is_ascii r ≡ true) (sym realm) kdc.realm_ascii in
    let some : 0 < length (take 4 own.random) = omega (arith, length-take 4 own.random, d.size) in
    let till : IsTime (pos (own.moment / 1000000 + 259200)) = (omega (arith, ints), omega (arith, ints, d.moment)) in
    record {
      realm = realm;
      named = refl;
      known = known;
      service = ap (λ (r : List ℕ). Some (name_with 2 (codes "krbtgt" ∷ r ∷ []))) realm;
      etype = refl;
      till = refl;
      sound = (
        lit≤ tt,
        (
          (lit< tt, (principal_names kdc (user_components client.name) principal known, tt)),
          (
            realm_ascii,
            (
              (lit< tt, ((refl, (realm_ascii, tt)), tt)),
              (
                tt,
                (
                  till,
                  (
                    till,
                    (
                      some,
                      ((lit< tt, (lit< tt, tt)), (((lit< tt, (tt, tt)), tt), (tt, (tt, tt)))),
                    ),
                  ),
                ),
              ),
            ),
          ),
        ),
      );
    }
