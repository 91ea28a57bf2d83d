-- The ticket-granting ticket of a client that a KDC has can be written, and is held.
use Rattle.std.proofs.Common.{◌≡◌, ℕ, ◌≤◌, ◌^◌, List, length, refl, ap, ◌∙◌, arith}
use Rattle.std.proofs.lemmas.List.{length-take}
use Rattle.krb_der.specs.Layout.{spelling}
use Rattle.krb_crypto.proofs.CtsInjective.{IsOctets-take}
use Rattle.krb_crypto.specs.Suite.{key_size}
use Rattle.krb_crypto.specs.declared.suite.CipherSuite.{CipherSuite}
use Rattle.krb_messages.specs.Layouts.{principal_name_layout}
use Rattle.krb_exchange.specs.declared.kdc_req.KdcReqBody.{KdcReqBody}
use Rattle.sspi_core.specs.Usernames.{UserName}
use Rattle.krb_requests.specs.Bodies.{user_components}
use Rattle.krb_requests.specs.Pieces.{three_days_after}
use Rattle.krb_as.specs.Askers.{asker_suite}
use Rattle.krb_as.specs.FirstBodies.{first_body}
use Rattle.krb_initiator.specs.declared.seeker.Seeker.{Seeker}
use Rattle.krb_initiator.specs.InitSteps.{body_of}
use Rattle.krb_laws_ends.proofs.AnswerLemmas.{moment_time}
use Rattle.krb_kdc.specs.declared.grant.Grant.{Grant}
use Rattle.krb_kdc.specs.declared.kdc.Kdc.{Kdc}
use Rattle.krb_kdc.specs.Grants.{as_rep}
use Rattle.krb_laws_kdc.specs.Fetching.{IsTimely, Draws, HasClient, name_of, first_granted, held_first}
use Rattle.krb_laws_kdc.specs.Granting.{IsSoundGrant, IsSoundClient}
use Rattle.krb_laws_kdc.proofs.HeldLemmas.{IsHeld, IsLiving, living_time, granted_lives, three_days_live, ten_hours_live}
use Rattle.krb_laws_kdc.proofs.NameLemmas.{AreNames, principal_names, name_sound, name_octets, known_type}
use Rattle.krb_laws_kdc.proofs.RepLemmas.{ticket_sound}
use Rattle.krb_laws_kdc.proofs.WalkLemmas.{granting_sound}

module _ (seeker : Seeker) (draws : Draws) (user : UserName) (kdc : Kdc) (has : HasClient seeker kdc user) (suite_is : kdc.suite ≡ asker_suite seeker.asker) (start span : ℕ)
    (begun : IsTimely start span draws.start) (given : IsTimely start span draws.first) (short : length (spelling principal_name_layout (name_of seeker)) ≤ 2 ^ 24) where
  abbrev suite : CipherSuite
  suite = asker_suite seeker.asker

  abbrev body : KdcReqBody
  body = body_of seeker draws.start

  abbrev grant : Grant
  grant = first_granted seeker kdc has.client draws.start draws.first

  pub first_client : IsSoundClient kdc.realm (name_of seeker)
  first_client =
      let components : List (List ℕ) = user_components seeker.client.name in
      let names : AreNames components = principal_names kdc components has.client has.known in record {
        ascii = kdc.realm_ascii;
        short = kdc.realm_short;
        cname_sound = name_sound seeker.client.name_type components names;
        cname_octets = name_octets seeker.client.name_type (known_type seeker.client.name_type components kdc.realm user has.user_named) components names short;
        cname_short = omega (arith, short);
      }

  first_lives : IsLiving start grant.endtime
  unfolding first_body
  first_lives =
      granted_lives start draws.first.moment (three_days_after draws.start.moment) (three_days_live start span draws.start begun)
      (ten_hours_live start span draws.first given)

  pub nonce_size : length body.nonce ≡ 4
  unfolding first_body
  nonce_size = omega (arith, length-take 4 draws.start.random, begun.is.size)

  pub first_sound : IsSoundGrant kdc.realm body.nonce grant
  unfolding first_body
  first_sound =
      let named = granting_sound kdc.realm draws.first suite
      (record { realm_ascii = kdc.realm_ascii; realm_short = kdc.realm_short; salt_ascii = tt; salt_short = refl }) given.is.moment in
      let size : length body.nonce ≡ 4 = nonce_size in record {
        realm_ascii = kdc.realm_ascii;
        realm_short = kdc.realm_short;
        crealm = kdc.realm_ascii;
        cname = first_client.cname_sound;
        sname = named.sound;
        sname_octets = named.octets;
        sname_short = named.short;
        authtime = moment_time draws.first.moment given.is.moment;
        endtime = living_time start grant.endtime first_lives;
        nonce_some = omega (arith, size);
        nonce_octets = IsOctets-take 4 draws.start.random begun.is.octets;
        nonce_short = omega (arith, size);
      }

  pub first_held : IsHeld suite start (held_first seeker kdc has.client draws.start draws.first)
  unfolding as_rep
  first_held = record {
    d = given.is;
    ticket_is = refl;
    crealm_is = refl;
    cname_is = refl;
    client = first_client;
    auth = moment_time draws.first.moment given.is.moment;
    living = first_lives;
    fits = kdc.tgt_key_fits ∙ ap key_size suite_is;
    sound = ticket_sound suite kdc.realm draws.first given.is body.nonce grant first_sound;
  }
