-- The results of an end, as the call on its handle returns them, and settings that make no server.
use Rattle.std.proofs.Common.{◌≡◌, ℕ, ◌<◌, List, Bool, true, false, refl, arith}
use Rattle.std.proofs.lemmas.Bool.Decides.{nat_tests}
use Rattle.std.specs.Prelude.{◌&&◌, nat_le, Ok, Err}
use Rattle.krb_c.specs.declared.sasl_end.SaslEnd.{SaslEnd}
use Rattle.krb_c.specs.declared.sasl_end.SaslEnd.TheVariants.{Server, Client}
use Rattle.krb_c.specs.Sasl.{EndHandsNot, GivesOffer, GivesName, GivesAnswer, RefusesOffer, RefusesName, RefusesAnswer, ServesAs}
use Rattle.krb_c.specs.SaslReplies.{failure_of}
use Rattle.krb_sasl.specs.declared.client.SaslClient.{SaslClient}
use Rattle.krb_sasl.specs.declared.error.SaslError.TheVariants.{Layers}
use Rattle.krb_sasl.specs.declared.fault.SaslFault.{SaslFault}
use Rattle.krb_sasl.specs.declared.fault.SaslFault.TheVariants.{Refused as RefusedFault, Room as RoomFault}
use Rattle.krb_sasl.specs.declared.server.SaslServer.{SaslServer}
use Rattle.krb_sasl.specs.Clients.{AnswersOffer}
use Rattle.krb_sasl.specs.Layers.{is_offer}
use Rattle.krb_sasl.specs.Rooms.{Faults, IsNameIn, IsAnswerTo}
use Rattle.krb_sasl.specs.Servers.{Offers, Accepts, MayServe, Serves, offered_by}
use Rattle.krb_sessions.specs.declared.session.Session.{Session}
use Rattle.sspi_core.specs.Checks.{Holds}
use Rattle.sspi_core.proofs.Chain.{halts}

-- faults of a server and of a client, as failures of their end
pub offer_fails : (absent : Type 0) (before : SaslEnd) (server : SaslServer) (room : ℕ) (fault : SaslFault) → before ≡ Server server
    → Faults (Offers server) (λ token. Offers server (Ok token)) room fault
    → EndHandsNot absent RefusesOffer GivesOffer before room (failure_of fault)
offer_fails absent before server room (RefusedFault refusal) was h = record { server = server; was = was; refuses = h }
offer_fails absent before server room (RoomFault count) was h = record {
  octets = h.octets;
  given = (Server (offered_by server), record { server = server; was = was; offers = h.given; next = refl });
  counted = h.counted;
  short = h.short;
}

pub name_fails : (absent : Type 0) (token : List ℕ) (before : SaslEnd) (server : SaslServer) (room : ℕ) (fault : SaslFault) → before ≡ Server server
    → Faults (Accepts server token) (IsNameIn server token) room fault
    → EndHandsNot absent (RefusesName token) (GivesName token) before room (failure_of fault)
name_fails absent token before server room (RefusedFault refusal) was h = record { server = server; was = was; refuses = h }
name_fails absent token before server room (RoomFault count) was h = record {
  octets = h.octets;
  given = (Server h.given.0, record { server = server; accepted = h.given.0; was = was; names = h.given.1; next = refl });
  counted = h.counted;
  short = h.short;
}

pub answer_fails : (absent : Type 0) (offer : List ℕ) (before : SaslEnd) (client : SaslClient) (room : ℕ) (fault : SaslFault) → before ≡ Client client
    → Faults (AnswersOffer client offer) (IsAnswerTo client offer) room fault
    → EndHandsNot absent (RefusesAnswer offer) (GivesAnswer offer) before room (failure_of fault)
answer_fails absent offer before client room (RefusedFault refusal) was h = record { client = client; was = was; refuses = h }
answer_fails absent offer before client room (RoomFault count) was h = record {
  octets = h.octets;
  given = (Client h.given.0, record { client = client; answered = h.given.0; was = was; answers = h.given.1; next = refl });
  counted = h.counted;
  short = h.short;
}

-- more than the three layers are no offer
none_of : (a b c d : Bool) → b ≡ false → (a && b && c && d) ≡ false
none_of true b c d h = rw h
none_of false b c d h = refl

over_seven : (layers : ℕ) → 7 < layers → nat_le layers 7 ≡ false
over_seven layers h = grind (arith, nat_tests)

no_offer : (layers most : ℕ) → 7 < layers → is_offer layers most ≡ false
no_offer layers most h = none_of (nat_le 1 layers) (nat_le layers 7) _ _ (over_seven layers h)

holds_not : {E : Type 0} (refusal : E) (test : Bool) → test ≡ false → Holds refusal test (Err refusal)
holds_not refusal true e = absurd cc
holds_not refusal false e = record { is = refl }

pub serves_none : (layers most : ℕ) (session : Session) → 7 < layers → ServesAs layers most session (Err Layers)
unfolding ServesAs Serves MayServe
serves_none layers most session h =
    halts _ _ Layers (Err Layers) (halts _ _ Layers (Err Layers)
    (halts _ _ Layers (Err Layers) (holds_not Layers (is_offer layers most) (no_offer layers most h)) refl) refl) refl
