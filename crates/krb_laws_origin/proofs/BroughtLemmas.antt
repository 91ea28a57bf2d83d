-- The replies that events bring, with one more event.
use Rattle.std.proofs.Common.{◌≡◌, ℕ, List, [], ◌∷◌, ◌++◌, Option, Result, Ok, refl, sym, ap, ◌∙◌, append_assoc}
use Rattle.std.proofs.lemmas.List.{append-nil, map-append}
use Rattle.sspi_core.specs.declared.identity.CredentialsBuffers.{CredentialsBuffers}
use Rattle.sspi_generator.specs.declared.network.NetFault.{NetFault}
use Rattle.krb_script.specs.declared.item.Event.{Event}
use Rattle.krb_laws_origin.specs.Origins.{answer_to, answers_to, handed, AreBrought, HasOrigin}

-- one more reply, as the network brings it
pub handed_next : (replies : List (List ℕ)) (octets : List ℕ) → handed replies ++ (Ok octets ∷ []) ≡ handed (replies ++ (octets ∷ []))
handed_next replies octets = sym (map-append (λ octets. Ok octets) replies (octets ∷ []))

-- replies that events brought are also brought by more events
module _ (id : ℕ) (events more : List Event) where
  brought_before : (replies : List (List ℕ)) → AreBrought id replies events → AreBrought id replies (events ++ more)
  brought_before replies h = record {
    earlier = h.earlier;
    during = h.during;
    later = h.later ++ more;
    are = ap (λ (e : List Event). e ++ more) h.are ∙ append_assoc (h.earlier ++ h.during) h.later more;
    brought = h.brought;
  }

  pub origin_before : (identity : Option CredentialsBuffers) (key : List ℕ) → HasOrigin identity id events key → HasOrigin identity id (events ++ more) key
  origin_before identity key h = record { credentials = h.credentials; has = h.has; replies = h.replies; brought = brought_before h.replies h.brought; lead = h.lead }

-- the stretch goes on to the last event
pub record AreComing (id : ℕ) (replies : List (List ℕ)) (events : List Event) : Type 0 where
  pub earlier : List Event
  pub during : List Event
  pub are : events ≡ earlier ++ during
  pub brought : answers_to id during ≡ handed replies

module _ (id : ℕ) where
  -- a stretch begins after all events
  pub none_coming : (events : List Event) → AreComing id [] events
  none_coming events = record { earlier = events; during = []; are = sym (append-nil events); brought = refl }

  answers_more : (events : List Event) (event : Event) → answers_to id (events ++ event ∷ []) ≡ answers_to id events ++ answer_to id event
  answers_more [] event = append-nil (answer_to id event)
  answers_more (first ∷ events) event =
      ap (λ (a : List (Result (List ℕ) NetFault)). answer_to id first ++ a) (answers_more events event) ∙ sym (append_assoc (answer_to id first) (answers_to id events) (answer_to id event))

  module _ (replies : List (List ℕ)) (events : List Event) (event : Event) (coming : AreComing id replies events) where
    more_are : events ++ event ∷ [] ≡ coming.earlier ++ (coming.during ++ event ∷ [])
    more_are = ap (λ (e : List Event). e ++ event ∷ []) coming.are ∙ append_assoc coming.earlier coming.during (event ∷ [])

    more_brought : answers_to id (coming.during ++ event ∷ []) ≡ handed replies ++ answer_to id event
    more_brought = answers_more coming.during event ∙ ap (λ (a : List (Result (List ℕ) NetFault)). a ++ answer_to id event) coming.brought

    -- an event that brings nothing
    pub coming_still : answer_to id event ≡ [] → AreComing id replies (events ++ event ∷ [])
    coming_still quiet = record {
      earlier = coming.earlier;
      during = coming.during ++ event ∷ [];
      are = more_are;
      brought = more_brought ∙ ap (λ (a : List (Result (List ℕ) NetFault)). handed replies ++ a) quiet ∙ append-nil (handed replies);
    }

    -- an event that brings one more reply
    pub coming_next : (octets : List ℕ) → answer_to id event ≡ Ok octets ∷ [] → AreComing id (replies ++ octets ∷ []) (events ++ event ∷ [])
    coming_next octets is = record {
      earlier = coming.earlier;
      during = coming.during ++ event ∷ [];
      are = more_are;
      brought = more_brought ∙ ap (λ (a : List (Result (List ℕ) NetFault)). handed replies ++ a) is ∙ handed_next replies octets;
    }

  -- a stretch may end at the last event
  pub coming_brought : (replies : List (List ℕ)) (events : List Event) → AreComing id replies events → AreBrought id replies events
  coming_brought replies events h =
      record { earlier = h.earlier; during = h.during; later = []; are = h.are ∙ sym (append-nil (h.earlier ++ h.during)); brought = h.brought }
