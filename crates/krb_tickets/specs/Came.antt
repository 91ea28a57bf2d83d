-- Which replies brought an initiator so far that began with a ticket, and which of them was encrypted under which key (RFC 4120,
-- section 3.3.4).
use Rattle.std.specs.Prelude.{◌≡◌, ℕ, true, List, [], ◌∷◌, ◌++◌, length, Some, None, Result}
use Rattle.std.specs.List.{list_all}
use Rattle.krb_exchange.specs.declared.kdc_rep.TgsRep.{TgsRep}
use Rattle.sspi_generator.specs.declared.network.NetFault.{NetFault}
use Rattle.krb_replies.specs.declared.facts.ReplyFacts.{ReplyFacts}
use Rattle.krb_replies.specs.declared.keys.ReplyKey.{ReplyKey}
use Rattle.krb_as.specs.declared.done.InitDone.{InitDone}
use Rattle.krb_as.specs.declared.key.Grant.{Grant}
use Rattle.krb_tgs.specs.Chain.{HandsOn}
use Rattle.krb_tgs.specs.Fresh.{referral_of}
use Rattle.krb_initiator.specs.declared.seeker.Seeker.{Seeker}
use Rattle.krb_initiator.specs.declared.seeker.TgsLeg.{TgsLeg}
use Rattle.krb_initiator.specs.declared.seeker.InitPhase.{InitPhase}
use Rattle.krb_initiator.specs.declared.seeker.InitPhase.TheVariants.{New, InAsExchange, AwaitsTgsRep, Over}
use Rattle.krb_initiator.specs.Came.{AreGranted, is_referral}

-- the key that a ticket came with
abbrev pub held_key : Grant → ReplyKey
held_key held = record { suite = held.suite; key = held.key; facts = held.facts }

-- the replies are TGS-REPs, each encrypted under the key before it, the first under that of the ticket; the last one brought this key
pub record HasHeldChain (seeker : Seeker) (held : Grant) (replies : List (Result (List ℕ) NetFault)) (reps : List TgsRep) (last : ReplyKey) : Type 0 where
  pub granted : AreGranted replies reps
  pub chain : HandsOn seeker.asker.rules (held_key held) reps last

-- with referrals alone: as many as were followed
pub record CameToLeg (seeker : Seeker) (held : Grant) (replies : List (Result (List ℕ) NetFault)) (leg : TgsLeg) : Type 0 where
  pub reps : List TgsRep
  pub facts : ReplyFacts
  pub has : HasHeldChain seeker held replies reps (record { suite = leg.suite; key = leg.key; facts = facts })
  pub referrals : list_all is_referral reps ≡ true
  pub count : length reps ≡ leg.hops

-- these replies, in their order, bring an initiator with a ticket to this phase, which is never one of an AS exchange
abbrev pub CameHeld : Seeker → Grant → List (Result (List ℕ) NetFault) → InitPhase → Type 0
CameHeld seeker held replies New = ⊥
CameHeld seeker held replies (InAsExchange phase) = ⊥
CameHeld seeker held replies (AwaitsTgsRep leg) = CameToLeg seeker held replies leg
CameHeld seeker held replies Over = Unit {0}

-- the context has this session key, in its suite
pub record HasSessionKey (done : InitDone) (key : ReplyKey) : Type 0 where
  pub session_key : done.change.encryption_params.session_key ≡ Some key.key
  pub encryption_type : done.change.encryption_params.encryption_type ≡ Some key.suite

-- and to this end: the session key is the last key of the chain, which the service's ticket came with, after referrals
pub record IsHeldSession (seeker : Seeker) (held : Grant) (replies : List (Result (List ℕ) NetFault)) (done : InitDone) : Type 0 where
  pub key : ReplyKey
  pub referrals : List TgsRep
  pub last : TgsRep
  pub has : HasHeldChain seeker held replies (referrals ++ (last ∷ [])) key
  pub are_referrals : list_all is_referral referrals ≡ true
  pub is_service : referral_of seeker.asker.rules seeker.wanted.target key.facts last.0 ≡ None
  pub session : HasSessionKey done key
