-- The service's answer ends an exchange, and keeps the session key and the moment of the authenticator.
use Rattle.std.proofs.Common.{◌≡◌, ℕ, Bool, true, false, List, Option, Ok, refl, sym, subst}
use Rattle.sspi_core.proofs.Chain.{passed, gave}
use Rattle.sspi_core.specs.declared.draw.Draw.{Draw}
use Rattle.krb_context.specs.declared.state.KerberosState.TheVariants.{Final}
use Rattle.krb_messages.specs.declared.ap_rep.EncApRepPart.{EncApRepPart}
use Rattle.krb_messages.specs.declared.encryption.EncryptionKey.{EncryptionKey}
use Rattle.krb_as.specs.declared.done.InitDone.{InitDone}
use Rattle.krb_as.specs.declared.turn.Turn.{Turn}
use Rattle.krb_as.specs.declared.turn.Turn.TheVariants.{Ends}
use Rattle.krb_ap.specs.Answered.{Confirms, Replies, FinishesInitiation, TakesApRep}
use Rattle.krb_ap.specs.Initiators.{is_bare}
use Rattle.krb_ap.specs.declared.initiator.Initiator.{Initiator}
use Rattle.krb_initiator.specs.InitSteps.{HearsAnswer}
use Rattle.krb_initiator.specs.declared.seeker.InitPhase.{InitPhase}

-- the end of an exchange: established, with the key of the exchange
pub record IsEnd (initiator : Initiator) (done : InitDone) : Type 0 where
  pub state : done.change.state ≡ Final
  pub key : done.change.encryption_params.session_key ≡ initiator.params.session_key
  pub shown_at : done.change.asked_at ≡ initiator.asked_at

made_end : (initiator : Initiator) (done made : InitDone) → done ≡ made → IsEnd initiator made → IsEnd initiator done
made_end initiator done made is h = subst (λ (d : InitDone). IsEnd initiator d) (sym is) h

confirms_end : (initiator : Initiator) (subkey : Option EncryptionKey) (done : InitDone) → Confirms initiator subkey (Ok done) → IsEnd initiator done
unfolding Confirms
confirms_end initiator subkey done h = let key = passed _ _ _ h in made_end initiator done _ (gave _ _ key.rest_held) (record { state = refl; key = refl; shown_at = refl })

replies_end : (initiator : Initiator) (key : List ℕ) (subkey : Option EncryptionKey) (number : Option (List ℕ)) (draw : Draw) (done : InitDone) → Replies initiator key subkey number draw (Ok done)
    → IsEnd initiator done
unfolding Replies
replies_end initiator key subkey number draw done h =
    let taken = passed _ _ _ h in
    let counted = passed _ _ _ taken.rest_held in
    made_end initiator done _ (gave _ _ counted.rest_held) (record { state = refl; key = refl; shown_at = refl })

finishes_end : (dce : Bool) (initiator : Initiator) (key : List ℕ) (part : EncApRepPart) (draw : Draw) (done : InitDone) → FinishesInitiation dce initiator key part draw (Ok done) → IsEnd initiator done
finishes_end true initiator key part draw done h = replies_end initiator key part.subkey part.seq_number draw done h
finishes_end false initiator key part draw done h = confirms_end initiator part.subkey done h

takes_end : (initiator : Initiator) (token : List ℕ) (draw : Draw) (done : InitDone) → TakesApRep initiator token draw (Ok done) → IsEnd initiator done
unfolding TakesApRep
takes_end initiator token draw done h =
    let message = passed _ _ _ h in
    let key = passed _ _ _ message.rest_held in
    let part = passed _ _ _ key.rest_held in
    let time = passed _ _ _ part.rest_held in
    finishes_end (is_bare initiator.flags) initiator key.found part.found draw done time.rest_held

ended : (x y : InitDone) → ◌≡◌ {A = Turn InitPhase InitDone} (Ends x) (Ends y) → x ≡ y
ended x y e = cc

pub hears_end : (initiator : Initiator) (token : List ℕ) (draw : Draw) (done : InitDone) → HearsAnswer initiator token draw (Ok (Ends done)) → IsEnd initiator done
unfolding HearsAnswer
hears_end initiator token draw done h =
    let made = passed _ _ _ h in made_end initiator done made.found (ended done made.found (gave _ _ made.rest_held)) (takes_end initiator token draw made.found made.first_held)

pub hears_ends : (initiator : Initiator) (token : List ℕ) (draw : Draw) (turn : Turn InitPhase InitDone) → HearsAnswer initiator token draw (Ok turn) → (done : InitDone) × (turn ≡ Ends done)
unfolding HearsAnswer
hears_ends initiator token draw turn h = let made = passed _ _ _ h in (made.found, gave _ _ made.rest_held)
