-- A run over given replies has at most one end.
use Rattle.std.proofs.Common.{◌≡◌, List, [], ◌∷◌, sym, subst, Result, Ok}
use Rattle.sspi_core.specs.declared.cause.Cause.{Cause}
use Rattle.sspi_core.specs.declared.draw.Draw.{Draw}
use Rattle.sspi_generator.specs.declared.network.NetworkRequest.{NetworkRequest}
use Rattle.krb_as.specs.declared.done.InitDone.{InitDone}
use Rattle.krb_as.specs.declared.turn.Turn.{Turn}
use Rattle.krb_as.specs.declared.turn.Turn.TheVariants.{Asks, Ends}
use Rattle.krb_initiator.specs.declared.seeker.Seeker.{Seeker}
use Rattle.krb_initiator.specs.declared.seeker.Initiation.TheVariants.{Seeks}
use Rattle.krb_initiator.specs.declared.seeker.InitPhase.{InitPhase}
use Rattle.krb_initiator.specs.declared.seeker.InitPhase.TheVariants.{New}
use Rattle.krb_initiator.proofs.Once.{starts_once, next_once}
use Rattle.krb_laws_ends.specs.Fetches.{Leads, Fetches}
use Rattle.krb_laws_ends.specs.HonestKdc.{Step, Answers, steps_of}

abbrev Turned : Type 0
Turned = Result (Turn InitPhase InitDone) Cause

same_end : (one other : InitDone) → ◌≡◌ {A = Turned} (Ok (Ends one)) (Ok (Ends other)) → one ≡ other
same_end one other e = cc

same_phase : (r s : NetworkRequest) (p q : InitPhase) → ◌≡◌ {A = Turned} (Ok (Asks r p)) (Ok (Asks s q)) → p ≡ q
same_phase r s p q e = cc

same_leads : (seeker : Seeker) (phase : InitPhase) (steps : List Step) (last : Step) (one other : InitDone) → Leads seeker phase steps last one → Leads seeker phase steps last other
    → one ≡ other
same_leads seeker phase [] last one other h k = same_end one other ((next_once (Seeks seeker) phase (Ok last.reply) last.draw).same _ _ h k)
same_leads seeker phase (step ∷ steps) last one other h k =
    let e = same_phase h.0 k.0 h.1 k.1 ((next_once (Seeks seeker) phase (Ok step.reply) step.draw).same _ _ h.2 k.2) in
    same_leads seeker h.1 steps last one other h.3 (subst (λ (p : InitPhase). Leads seeker p steps last other) (sym e) k.3)

pub one_end : (seeker : Seeker) (draw : Draw) (answers : Answers) (one other : InitDone) → Fetches seeker draw answers one → Fetches seeker draw answers other → one ≡ other
one_end seeker draw answers one other h k =
    let e = same_phase h.request k.request h.phase k.phase ((starts_once (Seeks seeker) New draw).same _ _ h.starts k.starts) in
    same_leads seeker h.phase (steps_of answers) answers.last one other h.leads
    (subst (λ (p : InitPhase). Leads seeker p (steps_of answers) answers.last other) (sym e) k.leads)
