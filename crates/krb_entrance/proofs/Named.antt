-- A client that is admitted is known.
use Rattle.std.proofs.Common.{◌≡◌, ℕ, ◌==◌, ◌&&◌, if◌then◌else◌, Bool, true, false, List, [], ◌∷◌, Option, Some, None, Result, Ok, Err, refl, sym, ap, ◌∙◌, subst}
use Rattle.std.specs.Cmp.Lexicographic.{pointwise}
use Rattle.sspi_core.specs.Checks.{Holds}
use Rattle.sspi_core.proofs.Chain.{passed, gave}
use Rattle.sspi_core.specs.Usernames.{UserName}
use Rattle.sspi_core.specs.declared.cause.Cause.{Cause}
use Rattle.sspi_core.specs.declared.draw.Draw.{Draw}
use Rattle.krb_messages.specs.declared.authenticator.Authenticator.{Authenticator}
use Rattle.krb_messages.specs.declared.enc_ticket_part.EncTicketPart.{EncTicketPart}
use Rattle.krb_conf.specs.declared.config.KerberosConfig.{KerberosConfig}
use Rattle.krb_context.specs.declared.context.Kerberos.{Kerberos}
use Rattle.krb_context.specs.declared.rules.Rules.{Rules}
use Rattle.krb_context.specs.declared.server.ServerProperties.{ServerProperties}
use Rattle.krb_context.specs.Queries.{name_of}
use Rattle.krb_context.specs.Rules.{rfc_rules}
use Rattle.krb_replay.specs.Book.{Book, Follows, StandsFor}
use Rattle.krb_replay.specs.declared.ask.Verdict.{Verdict}
use Rattle.krb_admission.specs.Accepts.{BeginsAdmission, FinishesAdmission, MakesAnswer, refusal}
use Rattle.krb_admission.specs.Admission.{mutual_admission, one_way_admission, settled}
use Rattle.krb_admission.specs.Clients.{user_of, has_component}
use Rattle.krb_admission.specs.Complete.{Completes, is_mutual}
use Rattle.krb_admission.specs.Halves.{Prepared, Prepares, AdmitsPrepared, outcome_behind, with_keys}
use Rattle.krb_admission.specs.Requests.{is_same_client, Requests, OpensAuthenticator}
use Rattle.krb_admission.specs.declared.admission.Admission.{Admission}
use Rattle.krb_admission.specs.declared.admission.Answer.{Answer}
use Rattle.krb_admission.specs.declared.request.Request.{Request}
use Rattle.krb_admission.proofs.Begun.{allowed}
use Rattle.krb_sessions.specs.declared.client.Client.{Client}
use Rattle.krb_sessions.specs.declared.session.Session.{Session}
use Rattle.krb_entrance.specs.Admits.{Admits, IsKnown}
use Rattle.krb_entrance.specs.Candidates.{Passes, IsLetIn}
use Rattle.krb_entrance.specs.Connections.{new_connection, keyless, IsKeyless, drawn_number}
use Rattle.krb_entrance.specs.declared.candidate.Candidate.{Candidate}
use Rattle.krb_entrance.specs.declared.keys.Keys.{Keys}

held_true : (cause : Cause) (test : Bool) (u : Unit {0}) → Holds cause test (Ok u) → test ≡ true
held_true cause true u h = refl
held_true cause false u h = let e = h.is in absurd cc

-- ---- the ticket's name and the authenticator's have the same components

last_of : (a b c : Bool) → (a && (b && c)) ≡ true → c ≡ true
last_of true true c h = h
last_of true false c h = absurd cc
last_of false b c h = absurd cc

same_components : (xs ys : List (List ℕ)) → pointwise (pointwise ◌==◌) xs ys ≡ true → has_component xs ≡ has_component ys
same_components [] [] h = refl
same_components [] (y ∷ ys) h = absurd cc
same_components (x ∷ xs) [] h = absurd cc
same_components (x ∷ xs) (y ∷ ys) h = refl

second_of : {A B : Type 0} (P : B → Type 0) (x y : A × B) → x ≡ y → P y.1 → P x.1
second_of {A} {B} P x y e h = subst (λ (z : A × B). P z.1) (sym e) h

same_client : (rules : Rules) (properties : ServerProperties) (token : List ℕ) (request : Request) → Requests rules properties false token (Ok request)
    → is_same_client rules request.part request.authenticator ≡ true
unfolding Requests OpensAuthenticator
same_client rules properties token request h =
    let m = passed _ _ _ h in
    let t = passed _ _ _ m.rest_held in
    let s = passed _ _ _ t.rest_held in
    let u = passed _ _ _ s.first_held in
    let v = passed _ _ _ u.rest_held in
    let e : request ≡ record { message = m.found; part = t.found; suite = s.found.0; authenticator = s.found.1 } = gave _ _ s.rest_held in
    let same : s.found ≡ u.found = gave _ _ v.rest_held in
    let here : is_same_client rules t.found u.found.1 ≡ true = held_true _ _ _ v.first_held in
    let S : Authenticator → Type 0 = λ a. is_same_client rules t.found a ≡ true in
    subst (λ (r : Request). is_same_client rules r.part r.authenticator ≡ true) (sym e) (second_of S s.found u.found same here)

begun_same : (server : Kerberos) (token : List ℕ) (request : Request) → BeginsAdmission server false token (Ok request)
    → is_same_client server.rules request.part request.authenticator ≡ true
begun_same server token request begins =
    let a = allowed server false token request begins in
    same_client server.rules a.properties token request a.requests

told_components : (rules : Rules) (part : EncTicketPart) (authenticator : Authenticator) → is_same_client rules part authenticator ≡ true
    → has_component part.cname.name_string ≡ has_component authenticator.cname.name_string
told_components rules part authenticator same = same_components part.cname.name_string authenticator.cname.name_string (last_of _ _ _ same)

-- ---- what an admission knows

record Known (request : Request) (admission : Admission) : Type 0 where
  named : has_component request.authenticator.cname.name_string ≡ true
  client : admission.client ≡ user_of rfc_rules request.authenticator.cname request.authenticator.crealm

client_in : (asks dce user_to_user : Bool) (number : ℕ) (draw : Draw) (request : Request) (client : Option UserName)
    → Admission.client (if asks then mutual_admission dce user_to_user number draw request client else one_way_admission number request client) ≡ client
unfolding mutual_admission one_way_admission
client_in true dce user_to_user number draw request client = refl
client_in false dce user_to_user number draw request client = refl

finished : (server : Kerberos) (draw : Draw) (request : Request) (admission : Admission) → server.rules ≡ rfc_rules
    → FinishesAdmission server false draw request (Ok admission) → Known request admission
unfolding FinishesAdmission Completes
finished server draw request admission rfc h =
    let w = passed _ _ _ h in
    let n = passed _ _ _ w.first_held in
    let o = passed _ _ _ n.rest_held in
    let k = passed _ _ _ o.rest_held in
    let made = gave _ _ w.rest_held in
    let client = gave _ _ k.rest_held in
    record {
      named = rw rfc at (held_true _ _ _ n.first_held);
      client = ap (λ (a : Admission). a.client) made ∙ (client_in (is_mutual request.message.ap_options) false server.krb5_user_to_user server.seq_number draw request w.found ∙ (client ∙ ap (λ (r : Rules). user_of r request.authenticator.cname request.authenticator.crealm) rfc));
    }

-- ---- the session

behind_ok : (refused : Option Cause) (outcome : Result Admission Cause) (admission : Admission) → outcome_behind refused outcome ≡ Ok admission → outcome ≡ Ok admission
behind_ok None outcome admission e = e
behind_ok (Some cause) outcome admission e = absurd cc

module _ (properties : ServerProperties) (config : KerberosConfig) (channel : Option (List ℕ)) (number : ℕ) where
  made_keyless : (outcome : Result Admission Cause) (answer : Answer) (left : Kerberos)
      → MakesAnswer (new_connection config (keyless properties) channel number) outcome (Ok answer) left → IsKeyless left
  unfolding settled
  made_keyless (Ok admission) answer left made = subst IsKeyless (sym made.1) (record { own = record (keyless properties) { client = admission.client }; has = refl; primary = refl; further = refl })
  made_keyless (Err cause) answer left made = let e = made.0 in absurd cc

  made_named : (request : Request) (outcome : Result Admission Cause) (answer : Answer) (left : Kerberos)
      → ((admission : Admission) → outcome ≡ Ok admission → Known request admission)
      → MakesAnswer (new_connection config (keyless properties) channel number) outcome (Ok answer) left
      → (has_component request.authenticator.cname.name_string ≡ true)
      × ((name : UserName) → user_of rfc_rules request.authenticator.cname request.authenticator.crealm ≡ Some name → name_of left ≡ Ok name)
  unfolding settled
  made_named request (Ok admission) answer left knows made =
      let known = knows admission refl in (
        known.named,
        λ name is. ap name_of made.1
            ∙ ap (λ (c : Option UserName). name_of (settled (new_connection config (keyless properties) channel number) (record admission { client = c }))) (known.client ∙ is),
      )
  made_named request (Err cause) answer left knows made = let e = made.0 in absurd cc

-- a candidate's gate, at a connection that is known to wait
record Gated (keys : Keys) (channel : Option (List ℕ)) (token : List ℕ) (draw : Draw) (prepared : Prepared) (left : Kerberos) : Type 0 where
  config : KerberosConfig
  number : ℕ
  prepares : Prepares (with_keys keys.properties (new_connection config (keyless keys.properties) channel number)) false token draw prepared
  verdict : Verdict
  answer : Answer
  made : MakesAnswer (new_connection config (keyless keys.properties) channel number) (outcome_behind (refusal verdict) prepared.outcome) (Ok answer) left

gated : (keys : Keys) (channel : Option (List ℕ)) (token : List ℕ) (draw : Draw) (old new : Book) (prepared : Prepared) (connection left : Kerberos) (answer : Answer)
    → Passes keys channel token draw prepared connection → AdmitsPrepared (Follows StandsFor) prepared connection old (Ok answer) left new
    → Gated keys channel token draw prepared left
gated keys channel token draw old new prepared connection left answer passes admits =
    let P : Kerberos → Type 0 = λ c. Prepares (with_keys keys.properties c) false token draw prepared in
    let A : Kerberos → Type 0 = λ c. AdmitsPrepared (Follows StandsFor) prepared c old (Ok answer) left new in
    let there = subst A passes.waits.waits admits in
    record {
      config = passes.waits.config;
      number = drawn_number draw;
      prepares = subst P passes.waits.waits passes.prepares;
      verdict = there.verdict;
      answer = answer;
      made = there.made;
    }

gated_keyless : (keys : Keys) (channel : Option (List ℕ)) (token : List ℕ) (draw : Draw) (prepared : Prepared) (left : Kerberos)
    → Gated keys channel token draw prepared left → IsKeyless left
gated_keyless keys channel token draw prepared left g =
    made_keyless keys.properties g.config channel g.number (outcome_behind (refusal g.verdict) prepared.outcome) g.answer left g.made

-- who is let in after a token that passed has no key of a service
pub let_in_keyless : (keys : Keys) (channel : Option (List ℕ)) (token : List ℕ) (draw : Draw) (candidate : Candidate) (old new : Book) (session : Session)
    → Passes keys channel token draw candidate.judged candidate.connection → IsLetIn candidate old session new → IsKeyless session.connection
let_in_keyless keys channel token draw candidate old new session passes let_in =
    gated_keyless keys channel token draw candidate.judged session.connection
    (gated keys channel token draw old new candidate.judged candidate.connection session.connection let_in.answer passes let_in.admits)

gated_known : (keys : Keys) (channel : Option (List ℕ)) (token : List ℕ) (draw : Draw) (prepared : Prepared) (left : Kerberos)
    → Gated keys channel token draw prepared left
    → (has_component prepared.request.authenticator.cname.name_string ≡ true)
    × ((name : UserName) → user_of rfc_rules prepared.request.authenticator.cname prepared.request.authenticator.crealm ≡ Some name → name_of left ≡ Ok name)
gated_known keys channel token draw prepared left g =
    let server = with_keys keys.properties (new_connection g.config (keyless keys.properties) channel g.number) in
    let F : Result Admission Cause → Type 0 = λ o. FinishesAdmission server false draw prepared.request o in
    made_named keys.properties g.config channel g.number prepared.request (outcome_behind (refusal g.verdict) prepared.outcome) g.answer left
    (λ admission is. finished server draw prepared.request admission refl (subst F (behind_ok (refusal g.verdict) prepared.outcome admission is) g.prepares.finishes)) g.made

gated_same : (keys : Keys) (channel : Option (List ℕ)) (token : List ℕ) (draw : Draw) (prepared : Prepared) (left : Kerberos)
    → Gated keys channel token draw prepared left
    → has_component prepared.request.part.cname.name_string ≡ has_component prepared.request.authenticator.cname.name_string
gated_same keys channel token draw prepared left g =
    let server = with_keys keys.properties (new_connection g.config (keyless keys.properties) channel g.number) in
    told_components server.rules prepared.request.part prepared.request.authenticator (begun_same server token prepared.request g.prepares.begins)

pub known : (keys : Keys) (channel : Option (List ℕ)) (token : List ℕ) (draw : Draw) (old new : Book) (session : Session)
    → Admits keys channel token draw old session new → IsKnown session
known keys channel token draw old new session admits =
    let candidate = admits.candidate in
    let g = gated keys channel token draw old new candidate.judged candidate.connection session.connection admits.let_in.answer admits.passes admits.let_in.admits in
    let there = gated_known keys channel token draw candidate.judged session.connection g in
    record {
      request = candidate.judged.request;
      client = candidate.client;
      kept = admits.let_in.client;
      told = admits.client;
      named = ap (λ (c : Client). has_component c.name.name_string) admits.client ∙ (gated_same keys channel token draw candidate.judged session.connection g ∙ there.0);
      user = there.1;
    }
