-- The acceptor's call, in two halves.
use Rattle.std.proofs.Common.{◌≡◌, ℕ, Bool, false, List, Option, None, Result, subst}
use Rattle.krb_conf.specs.declared.env.Env.{Env}
use Rattle.krb_context.specs.declared.context.Kerberos.{Kerberos}
use Rattle.krb_exchange.specs.declared.user_to_user.TgtReq.{TgtReq}
use Rattle.krb_replay.specs.declared.ask.Ask.{Ask}
use Rattle.krb_replay.specs.declared.ask.Verdict.{Verdict}
use Rattle.sspi_core.specs.declared.cause.Cause.{Cause}
use Rattle.sspi_core.specs.declared.draw.Draw.{Draw}
use Rattle.krb_admission.specs.Accepts.{awaits_last_word}
use Rattle.krb_admission.specs.Halves.{Prepared, Prepares}
use Rattle.krb_admission.proofs.HalvesLemmas.{joined, parted}
use Rattle.krb_admission.proofs.Steps.{waits}
use Rattle.krb_server.specs.declared.accept.Accepted.{Accepted}
use Rattle.krb_server.specs.TgtReqs.{Found, BeginsUserToUser}
use Rattle.krb_server.specs.Whole.{AcceptsToken, AcceptsWhole, AcceptsInHalves}
use Rattle.krb_server.proofs.Once.{found_once, no_tgt_req_at}

module _ {G : Type 0} (admits : G → Ask → Verdict → G → Type 0) (server : Kerberos) (dce : Bool) (token : List ℕ) (env : Env) (draw : Draw) (old : G)
    (answer : Result Accepted Cause) (server' : Kerberos) (new : G) where
  pub whole_in_halves : Found (BeginsUserToUser dce server.state token) None → awaits_last_word dce server.state ≡ false
      → AcceptsWhole admits server dce token env draw old answer server' new → AcceptsInHalves admits server dce token draw old answer server' new
  whole_in_halves none last step =
      let T : Option TgtReq → Type 0 = λ t. AcceptsToken admits server dce token env draw old t answer server' new in
      let other = subst T (found_once dce server.state token step.tgt_req None step.found none) step.made in
      record { judged = other.judged; halves = parted admits server dce token draw old other.judged server' new last other.accepts; answer_is = other.answer_is }

  pub halves_whole : Found (BeginsUserToUser dce server.state token) None → awaits_last_word dce server.state ≡ false
      → AcceptsInHalves admits server dce token draw old answer server' new → AcceptsWhole admits server dce token env draw old answer server' new
  halves_whole none last both = record {
    tgt_req = None;
    found = none;
    made = record { judged = both.judged; accepts = joined admits server dce token draw old both.judged server' new last both.halves; answer_is = both.answer_is };
  }

-- what passes the first half
pub no_other_token : (server : Kerberos) (dce : Bool) (token : List ℕ) (draw : Draw) (prepared : Prepared) → Prepares server dce token draw prepared
    → Found (BeginsUserToUser dce server.state token) None × (awaits_last_word dce server.state ≡ false)
no_other_token server dce token draw prepared h = (no_tgt_req_at server dce token prepared.request h.begins, waits server dce token prepared.request h.begins)
