use Rattle.sspi_core.proofs.Chain.{goes, answers}
use Rattle.krb_ap.specs.Answered.{ReadsApRep}
use Rattle.krb_ap.proofs.Numbers.{read_short}
use Rattle.krb_ap.proofs.service.read_ap_rep.Goals as goal

pub returns-clause-short : goal.returns-clause-short
unfolding ReadsApRep
returns-clause-short c = read_short c.args.dce c.args.token.now c.ap_rep_in.result (goes _ _ _ _ (answers _ _ c.in_ok-check_token_length.ensures) c.ap_rep_in.ensures)
