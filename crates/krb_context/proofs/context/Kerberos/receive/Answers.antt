use Rattle.sspi_core.proofs.Chain.{goes, stops, answers, given}
use Rattle.krb_context.specs.Unwraps.{ReceivesMessage}
use Rattle.krb_context.proofs.UnwrapLemmas.{headed, heads_by, opens_by}
use Rattle.krb_context.proofs.context.Kerberos.receive.Goals as goal

pub invariant_of-headed-clause-checked : goal.invariant_of-headed-clause-checked
invariant_of-headed-clause-checked c = headed _ _ _ _ _ c.in_ok-header.ensures

pub returns-in_err-key-clause-receives : goal.returns-in_err-key-clause-receives
unfolding ReceivesMessage
returns-in_err-key-clause-receives c = stops _ _ _ _ (answers _ _ c.in_err-key.ensures) c.from_residual.ensures.1

pub returns-in_err-plain-clause-receives : goal.returns-in_err-plain-clause-receives
unfolding ReceivesMessage
returns-in_err-plain-clause-receives c = goes _ _ _ _ (answers _ _ c.in_ok-key.ensures) (stops _ _ _ _ (answers _ _ c.in_err-plain.ensures) c.from_residual-in_err-plain.ensures.1)

pub returns-in_err-header-clause-receives : goal.returns-in_err-header-clause-receives
unfolding ReceivesMessage
returns-in_err-header-clause-receives c =
    let heads = heads_by c.args.self.now _ _ c.args.text.now _ _ c.count_for-ec.ensures c.in_err-header.ensures in
    goes _ _ _ _ (answers _ _ c.in_ok-key.ensures) (goes _ _ _ _ (answers _ _ c.in_ok-plain.ensures) (stops _ _ _ _ (answers _ _ heads) c.from_residual-in_err-header.ensures.1))

pub returns-in_err-opened-clause-receives : goal.returns-in_err-opened-clause-receives
unfolding ReceivesMessage
returns-in_err-opened-clause-receives c =
    let heads = heads_by c.args.self.now _ _ c.args.text.now _ _ c.count_for-ec.ensures c.in_ok-header.ensures in
    let opens = opens_by c.args.self.now _ _ _ _ c.args.text.now _ _ _ c.count_for-ec.ensures c.in_err-opened.ensures in
    goes _ _ _ _ (answers _ _ c.in_ok-key.ensures) (goes _ _ _ _ (answers _ _ c.in_ok-plain.ensures) (goes _ _ _ _ (answers _ _ heads) (stops _ _ _ _ opens c.from_residual-in_err-opened.ensures.1)))

pub returns-in_err-check_number-clause-receives : goal.returns-in_err-check_number-clause-receives
unfolding ReceivesMessage
returns-in_err-check_number-clause-receives c =
    let heads = heads_by c.args.self.now _ _ c.args.text.now _ _ c.count_for-ec.ensures c.in_ok-header.ensures in
    let opens = opens_by c.args.self.now _ _ _ _ c.args.text.now _ _ _ c.count_for-ec.ensures c.in_ok-opened.ensures in
    goes _ _ _ _ (answers _ _ c.in_ok-key.ensures) (goes _ _ _ _ (answers _ _ c.in_ok-plain.ensures) (goes _ _ _ _ (answers _ _ heads) (goes _ _ _ _ opens (stops _ _ _ _ (answers _ _ c.in_err-check_number.ensures) c.from_residual-in_err-check_number.ensures.1))))

pub returns-clause-receives : goal.returns-clause-receives
unfolding ReceivesMessage
returns-clause-receives c =
    let heads = heads_by c.args.self.now _ _ c.args.text.now _ _ c.count_for-ec.ensures c.in_ok-header.ensures in
    let opens = opens_by c.args.self.now _ _ _ _ c.args.text.now _ _ _ c.count_for-ec.ensures c.in_ok-opened.ensures in
    goes _ _ _ _ (answers _ _ c.in_ok-key.ensures) (goes _ _ _ _ (answers _ _ c.in_ok-plain.ensures) (goes _ _ _ _ (answers _ _ heads) (goes _ _ _ _ opens (goes _ _ _ _ (answers _ _ c.in_ok-check_number.ensures) (given _)))))
