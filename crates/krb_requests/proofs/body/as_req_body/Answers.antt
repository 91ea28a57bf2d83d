use Rattle.std.proofs.Common.{ℕ, List, length, sym, ap, ◌∙◌}
use Rattle.krb_requests.specs.Bodies.{MakesBody}
use Rattle.krb_requests.proofs.Lengths.{name_is, principal_is, body_is}
use Rattle.sspi_core.proofs.Chain.{stops, goes}
use Rattle.krb_requests.proofs.body.as_req_body.Goals as goal

pub returns-in_err-realm-clause-made : goal.returns-in_err-realm-clause-made
unfolding MakesBody
returns-in_err-realm-clause-made c = stops _ _ _ _ c.in_err-realm.ensures c.from_residual.ensures.1

pub returns-in_err-cname-clause-made : goal.returns-in_err-cname-clause-made
unfolding MakesBody
returns-in_err-cname-clause-made c = goes _ _ _ _ c.in_ok-realm.ensures (stops _ _ _ _ c.in_err-cname.ensures c.from_residual-in_err-cname.ensures.1)

pub returns-in_err-sname-clause-made : goal.returns-in_err-sname-clause-made
unfolding MakesBody
returns-in_err-sname-clause-made c = goes _ _ _ _ c.in_ok-realm.ensures (goes _ _ _ _ c.in_ok-cname.ensures (stops _ _ _ _ c.in_err-sname.ensures c.from_residual-in_err-sname.ensures.1))

pub returns-in_err-host-clause-made : goal.returns-in_err-host-clause-made
unfolding MakesBody
returns-in_err-host-clause-made c =
    goes _ _ _ _ c.in_ok-realm.ensures (goes _ _ _ _ c.in_ok-cname.ensures (goes _ _ _ _ c.in_ok-sname.ensures (stops _ _ _ _ c.in_err-host.ensures c.from_residual-in_err-host.ensures.1)))

pub returns-clause-made : goal.returns-clause-made
unfolding MakesBody
returns-clause-made c =
    goes _ _ _ _ c.in_ok-realm.ensures (goes _ _ _ _ c.in_ok-cname.ensures (goes _ _ _ _ c.in_ok-sname.ensures (goes _ _ _ _ c.in_ok-host.ensures c.in_ok-body.ensures)))

pub returns-clause-within : goal.returns-clause-within
returns-clause-within c = λ short.
    body_is _ _ _ _ _ _ _ (ap (λ (n : List ℕ). length n) (sym c.nonce_of-nonce.ensures.octets) ∙ c.nonce_of-nonce.ensures.four) (name_is _ _ c.in_ok-realm.ensures) (principal_is _ _ _ c.in_ok-cname.ensures) (principal_is _ _ _ c.in_ok-sname.ensures)
    (name_is _ _ c.in_ok-host.ensures) c.in_ok-body.ensures short
