use Rattle.std.proofs.Common.{ℕ, List, length, ap, ◌∙◌}
use Rattle.krb_requests.proofs.Passwords.{password_length}
use Rattle.krb_requests.proofs.pa_datas.generate_pa_datas_for_as_req.Goals as goal

pub sized_pa_datas-requires-clause-key : goal.sized_pa_datas-requires-clause-key
sized_pa_datas-requires-clause-key c = ap (λ (k : List ℕ). length k) (c.as_slice.ensures ∙ c.generate_key_from_password-key.ensures) ∙ password_length _ _ _
