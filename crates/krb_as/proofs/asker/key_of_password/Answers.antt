use Rattle.std.proofs.Common.{ℕ, List, length, ap, ◌∙◌}
use Rattle.krb_requests.proofs.Passwords.{password_length}
use Rattle.krb_as.proofs.asker.key_of_password.Goals as goal

pub returns-clause-size : goal.returns-clause-size
returns-clause-size c = ap (λ (k : List ℕ). length k) (c.in_ok-octets.ensures ∙ (c.as_slice.ensures ∙ c.generate_key_from_password-key.ensures)) ∙ password_length _ _ _
