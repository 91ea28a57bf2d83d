use Rattle.std.proofs.Common.{◌∙◌, sym}
use Rattle.krb_aes.proofs.schedule.DecryptionSchedule.decrypt_eight.Goals as goal

pub returns-clause-front : goal.returns-clause-front
returns-clause-front c = λ E undoes b few. sym (undoes.is _) ∙ c.decrypted_eight.ensures.front b few undoes.words undoes.keys

pub returns-clause-back : goal.returns-clause-back
returns-clause-back c = λ E undoes b few. sym (undoes.is _) ∙ c.decrypted_eight.ensures.back b few undoes.words undoes.keys
