use Rattle.std.proofs.Common.{◌∙◌, sym}
use Rattle.krb_aes.proofs.schedule.DecryptionSchedule.decrypt_four.Goals as goal

pub returns : goal.returns
returns c = λ E undoes b few. sym (undoes.is _) ∙ c.decrypted_four.ensures b few undoes.words undoes.keys
