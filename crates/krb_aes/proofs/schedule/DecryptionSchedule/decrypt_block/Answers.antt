use Rattle.std.proofs.Common.{◌∙◌, sym}
use Rattle.krb_aes.proofs.schedule.DecryptionSchedule.decrypt_block.Goals as goal

pub returns : goal.returns
returns c = λ E undoes. sym (undoes.is _) ∙ c.decrypted.ensures undoes.words undoes.keys
