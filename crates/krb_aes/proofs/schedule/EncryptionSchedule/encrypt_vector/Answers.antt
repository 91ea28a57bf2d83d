use Rattle.krb_aes.specs.Word.{words_of}
use Rattle.krb_aes.proofs.schedule.EncryptionSchedule.encrypt_vector.Goals as goal

pub returns : goal.returns
returns c = c.encrypted.ensures (words_of c.args.self.now.octets) c.args.self.now.held
