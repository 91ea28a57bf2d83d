use Rattle.krb_aes.specs.Word.{words_of}
use Rattle.krb_aes.proofs.schedule.KeySchedule.decrypt_four.Goals as goal

pub returns : goal.returns
returns c = λ b few. c.decrypted_four.ensures b few (words_of c.args.self.now.forward.octets) c.args.self.now.inverse
