use Rattle.krb_aes.specs.Word.{words_of}
use Rattle.krb_aes.proofs.schedule.KeySchedule.decrypt_eight.Goals as goal

pub returns-clause-front : goal.returns-clause-front
returns-clause-front c = λ b few. c.decrypted_eight.ensures.front b few (words_of c.args.self.now.forward.octets) c.args.self.now.inverse

pub returns-clause-back : goal.returns-clause-back
returns-clause-back c = λ b few. c.decrypted_eight.ensures.back b few (words_of c.args.self.now.forward.octets) c.args.self.now.inverse
