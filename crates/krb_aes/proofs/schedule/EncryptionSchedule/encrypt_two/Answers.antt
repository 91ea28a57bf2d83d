use Rattle.std.proofs.Common.{◌∙◌}
use Rattle.krb_aes.specs.Word.{words_of}
use Rattle.krb_aes.proofs.CipherLemmas.{words-aes}
use Rattle.krb_aes.proofs.schedule.EncryptionSchedule.encrypt_two.Goals as goal

pub returns-clause-first : goal.returns-clause-first
returns-clause-first c = λ key of.
    c.encrypted_two.ensures.first (words_of c.args.self.now.octets) c.args.self.now.held ∙ words-aes key c.args.block c.args.self.now of

pub returns-clause-second : goal.returns-clause-second
returns-clause-second c = λ key of.
    c.encrypted_two.ensures.second (words_of c.args.self.now.octets) c.args.self.now.held ∙ words-aes key c.args.other c.args.self.now of
