use Rattle.krb_aes.specs.Word.{words_of}
use Rattle.std.proofs.Common.{◌∙◌}
use Rattle.krb_aes.proofs.CipherLemmas.{words-aes}
use Rattle.krb_aes.proofs.schedule.EncryptionSchedule.encrypt_block.Goals as goal

pub returns : goal.returns
returns c = λ key of.
    c.encrypted.ensures (words_of c.args.self.now.octets) c.args.self.now.held ∙ words-aes key c.args.block c.args.self.now of
