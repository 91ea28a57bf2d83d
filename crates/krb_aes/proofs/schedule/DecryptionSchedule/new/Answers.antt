use Rattle.krb_aes.specs.Word.{words_of}
use Rattle.krb_aes.proofs.CipherLemmas.{undoes-aes}
use Rattle.krb_aes.proofs.schedule.DecryptionSchedule.new.Goals as goal

pub returns : goal.returns
returns c =
    undoes-aes c.args.key.now (words_of c.round_keys-octets.result) _ c.round_count-rounds.ensures.exact (rw c.round_count-rounds.ensures.exact c.round_keys-octets.ensures)
    c.decryption_keys-keys.ensures
