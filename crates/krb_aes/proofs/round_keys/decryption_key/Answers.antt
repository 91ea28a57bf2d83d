use Rattle.krb_aes.proofs.RoundKeyLemmas.{decryption_key_is}
use Rattle.krb_aes.proofs.round_keys.decryption_key.Goals as goal

pub returns : goal.returns
returns c =
    decryption_key_is c.args.key _ _ _ _ _ c.mixed-once.ensures c.mixed-twice.ensures c.mixed-unmixed.ensures c.linear_back.ensures c.turned.ensures
