use Rattle.krb_aes.proofs.WordLemmas.{last_words_are}
use Rattle.krb_aes.proofs.expansion.substituted_word.Goals as goal

pub returns : goal.returns
returns c = last_words_are c.args.key _ c.fits-key c.substituted.ensures
