use Rattle.krb_aes.proofs.WordLemmas.{turned_words_are}
use Rattle.krb_aes.proofs.expansion.rotated_word.Goals as goal

pub returns : goal.returns
returns c = turned_words_are c.args.key _ c.fits-key c.substituted.ensures
