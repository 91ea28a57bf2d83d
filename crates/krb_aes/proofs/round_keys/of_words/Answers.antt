use Rattle.std.proofs.Common.{sym}
use Rattle.krb_aes.proofs.ScheduleLemmas.{columns_back}
use Rattle.krb_aes.proofs.round_keys.of_words.Goals as goal

pub returns : goal.returns
returns c = sym (columns_back c.args.key c.fits-key)
