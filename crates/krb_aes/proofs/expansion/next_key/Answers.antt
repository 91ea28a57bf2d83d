use Rattle.krb_aes.proofs.WordLemmas.{next_lanes_are}
use Rattle.krb_aes.proofs.expansion.next_key.Goals as goal

pub returns : goal.returns
returns c w e = next_lanes_are c.args.before c.args.added w c.fits-before c.fits-added e
