use Rattle.std.proofs.Common.{ap, ◌∙◌}
use Rattle.krb_aes.specs.Round.{xor_octets}
use Rattle.krb_crypto.proofs.CbcLemmas.{zip2-xor_octets}
use Rattle.krb_crypto.proofs.cbc.unchained.Goals as goal

pub returns : goal.returns
returns c = zip2-xor_octets c.args.opened.now _ ∙ ap (xor_octets c.args.opened.now) c.chain_of-chain.ensures
