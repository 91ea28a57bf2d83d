use Rattle.std.proofs.Common.{refl, arith}
use Rattle.krb_crypto.proofs.OpenLemmas.{IsDecryptedTo_none}
use Rattle.krb_crypto.proofs.cbc.cbc_decrypt.Goals as goal

pub loop-i-init : goal.loop-i-init
loop-i-init c = (omega arith, record { under = λ E undoes. IsDecryptedTo_none E c.args.text.now _ refl })
