use Rattle.krb_aes.specs.Aes.{forward_cipher}
use Rattle.krb_crypto.proofs.CtsLemmas.{IsEncryptedTo}
use Rattle.krb_crypto.proofs.cts.encrypt_under.Given as goal

abbrev pub invariant-loop-i : goal.invariant-loop-i
invariant-loop-i l = IsEncryptedTo (forward_cipher l.key) l.initial.text l.text l.previous l.i
