use Rattle.krb_aes.specs.Aes.{aes}
use Rattle.krb_aes.proofs.decryption.decrypt_block.Goals as goal

pub returns : goal.returns
returns c = c.decrypt_block.ensures (aes c.args.key.now) c.new.ensures
