use Rattle.krb_aes.proofs.encryption.encrypt_block.Goals as goal

pub returns : goal.returns
returns c = c.encrypt_block.ensures c.args.key.now c.new.ensures
