use Rattle.krb_aes.proofs.schedule.EncryptionSchedule.new.Goals as goal

pub returns : goal.returns
returns c = record { rounds = c.round_count-rounds.ensures.exact; words = rw c.round_count-rounds.ensures.exact c.round_keys-octets.ensures }
