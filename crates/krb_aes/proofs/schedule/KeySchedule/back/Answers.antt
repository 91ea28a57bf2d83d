use Rattle.std.proofs.Common.{ℕ, ap, sym, subst}
use Rattle.krb_aes.specs.Aes.{cipher}
use Rattle.krb_aes.specs.RoundKeys.{AreDecryptionKeys}
use Rattle.krb_aes.specs.Word.{words_of}
use Rattle.krb_aes.proofs.schedule.KeySchedule.back.Goals as goal

pub returns : goal.returns
returns c =
    let s = c.args.self.now in
    record {
      words = words_of s.forward.octets;
      keys = subst (AreDecryptionKeys s.back.keys (words_of s.forward.octets)) (sym s.same_rounds) s.inverse;
      is = λ b. ap (λ (n : ℕ). cipher n (words_of s.forward.octets) b) s.same_rounds;
    }
