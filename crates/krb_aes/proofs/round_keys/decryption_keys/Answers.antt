use Rattle.std.proofs.Common.{ℕ, List, map, length, inl, refl, subst, ap, sym, ◌∙◌, arith}
use Rattle.std.proofs.lemmas.List.{length-set}
use Rattle.krb_aes.specs.Round.{round_key}
use Rattle.krb_aes.specs.Word.{words_of}
use Rattle.krb_aes.proofs.InjectiveLemmas.{IsBlock-column_octets}
use Rattle.krb_aes.specs.Tower.{affine_back}
use Rattle.krb_aes.specs.RoundKeys.{IsDecryptionKey}
use Rattle.krb_aes.proofs.RoundKeyLemmas.{affine_back_key_is, set_here, set_elsewhere, set_next}
use Rattle.krb_aes.proofs.round_keys.decryption_keys.Goals as goal

pub loop-round-preserved : goal.loop-round-preserved
loop-round-preserved c =
    let words : List ℕ = words_of c.args.octets.now in
    let i : ℕ = c.loop-round.round in
    let is = c.loop-round.invariant in (
      length-set c.loop-round.keys i _ ∙ is.0,
      set_elsewhere c.loop-round.keys i 0 _ (inl (omega arith)) ∙ is.1,
      set_next (λ r key. IsDecryptionKey key (round_key words r)) c.loop-round.keys i _ is.0 (omega arith) is.2
          (subst (IsDecryptionKey c.decryption_key.result) c.octets_at-in-loop-round.ensures c.decryption_key.ensures),
    )

pub returns : goal.returns
returns c =
    let is = c.loop-round.invariant in
    let n : ℕ = c.args.rounds in
    let long = ap length c.octets_at-2.ensures ∙ (IsBlock-column_octets _).size in
    record {
      first = set_here c.loop-round.keys n _ is.0 (omega arith) ∙ affine_back_key_is c.octets_at-2.result _ _ long refl c.linear_back.ensures ∙ ap (map affine_back) c.octets_at-2.ensures;
      middle = λ r some lt. subst (λ (k : List ℕ). IsDecryptionKey k (round_key (words_of c.args.octets.now) r)) (sym (set_elsewhere c.loop-round.keys n r _ (inl lt))) (is.2 r some (omega arith));
      last = set_elsewhere c.loop-round.keys n 0 _ (inl (omega arith)) ∙ is.1;
    }
