use Rattle.std.proofs.Common.{ℕ, ◌+◌, List, length, ap, ◌∙◌, arith}
use Rattle.krb_requests.proofs.Lengths.{time_complete, time_le, sealed_whole, sealed_as, sealed_below, cipher_le}
use Rattle.krb_requests.proofs.pa_datas.enc_timestamp.Goals as goal

pub write-requires-clause-complete : goal.write-requires-clause-complete
write-requires-clause-complete c = rw c.in_ok-time.ensures (time_complete c.args.moment)

pub write-requires-clause-short : goal.write-requires-clause-short
write-requires-clause-short c = let k = time_le c.args.moment in rw c.in_ok-time.ensures (omega (arith, k))

pub write-requires-2-clause-complete : goal.write-requires-2-clause-complete
write-requires-2-clause-complete c = sealed_whole _ _ _ c.in_ok-sealed.ensures.sealed

pub write-requires-2-clause-short : goal.write-requires-2-clause-short
write-requires-2-clause-short c =
    sealed_below _ _ _ c.in_ok-sealed.ensures.sealed (cipher_le c.args.moment _ _ _ c.in_ok-time.ensures c.in_ok-plain.ensures.is (c.in_ok-sealed.ensures.longer ∙ ap (λ (p : List ℕ). length p + 28) c.as_slice.ensures))

pub returns-clause-short : goal.returns-clause-short
returns-clause-short c =
    let short = sealed_as _ _ _ c.in_ok-sealed.ensures.sealed (cipher_le c.args.moment _ _ _ c.in_ok-time.ensures c.in_ok-plain.ensures.is (c.in_ok-sealed.ensures.longer ∙ ap (λ (p : List ℕ). length p + 28) c.as_slice.ensures)) in
    rw c.in_ok-write.ensures.is short
