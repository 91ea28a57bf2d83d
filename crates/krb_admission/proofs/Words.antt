-- The low four octets of a number, octet by octet.
use Rattle.std.proofs.Common.{◌≡◌, ℕ, ◌+◌, ◌*◌, ◌%◌, ◌^◌, ◌<◌, List, length, take, get_or, arith}
use Rattle.std.proofs.lemmas.List.Sums.{fold_more}
use Rattle.krb_der.specs.Reading.{number_of}

low_after : (n octet : ℕ) → octet < 256 → n % 2 ^ 32 * 2 ^ 8 % 2 ^ 32 + octet ≡ (256 * n + octet) % 2 ^ 32
low_after n octet small = omega arith

pub room : (n octet : ℕ) → octet < 256 → n * 2 ^ 8 % 2 ^ 32 + octet < 2 ^ 32
room n octet small = omega arith

pub low_more : (octets : List ℕ) (i word octet : ℕ) → i < length octets → octet ≡ get_or octets i 0 → octet < 256 → word ≡ number_of (take i octets) % 2 ^ 32 → word * 2 ^ 8 % 2 ^ 32 + octet ≡ number_of (take (i + 1) octets) % 2 ^ 32
low_more octets i word octet inside is small so_far =
    let more : number_of (take (i + 1) octets) ≡ 256 * number_of (take i octets) + get_or octets i 0 = fold_more (λ (n : ℕ) (o : ℕ). 256 * n + o) 0 octets i 0 inside in
    rw (more, ← is, so_far) (low_after (number_of (take i octets)) octet small)
