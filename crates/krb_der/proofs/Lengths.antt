-- How long values are.
use Rattle.std.proofs.Common.{◌≡◌, ℕ, ◌+◌, ◌<◌, ◌≤◌, Bool, true, false, List, ◌++◌, length, if◌then◌else◌, arith, lit≤, length-append, nat_lt}
use Rattle.krb_der.specs.Der.{length_octets, tlv}

pub length-tlv : (tag : ℕ) (contents : List ℕ) → length (tlv tag contents) ≡ 1 + (length (length_octets (length contents)) + length contents)
unfolding tlv
length-tlv tag contents = omega (arith, length-append (length_octets (length contents)) contents)

if_le : (b : Bool) (x y : List ℕ) (k : ℕ) → length x ≤ k → length y ≤ k → length (if b then x else y) ≤ k
if_le true x y k h l = h
if_le false x y k h l = l

-- a length takes five octets at most
pub length_octets_le : (n : ℕ) → length (length_octets n) ≤ 5
unfolding length_octets
length_octets_le n =
    if_le (nat_lt n 0x80) _ _ 5 (lit≤ tt) (if_le (nat_lt n 0x100) _ _ 5 (lit≤ tt) (if_le (nat_lt n 0x1_0000) _ _ 5 (lit≤ tt) (if_le (nat_lt n 0x100_0000) _ _ 5 (lit≤ tt) (lit≤ tt))))

-- so a value takes six more than its contents
pub tlv_le : (tag : ℕ) (contents : List ℕ) (n : ℕ) → length contents ≤ n → length (tlv tag contents) ≤ n + 6
tlv_le tag contents n h = omega (arith, length_octets_le (length contents), length-tlv tag contents)

-- and a field in its context tag twelve
pub field_le : (outer inner : ℕ) (contents : List ℕ) (n : ℕ) → length contents ≤ n → length (tlv outer (tlv inner contents)) ≤ n + 12
field_le outer inner contents n h = omega (arith, tlv_le outer (tlv inner contents) (n + 6) (tlv_le inner contents n h))

pub append_le : (a b : List ℕ) (m n : ℕ) → length a ≤ m → length b ≤ n → length (a ++ b) ≤ m + n
append_le a b m n h k = omega (arith, length-append a b)

-- contents are shorter than their value
pub contents_shorter : (tag : ℕ) (contents : List ℕ) → length contents < length (tlv tag contents)
contents_shorter tag contents = omega (arith, length-tlv tag contents)
