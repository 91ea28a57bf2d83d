-- The length of the token.
use Rattle.std.proofs.Common.{◌≡◌, ℕ, ℤ, ◌+◌, ◌*◌, ◌/◌, ◌%◌, ◌≤◌, ◌<◌, ◌^◌, Bool, true, false, List, [], ◌∷◌, ◌++◌, length, if◌then◌else◌, nat_lt, Ok, sym, subst, lit≤, lit<, arith}
use Rattle.krb_der.specs.Der.{tlv}
use Rattle.krb_der.specs.Moment.{time_octets}
use Rattle.krb_der.proofs.Lengths.{tlv_le, field_le, append_le}
use Rattle.krb_exchange.specs.Table.{krb_error as krb_error_kind}
use Rattle.krb_exchange.specs.Layouts.{krb_error_row, krb_error_layout}
use Rattle.krb_messages.specs.Oid.{krb5_oid}
use Rattle.krb_messages.specs.declared.principal_name.PrincipalName.{PrincipalName}
use Rattle.sspi_core.specs.declared.cause.Cause.TheVariants.{NotAscii}
use Rattle.sspi_core.specs.Checks.{Answers, Takes}
use Rattle.krb_requests.specs.Bodies.{user_components, component_octets}
use Rattle.krb_requests.specs.Pieces.{Fits, principal, principal_of}
use Rattle.krb_requests.proofs.Lengths.{principal_complete, principal_le, principal_is, cut_le}
use Rattle.krb_refusals.specs.Integers.{shortest}
use Rattle.krb_refusals.specs.ErrorTokens.{krb_error_id, krb_error}

le_trans : (a b c : ℕ) → a ≤ b → b ≤ c → a ≤ c
le_trans a b c h k = omega arith

time_short : (seconds : ℤ) → length (time_octets seconds) ≤ 15
unfolding time_octets
time_short seconds = lit≤ tt

either_le : (b : Bool) (x y : List ℕ) (k : ℕ) → length x ≤ k → length y ≤ k → length (if b then x else y) ≤ k
either_le true x y k h l = h
either_le false x y k h l = l

shortest_le : (n : ℕ) → length (shortest n) ≤ 3
unfolding shortest
shortest_le n = either_le (nat_lt n 0x80) _ _ 3 (lit≤ tt) (either_le (nat_lt n 0x8000) _ _ 3 (lit≤ tt) (lit≤ tt))

either_some : (b : Bool) (x y : List ℕ) → 0 < length x → 0 < length y → 0 < length (if b then x else y)
either_some true x y h k = h
either_some false x y h k = k

shortest_some : (n : ℕ) → 0 < length (shortest n)
unfolding shortest
shortest_some n = either_some (nat_lt n 0x80) _ _ (lit< tt) (either_some (nat_lt n 0x8000) _ _ (lit< tt) (lit< tt))

told_fits : (code : ℕ) (components : List (List ℕ)) (realm : List ℕ) (moment : ℕ) → length (component_octets components) ≤ 7 * 65536 + 6 → length realm ≤ 65536
    → Fits krb_error_layout (2 ^ 20) (krb_error code (principal 2 components) realm moment)
unfolding krb_error_kind krb_error_row
told_fits code components realm moment k h = record {
  complete = (lit< tt, (lit< tt, (tt, (tt, (tt, (shortest_some (moment % 1000000), (tt, (tt, (tt, (tt, (principal_complete 2 components, (tt, (tt, tt)))))))))))));
  short =
      le_trans _ _ _ (field_le 0x7e 0x30 _ _ (append_le _ _ _ _ (field_le 0xa0 0x02 (5 ∷ []) 1 (lit≤ tt))
      (append_le _ _ _ _ (field_le 0xa1 0x02 (30 ∷ []) 1 (lit≤ tt))
      (append_le [] _ 0 _ (lit≤ tt)
      (append_le [] _ 0 _ (lit≤ tt)
      (append_le _ _ _ _ (field_le 0xa4 0x18 (time_octets _) 15 (time_short _))
      (append_le _ _ _ _ (field_le 0xa5 0x02 (shortest (moment % 1000000)) 3 (shortest_le (moment % 1000000)))
      (append_le _ _ _ _ (field_le 0xa6 0x02 (code ∷ []) 1 (lit≤ tt))
      (append_le [] _ 0 _ (lit≤ tt)
      (append_le [] _ 0 _ (lit≤ tt)
      (append_le _ _ _ _ (field_le 0xa9 0x1b realm 65536 h)
      (append_le _ [] _ 0 (tlv_le 0xaa _ (7 * 65536 + 6 + 64) (principal_le 2 components (7 * 65536 + 6) k)) (lit≤ tt))))))))))))) (lit≤ tt);
}

pub error_fits : (code : ℕ) (sname : PrincipalName) (realm : List ℕ) (moment : ℕ) → sname ≡ principal 2 sname.name_string
    → length (component_octets sname.name_string) ≤ 7 * 65536 + 6 → length realm ≤ 65536 → Fits krb_error_layout (2 ^ 20) (krb_error code sname realm moment)
error_fits code sname realm moment is k h =
    subst (λ (name : PrincipalName). Fits krb_error_layout (2 ^ 20) (krb_error code name realm moment)) (sym is) (told_fits code sname.name_string realm moment k h)

-- the contents of a frame: the mechanism's object identifier, the token id and the octets after them
pub framed_short : (oid message : List ℕ) → oid ≡ krb5_oid → length message ≤ 2 ^ 20 → length (tlv 0x06 oid ++ (krb_error_id ++ message)) < 2 ^ 31
framed_short oid message e h =
    let name : length oid ≤ 10 = subst (λ (o : List ℕ). length o ≤ 10) (sym e) (lit≤ tt) in
    omega (arith, append_le (tlv 0x06 oid) (krb_error_id ++ message) 16 (2 + 2 ^ 20) (tlv_le 0x06 oid 10 name) (append_le krb_error_id message 2 (2 ^ 20) (lit≤ tt) h))

-- the components of a service's name that is not too long
pub components_short : (text : List ℕ) (sname : PrincipalName) → Answers (Takes NotAscii (principal_of 2 (user_components text))) (Ok sname) → length text ≤ 65536
    → length (component_octets sname.name_string) ≤ 7 * 65536 + 6
components_short text sname h k =
    let same = principal_is 2 (user_components text) sname h in
    subst (λ (name : PrincipalName). length (component_octets name.name_string) ≤ 7 * 65536 + 6) (sym same) (omega (arith, cut_le text, k))
