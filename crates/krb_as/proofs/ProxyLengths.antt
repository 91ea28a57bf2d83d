-- How long a message for a proxy is.
use Rattle.std.proofs.Common.{ℕ, ◌+◌, ◌<◌, ◌≤◌, ◌^◌, List, [], length, arith, lit≤}
use Rattle.krb_der.specs.Schema.{IsComplete}
use Rattle.krb_der.proofs.Lengths.{tlv_le, field_le, append_le}
use Rattle.krb_der.specs.Layout.{spelling}
use Rattle.krb_messages.specs.Frame.{with_length}
use Rattle.krb_exchange.specs.Table.{kdc_proxy_message}
use Rattle.krb_exchange.specs.Layouts.{kdc_proxy_message_row, kdc_proxy_message_layout}
use Rattle.krb_as.specs.Requests.{proxied}

pub with_length_le : (message : List ℕ) → length (with_length message) ≤ length message + 4
with_length_le message = omega arith

pub proxied_complete : (realm message : List ℕ) → IsComplete kdc_proxy_message (kdc_proxy_message_layout.view (proxied realm message))
unfolding kdc_proxy_message kdc_proxy_message_row
proxied_complete realm message = (tt, (tt, (tt, tt)))

parts_le : (realm message : List ℕ)
    → length (spelling kdc_proxy_message_layout (proxied realm message)) ≤ ((length (with_length message) + 12) + ((length realm + 12) + (0 + 0))) + 6
unfolding kdc_proxy_message kdc_proxy_message_row
parts_le realm message =
    tlv_le 0x30 _ _ (append_le _ _ _ _ (field_le 0xa0 0x04 (with_length message) _ (lit_refl _))
    (append_le _ _ _ _ (field_le 0xa1 0x1b realm _ (lit_refl _)) (append_le [] [] 0 0 (lit≤ tt) (lit≤ tt))))
  where
    lit_refl : (n : ℕ) → n ≤ n
    lit_refl n = omega arith

pub proxied_le : (realm message : List ℕ) → length (spelling kdc_proxy_message_layout (proxied realm message)) ≤ length message + length realm + 34
proxied_le realm message = omega (arith, parts_le realm message, with_length_le message)

pub proxied_below : (realm message : List ℕ) → length message < 2 ^ 30 → length realm ≤ 2 ^ 24
    → length (spelling kdc_proxy_message_layout (proxied realm message)) < 2 ^ 31
proxied_below realm message h k = omega (arith, proxied_le realm message, h, k)
