-- A message that is carried is unwrapped, and to one answer.
use Rattle.std.proofs.Common.{◌≡◌, ◌≢◌, ℕ, ◌+◌, ◌<◌, ◌≤◌, ◌^◌, Bool, true, List, length, Result, Ok, Err, refl, sym, subst, ◌∙◌, arith}
use Rattle.std.specs.Prelude.{IsTrue, if◌then◌else◌}
use Rattle.std.proofs.lemmas.Bool.{le-leb}
use Rattle.krb_der.specs.Schema.{Spells, IsSound, contents, is_ascii, tag_of}
use Rattle.krb_der.proofs.Lengths.{contents_shorter}
use Rattle.krb_der.specs.Layout.{spelling}
use Rattle.krb_messages.specs.Frame.{with_length}
use Rattle.krb_exchange.specs.Table.{kdc_proxy_message}
use Rattle.krb_exchange.specs.Layouts.{kdc_proxy_message_row, kdc_proxy_message_layout}
use Rattle.sspi_core.specs.declared.cause.Cause.{Cause}
use Rattle.sspi_core.specs.declared.cause.Cause.TheVariants.{ReplyShort, Shape}
use Rattle.sspi_core.specs.Checks.{Holds}
use Rattle.sspi_core.proofs.Chain.{follows}
use Rattle.sspi_core.proofs.Once.{Once, then_once, finds_once, holds_once, gives_once}
use Rattle.sspi_core.specs.declared.protocol.NetworkProtocol.{NetworkProtocol}
use Rattle.sspi_core.specs.declared.protocol.NetworkProtocol.TheVariants.{Tcp, Udp, Http, Https}
use Rattle.sspi_generator.specs.declared.network.NetFault.{NetFault}
use Rattle.krb_exchange.proofs.Spelled.{same_record}
use Rattle.krb_as.specs.Requests.{proxied, carried}
use Rattle.krb_as.specs.Replies.{Unproxies, Strips, Skips, Unpacks, Unwraps}
use Rattle.krb_as.proofs.ProxyLengths.{with_length_le, proxied_le}

holds : (cause : Cause) (test : Bool) → test ≡ true → Holds cause test (Ok tt)
holds cause test e = record { is = subst (λ (b : Bool). ◌≡◌ {A = Result (Unit {0}) Cause} (Ok tt) (if b then Ok tt else Err cause)) (sym e) refl }

skips : (message : List ℕ) → length message + 4 ≤ 16_777_216 → Skips (with_length message) (Ok message)
unfolding Skips
skips message short =
    follows _ _ tt _ (holds ReplyShort _ (le-leb 4 (length (with_length message)) (omega arith)))
    (follows _ _ tt _ (holds Shape _ (le-leb (length (with_length message)) 16_777_216 (omega (arith, short, with_length_le message)))) (record { is = refl }))

unwraps : (protocol : NetworkProtocol) (octets carried message : List ℕ)
    → Strips protocol octets (Ok carried) → Skips carried (Ok message) → Unwraps protocol (Ok octets) (Ok message)
unfolding Unwraps Unpacks
unwraps protocol octets carried message s k = follows _ _ octets _ (record { is = refl }) (follows _ _ carried _ s k)

proxied_sound : (realm message : List ℕ) → IsTrue (is_ascii realm) → IsSound kdc_proxy_message (kdc_proxy_message_layout.view (proxied realm message))
unfolding kdc_proxy_message kdc_proxy_message_row
proxied_sound realm message ascii = (tt, (ascii, (tt, tt)))

module _ (realm message : List ℕ) (ascii : IsTrue (is_ascii realm)) (short : length message < 2 ^ 23) (few : length realm < 2 ^ 22) where
  abbrev whole : List ℕ
  whole = spelling kdc_proxy_message_layout (proxied realm message)

  abbrev inner : List ℕ
  inner = contents kdc_proxy_message (kdc_proxy_message_layout.view (proxied realm message))

  spells : Spells kdc_proxy_message_layout.kind (kdc_proxy_message_layout.view (proxied realm message)) whole
  spells = record {
    sound = proxied_sound realm message ascii;
    short = omega (arith, contents_shorter (tag_of kdc_proxy_message) inner, proxied_le realm message, short, few);
    is = refl;
  }

  unproxies : Unproxies whole (Ok (with_length message))
  unfolding Unproxies
  unproxies =
      follows _ _ tt _ (holds Shape _ (le-leb (length whole) 16_777_216 (omega (arith, proxied_le realm message, short, few))))
      (follows _ _ (proxied realm message) _ (record { is = spells }) (record { is = refl }))

fits : (message : List ℕ) → length message < 2 ^ 23 → length message + 4 ≤ 16_777_216
fits message h = omega (arith, h)

pub unwrapped : (protocol : NetworkProtocol) (realm message : List ℕ) → protocol ≢ Udp → IsTrue (is_ascii realm)
    → length message < 2 ^ 23 → length realm < 2 ^ 22 → Unwraps protocol (Ok (carried protocol realm message)) (Ok message)
unwrapped Tcp realm message other ascii short few =
    unwraps Tcp _ (with_length message) message (record { is = refl }) (skips message (fits message short))
unwrapped Udp realm message other ascii short few = absurd (other refl)
unwrapped Http realm message other ascii short few =
    unwraps Http _ (with_length message) message (unproxies realm message ascii short few)
    (skips message (fits message short))
unwrapped Https realm message other ascii short few =
    unwraps Https _ (with_length message) message (unproxies realm message ascii short few)
    (skips message (fits message short))

pub unwrapped_udp : (message : List ℕ) → length message < 2 ^ 23 → Unwraps Udp (Ok (with_length message)) (Ok message)
unwrapped_udp message short = unwraps Udp _ (with_length message) message (record { is = refl }) (skips message (fits message short))

-- one answer
unproxies_once : (octets : List ℕ) → Once (Unproxies octets)
unfolding Unproxies
unproxies_once octets =
    then_once _ _ (holds_once Shape _)
    (λ _. then_once _ _ (finds_once Shape _ (λ x y s t. same_record kdc_proxy_message_layout x y octets s t)) (λ message. gives_once _))

strips_once : (protocol : NetworkProtocol) (octets : List ℕ) → Once (Strips protocol octets)
strips_once Tcp octets = record { same = λ r s h k. (gives_once octets).same r s h k }
strips_once Udp octets = record { same = λ r s h k. (gives_once octets).same r s h k }
strips_once Http octets = record { same = λ r s h k. (unproxies_once octets).same r s h k }
strips_once Https octets = record { same = λ r s h k. (unproxies_once octets).same r s h k }

skips_once : (octets : List ℕ) → Once (Skips octets)
unfolding Skips
skips_once octets = then_once _ _ (holds_once ReplyShort _) (λ _. then_once _ _ (holds_once Shape _) (λ _. gives_once _))

pub unwraps_once : (protocol : NetworkProtocol) (reply : Result (List ℕ) NetFault) → Once (Unwraps protocol reply)
unfolding Unwraps Unpacks
unwraps_once protocol reply =
    then_once _ _ (record { same = λ r s h k. h.is ∙ sym k.is })
    (λ octets. then_once _ _ (strips_once protocol octets) (λ carried. skips_once carried))
