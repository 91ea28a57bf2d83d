-- Bindings whose parts are short.
use Rattle.std.proofs.Common.{◌≡◌, ◌≤◌, ◌^◌, ℕ, ◌&&◌, Bool, true, false, List, length, IsTrue, arith, rules}
use Rattle.std.proofs.lemmas.Bool.Decides.{nat_tests}
use Rattle.krb_authenticators.specs.Bindings.{AreShortBindings}
use Rattle.krb_entrance.specs.Channels.{is_short, are_short}
use Rattle.sspi_core.specs.declared.bindings.ChannelBindings.{ChannelBindings}

record AreTrue (a b c : Bool) : Type 0 where
  first : IsTrue a
  second : IsTrue b
  third : IsTrue c

are_true : (a b c : Bool) → ((a && b) && c) ≡ true → AreTrue a b c
are_true true true true e = record { first = search rules; second = search rules; third = search rules }
are_true true true false e = absurd cc
are_true true false c e = absurd cc
are_true false b c e = absurd cc

within : (part : List ℕ) → IsTrue (is_short part) → length part ≤ 2 ^ 24
within part h = grind (arith, nat_tests)

pub short_bindings : (bindings : ChannelBindings) → are_short bindings ≡ true → AreShortBindings bindings
short_bindings bindings e =
    let all = are_true (is_short bindings.initiator) (is_short bindings.acceptor) (is_short bindings.application_data) e in
    record {
      initiator = within bindings.initiator all.first;
      acceptor = within bindings.acceptor all.second;
      application_data = within bindings.application_data all.third;
    }
