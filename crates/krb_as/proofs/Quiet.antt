-- Which checks refuse because the network failed: none but the one of the network.
use Rattle.std.proofs.Common.{◌≡◌, ℕ, Bool, true, false, List, Result, Ok, Err, sym, subst}
use Rattle.sspi_core.specs.declared.cause.Cause.{Cause}
use Rattle.sspi_core.specs.declared.cause.Cause.TheVariants.{Network, ReplyShort, Shape}
use Rattle.sspi_core.specs.Checks.{Finds, Holds, Gives, Goes, Then}
use Rattle.sspi_core.proofs.Chain.{same_err}
use Rattle.sspi_core.specs.declared.protocol.NetworkProtocol.{NetworkProtocol}
use Rattle.sspi_core.specs.declared.protocol.NetworkProtocol.TheVariants.{Tcp, Udp, Http, Https}
use Rattle.krb_as.specs.Replies.{Unproxies, Strips, Skips, Unpacks}

-- the checks never refuse so
pub record Quiet {A : Type 0} (checks : Result A Cause → Type 0) : Type 0 where
  pub never : (code : ℕ) → checks (Err (Network code)) → ⊥

rest_quiet : {A B : Type 0} (first : Result A Cause → Type 0) (next : A → Result B Cause → Type 0) (m : Result A Cause) (code : ℕ)
    → Quiet first → ((a : A) → Quiet (next a)) → first m → Goes next m (Err (Network code)) → ⊥
rest_quiet first next (Ok a) code one of h k = (of a).never code k
rest_quiet {A} {B} first next (Err d) code one of h k = one.never code (subst (λ (e : Cause). first (Err e)) (sym (same_err {A = B} (Network code) d k)) h)

then_quiet : {A B : Type 0} (first : Result A Cause → Type 0) (next : A → Result B Cause → Type 0)
    → Quiet first → ((a : A) → Quiet (next a)) → Quiet (λ r. Then first next r)
then_quiet first next one of = record { never = λ code h. rest_quiet first next h.middle code one of h.held h.rest }

hold_quiet : (cause : Cause) (test : Bool) (code : ℕ) → (cause ≡ Network code → ⊥) → Holds cause test (Err (Network code)) → ⊥
hold_quiet cause true code other h = let i = h.is in absurd cc
hold_quiet cause false code other h = other (sym (same_err {A = Unit {0}} (Network code) cause h.is))

holds_quiet : (cause : Cause) (test : Bool) → ((code : ℕ) → cause ≡ Network code → ⊥) → Quiet (λ r. Holds cause test r)
holds_quiet cause test other = record { never = λ code h. hold_quiet cause test code (other code) h }

pub finds_quiet : {A : Type 0} (cause : Cause) (P : A → Type 0) → ((code : ℕ) → cause ≡ Network code → ⊥) → Quiet (λ r. Finds cause P r)
finds_quiet cause P other = record { never = λ code h. other code (sym h.is.0) }

gives_quiet : {A : Type 0} (value : A) → Quiet (λ r. Gives value r)
gives_quiet value = record { never = λ code h. let i = h.is in absurd cc }

pub shape_other : (code : ℕ) → Shape ≡ Network code → ⊥
shape_other code e = absurd cc

short_other : (code : ℕ) → ReplyShort ≡ Network code → ⊥
short_other code e = absurd cc

unproxies_quiet : (octets : List ℕ) → Quiet (Unproxies octets)
unfolding Unproxies
unproxies_quiet octets =
    then_quiet _ _ (holds_quiet Shape _ shape_other) (λ _. then_quiet _ _ (finds_quiet Shape _ shape_other) (λ message. gives_quiet _))

strips_quiet : (protocol : NetworkProtocol) (octets : List ℕ) → Quiet (Strips protocol octets)
strips_quiet Tcp octets = record { never = λ code h. (gives_quiet octets).never code h }
strips_quiet Udp octets = record { never = λ code h. (gives_quiet octets).never code h }
strips_quiet Http octets = record { never = λ code h. (unproxies_quiet octets).never code h }
strips_quiet Https octets = record { never = λ code h. (unproxies_quiet octets).never code h }

skips_quiet : (octets : List ℕ) → Quiet (Skips octets)
unfolding Skips
skips_quiet octets = then_quiet _ _ (holds_quiet ReplyShort _ short_other) (λ _. then_quiet _ _ (holds_quiet Shape _ shape_other) (λ _. gives_quiet _))

pub unpacks_quiet : (protocol : NetworkProtocol) (octets : List ℕ) → Quiet (Unpacks protocol octets)
unfolding Unpacks
unpacks_quiet protocol octets = then_quiet _ _ (strips_quiet protocol octets) (λ carried. skips_quiet carried)
