-- The content of a reply, from the answer of the network.
use Rattle.std.proofs.Common.{◌≡◌, ℕ, List, Result, Ok, Err, refl, sym, ap, subst, ◌∙◌}
use Rattle.sspi_core.specs.declared.cause.Cause.{Cause}
use Rattle.sspi_core.specs.declared.cause.Cause.TheVariants.{Memory, Network}
use Rattle.sspi_core.specs.Checks.{Answers}
use Rattle.sspi_core.proofs.Chain.{halts, follows}
use Rattle.sspi_core.specs.declared.protocol.NetworkProtocol.{NetworkProtocol}
use Rattle.sspi_generator.specs.declared.network.NetFault.{NetFault}
use Rattle.sspi_generator.specs.declared.network.NetFault.TheVariants.{Failed}
use Rattle.krb_as.specs.Replies.{brought, Unpacks, Unwraps}
use Rattle.krb_as.proofs.Quiet.{unpacks_quiet}

pub brings_octets : (protocol : NetworkProtocol) (reply : Result (List ℕ) NetFault) (octets : List ℕ) (answer : Result (List ℕ) Cause)
    → reply ≡ Ok octets → Answers (Unpacks protocol octets) answer → Answers (Unwraps protocol reply) answer
unfolding Unwraps
brings_octets protocol reply octets answer e h = record { so = λ ne. follows _ _ octets answer (record { is = sym (ap brought e) }) (h.so ne) }

pub brings_failure : (protocol : NetworkProtocol) (reply : Result (List ℕ) NetFault) (code : ℕ)
    → reply ≡ Err (Failed code) → Answers (Unwraps protocol reply) (Err (Network code))
unfolding Unwraps
brings_failure protocol reply code e = record { so = λ ne. halts _ _ (Network code) _ (record { is = sym (ap brought e) }) refl }

memory_other : (code : ℕ) → ◌≡◌ {A = Result (List ℕ) Cause} (Err (Network code)) (Err Memory) → ⊥
memory_other code e = absurd cc

pub octets_fail_not : (protocol : NetworkProtocol) (octets : List ℕ) (answer : Result (List ℕ) Cause) (code : ℕ) → Answers (Unpacks protocol octets) answer → answer ≡ Err (Network code) → ⊥
octets_fail_not protocol octets answer code h e =
    (unpacks_quiet protocol octets).never code (subst (λ (a : Result (List ℕ) Cause). Unpacks protocol octets a) e (h.so (λ m. memory_other code (sym e ∙ m))))
