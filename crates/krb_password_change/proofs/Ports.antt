-- Port 464 is no scheme's default port, so a URL that takes a port keeps it.
use Rattle.std.proofs.Common.{◌≡◌, ℕ, Bool, true, false, List, Option, Some, None, Ok, Err, refl, ap, sym, ◌∙◌, subst}
use Rattle.std.specs.Prelude.{◌||◌, bytes_eq, codes, nat_eq, if◌then◌else◌}
use Rattle.std.specs.Option.{option_eq}
use Rattle.sspi_core.specs.declared.cause.Cause.TheVariants.{Port}
use Rattle.sspi_core.specs.Checks.{Takes, Answers}
use Rattle.sspi_core.proofs.Chain.{takes_some}
use Rattle.url.specs.Parts.{Parts, cannot_have_credentials_or_port}
use Rattle.url.specs.Parser.{Parsed, without_default_port}
use Rattle.url.specs.Scheme.{default_port}
use Rattle.url.specs.Setters.{set_port}
use Rattle.url.specs.declared.error.ParseError.TheVariants.{CannotSet}
use Rattle.krb_password_change.specs.Ports.{at_port}

abbrev default_of : Bool → Bool → Bool → Option ℕ
default_of a b c = if a then Some 80 else (if b then Some 443 else (if c then Some 21 else None))

abbrev kept : Option ℕ → Option ℕ
kept port = if option_eq nat_eq (Some 464) port then None else Some 464

by_tests : (a b c : Bool) → kept (default_of a b c) ≡ Some 464
by_tests true b c = refl
by_tests false true c = refl
by_tests false false true = refl
by_tests false false false = refl

stays : (scheme : List ℕ) → without_default_port scheme (Some 464) ≡ Some 464
unfolding default_port
stays scheme = by_tests (bytes_eq scheme (codes "http") || bytes_eq scheme (codes "ws")) (bytes_eq scheme (codes "https") || bytes_eq scheme (codes "wss")) (bytes_eq scheme (codes "ftp"))

changed : (bare : Bool) (old new : Parts) → ◌≡◌ {A = Parsed Parts} (if bare then Err CannotSet else Ok (record old { port = without_default_port old.scheme (Some 464) })) (Ok new)
    → (if bare then None else Some (record old { port = Some 464 })) ≡ Some new
changed true old new e = absurd cc
changed false old new e =
    let same : record old { port = without_default_port old.scheme (Some 464) } ≡ new = cc in
    ap Some (ap (λ (port : Option ℕ). record old { port = port }) (sym (stays old.scheme)) ∙ same)

-- a port that was set
was_set : (old new : Parts) → set_port old (Some 464) ≡ Ok new → at_port old ≡ Some new
was_set old new e = changed (cannot_have_credentials_or_port old) old new e

-- so is one of a copy of a URL
pub was_set_to : (url old new : Parts) → old ≡ url → set_port old (Some 464) ≡ Ok new → Answers (Takes Port (at_port url)) (Ok new)
was_set_to url old new e h = record { so = λ ne. takes_some Port (at_port url) new (subst (λ (u : Parts). at_port u ≡ Some new) e (was_set old new h)) }
