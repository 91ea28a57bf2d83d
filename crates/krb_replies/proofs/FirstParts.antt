-- An EncTGSRepPart in the place of what an AS-REP seals.
use Rattle.std.proofs.Common.{◌≡◌, ℕ, true, List, Result, Ok, Err, sym, ap, ◌∙◌, subst}
use Rattle.std.specs.Result.{IsErrAnd}
use Rattle.krb_exchange.specs.declared.enc_kdc_rep_part.EncAsRepPart.{EncAsRepPart}
use Rattle.krb_exchange.specs.declared.enc_kdc_rep_part.EncTgsRepPart.{EncTgsRepPart}
use Rattle.krb_exchange.specs.Layouts.{enc_tgs_rep_part_layout}
use Rattle.sspi_core.specs.declared.cause.Cause.{Cause}
use Rattle.sspi_core.specs.declared.cause.Cause.TheVariants.{Inner, Memory}
use Rattle.sspi_core.specs.Checks.{Finds, Answers}
use Rattle.sspi_core.proofs.Chain.{is_err, same_err}
use Rattle.krb_replies.specs.Keys.{IsFirstPart}
use Rattle.krb_replies.specs.Unseals.{IsRead}

pub found_tagged : (plain : List ℕ) (part : EncTgsRepPart) → Answers (Finds Inner (IsRead enc_tgs_rep_part_layout plain)) (Ok part)
    → Answers (Finds Inner (IsFirstPart true plain)) (Ok (record { 0 = part.0 }))
found_tagged plain part h = record { so = λ ne. record { is = (h.so (λ z. absurd cc)).is } }

pub refused_tagged : (plain : List ℕ) (e : Cause) (answer : Result EncAsRepPart Cause) → Answers (Finds Inner (IsRead enc_tgs_rep_part_layout plain)) (Err e)
    → IsErrAnd answer (λ d. d ≡ e) → Answers (Finds Inner (IsFirstPart true plain)) answer
refused_tagged plain e answer h is = record {
  so = λ ne.
      let same : answer ≡ Err e = is_err answer e is in
      let none = (h.so (λ z. ne (same ∙ ap Err (same_err {A = EncTgsRepPart} e Memory z)))).is in
      subst (λ (r : Result EncAsRepPart Cause). Finds Inner (IsFirstPart true plain) r) (sym same)
      (record { is = (none.0, λ part read. none.1 (record { 0 = part.0 }) read) });
}
