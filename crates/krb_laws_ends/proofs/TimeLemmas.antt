-- An AP-REP that repeats the time of an authenticator has the time that the context keeps.
use Rattle.std.proofs.Common.{◌≡◌, ℕ, ◌%◌, ◌<◌, pos, Bool, true, false, get_or, List, Option, Some, refl, sym, subst, ap, ◌∙◌, arith, nat_lt, if◌then◌else◌}
use Rattle.std.specs.Prelude.{not, ◌||◌}
use Rattle.std.specs.Int.{w32, to_be_bytes}
use Rattle.std.specs.Ordering.{int_eq}
use Rattle.std.proofs.lemmas.Bool.{lt-ltb, and_from}
use Rattle.std.proofs.lemmas.Bool.Decides.{Decides-int_eq}
use Rattle.krb_der.specs.Integer.{integer_value}
use Rattle.krb_crypto.specs.declared.suite.CipherSuite.{CipherSuite}
use Rattle.krb_messages.specs.declared.authenticator.Authenticator.{Authenticator}
use Rattle.krb_replies.specs.Fresh.{is_number}
use Rattle.krb_requests.specs.Pieces.{whole_second}
use Rattle.krb_authenticators.specs.Authenticators.{microseconds}
use Rattle.krb_ap.specs.Answered.{answers_at}
use Rattle.krb_admission.specs.Admission.{ap_rep_part}
use Rattle.krb_laws_ends.specs.Answers.{KeepsTime}

first_case : {A : Type 0} (b : Bool) (x y : A) → b ≡ true → (if b then x else y) ≡ x
first_case true x y e = refl
first_case false x y e = absurd cc

-- four octets are the microseconds that they spell
pub integer_is : (n : ℕ) → n < 1000000 → integer_value (to_be_bytes w32 n) ≡ pos n
integer_is n small =
    first_case (nat_lt (get_or (to_be_bytes w32 n) 0 0) 0x80) _ _ (lt-ltb (get_or (to_be_bytes w32 n) 0 0) 0x80 (omega (arith, small))) ∙ ap pos (omega (arith, small))

-- an initiator keeps the moment at which it makes an authenticator
pub keeps_own_time : (authenticator : Authenticator) (moment : ℕ) → authenticator.ctime ≡ whole_second moment → authenticator.cusec ≡ microseconds moment
    → KeepsTime (Some moment) authenticator
keeps_own_time authenticator moment second micro =
    record { moment = moment; asked = refl; second = second; microsecond = ap integer_value micro ∙ integer_is (moment % 1000000) (omega arith) }

-- a test that a rule asks for, and that is passed where it does
pub if_asked : (asks test : Bool) → (asks ≡ true → test ≡ true) → (not asks || test) ≡ true
if_asked true test h = h refl
if_asked false test h = refl

pub answers_in_time : (suite : CipherSuite) (asked_at : Option ℕ) (authenticator : Authenticator) (number : List ℕ) (subkey : Option (List ℕ)) → KeepsTime asked_at authenticator
    → answers_at asked_at (ap_rep_part suite authenticator.ctime authenticator.cusec number subkey) ≡ true
answers_in_time suite asked_at authenticator number subkey keeps =
    let moment : ℕ = keeps.moment in
    subst (λ (o : Option ℕ). answers_at o (ap_rep_part suite authenticator.ctime authenticator.cusec number subkey) ≡ true) (sym keeps.asked)
    (and_from (int_eq authenticator.ctime (whole_second moment)) (is_number authenticator.cusec (pos (moment % 1000000)))
    ((Decides-int_eq authenticator.ctime (whole_second moment)).1 keeps.second)
    ((Decides-int_eq (integer_value authenticator.cusec) (pos (moment % 1000000))).1 keeps.microsecond))
