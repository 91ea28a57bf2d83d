-- A user principal name and its parts.
use Rattle.std.proofs.Common.{◌≡◌, ℕ, ◌+◌, true, false, not, IsTrue, List, ◌∷◌, ◌&&◌, length, take, drop, get_or, refl, sym, ap, ap₂, ◌∙◌, arith}
use Rattle.std.specs.Prelude.{Some}
use Rattle.std.specs.Str.{IsUtf8, IsCharBoundary}
use Rattle.std.proofs.Math.Seq.{take-append_seam, drop-append-add, get_or-append_seam}
use Rattle.std.proofs.lemmas.List.{length-take-le}
use Rattle.std.proofs.lemmas.Str.{IsCharBoundary-after_ascii}
use Rattle.sspi_core.specs.FormBack.{inside_of}
use Rattle.sspi_core.specs.Usernames.{UserPrincipal, has, backslash, at_sign, is_plain, user_name, upn_text}

account_of : (account suffix : List ℕ) → take (length account) (upn_text account suffix) ≡ account
account_of account suffix = take-append_seam account (at_sign ∷ suffix)

suffix_of : (account suffix : List ℕ) → drop (length account + 1) (upn_text account suffix) ≡ suffix
suffix_of account suffix = drop-append-add account (at_sign ∷ suffix) 1

-- the parts of the text that was joined are what was joined
pub parts_of_joined : (account suffix text : List ℕ) → text ≡ upn_text account suffix
    → (take (length account) text ≡ account) × (drop (length account + 1) text ≡ suffix)
parts_of_joined account suffix text e =
    (ap (take (length account)) e ∙ account_of account suffix, ap (drop (length account + 1)) e ∙ suffix_of account suffix)

pub joined_is_whole : (account suffix text : List ℕ) → text ≡ upn_text account suffix → has backslash account ≡ false → is_plain suffix ≡ true
    → (text ≡ upn_text (take (length account) text) (drop (length account + 1) text))
    × IsTrue (not (has backslash (take (length account) text)) && is_plain (drop (length account + 1) text))
joined_is_whole account suffix text e none plain =
    let parts = parts_of_joined account suffix text e in
    (rw (parts.0, parts.1) e, rw (parts.0, parts.1, none, plain) refl)

pub joined_is_named : (account suffix text : List ℕ) → text ≡ upn_text account suffix → has backslash account ≡ false → is_plain suffix ≡ true
    → user_name (UserPrincipal account suffix) ≡ Some (UserPrincipal (take (length account) text) (drop (length account + 1) text))
joined_is_named account suffix text e none plain =
    let parts = parts_of_joined account suffix text e in rw (none, plain) (ap₂ (λ (a b : List ℕ). Some (UserPrincipal a b)) (sym parts.0) (sym parts.1))

-- a text may be cut after its `@`
pub cut_behind : (text : List ℕ) (place : ℕ) → IsUtf8 text → text ≡ upn_text (take place text) (drop (place + 1) text) → IsCharBoundary text (place + 1)
cut_behind text place utf8 e =
    let inside = inside_of text place e in
    let front : length (take place text) ≡ place = length-take-le place text (omega arith) in
    let sign : get_or text place 0 ≡ at_sign =
    ap (λ (t : List ℕ). get_or t place 0) e ∙ ap (λ (n : ℕ). get_or (upn_text (take place text) (drop (place + 1) text)) n 0) (sym front)
    ∙ get_or-append_seam (take place text) at_sign (drop (place + 1) text) 0 in
    IsCharBoundary-after_ascii text place utf8 inside (omega arith)
