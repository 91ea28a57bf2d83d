-- A name gives its form back.
use Rattle.std.proofs.Common.{◌≡◌, ℕ, suc, ◌∷◌, ◌∙◌, ap, ◌+◌, ◌<◌, List, length, take, drop, refl, sym, ap₂, arith}
use Rattle.std.proofs.lemmas.List.{length-append, length-take, length-drop, length-take-le}
use Rattle.sspi_core.specs.declared.username.Form.{Form}
use Rattle.sspi_core.specs.declared.username.Form.TheVariants.{UserPrincipal as WholeText, DownLevel as Parts}
use Rattle.sspi_core.specs.Usernames.{at_sign, upn_text}
use Rattle.sspi_core.specs.UsernameForms.{name_of, form_of, IsWhole}

pub inside_of : (text : List ℕ) (place : ℕ) → text ≡ upn_text (take place text) (drop (place + 1) text) → place < length text
inside_of text place e =
    let sizes : length text ≡ length (take place text) + suc (length (drop (place + 1) text)) =
    ap length e ∙ length-append (take place text) (at_sign ∷ drop (place + 1) text) in
    omega (arith, length-take place text, length-drop (place + 1) text)

pub form_back : (form : Form) → IsWhole form → form_of (name_of form) ≡ form
form_back (WholeText text place) whole =
    let inside = inside_of text place whole.0 in
    ap₂ (λ (t : List ℕ) (n : ℕ). WholeText t n) (sym whole.0) (length-take-le place text (omega arith))
form_back (Parts account domain) whole = refl
