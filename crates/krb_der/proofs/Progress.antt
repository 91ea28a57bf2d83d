-- A record that is written field by field: what is known of its octets at each field.
use Rattle.std.proofs.Common.{◌≡◌, ℕ, ◌<◌, ◌^◌, List, [], ◌∷◌, ◌++◌, length, Bool, true, Option, None, Some, Result, Ok, Err, refl, sym, ap, subst, ◌∙◌}
use Rattle.std.specs.Prelude.{map, option_map, IfOk}
use Rattle.krb_der.specs.Der.{tlv}
use Rattle.krb_der.specs.Schema.{Fields, nothing, required, optional, Of, Row, row_octets, IsSoundRow}
use Rattle.krb_der.specs.Layout.{Layout}
use Rattle.krb_der.specs.Progress.{Writes, WritesOptional, written}

-- The octets that were written and those of the fields that are left are the whole, and the whole has a spelling where these have.
pub record Wrote (whole : List ℕ) (IsWholeSound : Type 0) (fields : Fields) (row : Row fields) (at : List ℕ × Bool) : Type 0 where
  pub octets : at.1 ≡ true → whole ≡ at.0 ++ row_octets fields row
  pub sound : at.1 ≡ true → IsSoundRow fields row → IsWholeSound

-- an optional value whose view is itself
pub option_id : {A : Type 0} (o : Option A) → o ≡ option_map (λ x. x) o
option_id None = refl
option_id (Some x) = refl

-- a list whose items' views are themselves
pub items_id : {A : Type 0} (xs : List A) → xs ≡ map (λ x. x) xs
items_id [] = refl
items_id (x ∷ xs) = ap (λ ys. x ∷ ys) (items_id xs)

pub begun : (fields : Fields) (row : Row fields) {at : List ℕ × Bool} → at ≡ ([], true) → Wrote (row_octets fields row) (IsSoundRow fields row) fields row at
begun fields row e = record { octets = λ _. ap (λ (w : List ℕ × Bool). w.0 ++ row_octets fields row) (sym e); sound = λ _ s. s }

pub then : {A : Type 0} {layout : Layout A} {n : ℕ} {x : A} {fields : Fields} {row : Row fields} {whole : List ℕ} {IsWholeSound : Type 0} {old new : List ℕ × Bool} → Wrote whole IsWholeSound (required n layout.kind fields) (layout.view x, row) old → Writes layout n x old new → Wrote whole IsWholeSound fields row new
then {fields = fields} {row = row} h e = record { octets = λ known. h.octets (e.known known) ∙ e.octets known fields row; sound = λ known s. h.sound (e.known known) (e.sound known, s) }

-- the same, where the whole has the value by another spelling
pub then_seen : {A : Type 0} {layout : Layout A} {n : ℕ} {x : A} {fields : Fields} {value : Of layout.kind} {row : Row fields} {whole : List ℕ} {IsWholeSound : Type 0} {old new : List ℕ × Bool} → Wrote whole IsWholeSound (required n layout.kind fields) (value, row) old → value ≡ layout.view x → Writes layout n x old new → Wrote whole IsWholeSound fields row new
then_seen {layout = layout} {n = n} {fields = fields} {row = row} {whole = whole} {IsWholeSound = IsWholeSound} {old = old} h same e =
    then (subst (λ v. Wrote whole IsWholeSound (required n layout.kind fields) (v, row) old) same h) e

pub then_optional : {A : Type 0} {layout : Layout A} {n : ℕ} {x : Option A} {fields : Fields} {value : Option (Of layout.kind)} {row : Row fields} {whole : List ℕ} {IsWholeSound : Type 0} {old new : List ℕ × Bool} → Wrote whole IsWholeSound (optional n layout.kind fields) (value, row) old → value ≡ option_map layout.view x → WritesOptional layout n x old new → Wrote whole IsWholeSound fields row new
then_optional {layout = layout} {n = n} {fields = fields} {row = row} {whole = whole} {IsWholeSound = IsWholeSound} {old = old} h same e =
    let h' = subst (λ v. Wrote whole IsWholeSound (optional n layout.kind fields) (v, row) old) same h in
    record { octets = λ known. h'.octets (e.known known) ∙ e.octets known fields row; sound = λ known s. h'.sound (e.known known) (e.sound known, s) }

pub completed : {E : Type 0} {whole : List ℕ} {IsWholeSound : Type 0} {at : List ℕ × Bool} (result : Result (List ℕ) E) → Wrote whole IsWholeSound nothing tt at → IfOk result (λ octets. (at.1 ≡ true) × (octets ≡ written at)) → IfOk result (λ octets. IsWholeSound × (octets ≡ whole))
completed (Ok octets) h e = (h.sound e.0 tt, e.1 ∙ sym (h.octets e.0))
completed (Err error) h e = tt

pub completed_in : {E : Type 0} {whole : List ℕ} {IsWholeSound : Type 0} {at : List ℕ × Bool} (result : Result (List ℕ) E) → Wrote whole IsWholeSound nothing tt at → IfOk result (λ octets. (at.1 ≡ true) × (octets ≡ tlv 0x30 (written at))) → IfOk result (λ octets. IsWholeSound × (octets ≡ tlv 0x30 whole))
completed_in (Ok octets) h e = (h.sound e.0 tt, e.1 ∙ ap (tlv 0x30) (sym (h.octets e.0)))
completed_in (Err error) h e = tt

pub short : {whole : List ℕ} {IsWholeSound : Type 0} {at : List ℕ × Bool} → Wrote whole IsWholeSound nothing tt at → length whole < 2 ^ 31 → at.1 ≡ true → length (written at) < 2 ^ 31
short h below known = subst (λ (w : List ℕ). length w < 2 ^ 31) (h.octets known) below
