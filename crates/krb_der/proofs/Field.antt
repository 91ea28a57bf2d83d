-- From the result of reading a field to the value at the front of the octets, and the values that have a spelling.
use Rattle.std.proofs.Common.{◌≡◌, ℕ, ◌+◌, ◌^◌, ◌<◌, ◌++◌, length, true, List, None, Some, Result, Ok, Err, refl, sym, ap, subst, ◌∙◌}
use Rattle.std.specs.Prelude.{IfOk}
use Rattle.std.proofs.lemmas.Option.{some_pair_parts, none-some}
use Rattle.krb_der.specs.declared.fault.Fault.{Fault}
use Rattle.krb_der.specs.declared.fault.Fault.TheVariants.{Shape, OutOfMemory}
use Rattle.krb_der.specs.Der.{tlv, StandsNext, NoneNext}
use Rattle.krb_der.specs.Reading.{next_value}
use Rattle.krb_der.specs.Schema.{Kind, Of, tag_of, contents, is_table, IsSound, Spells, ValueNext, NoValueNext}
use Rattle.krb_der.specs.Records.{alone, only, value_in}
use Rattle.krb_der.specs.Layout.{Layout, Reads}
use Rattle.krb_der.specs.Field.{FieldNext, NoFieldNext}
use Rattle.krb_der.proofs.Steps.{bind_some}
use Rattle.krb_der.proofs.Values.{IsBytes, value_again}
use Rattle.krb_der.proofs.Records.{value_found, value_again_of, spelled_is_read}

-- ---- spellings

pub spellings_equal : (kind : Kind) (v : Of kind) (a b : List ℕ) → Spells kind v a → Spells kind v b → a ≡ b
spellings_equal kind v a b s t = s.is ∙ sym t.is

pub spelling_there : (kind : Kind) (v : Of kind) → IsSound kind v → length (contents kind v) < 2 ^ 31 → (octets : List ℕ) × Spells kind v octets
spelling_there kind v sound short = (tlv (tag_of kind) (contents kind v), record { sound = sound; short = short; is = refl })

-- ---- a value

-- one value of a tag is at the front
stands_once : (tag : ℕ) (a b octets rest after : List ℕ) → StandsNext tag a octets rest → StandsNext tag b octets after → a ≡ b
stands_once tag a b octets rest after s t =
    let first : next_value tag octets ≡ Some (a, rest) = ap (next_value tag) (s.parts ∙ ap (λ (w : List ℕ). w ++ rest) s.is_value.is) ∙ value_again tag a rest s.is_value.short in
    let second : next_value tag octets ≡ Some (b, after) = ap (next_value tag) (t.parts ∙ ap (λ (w : List ℕ). w ++ after) t.is_value.is) ∙ value_again tag b after t.is_value.short in
    (some_pair_parts a b rest after (sym first ∙ second)).0

-- a value at the front is there with its contents
next_stands : (kind : Kind) (v : Of kind) (octets rest : List ℕ) → ValueNext kind v octets rest → StandsNext (tag_of kind) (contents kind v) octets rest
next_stands kind v octets rest s = record { value = s.spelling; is_value = record { short = s.spells.short; is = s.spells.is }; parts = s.parts }

module _ (kind : Kind) (tag : ℕ) (same : tag ≡ tag_of kind) where
  pub NoneNext-value : (octets : List ℕ) → NoneNext tag octets → NoValueNext kind octets
  NoneNext-value octets none v rest s = none (contents kind v) rest (subst (λ t. StandsNext t (contents kind v) octets rest) (sym same) (next_stands kind v octets rest s))

  pub alone_none : (octets : List ℕ) → is_table kind ≡ true → alone (next_value tag octets) ≡ None → (v : Of kind) → Spells kind v octets → ⊥
  unfolding only
  alone_none octets table e v s =
      let a = bind_some (alone (next_value (tag_of kind) octets)) (value_in kind) v (spelled_is_read kind v octets table s) in
      none-some a.0 (sym e ∙ ap (λ t. alone (next_value t octets)) same ∙ a.1)

module _ {A : Type 0} (layout : Layout A) where
  pub of_contents-found : (r : Result A Fault) (inside : List ℕ) → IsBytes inside → Reads layout.view r (value_in layout.kind inside) → IfOk r (λ x. IsSound layout.kind (layout.view x) × (inside ≡ contents layout.kind (layout.view x)))
  of_contents-found (Ok x) inside bytes e = value_found layout.kind inside (layout.view x) bytes e
  of_contents-found (Err e) inside bytes h = tt

  pub alone_reads : (r : Result A Fault) (tag : ℕ) (octets inside : List ℕ) → tag ≡ tag_of layout.kind → alone (next_value tag octets) ≡ Some inside → Reads layout.view r (value_in layout.kind inside) → Reads layout.view r (only (tag_of layout.kind) (value_in layout.kind) octets)
  unfolding only
  alone_reads r tag octets inside same e h =
      let there : alone (next_value (tag_of layout.kind) octets) ≡ Some inside = subst (λ t. alone (next_value t octets) ≡ Some inside) same e in
      let is : only (tag_of layout.kind) (value_in layout.kind) octets ≡ value_in layout.kind inside = rw there refl in
      subst (λ o. Reads layout.view r o) (sym is) h

module _ {A : Type 0} (layout : Layout A) (tag : ℕ) (inside octets rest : List ℕ) (same : tag ≡ tag_of layout.kind) (stands : StandsNext tag inside octets rest) where
  pub Next-found : (r : Result A Fault) → IfOk r (λ x. IsSound layout.kind (layout.view x) × (inside ≡ contents layout.kind (layout.view x))) → IfOk r (λ x. ValueNext layout.kind (layout.view x) octets rest)
  Next-found (Ok x) v =
      let is : stands.value ≡ tlv (tag_of layout.kind) (contents layout.kind (layout.view x)) = stands.is_value.is ∙ ap (λ t. tlv t inside) same ∙ ap (tlv (tag_of layout.kind)) v.1 in
      record { spelling = stands.value; spells = record { sound = v.0; short = subst (λ (w : List ℕ). length w < 2 ^ 31) v.1 stands.is_value.short; is = is }; parts = stands.parts }
  Next-found (Err e) v = tt

  pub Next-none : (r : Result A Fault) → Reads layout.view r (value_in layout.kind inside) → r ≡ Err Shape → NoValueNext layout.kind octets
  Next-none (Ok x) h is value after s = absurd cc
  Next-none (Err OutOfMemory) h is value after s = absurd cc
  Next-none (Err Shape) h is value after s =
      let here = subst (λ t. StandsNext t inside octets rest) same stands in
      let alike = stands_once (tag_of layout.kind) inside (contents layout.kind value) octets rest after here (next_stands layout.kind value octets after s) in
      none-some value (sym h ∙ ap (value_in layout.kind) alike ∙ value_again_of layout.kind value layout.ascends s.spells.sound s.spells.short)

-- ---- a field

pub NoneNext-field : (n : ℕ) (kind : Kind) (octets : List ℕ) → NoneNext (0xa0 + n) octets → NoFieldNext n kind octets
NoneNext-field n kind octets none v rest s = none s.spelling rest s.stands

module _ {A : Type 0} (layout : Layout A) (n : ℕ) (inside octets rest : List ℕ) (stands : StandsNext (0xa0 + n) inside octets rest) where
  pub Field-found : (r : Result A Fault) → IfOk r (λ x. Spells layout.kind (layout.view x) inside) → IfOk r (λ x. FieldNext n layout.kind (layout.view x) octets rest)
  Field-found (Ok x) s = record { spelling = inside; spells = s; stands = stands }
  Field-found (Err e) s = tt

  pub Field-none : (r : Result A Fault) → (r ≡ Err Shape → (value : Of layout.kind) → Spells layout.kind value inside → ⊥) → r ≡ Err Shape → NoFieldNext n layout.kind octets
  Field-none r none is value after s =
      none is value (subst (Spells layout.kind value) (sym (stands_once (0xa0 + n) inside s.spelling octets rest after stands s.stands)) s.spells)
