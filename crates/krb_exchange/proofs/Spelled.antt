-- Octets are of one record of a kind, and records under different tags have different octets.
use Rattle.std.proofs.Common.{◌≡◌, ℕ, List, [], get_or, refl, ap, sym, ◌∙◌}
use Rattle.krb_der.specs.Der.{tlv}
use Rattle.krb_der.specs.Schema.{Spells, tag_of}
use Rattle.krb_der.specs.Layout.{Layout}
use Rattle.krb_der.proofs.Records.{one_spelling_lem}

pub same_record : {A : Type 0} (layout : Layout A) (x y : A) (octets : List ℕ)
    → Spells layout.kind (layout.view x) octets → Spells layout.kind (layout.view y) octets → x ≡ y
same_record layout x y octets s t =
    let same = one_spelling_lem layout.kind (layout.view x) (layout.view y) octets octets [] [] layout.ascends s t refl in
    sym (layout.back x) ∙ ap layout.of same.1 ∙ layout.back y

same_tag : (tag other : ℕ) (contents inside : List ℕ) → tlv tag contents ≡ tlv other inside → tag ≡ other
unfolding tlv
same_tag tag other contents inside e = ap (λ (octets : List ℕ). get_or octets 0 0) e

pub different_tags : {A B : Type 0} (layout : Layout A) (other : Layout B) (x : A) (y : B) (octets : List ℕ) → (tag_of layout.kind ≡ tag_of other.kind → ⊥)
    → Spells layout.kind (layout.view x) octets → Spells other.kind (other.view y) octets → ⊥
different_tags layout other x y octets different s t = different (same_tag _ _ _ _ (sym s.is ∙ t.is))
