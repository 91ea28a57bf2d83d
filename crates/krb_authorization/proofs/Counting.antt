-- One result at a place.
use Rattle.std.proofs.Common.{◌≡◌, ℕ, ◌-◌, List, [], ◌∷◌, length, Option, Some, None, refl, sym, ◌∙◌, subst, inl, inr}
use Rattle.std.specs.Prelude.{MatchOption, slice_get}
use Rattle.krb_authorization.specs.Elements.{Encloses, CountsAs, ElementAt}
use Rattle.krb_der.specs.Layout.{items_layout}
use Rattle.krb_messages.specs.Layouts.{authorization_data_element_layout}
use Rattle.krb_messages.specs.OneSpelling.{HasOneSpelling}
use Rattle.krb_messages.specs.declared.authorization_data.AuthorizationDataElement.{AuthorizationDataElement}

-- two results are one where both are those of one list, and the results further on are one
both : (further : Option AuthorizationDataElement → Type 0) (one other : Option AuthorizationDataElement)
    → (further one → further other → one ≡ other) → (o : Option AuthorizationDataElement) → MatchOption o (further one) (λ found. one ≡ Some found)
    → MatchOption o (further other) (λ found. other ≡ Some found) → one ≡ other
both further one other later None a b = later a b
both further one other later (Some x) a b = a ∙ sym b

module _ (spelling : HasOneSpelling (items_layout authorization_data_element_layout)) where
  same_inner : (element : AuthorizationDataElement) (one other : List AuthorizationDataElement) → Encloses element one → Encloses element other → one ≡ other
  same_inner element one other a b = (spelling.one_record one other element.ad_data element.ad_data [] [] a.octets b.octets refl).1

  same_count : (element : AuthorizationDataElement) (one other : List AuthorizationDataElement) → CountsAs element one → CountsAs element other → one ≡ other
  same_count element one other (inl a) (inl b) = same_inner element one other a b
  same_count element one other (inl a) (inr b) = absurd (b.0 one a)
  same_count element one other (inr a) (inl b) = absurd (a.0 other b)
  same_count element one other (inr a) (inr b) = a.1 ∙ sym b.1

  pub one_result : (elements : List AuthorizationDataElement) (place : ℕ) (one other : Option AuthorizationDataElement)
      → ElementAt elements place one → ElementAt elements place other → one ≡ other
  one_result [] place one other a b = a ∙ sym b
  one_result (element ∷ elements) place one other a b =
      both (ElementAt elements (place - length a.0)) one other (one_result elements (place - length a.0) one other) (slice_get a.0 place) a.2
      (subst (λ (counted : List AuthorizationDataElement). MatchOption (slice_get counted place) (ElementAt elements (place - length counted) other) (λ found. other ≡ Some found))
      (sym (same_count element a.0 b.0 a.1 b.1)) b.2)
