use Rattle.std.proofs.Common.{drop, Option}
use Rattle.krb_authorization.specs.Elements.{ElementAt}
use Rattle.krb_messages.specs.declared.authorization_data.AuthorizationDataElement.{AuthorizationDataElement}
use Rattle.krb_authorization.proofs.elements.element_at.Given as goal

abbrev pub invariant-loop-element : goal.invariant-loop-element
invariant-loop-element l = (result : Option AuthorizationDataElement) → ElementAt (drop l.element-index l.elements) l.rest result → ElementAt l.fn.elements l.place result
