use Rattle.krb_authorization.proofs.Counting.{one_result}
use Rattle.krb_authorization.proofs.laws.one_element_at_a_place.Goals as goal

pub returns : goal.returns
returns c = one_result c.one_spelling.ensures.authorization_data
