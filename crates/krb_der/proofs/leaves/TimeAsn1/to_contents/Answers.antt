use Rattle.std.proofs.Common.{◌∙◌}
use Rattle.std.proofs.lemmas.Result.{IfOk-weaker}
use Rattle.krb_der.proofs.Moments.{spelled_is_time}
use Rattle.krb_der.proofs.leaves.TimeAsn1.to_contents.Goals as goal

pub returns : goal.returns
returns c =
    let range = spelled_is_time c.args.self.now c.to_octets.result c.to_octets.ensures.spelled in
    IfOk-weaker c.from_slice.result _ _ (λ octets e. (range.0, e ∙ c.to_octets.ensures.exact)) c.from_slice.ensures
