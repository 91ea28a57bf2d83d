use Rattle.std.proofs.Common.{◌≡◌, Bool, List, [], ℕ, sym, ap, ◌∙◌}
use Rattle.std.specs.Prelude.{if◌then◌else◌}
use Rattle.krb_replay.specs.declared.record.Record.{Record}
use Rattle.krb_admission.specs.Requests.{tag_of, record_tag}
use Rattle.krb_admission.specs.declared.request.Request.{Request}
use Rattle.krb_admission.proofs.laws.records_by_tag_tell_ciphers_apart.Goals as goal

pub returns : goal.returns
returns c = λ rules one other moment later rule same.
    let at : (q : Request) → record_tag rules q ≡ tag_of q = λ q. ap (λ (b : Bool). if b then tag_of q else []) rule in
    sym (at one) ∙ ap (λ (r : Record). r.tag) same ∙ at other
