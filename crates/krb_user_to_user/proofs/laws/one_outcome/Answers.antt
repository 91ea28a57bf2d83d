use Rattle.krb_user_to_user.proofs.Once.{requests_tgt_once, starts_once, next_once}
use Rattle.krb_user_to_user.proofs.laws.one_outcome.Goals as goal

pub returns : goal.returns
returns c = record {
  requests = λ server credentials tgt_req dce env r s h k. (requests_tgt_once server credentials tgt_req dce env).same r s h k;
  starts = λ acceptor phase draw r s h k. (starts_once acceptor phase draw).same r s h k;
  resumes = λ acceptor phase reply draw r s h k. (next_once acceptor phase reply draw).same r s h k;
}
