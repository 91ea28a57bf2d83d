use Rattle.krb_ccache.proofs.Headers.{one_offset}
use Rattle.krb_ccache.proofs.laws.a_file_has_one_time_offset.Goals as goal

pub returns : goal.returns
returns c = one_offset
