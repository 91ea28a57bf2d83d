use Rattle.krb_crypto.proofs.FoldedLemmas.{integrity_folds}
use Rattle.krb_crypto.proofs.folded.integrity_block.Goals as goal

pub folded_constant-requires : goal.folded_constant-requires
folded_constant-requires c = integrity_folds
