use Rattle.std.proofs.Common.{refl}
use Rattle.std.specs.Cmp.Lexicographic.{told_text}
use Rattle.sspi_core.proofs.Truths.{same_answer}
use Rattle.sspi_core.proofs.secret.is_same.Goals as goal

pub returns : goal.returns
returns c = same_answer _ _ c.is_equal.ensures (told_text c.args.octets.now c.args.others.now _ refl)
