use Rattle.std.proofs.Common.{ℕ, ◌-◌, arith}
use Rattle.krb_aes.specs.Word.{round_constant}
use Rattle.krb_aes.proofs.TableEntries.{ROUND_CONSTANTS_at, constant_below}
use Rattle.krb_aes.proofs.WordLemmas.{constant_added}
use Rattle.krb_aes.proofs.expansion.with_constant.Goals as goal

pub returns : goal.returns
unfolding round_constant
returns c w e =
    let j : ℕ = c.args.group - 1 in
    constant_added c.args.words w _ _ c.fits-words (constant_below j (omega arith)) (ROUND_CONSTANTS_at j (omega arith)) e
