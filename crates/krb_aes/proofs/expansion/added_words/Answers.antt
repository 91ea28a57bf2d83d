use Rattle.std.proofs.Common.{ap, ◌∙◌, replicate, arith}
use Rattle.krb_aes.specs.Word.{word_at}
use Rattle.krb_aes.proofs.ScheduleLemmas.{first_of_one, first_of_two, fifth_of_two, is_two}
use Rattle.krb_aes.proofs.expansion.added_words.Goals as goal

pub returns-then-size-eq1 : goal.returns-then-size-eq1
returns-then-size-eq1 c =
    c.with_constant.ensures _ c.rotated_word.ensures
    ∙ ap (replicate 4) (first_of_one c.args.size c.args.round (word_at c.args.previous 12) c.if-size-eq1.true)

pub returns-then-round-eq0 : goal.returns-then-round-eq0
returns-then-round-eq0 c =
    c.with_constant-then-round-eq0.ensures _ c.rotated_word-then-round-eq0.ensures
    ∙ ap (replicate 4) (first_of_two c.args.size c.args.round (word_at c.args.previous 12) (is_two c.args.size c.requires.sizes c.if-size-eq1.false) c.if-round-eq0.true)

pub returns : goal.returns
returns c =
    c.substituted_word.ensures
    ∙ ap (replicate 4) (fifth_of_two c.args.size c.args.round (word_at c.args.previous 12) (is_two c.args.size c.requires.sizes c.if-size-eq1.false) (omega (arith, c.if-round-eq0.false)))
