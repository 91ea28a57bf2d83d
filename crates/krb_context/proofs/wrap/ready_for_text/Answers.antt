use Rattle.std.proofs.Common.{◌+◌, refl, arith}
use Rattle.std.proofs.lemmas.Bool.{le-leb}
use Rattle.sspi_core.specs.declared.cause.Cause.TheVariants.{Buffers, TooSmall}
use Rattle.sspi_core.proofs.Chain.{follows, halts, gives, holds_true, lent_err}
use Rattle.krb_context.specs.Wraps.{Readies, has_parts, has_token_room}
use Rattle.krb_context.specs.Whole.{text_message}
use Rattle.krb_context.proofs.wrap.ready_for_text.Goals as goal

pub returns-in_err-key : goal.returns-in_err-key
unfolding Readies
returns-in_err-key c = λ text. halts _ _ _ _ c.in_err-key.ensures (lent_err _ _ _ c.from_residual.ensures.1)

pub returns-in_err-check_key_size : goal.returns-in_err-check_key_size
unfolding Readies
returns-in_err-check_key_size c = λ text.
    follows _ _ _ _ c.in_ok-key.ensures (follows _ _ tt _ (holds_true Buffers (has_parts (text_message c.args.params.now.ec text)) refl)
    (halts _ _ _ _ c.in_err-check_key_size.ensures (lent_err _ _ _ c.from_residual-in_err-check_key_size.ensures.1)))

pub returns : goal.returns
unfolding Readies
returns c = λ text.
    follows _ _ _ _ c.in_ok-key.ensures (follows _ _ tt _ (holds_true Buffers (has_parts (text_message c.args.params.now.ec text)) refl)
    (follows _ _ _ _ c.in_ok-check_key_size.ensures
    (follows _ _ tt _ (holds_true TooSmall (has_token_room c.args.params.now.ec (text_message c.args.params.now.ec text)) (le-leb (60 + c.args.params.now.ec) (60 + c.args.params.now.ec) (omega arith))) (gives _))))
