use Rattle.std.proofs.Common.{ℕ, List, ◌++◌, ap, ◌∙◌}
use Rattle.std.specs.Prelude.{codes}
use Rattle.std.specs.Fmt.{decimal}
use Rattle.std.proofs.lemmas.Result.{IfOk-weaker}
use Rattle.hex.specs.Hex.{encode_lower}
use Rattle.sspi_core.specs.Buffer.{has_checksum_flag}
use Rattle.krb_machine.specs.Reply.{letter_of}
use Rattle.krb_machine.proofs.reply.buffer_text.Goals as goal

abbrev shown : List ℕ → List ℕ → ℕ → List ℕ
shown letter digits limit = codes " " ++ (letter ++ (codes ":" ++ (digits ++ (codes ":" ++ decimal limit))))

pub returns : goal.returns
returns c =
    let buffer = c.args.buffer.now in
    let letter = letter_of buffer.kind (has_checksum_flag buffer.flags) in
    let digits = c.in_ok-digits.ensures ∙ ap encode_lower c.data.ensures in
    IfOk-weaker c.format.result _ _
    (λ text is.
    is
    ∙ ap (λ (l : List ℕ). shown l c.in_ok-digits.digits.bytes.items c.limit-limit.result) c.letter_of-letter.ensures
    ∙ ap (λ (d : List ℕ). shown letter d c.limit-limit.result) digits
    ∙ ap (λ (n : ℕ). shown letter (encode_lower buffer.octets) n) c.limit-limit.ensures.limit)
    c.format.ensures.ok
