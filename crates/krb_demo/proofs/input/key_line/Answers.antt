use Rattle.std.proofs.Common.{◌∙◌, codes}
use Rattle.std.specs.Fmt.{decimal}
use Rattle.hex.specs.Hex.{encode_lower}
use Rattle.krb_demo.specs.Client.{service_key}
use Rattle.krb_demo.proofs.Lines.{regroup}
use Rattle.krb_demo.proofs.input.key_line.Goals as goal

pub returns : goal.returns
returns c =
    let written = rw c.in_ok-digits.ensures at c.in_ok-line.ensures.ok in
    written ∙ regroup (codes "key ") (decimal c.args.k) (codes " host/server.example.com ") (encode_lower service_key) (codes "\n")
