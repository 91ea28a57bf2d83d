use Rattle.std.proofs.Common.{refl}
use Rattle.krb_der.proofs.Progress.{begun, then, then_optional, option_id, completed_in, short}
use Rattle.krb_exchange.specs.Table.{enc_krb_priv_part}
use Rattle.krb_exchange.specs.Layouts.{enc_krb_priv_part_row}
use Rattle.krb_exchange.proofs.krb_priv.EncKrbPrivPartAsn1.to_contents.Goals as goal

pub finish_application-requires : goal.finish_application-requires
unfolding enc_krb_priv_part enc_krb_priv_part_row
finish_application-requires c =
    short
    (then_optional (then (then_optional (then_optional (then_optional (then (begun _ (enc_krb_priv_part_row c.args.self.now) c.new-fields.ensures)
    c.required.ensures)
    (option_id c.args.self.now.timestamp) c.optional.ensures)
    (option_id c.args.self.now.usec) c.optional-2.ensures)
    (option_id c.args.self.now.seq_number) c.optional-3.ensures)
    c.required-2.ensures)
    refl c.optional-4.ensures)
    c.requires.0

pub returns : goal.returns
unfolding enc_krb_priv_part enc_krb_priv_part_row
returns c =
    completed_in c.finish_application.result
    (then_optional (then (then_optional (then_optional (then_optional (then (begun _ (enc_krb_priv_part_row c.args.self.now) c.new-fields.ensures)
    c.required.ensures)
    (option_id c.args.self.now.timestamp) c.optional.ensures)
    (option_id c.args.self.now.usec) c.optional-2.ensures)
    (option_id c.args.self.now.seq_number) c.optional-3.ensures)
    c.required-2.ensures)
    refl c.optional-4.ensures)
    c.finish_application.ensures
