use Rattle.std.proofs.Common.{refl}
use Rattle.krb_der.proofs.Progress.{begun, then, then_optional, option_id, completed_in, short}
use Rattle.krb_exchange.specs.Table.{krb_error}
use Rattle.krb_exchange.specs.Layouts.{krb_error_row}
use Rattle.krb_exchange.proofs.krb_error.KrbErrorAsn1.to_contents.Goals as goal

pub finish_application-requires : goal.finish_application-requires
unfolding krb_error krb_error_row
finish_application-requires c =
    short
    (then_optional (then_optional (then (then (then_optional (then_optional (
    then (then (then (then_optional (then_optional (then (then (begun _ (krb_error_row c.args.self.now) c.new-fields.ensures)
    c.required.ensures)
    c.required-2.ensures)
    (option_id c.args.self.now.ctime) c.optional.ensures)
    (option_id c.args.self.now.cusec) c.optional-2.ensures)
    c.required-3.ensures)
    c.required-4.ensures)
    c.required-5.ensures)
    (option_id c.args.self.now.crealm) c.optional-3.ensures)
    refl c.optional-4.ensures)
    c.required-6.ensures)
    c.required-7.ensures)
    (option_id c.args.self.now.e_text) c.optional-5.ensures)
    (option_id c.args.self.now.e_data) c.optional-6.ensures)
    c.requires.0

pub returns : goal.returns
unfolding krb_error krb_error_row
returns c =
    completed_in c.finish_application.result
    (then_optional (then_optional (then (then (then_optional (then_optional (
    then (then (then (then_optional (then_optional (then (then (begun _ (krb_error_row c.args.self.now) c.new-fields.ensures)
    c.required.ensures)
    c.required-2.ensures)
    (option_id c.args.self.now.ctime) c.optional.ensures)
    (option_id c.args.self.now.cusec) c.optional-2.ensures)
    c.required-3.ensures)
    c.required-4.ensures)
    c.required-5.ensures)
    (option_id c.args.self.now.crealm) c.optional-3.ensures)
    refl c.optional-4.ensures)
    c.required-6.ensures)
    c.required-7.ensures)
    (option_id c.args.self.now.e_text) c.optional-5.ensures)
    (option_id c.args.self.now.e_data) c.optional-6.ensures)
    c.finish_application.ensures
