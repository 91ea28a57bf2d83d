use Rattle.krb_der.proofs.Progress.{begun, then, then_optional, option_id, completed}
use Rattle.krb_exchange.specs.Table.{etype_info2_entry}
use Rattle.krb_exchange.specs.Layouts.{etype_info2_entry_row}
use Rattle.krb_exchange.proofs.pa_data.EtypeInfo2EntryAsn1.to_contents.Goals as goal

pub returns : goal.returns
unfolding etype_info2_entry etype_info2_entry_row
returns c =
    completed c.finish.result
    (then_optional (then_optional (then (begun _ (etype_info2_entry_row c.args.self.now) c.new-fields.ensures)
    c.required.ensures)
    (option_id c.args.self.now.salt) c.optional.ensures)
    (option_id c.args.self.now.s2kparams) c.optional-2.ensures)
    c.finish.ensures
