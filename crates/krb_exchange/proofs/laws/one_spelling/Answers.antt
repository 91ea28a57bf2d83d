use Rattle.krb_der.specs.Layout.{items_layout}
use Rattle.krb_messages.proofs.Spellings.{one_spelling_of}
use Rattle.krb_exchange.specs.Layouts.{pa_data_layout, etype_info2_entry_layout, pa_enc_ts_enc_layout, kerb_pa_pac_request_layout}
use Rattle.krb_exchange.specs.Layouts.{pa_pac_options_layout, kdc_req_body_layout, kdc_req_layout, as_req_layout, tgs_req_layout, kdc_rep_layout}
use Rattle.krb_exchange.specs.Layouts.{as_rep_layout, tgs_rep_layout, last_req_entry_layout, enc_kdc_rep_part_layout, enc_as_rep_part_layout}
use Rattle.krb_exchange.specs.Layouts.{enc_tgs_rep_part_layout, krb_error_layout, krb_priv_layout, enc_krb_priv_part_layout, tgt_req_layout}
use Rattle.krb_exchange.specs.Layouts.{tgt_rep_layout, kdc_proxy_message_layout}
use Rattle.krb_exchange.proofs.laws.one_spelling.Goals as goal

pub returns : goal.returns
returns c = record {
  pa_data = one_spelling_of pa_data_layout;
  etype_info2_entry = one_spelling_of etype_info2_entry_layout;
  pa_enc_ts_enc = one_spelling_of pa_enc_ts_enc_layout;
  kerb_pa_pac_request = one_spelling_of kerb_pa_pac_request_layout;
  pa_pac_options = one_spelling_of pa_pac_options_layout;
  kdc_req_body = one_spelling_of kdc_req_body_layout;
  kdc_req = one_spelling_of kdc_req_layout;
  as_req = one_spelling_of as_req_layout;
  tgs_req = one_spelling_of tgs_req_layout;
  kdc_rep = one_spelling_of kdc_rep_layout;
  as_rep = one_spelling_of as_rep_layout;
  tgs_rep = one_spelling_of tgs_rep_layout;
  last_req_entry = one_spelling_of last_req_entry_layout;
  enc_kdc_rep_part = one_spelling_of enc_kdc_rep_part_layout;
  enc_as_rep_part = one_spelling_of enc_as_rep_part_layout;
  enc_tgs_rep_part = one_spelling_of enc_tgs_rep_part_layout;
  krb_error = one_spelling_of krb_error_layout;
  krb_priv = one_spelling_of krb_priv_layout;
  enc_krb_priv_part = one_spelling_of enc_krb_priv_part_layout;
  tgt_req = one_spelling_of tgt_req_layout;
  tgt_rep = one_spelling_of tgt_rep_layout;
  kdc_proxy_message = one_spelling_of kdc_proxy_message_layout;
  pa_datas = one_spelling_of (items_layout pa_data_layout);
  etype_info2 = one_spelling_of (items_layout etype_info2_entry_layout);
  last_req = one_spelling_of (items_layout last_req_entry_layout);
}
