use Rattle.krb_der.specs.Layout.{items_layout}
use Rattle.krb_messages.proofs.Spellings.{one_spelling_of}
use Rattle.krb_messages.specs.Layouts.{principal_name_layout, host_address_layout, authorization_data_element_layout, encrypted_data_layout, encryption_key_layout, checksum_layout, ticket_layout, transited_encoding_layout, enc_ticket_part_layout, ap_req_layout, authenticator_layout, ap_rep_layout, enc_ap_rep_part_layout}
use Rattle.krb_messages.proofs.laws.one_spelling.Goals as goal

pub returns : goal.returns
returns c = record {
  principal_name = one_spelling_of principal_name_layout;
  host_address = one_spelling_of host_address_layout;
  authorization_data_element = one_spelling_of authorization_data_element_layout;
  encrypted_data = one_spelling_of encrypted_data_layout;
  encryption_key = one_spelling_of encryption_key_layout;
  checksum = one_spelling_of checksum_layout;
  ticket = one_spelling_of ticket_layout;
  transited_encoding = one_spelling_of transited_encoding_layout;
  enc_ticket_part = one_spelling_of enc_ticket_part_layout;
  ap_req = one_spelling_of ap_req_layout;
  authenticator = one_spelling_of authenticator_layout;
  ap_rep = one_spelling_of ap_rep_layout;
  enc_ap_rep_part = one_spelling_of enc_ap_rep_part_layout;
  host_addresses = one_spelling_of (items_layout host_address_layout);
  authorization_data = one_spelling_of (items_layout authorization_data_element_layout);
}
