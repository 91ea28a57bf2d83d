-- Facts about a message that goes in the clear; the other end opens it.
use Rattle.std.proofs.Common.{◌≡◌, ℕ, ◌+◌, ◌%◌, Bool, true, false, List, ◌++◌, length, take, refl, sym, subst, ap, ◌∙◌, inr, arith, length-append, Ok}
use Rattle.std.specs.Prelude.{Some, ◌==◌}
use Rattle.std.specs.List.{slice_rotate_right}
use Rattle.std.proofs.lemmas.Bool.{eqb-true}
use Rattle.std.proofs.lemmas.List.{append-nil, take_at}
use Rattle.krb_crypto.specs.Hmac.{hmac12}
use Rattle.krb_crypto.specs.Suite.{key_size, kc}
use Rattle.krb_crypto.specs.declared.suite.CipherSuite.{CipherSuite}
use Rattle.krb_crypto.proofs.SealedLemmas.{length-hmac12}
use Rattle.sspi_core.specs.declared.cause.Cause.TheVariants.{Sequence, KeyLength}
use Rattle.sspi_core.specs.declared.buffer.Part.TheVariants.{Plain}
use Rattle.sspi_core.specs.Buffer.{Buffer}
use Rattle.sspi_core.specs.Messages.{find_part}
use Rattle.sspi_core.proofs.Chain.{held, passed, took, gave}
use Rattle.krb_context.specs.declared.context.Kerberos.{Kerberos}
use Rattle.krb_context.specs.declared.params.EncryptionParams.{EncryptionParams}
use Rattle.krb_context.specs.declared.state.KerberosState.{KerberosState}
use Rattle.krb_context.specs.declared.window.NumberVerdict.TheVariants.{Fresh}
use Rattle.krb_context.specs.ClearWraps.{checked_text, clear_key, clear_token, ReadiesClear, WrapsClear}
use Rattle.krb_context.specs.Contexts.{is_acceptor, is_peer_acceptor, next_number}
use Rattle.krb_context.specs.Header.{wrap_header, is_sealed, is_from, rrc_of, number_of, without_counts}
use Rattle.krb_context.specs.Params.{suite_of}
use Rattle.krb_context.specs.Parties.{ready_key, seal_usage, sign_flags, writes_subkey, own_sign_flags}
use Rattle.krb_context.specs.Peers.{ArePeers}
use Rattle.krb_context.specs.Spelled.{spelled}
use Rattle.krb_context.specs.Spelt.{SpeltClear}
use Rattle.krb_context.specs.Unwraps.{has_key_size, has_room, Unwraps, message_number}
use Rattle.krb_context.specs.Window.{number_verdict}
use Rattle.krb_context.proofs.OpenableLemmas.{unwraps_openable}
use Rattle.krb_context.proofs.PeerLemmas.{header_number}
use Rattle.krb_context.proofs.TurnLemmas.{rotated}
use Rattle.krb_context.proofs.WrappedLemmas.{header_size, header_token, header_count}

pub record IsReadyClear (state : KerberosState) (params : EncryptionParams) (key : List ℕ) : Type 0 where
  pub ready : ready_key state params ≡ Some key
  pub sized : has_key_size params key ≡ true
  pub key_length : length key ≡ key_size (suite_of params)

pub is_ready_clear : (state : KerberosState) (params : EncryptionParams) (key : List ℕ) → ReadiesClear state params (Ok key) → IsReadyClear state params key
unfolding ReadiesClear
is_ready_clear state params key h =
    let one = passed _ _ _ h in
    let two = passed _ _ _ one.rest_held in
    let same : key ≡ one.found = gave _ _ two.rest_held in
    let sized : has_key_size params key ≡ true = ap (λ (k : List ℕ). has_key_size params k) same ∙ held KeyLength (has_key_size params one.found) two.found two.first_held in
    record {
      ready = took Sequence (ready_key state params) one.found one.first_held ∙ ap Some (sym same);
      sized = sized;
      key_length = eqb-true (length key) (key_size (suite_of params)) sized;
    }

-- the header of a token that a side makes
abbrev pub clear_header : Kerberos → List ℕ
clear_header context = wrap_header (own_sign_flags context) 12 0 (next_number context.seq_number)

-- the checksum of such a token under a key
abbrev pub clear_code_of : Kerberos → List ℕ → List ℕ → List ℕ
clear_code_of context key p = hmac12 (clear_key context.encryption_params key (is_acceptor context)) (p ++ without_counts (clear_header context))

-- what is known of a token that was made
pub record IsClear (context : Kerberos) (p token : List ℕ) : Type 0 where
  pub key : List ℕ
  pub ready : IsReadyClear context.state context.encryption_params key
  pub is : token ≡ clear_header context ++ (p ++ clear_code_of context key p)

pub is_clear : (context : Kerberos) (p token : List ℕ) → WrapsClear context p (Ok token) → IsClear context p token
unfolding WrapsClear clear_token checked_text
is_clear context p token h =
    let one = passed _ _ _ h in
    record { key = one.found; ready = is_ready_clear _ _ _ one.first_held; is = gave _ _ one.rest_held }

-- how long a token is
pub length-clear : (context : Kerberos) (p token : List ℕ) → WrapsClear context p (Ok token) → length token ≡ 28 + length p
length-clear context p token h =
    let m = is_clear context p token h in
    let code : List ℕ = clear_code_of context m.key p in
    omega (
      arith,
      ap length m.is,
      length-append (clear_header context) (p ++ code),
      length-append p code,
      length-hmac12 (clear_key context.encryption_params m.key (is_acceptor context)) (p ++ without_counts (clear_header context)),
      header_size (own_sign_flags context) 12 0 (next_number context.seq_number),
    )

-- the number of a token
pub number-clear : (context : Kerberos) (p token : List ℕ) → WrapsClear context p (Ok token) → number_of (take 16 token) ≡ next_number context.seq_number
number-clear context p token h =
    let m = is_clear context p token h in
    let number : ℕ = next_number context.seq_number in
    let flags : ℕ = own_sign_flags context in
    ap (λ (s : List ℕ). number_of s) (ap (take 16) m.is ∙ take_at (clear_header context) (p ++ clear_code_of context m.key p) 16 (header_size flags 12 0 number))
    ∙ header_number flags 12 0 number (omega arith)

-- ---- the header that a writer makes

clear_sealed : (subkey acceptor : Bool) (ec rrc number : ℕ) → is_sealed (wrap_header (sign_flags subkey acceptor) ec rrc number) ≡ false
unfolding wrap_header
clear_sealed true true ec rrc number = refl
clear_sealed true false ec rrc number = refl
clear_sealed false true ec rrc number = refl
clear_sealed false false ec rrc number = refl

clear_side : (subkey acceptor : Bool) (ec rrc number : ℕ) → is_from acceptor (wrap_header (sign_flags subkey acceptor) ec rrc number) ≡ true
unfolding wrap_header
clear_side true true ec rrc number = refl
clear_side true false ec rrc number = refl
clear_side false true ec rrc number = refl
clear_side false false ec rrc number = refl

clear_turn : (flags ec number : ℕ) → rrc_of (wrap_header flags ec 0 number) ≡ 0
unfolding wrap_header
clear_turn flags ec number = refl

not_turned : (body : List ℕ) (turn : ℕ) → turn ≡ 0 → body ≡ slice_rotate_right body (turn % length body)
not_turned body turn e =
    let zero_turn : turn % length body ≡ 0 = rw e (omega arith) in
    rotated body body 0 (omega arith) (sym (append-nil body)) ∙ ap (slice_rotate_right body) (sym zero_turn)

-- the token spells its text
clear_spells : (context : Kerberos) (p token : List ℕ) (m : IsClear context p token) (buffers : List Buffer) → spelled buffers ≡ token
    → SpeltClear (clear_key context.encryption_params m.key (is_acceptor context)) (is_acceptor context) buffers p
clear_spells context p token m buffers text =
    let side : Bool = is_acceptor context in
    let number : ℕ = next_number context.seq_number in
    let h : List ℕ = clear_header context in
    let body : List ℕ = p ++ clear_code_of context m.key p in
    record {
      header = h;
      body = body;
      text = text ∙ m.is;
      header_size = header_size (own_sign_flags context) 12 0 number;
      token = header_token (own_sign_flags context) 12 0 number;
      sealed = clear_sealed (writes_subkey context) side 12 0 number;
      side = clear_side (writes_subkey context) side 12 0 number;
      whole = body;
      clear_as = record { count = header_count (own_sign_flags context) 12 0 number (omega arith); is = refl };
      is = not_turned body (rrc_of h) (clear_turn (own_sign_flags context) 12 number);
    }

-- what one end wraps in the clear the other opens
pub clear_opens_there : (sender receiver : Kerberos) (p token : List ℕ) (received : List Buffer) (plain : Buffer) → ArePeers sender receiver → WrapsClear sender p (Ok token)
    → spelled received ≡ token → find_part Plain received ≡ Some plain → has_room received plain (length p) ≡ true
    → number_verdict receiver.window (next_number sender.seq_number) ≡ Fresh → Unwraps receiver received (Ok p)
clear_opens_there sender receiver p token received plain peers h text found room fresh =
    let m = is_clear sender p token h in
    let params = receiver.encryption_params in
    let side : Bool = is_acceptor sender in
    let peer : Bool = is_peer_acceptor receiver in
    let here : SpeltClear (clear_key sender.encryption_params m.key side) side received p = clear_spells sender p token m received text in
    let P : CipherSuite → Bool → Type 0 = λ suite acceptor. SpeltClear (kc suite m.key (seal_usage acceptor)) acceptor received p in
    let one : P (suite_of params) side = subst (λ s. P s side) peers.suite here in
    let there : P (suite_of params) peer = subst (λ a. P (suite_of params) a) peers.roles one in
    let number : message_number received ≡ next_number sender.seq_number = ap (λ (s : List ℕ). number_of (take 16 s)) text ∙ number-clear sender p token h in
    let sized : has_key_size params m.key ≡ true = ap (λ (s : CipherSuite). length m.key == key_size s) (sym peers.suite) ∙ m.ready.sized in
    unwraps_openable receiver m.key p received plain (sym peers.key ∙ m.ready.ready) sized found
    (record { spelling = inr there; room = room; fresh = ap (λ (n : ℕ). number_verdict receiver.window n) number ∙ fresh })
