-- A message that one end wraps is opened by the other.
use Rattle.std.proofs.Common.{◌≡◌, ℕ, ◌+◌, ◌<◌, ◌^◌, Bool, true, List, ◌++◌, length, take, drop, sym, subst, ap, ◌∙◌, inl, arith, Ok}
use Rattle.std.specs.Prelude.{◌==◌}
use Rattle.std.proofs.lemmas.List.{append_assoc, take_at, take-append-drop}
use Rattle.std.proofs.lemmas.Nat.{from_be_bytes-to_be_bytes_4}
use Rattle.krb_aes.specs.Aes.{aes}
use Rattle.krb_aes.specs.Octets.{IsOctets}
use Rattle.krb_crypto.specs.Cts.{cts}
use Rattle.krb_crypto.specs.Hmac.{hmac12}
use Rattle.krb_crypto.specs.Suite.{key_size}
use Rattle.krb_crypto.specs.SealingPair.{SealingPair, sealing_pair}
use Rattle.krb_crypto.specs.declared.suite.CipherSuite.{CipherSuite}
use Rattle.sspi_core.specs.declared.buffer.Part.TheVariants.{Plain}
use Rattle.sspi_core.specs.Buffer.{Buffer}
use Rattle.krb_context.specs.declared.context.Kerberos.{Kerberos}
use Rattle.krb_context.specs.declared.window.NumberVerdict.TheVariants.{Fresh}
use Rattle.krb_context.specs.Contexts.{is_acceptor, is_peer_acceptor, next_number}
use Rattle.krb_context.specs.Header.{wrap_header, ec_of, number_of}
use Rattle.krb_context.specs.Params.{suite_of}
use Rattle.krb_context.specs.Parties.{seal_usage, writes_subkey, own_seal_flags, keys_of}
use Rattle.krb_context.specs.Peers.{ArePeers, IsDelivered}
use Rattle.krb_context.specs.Spelled.{part_octets, spelled, covered}
use Rattle.krb_context.specs.Spelt.{sealed_body, IsSealedAs, Spelt}
use Rattle.krb_context.specs.Unwraps.{count_for, has_key_size, Unwraps, message_number}
use Rattle.krb_context.specs.Window.{number_verdict}
use Rattle.krb_context.specs.Wrapped.{written_body, wrapped_by}
use Rattle.krb_context.specs.Wraps.{wrapped}
use Rattle.krb_context.proofs.OpenableLemmas.{unwraps_openable}
use Rattle.krb_context.proofs.ReadyLemmas.{IsReady}
use Rattle.krb_context.proofs.TurnLemmas.{halves}
use Rattle.krb_context.proofs.UnwrapLemmas.{count_kept}
use Rattle.krb_context.proofs.WrappedLemmas.{wrapped_spells, spelled-wrapped, header_size}

-- ---- a text in other buffers

resealed : (keys : SealingPair) (ec : ℕ) (header : List ℕ) (a b : List Buffer) (whole p : List ℕ) → covered p b ≡ covered p a
    → IsSealedAs keys ec header a whole p → IsSealedAs keys ec header b whole p
unfolding sealed_body
resealed keys ec header a b whole p same s = record {
  confounder = s.confounder;
  confounder_size = s.confounder_size;
  filler = s.filler;
  filler_size = s.filler_size;
  copy = s.copy;
  copied = s.copied;
  octets = s.octets;
  is =
      s.is
      ∙ ap (λ (c : List ℕ). cts (aes keys.encryption) (s.confounder ++ p ++ s.filler ++ s.copy) ++ hmac12 keys.integrity (s.confounder ++ c ++ s.filler ++ s.copy)) (sym same);
}

pub respelt : (keys : SealingPair) (acceptor : Bool) (ec : ℕ) (a b : List Buffer) (p : List ℕ) → spelled b ≡ spelled a → covered p b ≡ covered p a
    → Spelt keys acceptor ec a p → Spelt keys acceptor ec b p
respelt keys acceptor ec a b p text beside s = record {
  header = s.header;
  body = s.body;
  text = text ∙ s.text;
  header_size = s.header_size;
  token = s.token;
  sealed = s.sealed;
  side = s.side;
  count = s.count;
  whole = s.whole;
  sealed_as = resealed keys ec s.header a b s.whole p beside s.sealed_as;
  is = s.is;
}

-- ---- the number that is read

pub header_number : (flags ec rrc number : ℕ) → number < 2 ^ 32 → number_of (wrap_header flags ec rrc number) ≡ number
unfolding wrap_header
header_number flags ec rrc number small = from_be_bytes-to_be_bytes_4 number small

-- the octets of a message that was wrapped
pub text_made : (sender : Kerberos) (key confounder : List ℕ) (sent : List Buffer) → IsReady sender.state sender.encryption_params sent key
    → spelled (wrapped sender key confounder sent)
    ≡ wrap_header (own_seal_flags sender) sender.encryption_params.ec 28 (next_number sender.seq_number)
    ++ written_body (keys_of sender.encryption_params key (is_acceptor sender)) (own_seal_flags sender) sender.encryption_params.ec (next_number sender.seq_number) confounder sent
unfolding wrapped_by
text_made sender key confounder sent ready =
    let ec : ℕ = sender.encryption_params.ec in
    let h : List ℕ = wrap_header (own_seal_flags sender) ec 28 (next_number sender.seq_number) in
    let body : List ℕ = written_body (keys_of sender.encryption_params key (is_acceptor sender)) (own_seal_flags sender) ec (next_number sender.seq_number) confounder sent in
    spelled-wrapped (h ++ take (44 + ec) body) (drop (44 + ec) body) sent ready.token ready.plain ready.stream
    ∙ append_assoc h (take (44 + ec) body) (drop (44 + ec) body) ∙ ap (λ (s : List ℕ). h ++ s) (take-append-drop (44 + ec) body)

-- the number of a message that was wrapped
pub number_made : (sender : Kerberos) (key confounder : List ℕ) (sent : List Buffer) → IsReady sender.state sender.encryption_params sent key
    → message_number (wrapped sender key confounder sent) ≡ next_number sender.seq_number
number_made sender key confounder sent ready =
    let ec : ℕ = sender.encryption_params.ec in
    let side : Bool = is_acceptor sender in
    let number : ℕ = next_number sender.seq_number in
    let h : List ℕ = wrap_header (own_seal_flags sender) ec 28 number in
    let body : List ℕ = written_body (keys_of sender.encryption_params key side) (own_seal_flags sender) ec number confounder sent in
    ap (λ (s : List ℕ). number_of s)
    (ap (take 16) (text_made sender key confounder sent ready) ∙ take_at h body 16 (header_size (own_seal_flags sender) ec 28 number))
    ∙ header_number (own_seal_flags sender) ec 28 number (omega arith)

-- the text is spelt at the other end
spelt_there : (sender receiver : Kerberos) (key confounder : List ℕ) (sent received : List Buffer) → ArePeers sender receiver → length confounder ≡ 16 → IsOctets confounder
    → IsOctets (part_octets Plain sent) → IsReady sender.state sender.encryption_params sent key → IsDelivered (part_octets Plain sent) (wrapped sender key confounder sent) received
    → Spelt (keys_of receiver.encryption_params key (is_peer_acceptor receiver)) (is_peer_acceptor receiver) receiver.encryption_params.ec received (part_octets Plain sent)
spelt_there sender receiver key confounder sent received peers size octets_c octets_p ready delivered =
    let side : Bool = is_acceptor sender in
    let peer : Bool = is_peer_acceptor receiver in
    let p : List ℕ = part_octets Plain sent in
    let made : List Buffer = wrapped sender key confounder sent in
    let here : Spelt (keys_of sender.encryption_params key side) side sender.encryption_params.ec made p =
    wrapped_spells (keys_of sender.encryption_params key side) (writes_subkey sender) side sender.encryption_params.ec (next_number sender.seq_number) confounder sent peers.small size octets_c octets_p
    ready.token ready.plain ready.stream in
    let P : CipherSuite → Bool → ℕ → Type 0 = λ suite acceptor ec. Spelt (sealing_pair suite key (seal_usage acceptor)) acceptor ec made p in
    let one : P (suite_of receiver.encryption_params) side sender.encryption_params.ec = subst (λ s. P s side sender.encryption_params.ec) peers.suite here in
    let two : P (suite_of receiver.encryption_params) peer sender.encryption_params.ec = subst (λ a. P (suite_of receiver.encryption_params) a sender.encryption_params.ec) peers.roles one in
    let three : P (suite_of receiver.encryption_params) peer receiver.encryption_params.ec = subst (λ n. P (suite_of receiver.encryption_params) peer n) peers.filler two in
    respelt (keys_of receiver.encryption_params key peer) peer receiver.encryption_params.ec made received p delivered.text delivered.beside three

-- what one end wraps the other opens
pub opens_there : (sender receiver : Kerberos) (key confounder : List ℕ) (sent received : List Buffer) → ArePeers sender receiver → length confounder ≡ 16 → IsOctets confounder
    → IsOctets (part_octets Plain sent) → IsReady sender.state sender.encryption_params sent key → IsDelivered (part_octets Plain sent) (wrapped sender key confounder sent) received
    → number_verdict receiver.window (next_number sender.seq_number) ≡ Fresh → Unwraps receiver received (Ok (part_octets Plain sent))
opens_there sender receiver key confounder sent received peers size octets_c octets_p ready delivered fresh =
    let number : ℕ = next_number sender.seq_number in
    let there : message_number received ≡ number =
    ap (λ (text : List ℕ). number_of (take 16 text)) delivered.text ∙ number_made sender key confounder sent ready in
    let sized : has_key_size receiver.encryption_params key ≡ true = ap (λ (s : CipherSuite). length key == key_size s) (sym peers.suite) ∙ ready.sized in
    let ec : ℕ = receiver.encryption_params.ec in
    let peer : Bool = is_peer_acceptor receiver in
    let s = spelt_there sender receiver key confounder sent received peers size octets_c octets_p ready delivered in
    let front : s.header ≡ take 16 (spelled received) = (halves (spelled received) s.header s.body s.text s.header_size).0 in
    let kept : count_for receiver.rules ec (spelled received) ≡ ec =
    count_kept receiver.rules ec (spelled received) (ap (λ (h : List ℕ). ec_of h) (sym front) ∙ s.count) in
    unwraps_openable receiver key (part_octets Plain sent) received delivered.plain (sym peers.key ∙ ready.ready) sized delivered.found
    (record {
      spelling =
          inl (subst (λ (n : ℕ). Spelt (keys_of receiver.encryption_params key peer) peer n received (part_octets Plain sent)) (sym kept) s);
      room = delivered.room;
      fresh = ap (λ (n : ℕ). number_verdict receiver.window n) there ∙ fresh;
    })
