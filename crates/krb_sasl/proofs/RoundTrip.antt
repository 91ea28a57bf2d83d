-- Data that one end wraps are unwrapped by the other.
use Rattle.std.proofs.Common.{◌≡◌, ℕ, ◌<◌, ◌≤◌, ◌^◌, Bool, true, false, List, [], ◌++◌, length, drop, refl, sym, subst, ap, ◌∙◌, arith, length-append, Ok}
use Rattle.std.specs.Prelude.{Option, Some, ◌&&◌, ◌||◌, ◌==◌, nat_le, nat_lt, is_some}
use Rattle.std.specs.Int.{w32, to_be_bytes}
use Rattle.std.proofs.lemmas.Bool.{le-leb, leb-true, and_from, eq-eqb}
use Rattle.std.proofs.lemmas.Nat.{from_be_bytes-to_be_bytes_4}
use Rattle.krb_aes.specs.Octets.{IsOctets}
use Rattle.sspi_core.specs.declared.buffer.Part.TheVariants.{Token, Plain, Stream}
use Rattle.sspi_core.specs.Buffer.{Buffer, no_flags}
use Rattle.sspi_core.specs.declared.buffer.BufferType.TheVariants.{Data}
use Rattle.sspi_core.specs.Messages.{write}
use Rattle.krb_messages.specs.Frame.{with_length}
use Rattle.krb_context.specs.declared.context.Kerberos.{Kerberos}
use Rattle.krb_context.specs.declared.window.NumberVerdict.TheVariants.{Fresh}
use Rattle.krb_context.specs.Contexts.{is_acceptor, next_number}
use Rattle.krb_context.specs.Header.{wrap_header, is_sealed}
use Rattle.krb_context.specs.Parties.{seal_flags, sign_flags, writes_subkey, own_seal_flags, keys_of}
use Rattle.krb_context.specs.Peers.{ArePeers}
use Rattle.krb_context.specs.Spelled.{spelled, part_octets, has_part, covered}
use Rattle.krb_context.specs.Unwraps.{Unwraps}
use Rattle.krb_context.specs.Window.{number_verdict}
use Rattle.krb_context.specs.Wrapped.{wrapped_by, written_body}
use Rattle.krb_context.specs.Wraps.{wrapped}
use Rattle.krb_context.proofs.ClearLemmas.{IsClear, is_clear, number-clear, clear_opens_there}
use Rattle.krb_context.proofs.PeerLemmas.{text_made, number_made, opens_there}
use Rattle.krb_context.proofs.ReadyLemmas.{IsReady as IsReadyThere, is_wrapped}
use Rattle.krb_context.proofs.WrapLemmas.{stream-after-token, stream-after-plain}
use Rattle.krb_context.proofs.WrappedLemmas.{covered-wrapped}
use Rattle.krb_sasl.specs.declared.channel.Agreement.{Agreement}
use Rattle.krb_sasl.specs.declared.channel.Channel.{Channel}
use Rattle.krb_sasl.specs.declared.error.SaslError.TheVariants.{State, TooLarge, Frame}
use Rattle.krb_sasl.specs.declared.layer.Layer.{Layer}
use Rattle.krb_sasl.specs.declared.layer.Layer.TheVariants.{None as NoLayer, Integrity, Confidentiality}
use Rattle.krb_sasl.specs.Channels.{MakesInLayer, OpensInLayer, Seals, Unframes, Unseals, has_flags}
use Rattle.sspi_core.specs.Checks.{Holds, Takes, ok_or}
use Rattle.krb_context.specs.ClearWraps.{WrapsClear}
use Rattle.krb_sasl.specs.Ends.{AreEnds, IsTakenFrame}
use Rattle.krb_sasl.specs.Frames.{length_in, unframed}
use Rattle.krb_sasl.specs.Layers.{message_size, takes_message}
use Rattle.krb_sasl.specs.Streams.{as_data, WrapsSealed}
use Rattle.krb_context.specs.Whole.{whole_message}
use Rattle.krb_sessions.specs.Orders.{awaits, token_number}
use Rattle.krb_sessions.specs.declared.order.Order.{Order}
use Rattle.krb_sessions.proofs.OrderLemmas.{unwraps_next}
use Rattle.krb_sasl.proofs.AgreedLemmas.{spelled-stream}
use Rattle.sspi_core.proofs.Chain.{passed, gave, follows, gives}
use Rattle.krb_sasl.proofs.MessageLemmas.{context_found, is_sealed as was_sealed, length-made, taken_size, is_ready}

-- ---- frames

pub record IsSealedFrame (channel : Channel) (confounder p frame : List ℕ) : Type 0 where
  pub agreement : Agreement
  pub there : channel.agreement ≡ Some agreement
  pub room : takes_message agreement.layer agreement.peer_size (message_size agreement.layer channel.context.encryption_params.ec (length p)) ≡ true
  pub message : List ℕ
  pub makes : MakesInLayer agreement.layer channel.context confounder p (Ok message)
  pub is : frame ≡ with_length message

pub is_sealed_frame : (channel : Channel) (confounder p frame : List ℕ) → Seals channel confounder p (Ok frame) → IsSealedFrame channel confounder p frame
unfolding Seals
is_sealed_frame channel confounder p frame h =
    let one = passed _ _ _ h in
    let two = passed _ _ _ one.rest_held in
    let r = is_ready channel (length p) one.found one.first_held in
    record { agreement = one.found; there = r.there; room = r.room; message = two.found; makes = two.first_held; is = gave _ _ two.rest_held }

pub is_taken : (channel : Channel) (confounder p frame : List ℕ) → channel.context.encryption_params.ec < 2 ^ 16 → length confounder ≡ 16
    → IsOctets confounder → IsOctets p
    → Seals channel confounder p (Ok frame) → IsTakenFrame channel frame
is_taken channel confounder p frame small size octets_c octets_p h =
    let s = is_sealed_frame channel confounder p frame h in
    let n = length-made s.agreement.layer channel.context confounder p s.message small size octets_c octets_p s.makes in
    record {
      agreement = s.agreement;
      there = s.there;
      message = s.message;
      is = s.is;
      taken = ap (takes_message s.agreement.layer s.agreement.peer_size) n ∙ s.room;
    }

length_in-framed : (message : List ℕ) → length message < 2 ^ 32 → length_in (with_length message) ≡ length message
length_in-framed message small = from_be_bytes-to_be_bytes_4 (length message) small

pub unframed-framed : (message : List ℕ) → length message < 2 ^ 32 → unframed (with_length message) ≡ Some message
unframed-framed message small =
    let long : nat_le 4 (length (with_length message)) ≡ true = le-leb 4 (length (with_length message)) (omega (arith, length-append (to_be_bytes w32 (length message)) message)) in
    let same : (length_in (with_length message) == length (drop 4 (with_length message))) ≡ true =
    eq-eqb (length_in (with_length message)) (length message) (length_in-framed message small) in
    let both : (nat_le 4 (length (with_length message)) && length_in (with_length message) == length (drop 4 (with_length message))) ≡ true =
    and_from (nat_le 4 (length (with_length message))) (length_in (with_length message) == length (drop 4 (with_length message))) long same in
    rw both refl

-- an end that receives more takes more
takes_more : (layer : Layer) (size more n : ℕ) → size ≤ more → takes_message layer size n ≡ true → takes_message layer more n ≡ true
takes_more NoLayer size more n le e = e
takes_more Integrity size more n le e = let small : n ≤ size = leb-true n size e in le-leb n more (omega (arith, small, le))
takes_more Confidentiality size more n le e = let small : n ≤ size = leb-true n size e in le-leb n more (omega (arith, small, le))

-- ---- in the clear

-- what one end wraps in the clear the other opens
clear_opened : (sender receiver : Kerberos) (p message : List ℕ) → ArePeers sender receiver → WrapsClear sender p (Ok message)
    → number_verdict receiver.window (next_number sender.seq_number) ≡ Fresh → Unwraps receiver (whole_message message) (Ok p)
clear_opened sender receiver p message peers h fresh =
    clear_opens_there sender receiver p message (whole_message message) (record { kind = Data; flags = no_flags; octets = []; limit = 0 }) peers h
    (spelled-stream message) refl refl fresh

-- ---- sealed

spelled_parts : (bs : List Buffer) → has_part Stream bs ≡ false → spelled bs ≡ part_octets Token bs ++ part_octets Plain bs
unfolding spelled
spelled_parts bs none = rw none refl

no_stream : (sender : Kerberos) (key confounder : List ℕ) (sent : List Buffer) → has_part Stream sent ≡ false
    → has_part Stream (wrapped sender key confounder sent) ≡ false
unfolding wrapped_by
no_stream sender key confounder sent none =
    ap (λ (o : Option Buffer). is_some o) (stream-after-token _ (write Plain _ sent) ∙ stream-after-plain _ sent) ∙ none

beside_sealed : (sender : Kerberos) (key confounder p : List ℕ) (sent : List Buffer) → covered p (wrapped sender key confounder sent) ≡ covered p sent
unfolding wrapped_by
beside_sealed sender key confounder p sent = covered-wrapped p _ _ sent

-- what is known of a message that was sealed
record IsSpelled (context : Kerberos) (confounder p message : List ℕ) : Type 0 where
  key : List ℕ
  ready : IsReadyThere context.state context.encryption_params (as_data context.encryption_params.ec p) key
  is : message ≡ spelled (wrapped context key confounder (as_data context.encryption_params.ec p))

is_spelled : (context : Kerberos) (confounder p message : List ℕ) → WrapsSealed context confounder p (Ok message) → IsSpelled context confounder p message
is_spelled context confounder p message h =
    let s = was_sealed context confounder p message h in
    let sent : List Buffer = as_data context.encryption_params.ec p in
    let w = is_wrapped context confounder sent s.made s.wraps in
    let made : List Buffer = wrapped context w.key confounder sent in
    record {
      key = w.key;
      ready = w.ready;
      is =
          s.is ∙ ap (λ (m : List Buffer). part_octets Token m ++ part_octets Plain m) w.is
          ∙ sym (spelled_parts made (no_stream context w.key confounder sent w.ready.stream));
    }

sealed_front : (subkey acceptor : Bool) (ec number : ℕ) (body : List ℕ) → is_sealed (wrap_header (seal_flags subkey acceptor) ec 28 number ++ body) ≡ true
unfolding wrap_header
sealed_front true true ec number body = refl
sealed_front true false ec number body = refl
sealed_front false true ec number body = refl
sealed_front false false ec number body = refl

sealed_flags : (sender : Kerberos) (confounder p message : List ℕ) → IsSpelled sender confounder p message → is_sealed message ≡ true
sealed_flags sender confounder p message s =
    let sent : List Buffer = as_data sender.encryption_params.ec p in
    let body : List ℕ = written_body (keys_of sender.encryption_params s.key (is_acceptor sender)) (own_seal_flags sender) sender.encryption_params.ec (next_number sender.seq_number) confounder sent in
    ap (λ (m : List ℕ). is_sealed m) (s.is ∙ text_made sender s.key confounder sent s.ready)
    ∙ sealed_front (writes_subkey sender) (is_acceptor sender) sender.encryption_params.ec (next_number sender.seq_number) body

-- what one end seals the other opens
sealed_opens_there : (sender receiver : Kerberos) (confounder p message : List ℕ) → ArePeers sender receiver → length confounder ≡ 16 → IsOctets confounder
    → IsOctets p
    → IsSpelled sender confounder p message → number_verdict receiver.window (next_number sender.seq_number) ≡ Fresh → Unwraps receiver (whole_message message) (Ok p)
sealed_opens_there sender receiver confounder p message peers size octets_c octets_p s fresh =
    let sent : List Buffer = as_data sender.encryption_params.ec p in
    opens_there sender receiver s.key confounder sent (whole_message message) peers size octets_c octets_p s.ready
    (record {
      text = spelled-stream message ∙ s.is;
      beside = sym (beside_sealed sender s.key confounder p sent);
      plain = record { kind = Data; flags = no_flags; octets = []; limit = 0 };
      found = refl;
      room = refl;
    }) fresh

-- ---- both ends

clear_front : (subkey acceptor : Bool) (number : ℕ) (body : List ℕ) → is_sealed (wrap_header (sign_flags subkey acceptor) 12 0 number ++ body) ≡ false
unfolding wrap_header
clear_front true true number body = refl
clear_front true false number body = refl
clear_front false true number body = refl
clear_front false false number body = refl

clear_flags : (sender : Kerberos) (p message : List ℕ) → IsClear sender p message → is_sealed message ≡ false
clear_flags sender p message m = ap (λ (s : List ℕ). is_sealed s) m.is ∙ clear_front (writes_subkey sender) (is_acceptor sender) (next_number sender.seq_number) _

or_true : (b : Bool) → (b || true) ≡ true
or_true true = refl
or_true false = refl

made_flags : (layer : Layer) (sender : Kerberos) (confounder p message : List ℕ) → MakesInLayer layer sender confounder p (Ok message) → has_flags layer message ≡ true
made_flags NoLayer sender confounder p message h = refl
made_flags Integrity sender confounder p message h =
    let clear : is_sealed message ≡ false = clear_flags sender p message (is_clear sender p message (context_found (WrapsClear sender p) message h)) in
    rw clear (or_true (nat_lt (length message) 3))
made_flags Confidentiality sender confounder p message h =
    let sealed : is_sealed message ≡ true = sealed_flags sender confounder p message (is_spelled sender confounder p message (context_found (WrapsSealed sender confounder p) message h)) in
    rw sealed (or_true (nat_lt (length message) 3))

-- the number of a message that was sealed
number_sealed : (sender : Kerberos) (confounder p message : List ℕ) → IsSpelled sender confounder p message → token_number message ≡ next_number sender.seq_number
number_sealed sender confounder p message s =
    ap token_number s.is ∙ number_made sender s.key confounder (as_data sender.encryption_params.ec p) s.ready

-- a message of this number is awaited
awaited : (order : Order) (number next : ℕ) → number ≡ next → awaits order next ≡ true → awaits order number ≡ true
awaited order number next same h = ap (awaits order) same ∙ h

made_opens : (layer : Layer) (sender : Kerberos) (receiver : Channel) (confounder p message : List ℕ) → ArePeers sender receiver.context → length confounder ≡ 16
    → IsOctets confounder → IsOctets p
    → number_verdict receiver.context.window (next_number sender.seq_number) ≡ Fresh → awaits receiver.order (next_number sender.seq_number) ≡ true
    → MakesInLayer layer sender confounder p (Ok message) → OpensInLayer layer receiver message (Ok p)
made_opens NoLayer sender receiver confounder p message peers size octets_c octets_p fresh next h = record { is = ap Ok (sym (gave _ _ h)) }
made_opens Integrity sender receiver confounder p message peers size octets_c octets_p fresh next h =
    let made = context_found (WrapsClear sender p) message h in
    record {
      outcome = Ok p;
      checked =
          unwraps_next receiver.order receiver.context message p (clear_opened sender receiver.context p message peers made fresh)
          (awaited receiver.order (token_number message) (next_number sender.seq_number) (number-clear sender p message made) next);
      is = refl;
    }
made_opens Confidentiality sender receiver confounder p message peers size octets_c octets_p fresh next h =
    let made = is_spelled sender confounder p message (context_found (WrapsSealed sender confounder p) message h) in
    record {
      outcome = Ok p;
      checked =
          unwraps_next receiver.order receiver.context message p (sealed_opens_there sender receiver.context confounder p message peers size octets_c octets_p made fresh)
          (awaited receiver.order (token_number message) (next_number sender.seq_number) (number_sealed sender confounder p message made) next);
      is = refl;
    }

some_same : (a b : Agreement) → Some a ≡ Some b → a ≡ b
some_same a b e = cc

takes_there : {A E : Type 0} (refusal : E) (value : Option A) (a : A) → value ≡ Some a → Takes refusal value (Ok a)
takes_there refusal value a e = record { is = sym (ap (ok_or refusal) e) }

holds_there : {E : Type 0} (refusal : E) (test : Bool) → test ≡ true → Holds refusal test (Ok tt)
holds_there refusal true e = record { is = refl }
holds_there refusal false e = absurd cc

pub unseals_there : (sender receiver : Channel) (confounder p frame : List ℕ) → AreEnds sender receiver → length confounder ≡ 16 → IsOctets confounder
    → IsOctets p
    → number_verdict receiver.context.window (next_number sender.context.seq_number) ≡ Fresh
    → awaits receiver.order (next_number sender.context.seq_number) ≡ true → Seals sender confounder p (Ok frame) → Unseals receiver frame (Ok p)
unfolding Unseals Unframes
unseals_there sender receiver confounder p frame ends size octets_c octets_p fresh next h =
    let s = is_sealed_frame sender confounder p frame h in
    let layer : Layer = ends.layer in
    let mine : Agreement = record { layer = layer; peer_size = ends.peer_size } in
    let other : Agreement = record { layer = layer; peer_size = ends.other_size } in
    let same : s.agreement ≡ mine = some_same s.agreement mine (sym s.there ∙ ends.sends) in
    let message : List ℕ = s.message in
    let makes : MakesInLayer layer sender.context confounder p (Ok message) = subst (λ (a : Agreement). MakesInLayer a.layer sender.context confounder p (Ok message)) same s.makes in
    let n : length message ≡ message_size layer sender.context.encryption_params.ec (length p) =
    length-made layer sender.context confounder p message ends.contexts.small size octets_c octets_p makes in
    let room : takes_message layer ends.peer_size (length message) ≡ true =
    ap (takes_message layer ends.peer_size) n
    ∙ subst (λ (a : Agreement). takes_message a.layer a.peer_size (message_size a.layer sender.context.encryption_params.ec (length p)) ≡ true) same s.room in
    let framed : unframed frame ≡ Some message = ap unframed s.is ∙ unframed-framed message (taken_size layer ends.peer_size (length message) ends.small room) in
    follows _ _ (layer, message) _
    (follows _ _ other _ (takes_there State receiver.agreement other ends.receives)
    (follows _ _ message _ (takes_there Frame (unframed frame) message framed)
    (follows _ _ tt _ (holds_there TooLarge (takes_message layer receiver.size (length message)) (takes_more layer ends.peer_size receiver.size (length message) ends.size room))
    (follows _ _ tt _ (holds_there Frame (has_flags layer message) (made_flags layer sender.context confounder p message makes)) (gives (layer, message))))))
    (made_opens layer sender.context receiver confounder p message ends.contexts size octets_c octets_p fresh next makes)
