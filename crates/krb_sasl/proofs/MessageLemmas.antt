-- Messages of a layer: how long they are, and what is known of a frame.
use Rattle.std.proofs.Common.{◌≡◌, ℕ, ◌+◌, ◌<◌, ◌^◌, Bool, true, List, ◌++◌, length, sym, ap, ◌∙◌, arith, length-append, Result, Ok, Err}
use Rattle.std.specs.Prelude.{Option, Some}
use Rattle.std.proofs.lemmas.Bool.{leb-true, ltb-true}
use Rattle.std.proofs.lemmas.List.{append-nil, drop_all}
use Rattle.krb_aes.specs.Octets.{IsOctets}
use Rattle.sspi_core.specs.declared.cause.Cause.{Cause}
use Rattle.sspi_core.specs.declared.buffer.Part.TheVariants.{Token, Plain}
use Rattle.sspi_core.specs.Buffer.{Buffer}
use Rattle.krb_context.specs.declared.context.Kerberos.{Kerberos}
use Rattle.krb_context.specs.Spelled.{part_octets}
use Rattle.krb_context.specs.Wraps.{Wraps}
use Rattle.krb_context.specs.WrapsInto.{WrapsInto, Writes, IsWrappedIn}
use Rattle.sspi_core.proofs.Chain.{passed, took, gave, held, follows}
use Rattle.krb_context.proofs.ClearLemmas.{length-clear}
use Rattle.krb_context.proofs.ReadyLemmas.{is_wrapped}
use Rattle.krb_context.proofs.SizeLemmas.{wrapped_sizes}
use Rattle.krb_sasl.specs.declared.channel.Agreement.{Agreement}
use Rattle.krb_sasl.specs.declared.channel.Channel.{Channel}
use Rattle.krb_sasl.specs.declared.error.SaslError.{SaslError}
use Rattle.krb_sasl.specs.declared.error.SaslError.TheVariants.{State, TooLarge, Frame}
use Rattle.krb_sasl.specs.declared.layer.Layer.{Layer}
use Rattle.krb_sasl.specs.declared.layer.Layer.TheVariants.{None as NoLayer, Integrity, Confidentiality}
use Rattle.krb_sasl.specs.Channels.{MakesInLayer, Readies, Unframes, has_flags, sealed_by, context_after_making, context_after_sealing, unsealed_by, channel_after_opening, channel_after_unsealing}
use Rattle.krb_context.specs.ClearWraps.{WrapsClear}
use Rattle.krb_sasl.specs.Frames.{unframed}
use Rattle.krb_sasl.specs.InContext.{InContext, told}
use Rattle.krb_sasl.specs.Layers.{message_size, takes_message}
use Rattle.krb_sasl.specs.Streams.{as_data, WrapsSealed}
use Rattle.krb_sessions.proofs.TokenLemmas.{delivers, is_token, made_once}

-- what the context found
told_value : {A : Type 0} (checks : Result A Cause → Type 0) (x : A) (outcome : Result A Cause) → checks outcome
    → ◌≡◌ {A = Result A SaslError} (Ok x) (told outcome) → checks (Ok x)
told_value checks x (Ok y) h e = let same : y ≡ x = cc in rw same at h
told_value checks x (Err cause) h e = absurd cc

pub context_found : {A : Type 0} (checks : Result A Cause → Type 0) (x : A) → InContext checks (Ok x) → checks (Ok x)
context_found checks x h = told_value checks x h.outcome h.checked h.is

-- what is known of a message that was sealed
pub record IsSealed (context : Kerberos) (confounder p message : List ℕ) : Type 0 where
  pub made : List Buffer
  pub wraps : Wraps context confounder (as_data context.encryption_params.ec p) (Ok made)
  pub is : message ≡ part_octets Token made ++ part_octets Plain made

pub is_sealed : (context : Kerberos) (confounder p message : List ℕ) → WrapsSealed context confounder p (Ok message) → IsSealed context confounder p message
unfolding WrapsSealed
is_sealed context confounder p message h =
    let one = passed _ _ _ h in
    record { made = one.found; wraps = one.first_held; is = gave _ _ one.rest_held }

-- how long a sealed message is
pub length-sealed : (context : Kerberos) (confounder p message : List ℕ) → context.encryption_params.ec < 2 ^ 16 → length confounder ≡ 16
    → IsOctets confounder → IsOctets p
    → WrapsSealed context confounder p (Ok message) → length message ≡ 60 + context.encryption_params.ec + length p
length-sealed context confounder p message small size octets_c octets_p h =
    let s = is_sealed context confounder p message h in
    let sent : List Buffer = as_data context.encryption_params.ec p in
    let w = is_wrapped context confounder sent s.made s.wraps in
    let z = wrapped_sizes context w.key confounder sent small size octets_c octets_p w.ready in
    omega (
      arith,
      ap length s.is,
      length-append (part_octets Token s.made) (part_octets Plain s.made),
      ap (λ (m : List Buffer). length (part_octets Token m)) w.is,
      ap (λ (m : List Buffer). length (part_octets Plain m)) w.is,
      z.token,
      z.plain,
    )

-- a room of the token's length is filled by the message
pub fills : (context : Kerberos) (confounder p old new : List ℕ) (room count : ℕ) → IsWrappedIn context confounder p room → length old ≡ room
    → Writes (WrapsInto context confounder p (length old)) old count new → WrapsSealed context confounder p (Ok new)
unfolding WrapsSealed
fills context confounder p old new room count w size h =
    let d = delivers context confounder p old new (length old) count h in
    let sent : List Buffer = as_data context.encryption_params.ec p in
    let joined = λ (made : List Buffer). part_octets Token made ++ part_octets Plain made in
    let whole = is_token context confounder p w.buffers w.wraps in
    let same : d.given.made ≡ whole.made = made_once context confounder sent d.given.made whole.made d.given.wraps whole.wraps in
    let long : length d.octets ≡ room = ap length (d.given.joined ∙ ap joined same ∙ sym whole.joined) ∙ w.sized in
    let is : new ≡ d.octets = d.put ∙ ap (λ (s : List ℕ). d.octets ++ s) (drop_all (length d.octets) old (omega (arith, long, size))) ∙ append-nil d.octets in
    follows _ _ d.given.made _ d.given.wraps (record { is = ap Ok (is ∙ d.given.joined) })

-- how long the message of a layer is
pub length-made : (layer : Layer) (context : Kerberos) (confounder p message : List ℕ) → context.encryption_params.ec < 2 ^ 16 → length confounder ≡ 16
    → IsOctets confounder → IsOctets p
    → MakesInLayer layer context confounder p (Ok message) → length message ≡ message_size layer context.encryption_params.ec (length p)
length-made NoLayer context confounder p message small size octets_c octets_p h = ap length (gave _ _ h)
length-made Integrity context confounder p message small size octets_c octets_p h = length-clear context p message (context_found (WrapsClear context p) message h)
length-made Confidentiality context confounder p message small size octets_c octets_p h =
    length-sealed context confounder p message small size octets_c octets_p (context_found (WrapsSealed context confounder p) message h)

-- a message that an end takes
pub taken_size : (layer : Layer) (size n : ℕ) → size < 2 ^ 32 → takes_message layer size n ≡ true → n < 2 ^ 32
taken_size NoLayer size n small e = omega (arith, ltb-true n (2 ^ 24) e)
taken_size Integrity size n small e = omega (arith, leb-true n size e)
taken_size Confidentiality size n small e = omega (arith, leb-true n size e)

-- what is known where data may be sealed
pub record IsReady (channel : Channel) (n : ℕ) (agreement : Agreement) : Type 0 where
  pub there : channel.agreement ≡ Some agreement
  pub room : takes_message agreement.layer agreement.peer_size (message_size agreement.layer channel.context.encryption_params.ec n) ≡ true

pub is_ready : (channel : Channel) (n : ℕ) (agreement : Agreement) → Readies channel n (Ok agreement) → IsReady channel n agreement
unfolding Readies
is_ready channel n agreement h =
    let one = passed _ _ _ h in
    let two = passed _ _ _ one.rest_held in
    let same : agreement ≡ one.found = gave _ _ two.rest_held in
    let fits : Agreement → Bool = λ a. takes_message a.layer a.peer_size (message_size a.layer channel.context.encryption_params.ec n) in
    record {
      there = took State channel.agreement one.found one.first_held ∙ ap Some (sym same);
      room = ap fits same ∙ held TooLarge (fits one.found) two.found two.first_held;
    }

-- what is known of a frame
pub record IsUnframed (channel : Channel) (frame : List ℕ) (layer : Layer) (message : List ℕ) : Type 0 where
  pub agreement : Agreement
  pub there : channel.agreement ≡ Some agreement
  pub layer_is : layer ≡ agreement.layer
  pub message_is : unframed frame ≡ Some message
  pub room : takes_message layer channel.size (length message) ≡ true
  pub flags : has_flags layer message ≡ true

pub is_unframed : (channel : Channel) (frame : List ℕ) (layer : Layer) (message : List ℕ) → Unframes channel frame (Ok (layer, message))
    → IsUnframed channel frame layer message
unfolding Unframes
is_unframed channel frame layer message h =
    let one = passed _ _ _ h in
    let two = passed _ _ _ one.rest_held in
    let three = passed _ _ _ two.rest_held in
    let four = passed _ _ _ three.rest_held in
    let same : (layer, message) ≡ (one.found.layer, two.found) = gave _ _ four.rest_held in
    let l : layer ≡ one.found.layer = ap (λ (x : Layer × List ℕ). x.0) same in
    let m : message ≡ two.found = ap (λ (x : Layer × List ℕ). x.1) same in
    record {
      agreement = one.found;
      there = took State channel.agreement one.found one.first_held;
      layer_is = l;
      message_is = took Frame (unframed frame) two.found two.first_held ∙ ap Some (sym m);
      room = ap (λ (x : Layer × List ℕ). takes_message x.0 channel.size (length x.1)) same ∙ held TooLarge _ three.found three.first_held;
      flags = ap (λ (x : Layer × List ℕ). has_flags x.0 x.1) same ∙ held Frame _ four.found four.first_held;
    }

-- the channel after data that it wrapped, and after a frame that it unwrapped
pub sealed_as : (channel new : Channel) (agreement : Agreement) → channel.agreement ≡ Some agreement
    → new ≡ record channel { context = context_after_making agreement.layer channel.context } → new ≡ sealed_by channel
sealed_as channel new agreement there is =
    is ∙ ap (λ (a : Option Agreement). record channel { context = context_after_sealing a channel.context }) (sym there)

pub unsealed_as : (channel new : Channel) (frame message : List ℕ) (layer : Layer) → IsUnframed channel frame layer message
    → new ≡ channel_after_opening layer channel message → new ≡ unsealed_by channel frame
unsealed_as channel new frame message layer u is =
    is
    ∙ ap (λ (l : Layer). channel_after_opening l channel message) u.layer_is
    ∙ ap (λ (m : Option (List ℕ)). channel_after_unsealing (Some u.agreement) m channel) (sym u.message_is)
    ∙ ap (λ (a : Option Agreement). channel_after_unsealing a (unframed frame) channel) (sym u.there)
