-- A token that is written into a buffer: what it is, and that only a short buffer adds a refusal.
use Rattle.std.proofs.Common.{◌≡◌, ℕ, ◌≤◌, ◌<◌, false, List, ◌++◌, length, refl, sym, ap, subst, ◌∙◌, arith, Ok, Err, Result}
use Rattle.std.specs.Prelude.{Option, is_some, nat_le}
use Rattle.std.proofs.lemmas.Bool.{le-leb}
use Rattle.sspi_core.specs.Buffer.{Buffer}
use Rattle.sspi_core.specs.Checks.{Gives, Goes, Holds, Then}
use Rattle.sspi_core.specs.Messages.{write}
use Rattle.sspi_core.specs.declared.buffer.Part.TheVariants.{Token, Stream, Plain}
use Rattle.sspi_core.specs.declared.cause.Cause.{Cause}
use Rattle.sspi_core.specs.declared.cause.Cause.TheVariants.{TooSmall}
use Rattle.sspi_core.specs.declared.error.Error.{Error}
use Rattle.sspi_core.specs.declared.error.Place.TheVariants.{Elsewhere}
use Rattle.sspi_core.proofs.Chain.{passed, gave, same_err}
use Rattle.krb_context.specs.declared.context.Kerberos.{Kerberos}
use Rattle.krb_context.specs.Refusals.{Refuses}
use Rattle.krb_context.specs.Spelled.{spelled, has_part, part_octets}
use Rattle.krb_context.specs.Whole.{text_message}
use Rattle.krb_context.specs.Wrapped.{wrapped_by}
use Rattle.krb_context.specs.Wraps.{Wraps, wrapped}
use Rattle.krb_context.specs.WrapsInto.{WrapsInto, Writes, IsWrappedIn}
use Rattle.krb_context.proofs.ReadyLemmas.{is_wrapped}
use Rattle.krb_context.proofs.WrapLemmas.{stream-after-plain, stream-after-token}
use Rattle.krb_sessions.specs.Gives.{Delivers, IsShort, IsWrapped}

-- the buffers that are made have no stream
no_stream : (context : Kerberos) (key confounder : List ℕ) (sent : List Buffer) → has_part Stream sent ≡ false
    → has_part Stream (wrapped context key confounder sent) ≡ false
unfolding wrapped_by
no_stream context key confounder sent none = ap (λ (o : Option Buffer). is_some o) (stream-after-token _ (write Plain _ sent) ∙ stream-after-plain _ sent) ∙ none

-- so their token is the one part and then the other
parts_spelled : (made : List Buffer) → has_part Stream made ≡ false → spelled made ≡ part_octets Token made ++ part_octets Plain made
unfolding spelled
parts_spelled made none = rw none refl

pub is_token : (context : Kerberos) (confounder text : List ℕ) (made : List Buffer)
    → Wraps context confounder (text_message context.encryption_params.ec text) (Ok made) → IsWrapped context confounder text (spelled made)
is_token context confounder text made h =
    let w = is_wrapped context confounder (text_message context.encryption_params.ec text) made h in
    let none : has_part Stream made ≡ false =
    ap (has_part Stream) w.is ∙ no_stream context w.key confounder (text_message context.encryption_params.ec text) w.ready.stream in
    record { made = made; wraps = h; joined = parts_spelled made none }

-- the checks make one list of buffers
pub made_once : (context : Kerberos) (confounder : List ℕ) (sent one other : List Buffer) → Wraps context confounder sent (Ok one) → Wraps context confounder sent (Ok other)
    → one ≡ other
made_once context confounder sent one other h k =
    let v = is_wrapped context confounder sent one h in
    let w = is_wrapped context confounder sent other k in
    let ready_v = v.ready.ready in
    let ready_w = w.ready.ready in
    let key : v.key ≡ w.key = cc in
    v.is ∙ ap (λ (key : List ℕ). wrapped context key confounder sent) key ∙ sym w.is

-- what was written is a token
pub delivers : (context : Kerberos) (confounder text old new : List ℕ) (room count : ℕ) → Writes (WrapsInto context confounder text room) old count new
    → Delivers (IsWrapped context confounder text) old count new
unfolding WrapsInto
delivers context confounder text old new room count h =
    let one = passed _ _ _ h.given in
    let two = passed _ _ _ one.rest_held in
    let same : h.octets ≡ spelled one.found = gave _ _ two.rest_held in
    record {
      octets = h.octets;
      given = subst (IsWrapped context confounder text) (sym same) (is_token context confounder text one.found one.first_held);
      counted = h.counted;
      put = h.put;
    }

-- a buffer that is shorter than the token
pub is_short : (context : Kerberos) (confounder text : List ℕ) (room count : ℕ) → IsWrappedIn context confounder text count → room < count
    → IsShort (IsWrapped context confounder text) room count
is_short context confounder text room count w short =
    record { octets = spelled w.buffers; given = is_token context confounder text w.buffers w.wraps; counted = sym w.sized; short = short }

-- a buffer that is long enough adds no refusal
held_by_room : (n room : ℕ) (cause : Cause) → n ≤ room → Holds TooSmall (nat_le n room) (Err cause) → ⊥
held_by_room n room cause fits h = let e = rw (le-leb n room fits) at h.is in absurd cc

from_room : (token : List ℕ) (n room : ℕ) (cause : Cause) (middle : Result (Unit {0}) Cause) → n ≤ room → Holds TooSmall (nat_le n room) middle
    → Goes (λ (x : Unit {0}). Gives token) middle (Err cause) → ⊥
from_room token n room cause (Ok x) fits h rest = let e = rest.is in absurd cc
from_room token n room cause (Err other) fits h rest = held_by_room n room other fits h

from_checks : (context : Kerberos) (confounder text : List ℕ) (room count : ℕ) (cause : Cause) (middle : Result (List Buffer) Cause)
    → IsWrappedIn context confounder text count → count ≤ room
    → Wraps context confounder (text_message context.encryption_params.ec text) middle
    → Goes (λ (b : List Buffer). Then (Holds TooSmall (nat_le (length (spelled b)) room)) (λ (x : Unit {0}). Gives (spelled b))) middle (Err cause)
    → Wraps context confounder (text_message context.encryption_params.ec text) (Err cause)
from_checks context confounder text room count cause (Err other) w fits h rest =
    subst (λ (e : Cause). Wraps context confounder (text_message context.encryption_params.ec text) (Err e)) (sym (same_err {A = List ℕ} cause other rest)) h
from_checks context confounder text room count cause (Ok made) w fits h rest =
    let same : made ≡ w.buffers = made_once context confounder (text_message context.encryption_params.ec text) made w.buffers h w.wraps in
    let size : length (spelled made) ≤ room = omega (arith, ap (λ (b : List Buffer). length (spelled b)) same, w.sized) in
    absurd (from_room (spelled made) (length (spelled made)) room cause rest.middle size rest.held rest.rest)

pub refused_alone : (context : Kerberos) (confounder text : List ℕ) (room count : ℕ) (error : Error) → IsWrappedIn context confounder text count → count ≤ room
    → Refuses Elsewhere (WrapsInto context confounder text room) error
    → Refuses Elsewhere (Wraps context confounder (text_message context.encryption_params.ec text)) error
unfolding WrapsInto
refused_alone context confounder text room count error w fits h = record {
  so = λ ne. let r = h.so ne in (r.0, r.1, from_checks context confounder text room count r.0 r.2.middle w fits r.2.held r.2.rest);
}
