-- A frame is read in one way only: octets that are a frame determine its object identifier and its message.
use Rattle.std.proofs.Common.{◌≡◌, ℕ, ◌^◌, ◌<◌, List, [], ◌++◌, length, drop, Result, Ok, Err, refl, sym, ap, ◌∙◌, arith}
use Rattle.std.specs.Prelude.{OnErr}
use Rattle.std.proofs.lemmas.Option.{some_pair_parts}
use Rattle.std.proofs.lemmas.List.{append-nil, length-append, drop_at}
use Rattle.krb_der.specs.Der.{tlv, StandsNext, NoneNext}
use Rattle.krb_der.specs.Reading.{next_value}
use Rattle.krb_der.proofs.Values.{value_again}
use Rattle.krb_der.proofs.Lengths.{length-tlv}
use Rattle.krb_messages.specs.Frame.{IsFrame, NoFrame}

pub refused : {T E : Type 0} (r : Result T E) (token_id octets : List ℕ) → NoFrame token_id octets → OnErr r (NoFrame token_id octets)
refused (Ok x) token_id octets none = tt
refused (Err e) token_id octets none = none

-- Two values of a tag at one place have the same contents, and the same octets follow them.
same_value : (tag : ℕ) (contents rest other after : List ℕ) → length contents < 2 ^ 31 → length other < 2 ^ 31 → tlv tag contents ++ rest ≡ tlv tag other ++ after → (contents ≡ other) × (rest ≡ after)
same_value tag contents rest other after short small e =
    some_pair_parts contents other rest after (sym (value_again tag contents rest short) ∙ ap (next_value tag) e ∙ value_again tag other after small)

stands : (tag : ℕ) (contents octets rest : List ℕ) → StandsNext tag contents octets rest → octets ≡ tlv tag contents ++ rest
stands tag contents octets rest s = s.parts ∙ ap (λ (value : List ℕ). value ++ rest) s.is_value.is

module _ (oid token_id message octets : List ℕ) (frame : IsFrame oid token_id message octets) where
  abbrev inside : List ℕ
  inside = tlv 0x06 oid ++ (token_id ++ message)

  oid_short : length oid < 2 ^ 31
  oid_short = omega (arith, frame.is.short, length-append (tlv 0x06 oid) (token_id ++ message), length-tlv 0x06 oid)

  -- The octets begin with the frame's value,
  pub frame_stands : NoneNext 0x60 octets → ⊥
  frame_stands none = none inside [] (record { value = octets; is_value = frame.is; parts = sym (append-nil octets) })

  -- the value has these contents, and nothing follows it.
  pub frame_opens : (contents rest : List ℕ) → StandsNext 0x60 contents octets rest → (contents ≡ inside) × (rest ≡ [])
  frame_opens contents rest s =
      same_value 0x60 contents rest inside [] s.is_value.short frame.is.short (sym (stands 0x60 contents octets rest s) ∙ frame.is.is ∙ sym (append-nil (tlv 0x60 inside)))

  -- The contents begin with the object identifier,
  pub oid_stands : (contents rest : List ℕ) → StandsNext 0x60 contents octets rest → NoneNext 0x06 contents → ⊥
  oid_stands contents rest s none =
      none oid (token_id ++ message) (record { value = tlv 0x06 oid; is_value = record { short = oid_short; is = refl }; parts = (frame_opens contents rest s).0 })

  -- and the token id and the message follow the object identifier.
  pub oid_opens : (contents rest name after : List ℕ) → StandsNext 0x60 contents octets rest → StandsNext 0x06 name contents after → (name ≡ oid) × (after ≡ token_id ++ message)
  oid_opens contents rest name after s t =
      same_value 0x06 name after oid (token_id ++ message) t.is_value.short oid_short (sym (stands 0x06 name contents after t) ∙ (frame_opens contents rest s).0)

-- Octets are a frame if they are one value whose contents are a nonempty object identifier, the token id and the message.
pub frame_found : (oid token_id message contents octets after : List ℕ) → StandsNext 0x60 contents octets [] → StandsNext 0x06 oid contents after → 0 < length oid → after ≡ token_id ++ message → IsFrame oid token_id message octets
frame_found oid token_id message contents octets after s t named e =
    let inside : contents ≡ tlv 0x06 oid ++ (token_id ++ message) = stands 0x06 oid contents after t ∙ ap (λ (w : List ℕ). tlv 0x06 oid ++ w) e in
    let whole : octets ≡ tlv 0x60 contents = stands 0x60 contents octets [] s ∙ append-nil (tlv 0x60 contents) in
    record { named = named; is = rw (← inside) (record { short = s.is_value.short; is = whole }) }

-- An object identifier is shorter than a frame's contents that begin with it.
pub oid_is_shorter : (oid after : List ℕ) → length (tlv 0x06 oid ++ after) < 2 ^ 31 → length oid < 2 ^ 31
oid_is_shorter oid after short = omega (arith, length-append (tlv 0x06 oid) after, length-tlv 0x06 oid)

-- Octets are one frame at the most.
pub one_frame_lem : (oid other token_id message another octets : List ℕ) → IsFrame oid token_id message octets → IsFrame other token_id another octets → (oid ≡ other) × (message ≡ another)
one_frame_lem oid other token_id message another octets f g =
    let here = inside oid token_id message octets f in
    let there = inside other token_id another octets g in
    let stand : StandsNext 0x60 here octets [] = record { value = octets; is_value = f.is; parts = sym (append-nil octets) } in
    let same = same_value 0x06 oid (token_id ++ message) other (token_id ++ another) (oid_short oid token_id message octets f) (oid_short other token_id another octets g) (frame_opens other token_id another octets g here [] stand).0 in
    (same.0, sym (drop_at token_id message (length token_id) refl) ∙ ap (drop (length token_id)) same.1 ∙ drop_at token_id another (length token_id) refl)

-- A frame with a token id is also a frame with an empty one, whose message is everything after the object identifier.
pub opens_all : (oid token_id message octets : List ℕ) → IsFrame oid token_id message octets → IsFrame oid [] (token_id ++ message) octets
opens_all oid token_id message octets f = record { named = f.named; is = f.is }

-- A frame with fewer than two octets after its object identifier is no frame with a token id of two octets.
pub none_fits : (found inside octets : List ℕ) → IsFrame found [] inside octets → length inside < 2 → (token_id : List ℕ) → length token_id ≡ 2 → NoFrame token_id octets
none_fits found inside octets f short token_id two oid message g =
    let same = (one_frame_lem found oid [] inside (token_id ++ message) octets f (opens_all oid token_id message octets g)).1 in
    omega (arith, short, ap length same, length-append token_id message, two)

-- Octets are one frame at the most, whatever the two octets of token id are.
pub one_any_frame : (oid other i j message another octets : List ℕ) → length i ≡ 2 → length j ≡ 2 → IsFrame oid i message octets → IsFrame other j another octets → message ≡ another
one_any_frame oid other i j message another octets two also f g =
    let e = (one_frame_lem oid other [] (i ++ message) (j ++ another) octets (opens_all oid i message octets f) (opens_all other j another octets g)).1 in
    sym (drop_at i message 2 two) ∙ ap (drop 2) e ∙ drop_at j another 2 also
