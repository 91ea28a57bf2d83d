-- The consecutive fields of a header.
use Rattle.std.proofs.Common.{◌≡◌, ℕ, ◌+◌, ◌^◌, ◌<◌, Bool, true, false, cond, eqb, List, [], ◌∷◌, ◌++◌, length, Option, Some, None, refl, sym, ap, subst, ◌∙◌, append_assoc, arith, inl, inr, ◌⊎◌}
use Rattle.std.specs.List.{flat_map, AllByRecursion}
use Rattle.std.specs.Int.{w16, to_be_bytes}
use Rattle.std.proofs.lemmas.Bool.{eqb-true, eq-eqb}
use Rattle.std.proofs.lemmas.List.{length-append}
use Rattle.std.proofs.lemmas.List.Concat.{flat_map-cons}
use Rattle.std.proofs.lemmas.Option.{same_Some, none-some}
use Rattle.krb_ccache.specs.declared.header.TimeOffset.{TimeOffset}
use Rattle.krb_ccache.specs.declared.ccache.Version.{Version}
use Rattle.krb_ccache.specs.declared.ccache.Version.TheVariants.{Three, Four}
use Rattle.krb_ccache.specs.Header.{Field, field_octets, FitsField, IsOther, offset_of, TellsOffset, offset_in, FindsOffset, HasOffset}
use Rattle.krb_ccache.specs.Reading.{number_at, short_counted_at, field_at}
use Rattle.krb_der.proofs.Values.{IsBytes}
use Rattle.krb_ccache.proofs.Codecs.{Takes, Codec, pair_codec}
use Rattle.krb_ccache.proofs.Fields.{codec16, short_counted_codec}

field_codec : Codec field_at field_octets FitsField
unfolding field_at
field_codec =
    pair_codec (number_at w16) (to_be_bytes w16) (λ (n : ℕ). n < 2 ^ 16) short_counted_at (λ (octets : List ℕ). to_be_bytes w16 (length octets) ++ octets) (λ (octets : List ℕ). length octets < 2 ^ 16)
    codec16 short_counted_codec

-- ---- the front of a header that has an offset

-- the offset's own field, or another field and after it a header that has the offset
abbrev IsFront : TimeOffset → Field × List ℕ → Type 0
IsFront offset x = ((x.0.0 ≡ 1) × ((length x.0.1 ≡ 8) × (offset ≡ offset_of x.0.1))) ⊎ ((x.0.0 ≡ 1 → ⊥) × TellsOffset x.1 offset)

abbrev HasFront : TimeOffset → List ℕ → Type 0
HasFront offset octets = (x : Field × List ℕ) × (field_at octets ≡ Some x) × IsFront offset x

regroup : (field : Field) (fields : List Field) (text : List ℕ) → flat_map field_octets (field ∷ fields) ++ text ≡ field_octets field ++ (flat_map field_octets fields ++ text)
regroup field fields text = ap (λ (o : List ℕ). o ++ text) (flat_map-cons field_octets field fields) ∙ append_assoc (field_octets field) (flat_map field_octets fields) text

front_of : (octets : List ℕ) (offset : TimeOffset) (before : List Field) (value behind : List ℕ) → AllByRecursion IsOther before → octets ≡ flat_map field_octets before ++ (field_octets (1, value) ++ behind)
    → length value ≡ 8 → offset ≡ offset_of value → HasFront offset octets
front_of octets offset [] value behind others parts eight is =
    (((1, value), behind), ap field_at parts ∙ field_codec.again (1, value) behind (omega arith, omega (arith, eight)), inl (refl, (eight, is)))
front_of octets offset (field ∷ fields) value behind others parts eight is =
    let text = field_octets (1, value) ++ behind in
    let rest = flat_map field_octets fields ++ text in (
      (field, rest),
      ap field_at (parts ∙ regroup field fields text) ∙ field_codec.again field rest others.0.0,
      inr (others.0.1, record { before = fields; value = value; behind = behind; others = others.1; parts = refl; eight = eight; is = is }),
    )

front : (octets : List ℕ) (offset : TimeOffset) → TellsOffset octets offset → HasFront offset octets
front octets offset tells = front_of octets offset tells.before tells.value tells.behind tells.others tells.parts tells.eight tells.is

-- it is the field that was read
front_is : (octets : List ℕ) (offset : TimeOffset) (x : Field × List ℕ) → field_at octets ≡ Some x → TellsOffset octets offset → IsFront offset x
front_is octets offset x e tells =
    let f = front octets offset tells in
    subst (IsFront offset) (same_Some f.0 x (sym f.1 ∙ e)) f.2

pub no_field : (octets : List ℕ) → field_at octets ≡ None → (offset : TimeOffset) → TellsOffset octets offset → ⊥
no_field octets none offset tells =
    let f = front octets offset tells in
    none-some f.0 (sym none ∙ f.1)

-- ---- the field of tag 1

eight_or_not : (octets value behind : List ℕ) (tag : ℕ) (is_eight : Bool) → IsBytes octets → field_at octets ≡ Some ((tag, value), behind) → tag ≡ 1 → eqb (length value) 8 ≡ is_eight
    → FindsOffset octets (cond is_eight (Some (offset_of value)) None)
eight_or_not octets value behind tag true bytes e one is =
    let t = field_codec.takes octets ((tag, value), behind) bytes e in
    record { before = []; value = value; behind = behind; others = tt; parts = subst (λ (k : ℕ). octets ≡ field_octets (k, value) ++ behind) one t.0.parts; eight = eqb-true _ _ is; is = refl }
eight_or_not octets value behind tag false bytes e one is = λ offset tells. not_so (front_is octets offset ((tag, value), behind) e tells)
  where
    not_so : {offset : TimeOffset} → IsFront offset ((tag, value), behind) → ⊥
    not_so (inl f) = absurd (cc (eq-eqb (length value) 8 f.1.0))
    not_so (inr f) = f.0 one

-- ---- another field

-- the rest of a header has the offset that the header has
pub record IsLeft (header rest : List ℕ) : Type 0 where
  pub bytes : IsBytes rest
  pub on : (offset : TimeOffset) → TellsOffset rest offset → TellsOffset header offset
  pub back : (offset : TimeOffset) → TellsOffset header offset → TellsOffset rest offset

pub all_left : (header : List ℕ) → IsBytes header → IsLeft header header
all_left header bytes = record { bytes = bytes; on = λ offset tells. tells; back = λ offset tells. tells }

pub less_left : (header rest behind : List ℕ) (field : Field) → IsLeft header rest → field_at rest ≡ Some (field, behind) → (field.0 ≡ 1 → ⊥) → IsLeft header behind
less_left header rest behind field left e other = record { bytes = t.0.rest_bytes; on = λ offset tells. left.on offset (one_more offset tells); back = λ offset tells. one_less (front_is rest offset (field, behind) e (left.back offset tells)) }
  where
    t : Takes rest (field_octets field) behind × FitsField field
    t = field_codec.takes rest (field, behind) left.bytes e

    one_more : (offset : TimeOffset) → TellsOffset behind offset → TellsOffset rest offset
    one_more offset tells = record {
      before = field ∷ tells.before;
      value = tells.value;
      behind = tells.behind;
      others = ((t.1, other), tells.others);
      parts = t.0.parts ∙ ap (λ (o : List ℕ). field_octets field ++ o) tells.parts ∙ sym (regroup field tells.before (field_octets (1, tells.value) ++ tells.behind));
      eight = tells.eight;
      is = tells.is;
    }

    one_less : {offset : TimeOffset} → IsFront offset (field, behind) → TellsOffset behind offset
    one_less (inl f) = absurd (other f.0)
    one_less (inr f) = f.1

pub shorter : (header rest behind : List ℕ) (field : Field) → IsLeft header rest → field_at rest ≡ Some (field, behind) → length behind < length rest
shorter header rest behind field left e =
    let t = field_codec.takes rest (field, behind) left.bytes e in
    let both : length rest ≡ length (field_octets field) + length behind = ap length t.0.parts ∙ length-append (field_octets field) behind in
    let some : 0 < length (field_octets field) = omega arith in
    omega (arith, both, some)

-- ---- the end of the search

ends : (header rest : List ℕ) (found : Option TimeOffset) → IsLeft header rest → FindsOffset rest found → FindsOffset header found
ends header rest None left none = λ offset tells. none offset (left.back offset tells)
ends header rest (Some offset) left tells = left.on offset tells

pub has_found : (header rest value behind : List ℕ) (tag : ℕ) → IsLeft header rest → field_at rest ≡ Some ((tag, value), behind) → tag ≡ 1 → FindsOffset header (offset_in value)
has_found header rest value behind tag left e one = ends header rest (offset_in value) left (eight_or_not rest value behind tag (eqb (length value) 8) left.bytes e one refl)

pub has_none : (header rest : List ℕ) → IsLeft header rest → field_at rest ≡ None → FindsOffset header None
has_none header rest left none = ends header rest None left (no_field rest none)

-- ---- one offset at the most

own_front : (one other : TimeOffset) (value behind : List ℕ) → one ≡ offset_of value → IsFront other ((1, value), behind) → one ≡ other
own_front one other value behind is (inl f) = is ∙ sym f.1.1
own_front one other value behind is (inr f) = absurd (f.0 refl)

other_front : (one other : TimeOffset) (field : Field) (rest : List ℕ) → (field.0 ≡ 1 → ⊥) → (TellsOffset rest other → one ≡ other) → IsFront other (field, rest) → one ≡ other
other_front one other field rest no_offset later (inl f) = absurd (no_offset f.0)
other_front one other field rest no_offset later (inr f) = later f.1

one_of_fields : (fields : List Field) (one other : TimeOffset) (octets value behind : List ℕ) → AllByRecursion IsOther fields → octets ≡ flat_map field_octets fields ++ (field_octets (1, value) ++ behind)
    → length value ≡ 8 → one ≡ offset_of value → TellsOffset octets other → one ≡ other
one_of_fields [] one other octets value behind others parts eight is tells =
    let e = ap field_at parts ∙ field_codec.again (1, value) behind (omega arith, omega (arith, eight)) in
    own_front one other value behind is (front_is octets other ((1, value), behind) e tells)
one_of_fields (field ∷ fields) one other octets value behind others parts eight is tells =
    let rest = flat_map field_octets fields ++ (field_octets (1, value) ++ behind) in
    let e = ap field_at (parts ∙ regroup field fields (field_octets (1, value) ++ behind)) ∙ field_codec.again field rest others.0.0 in
    other_front one other field rest others.0.1 (one_of_fields fields one other rest value behind others.1 refl eight is) (front_is octets other (field, rest) e tells)

pub one_offset : (version : Version) (one other : TimeOffset) → HasOffset version one → HasOffset version other → one ≡ other
one_offset Three one other a b = absurd a
one_offset (Four header) one other a b = one_of_fields a.before one other header a.value a.behind a.others a.parts a.eight a.is b
