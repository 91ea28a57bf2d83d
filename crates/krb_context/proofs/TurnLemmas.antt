-- Turning a body to the right, and back.
use Rattle.std.proofs.Common.{◌≡◌, ℕ, ◌-◌, ◌≤◌, List, ◌++◌, length, take, drop, true, refl, sym, subst, ap, ap₂, ◌∙◌, arith, length-append, length-drop}
use Rattle.std.specs.List.{slice_rotate_right}
use Rattle.std.proofs.lemmas.List.{length-take-le, take-append-drop, take_at, drop_at}
use Rattle.krb_crypto.specs.Hmac.{hmac12}
use Rattle.krb_crypto.proofs.SealedLemmas.{length-hmac12}
use Rattle.krb_crypto.specs.SealingPair.{SealingPair}
use Rattle.sspi_core.specs.Buffer.{Buffer}
use Rattle.krb_context.specs.Header.{is_wrap_header, is_sealed, is_from, ec_of, rrc_of, without_counts}
use Rattle.krb_context.specs.Spelled.{spelled}
use Rattle.krb_context.specs.Spelt.{Spelt, IsSealedAs, SpeltClear, IsClearAs, sealed_turn}
use Rattle.std.specs.Prelude.{Bool, false, Option, Some, None, MatchOption, ◌%◌}

pub rotated : (whole body : List ℕ) (k : ℕ) → k ≤ length body → whole ≡ drop k body ++ take k body → body ≡ slice_rotate_right whole k
rotated whole body k fits ew =
    let size : length (drop k body) ≡ length body - k = length-drop k body in
    let m : length whole - k ≡ length (drop k body) = omega (arith, ap length ew, length-append (drop k body) (take k body), length-take-le k body fits) in
    sym (ap₂ (λ (n : ℕ) (s : List ℕ). drop n s ++ take n s) m ew
    ∙ ap₂ (λ (u v : List ℕ). u ++ v) (drop_at (drop k body) (take k body) (length (drop k body)) refl) (take_at (drop k body) (take k body) (length (drop k body)) refl)
    ∙ take-append-drop k body)

pub unrotated : (whole body : List ℕ) (k : ℕ) → k ≤ length body → body ≡ slice_rotate_right whole k → whole ≡ drop k body ++ take k body
unrotated whole body k fits eb =
    let m : ℕ = length whole - k in
    let size : length body ≡ length whole =
    omega (arith, ap length eb, length-append (drop m whole) (take m whole), length-drop m whole, length-take-le m whole (omega arith)) in
    let front : length (drop m whole) ≡ k = omega (arith, length-drop m whole) in
    sym (ap (λ (s : List ℕ). drop k s ++ take k s) eb
    ∙ ap₂ (λ (u v : List ℕ). u ++ v) (drop_at (drop m whole) (take m whole) k front) (take_at (drop m whole) (take m whole) k front)
    ∙ take-append-drop m whole)

-- a text and what it was turned from
pub record IsTurned (text header whole : List ℕ) (turn : ℕ) : Type 0 where
  pub long : 16 ≤ length text
  pub front : header ≡ take 16 text
  pub fits : turn ≤ length text - 16
  pub back : whole ≡ drop turn (drop 16 text) ++ take turn (drop 16 text)

-- a text is its header and its body
front_and_body : {text header whole : List ℕ} {turn : ℕ} → IsTurned text header whole turn → (text ≡ header ++ drop 16 text) × (length header ≡ 16)
front_and_body {text} t =
    (sym (ap (λ (h : List ℕ). h ++ drop 16 text) t.front ∙ take-append-drop 16 text), ap length t.front ∙ length-take-le 16 text t.long)

-- the two halves of a text are its header and its body
pub halves : (text header body : List ℕ) → text ≡ header ++ body → length header ≡ 16 → (header ≡ take 16 text) × (body ≡ drop 16 text)
halves text header body e size =
    (sym (ap (take 16) e ∙ take_at header body 16 size), sym (ap (drop 16) e ∙ drop_at header body 16 size))

-- the body is the whole turned to the right, by a count that follows from the header and the body's length
body_turned : (turns : List ℕ → ℕ → ℕ) (text header whole : List ℕ) (turn : ℕ) → IsTurned text header whole turn → turn ≡ turns header (length text - 16)
    → drop 16 text ≡ slice_rotate_right whole (turns header (length (drop 16 text)))
body_turned turns text header whole turn t et =
    let size : length (drop 16 text) ≡ length text - 16 = length-drop 16 text in
    rotated whole (drop 16 text) turn (omega (arith, t.fits)) t.back ∙ ap (slice_rotate_right whole) (et ∙ ap (turns header) (sym size))

-- and of no other header and whole
same_turned : (turns : List ℕ → ℕ → ℕ) (text header whole h b w : List ℕ) (turn : ℕ) (P : List ℕ → List ℕ → Type 0)
    → IsTurned text header whole turn → turn ≡ turns header (length text - 16)
    → text ≡ h ++ b → length h ≡ 16 → b ≡ slice_rotate_right w (turns h (length b)) → P h w → P header whole
same_turned turns text header whole h b w turn P t et e front is held =
    let both = halves text h b e front in
    let eh : h ≡ header = both.0 ∙ sym t.front in
    let size : length b ≡ length text - 16 = ap length both.1 ∙ length-drop 16 text in
    let ew : w ≡ whole =
    unrotated w b turn (omega (arith, t.fits)) (is ∙ ap (slice_rotate_right w) (ap₂ turns eh size ∙ sym et))
    ∙ ap (λ (s : List ℕ). drop turn s ++ take turn s) both.1 ∙ sym t.back in
    subst (λ (v : List ℕ). P header v) ew (subst (λ (v : List ℕ). P v w) eh held)

pub to_spelt : (keys : SealingPair) (peer : Bool) (ec : ℕ) (buffers : List Buffer) (header whole : List ℕ) (turn : ℕ) (p : List ℕ)
    → IsTurned (spelled buffers) header whole turn → turn ≡ sealed_turn ec (rrc_of header) (length (spelled buffers) - 16)
    → is_wrap_header header ≡ true → is_sealed header ≡ true → is_from peer header ≡ true → ec_of header ≡ ec
    → IsSealedAs keys ec header buffers whole p → Spelt keys peer ec buffers p
to_spelt keys peer ec buffers header whole turn p t et token sealed side count s =
    let parts = front_and_body t in
    record {
      header = header;
      body = drop 16 (spelled buffers);
      text = parts.0;
      header_size = parts.1;
      token = token;
      sealed = sealed;
      side = side;
      count = count;
      whole = whole;
      sealed_as = s;
      is = body_turned (λ h n. sealed_turn ec (rrc_of h) n) (spelled buffers) header whole turn t et;
    }

pub from_spelt : (keys : SealingPair) (peer : Bool) (ec : ℕ) (buffers : List Buffer) (header whole : List ℕ) (turn : ℕ) (p : List ℕ)
    → IsTurned (spelled buffers) header whole turn → turn ≡ sealed_turn ec (rrc_of header) (length (spelled buffers) - 16)
    → Spelt keys peer ec buffers p → IsSealedAs keys ec header buffers whole p
from_spelt keys peer ec buffers header whole turn p t et s =
    same_turned (λ h n. sealed_turn ec (rrc_of h) n) (spelled buffers) header whole s.header s.body s.whole turn
    (λ h w. IsSealedAs keys ec h buffers w p) t et s.text s.header_size s.is s.sealed_as

pub to_clear : (key : List ℕ) (peer : Bool) (buffers : List Buffer) (header whole : List ℕ) (turn : ℕ) (p : List ℕ)
    → IsTurned (spelled buffers) header whole turn → turn ≡ rrc_of header % (length (spelled buffers) - 16)
    → is_wrap_header header ≡ true → is_sealed header ≡ false → is_from peer header ≡ true
    → IsClearAs key header whole p → SpeltClear key peer buffers p
to_clear key peer buffers header whole turn p t et token sealed side s =
    let parts = front_and_body t in
    record {
      header = header;
      body = drop 16 (spelled buffers);
      text = parts.0;
      header_size = parts.1;
      token = token;
      sealed = sealed;
      side = side;
      whole = whole;
      clear_as = s;
      is = body_turned (λ h n. rrc_of h % n) (spelled buffers) header whole turn t et;
    }

pub from_clear : (key : List ℕ) (peer : Bool) (buffers : List Buffer) (header whole : List ℕ) (turn : ℕ) (p : List ℕ)
    → IsTurned (spelled buffers) header whole turn → turn ≡ rrc_of header % (length (spelled buffers) - 16)
    → SpeltClear key peer buffers p → IsClearAs key header whole p
from_clear key peer buffers header whole turn p t et s =
    same_turned (λ h n. rrc_of h % n) (spelled buffers) header whole s.header s.body s.whole turn
    (λ h w. IsClearAs key h w p) t et s.text s.header_size s.is s.clear_as

-- what is found by one name is found by another of the same meaning
pub found_as : {V : Type 0} (items : V → List ℕ) (P Q : List ℕ → Type 0) (o : Option V) → ((p : List ℕ) → P p → Q p) → ((p : List ℕ) → Q p → P p)
    → MatchOption o ((p : List ℕ) → ¬ (P p)) (λ v. P (items v)) → MatchOption o ((p : List ℕ) → ¬ (Q p)) (λ v. Q (items v))
found_as items P Q (Some v) to from h = to (items v) h
found_as items P Q None to from h = λ p q. h p (from p q)

-- the only text that is in the clear here
pub clear_agrees : (key header whole p : List ℕ) → 12 ≤ length whole → IsClearAs key header whole p
    → (p ≡ take (length whole - 12) whole) × (hmac12 key (p ++ without_counts header) ≡ drop (length whole - 12) whole)
clear_agrees key header whole p long s =
    let code : List ℕ = hmac12 key (p ++ without_counts header) in
    let size : length code ≡ 12 = length-hmac12 key (p ++ without_counts header) in
    let n : length whole - 12 ≡ length p = omega (arith, ap length s.is, length-append p code) in (
      sym (ap₂ (λ (k : ℕ) (w : List ℕ). take k w) n s.is ∙ take_at p code (length p) refl),
      sym (ap₂ (λ (k : ℕ) (w : List ℕ). drop k w) n s.is ∙ drop_at p code (length p) refl),
    )
