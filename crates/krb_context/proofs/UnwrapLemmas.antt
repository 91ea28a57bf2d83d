-- Facts about a message that was opened.
use Rattle.std.proofs.Common.{◌≡◌, ℕ, ◌+◌, ◌-◌, ◌%◌, ◌≤◌, Bool, true, false, List, ◌++◌, length, take, drop, refl, sym, subst, ap, ◌∙◌, arith, length-append, length-drop, Ok}
use Rattle.std.specs.Prelude.{Option, Some, None, Result, IfSome, ◌&&◌, ◌==◌, nat_le, if◌then◌else◌}
use Rattle.std.specs.List.{slice_rotate_right}
use Rattle.std.proofs.lemmas.Bool.{eqb-true, leb-true, and_parts}
use Rattle.std.proofs.lemmas.List.{length-take-le, take_at}
use Rattle.krb_aes.specs.Aes.{aes}
use Rattle.krb_crypto.specs.Cts.{cts}
use Rattle.krb_crypto.specs.Hmac.{hmac12}
use Rattle.krb_crypto.specs.Suite.{key_size, kc}
use Rattle.krb_crypto.specs.SealingPair.{SealingPair}
use Rattle.krb_crypto.proofs.CtsInjective.{length-aes_cts}
use Rattle.krb_crypto.proofs.SealedLemmas.{length-hmac12}
use Rattle.sspi_core.specs.declared.cause.Cause.{Cause}
use Rattle.sspi_core.specs.declared.cause.Cause.TheVariants.{Sequence, Buffers, Header, Direction, ExtraCount, KeyLength, Short, Room}
use Rattle.sspi_core.specs.declared.buffer.Part.TheVariants.{Stream, Plain}
use Rattle.sspi_core.specs.Buffer.{Buffer}
use Rattle.sspi_core.specs.Checks.{Answers}
use Rattle.sspi_core.specs.Messages.{find_part}
use Rattle.sspi_core.proofs.Chain.{held, passed, took, gave, no_refusal}
use Rattle.krb_context.specs.Rules.{has_rule, extra_count_by_token}
use Rattle.krb_context.specs.declared.rules.Rules.{Rules}
use Rattle.krb_context.specs.declared.context.Kerberos.{Kerberos}
use Rattle.krb_context.specs.declared.params.EncryptionParams.{EncryptionParams}
use Rattle.krb_context.specs.declared.window.NumberVerdict.{NumberVerdict}
use Rattle.krb_context.specs.declared.window.NumberVerdict.TheVariants.{Fresh, Old, Repeated}
use Rattle.krb_context.specs.Header.{is_wrap_header, is_sealed, is_from, ec_of, rrc_of, number_of, without_counts}
use Rattle.krb_context.specs.Headed.{IsHeaded}
use Rattle.krb_context.specs.Params.{suite_of}
use Rattle.krb_context.specs.Parties.{ready_key, seal_usage, keys_of}
use Rattle.krb_context.specs.Spelled.{spelled, has_part, covered}
use Rattle.krb_context.specs.Spelt.{inner_text, sealed_body, sealed_turn, IsSealedAs, Spelt, SpeltClear}
use Rattle.krb_context.specs.Unwraps.{header_of, count_for, params_for, has_count, has_key_size, Heads, extra_of, is_long, has_room, SpeltBy, OpensBody, aged, ReceivesMessage, message_number}
use Rattle.krb_context.specs.Window.{number_verdict}

header_known : (text header : List ℕ) (b : Bool) → b ≡ (nat_le 16 (length text) && is_wrap_header (take 16 text))
    → (if b then Some (take 16 text) else None) ≡ Some header → (b ≡ true) × (header ≡ take 16 text)
header_known text header true e is = (refl, cc)
header_known text header false e is = absurd cc

-- the checks of a header that were passed
pub headed : (params : EncryptionParams) (key : List ℕ) (peer : Bool) (text header : List ℕ) → Heads params key peer text (Ok header)
    → IsHeaded params key peer text header
unfolding Heads
headed params key peer text header h =
    let one = passed _ _ _ h in
    let two = passed _ _ _ one.rest_held in
    let three = passed _ _ _ two.rest_held in
    let four = passed _ _ _ three.rest_held in
    let same : header ≡ one.found = gave _ _ four.rest_held in
    let known = header_known text one.found (nat_le 16 (length text) && is_wrap_header (take 16 text)) refl (took Header (header_of text) one.found one.first_held) in
    let both = and_parts (nat_le 16 (length text)) (is_wrap_header (take 16 text)) known.0 in
    let front : header ≡ take 16 text = same ∙ known.1 in
    record {
      long = leb-true 16 (length text) both.0;
      front = front;
      token = ap (λ (h : List ℕ). is_wrap_header h) front ∙ both.1;
      side = ap (λ (h : List ℕ). is_from peer h) same ∙ held Direction (is_from peer one.found) two.found two.first_held;
      count = ap (λ (h : List ℕ). has_count params.ec h) same ∙ held ExtraCount (has_count params.ec one.found) three.found three.first_held;
      key_length = eqb-true (length key) (key_size (suite_of params)) (held KeyLength (has_key_size params key) four.found four.first_held);
    }

-- what is known of the text of a token that was opened
pub record IsOpened (context : Kerberos) (peer : Bool) (buffers : List Buffer) (text p : List ℕ) : Type 0 where
  pub key : List ℕ
  pub plain : Buffer
  pub header : List ℕ
  pub ready : ready_key context.state context.encryption_params ≡ Some key
  pub found : find_part Plain buffers ≡ Some plain
  pub headed : IsHeaded (params_for context text) key peer text header
  pub long : is_long header (length text - 16) ≡ true
  pub room : has_room buffers plain (length text - 16 - extra_of header) ≡ true
  pub spelt : SpeltBy (is_sealed header) (params_for context text) key peer buffers p
  pub fresh : number_verdict context.window (number_of header) ≡ Fresh

not_aged : (verdict : NumberVerdict) → aged verdict ≡ None → verdict ≡ Fresh
not_aged Fresh e = refl
not_aged Old e = absurd cc
not_aged Repeated e = absurd cc

pub is_opened : (context : Kerberos) (peer : Bool) (buffers : List Buffer) (text p : List ℕ) → ReceivesMessage context peer buffers text (Ok p) → IsOpened context peer buffers text p
unfolding ReceivesMessage OpensBody
is_opened context peer buffers text p h =
    let params = params_for context text in
    let one = passed _ _ _ h in
    let two = passed _ _ _ one.rest_held in
    let three = passed _ _ _ two.rest_held in
    let four = passed _ _ _ three.rest_held in
    let five = passed _ _ _ four.rest_held in
    let long = passed _ _ _ four.first_held in
    let room = passed _ _ _ long.rest_held in
    let same : p ≡ four.found = gave _ _ five.rest_held in
    record {
      key = one.found;
      plain = two.found;
      header = three.found;
      ready = took Sequence (ready_key context.state params) one.found one.first_held;
      found = took Buffers (find_part Plain buffers) two.found two.first_held;
      headed = headed params one.found peer text three.found three.first_held;
      long = held Short (is_long three.found (length text - 16)) long.found long.first_held;
      room = held Room (has_room buffers two.found (length text - 16 - extra_of three.found)) room.found room.first_held;
      spelt = subst (λ (s : List ℕ). SpeltBy (is_sealed three.found) params one.found peer buffers s) (sym same) room.rest_held.is;
      fresh = not_aged (number_verdict context.window (number_of three.found)) (no_refusal (aged (number_verdict context.window (number_of three.found))) five.found five.first_held);
    }

-- a body keeps its length where it is turned
pub length-turned : (whole : List ℕ) (k : ℕ) → length (slice_rotate_right whole k) ≡ length whole
length-turned whole k =
    let m : ℕ = length whole - k in
    omega (arith, length-append (drop m whole) (take m whole), length-drop m whole, length-take-le m whole (omega arith))

pub body_size : (text header body : List ℕ) → text ≡ header ++ body → length header ≡ 16 → length body ≡ length text - 16
body_size text header body e size = omega (arith, ap length e, length-append header body)

-- how long the text of a sealed body is
pub length-sealed : (keys : SealingPair) (ec : ℕ) (header : List ℕ) (buffers : List Buffer) (whole p : List ℕ) → IsSealedAs keys ec header buffers whole p
    → length whole ≡ length p + (44 + ec)
unfolding sealed_body
length-sealed keys ec header buffers whole p s =
    let m : List ℕ = inner_text s.confounder p s.filler s.copy in
    let size_m : length m ≡ length p + (32 + ec) =
    omega (arith, length-append (s.confounder ++ p ++ s.filler) s.copy, length-append (s.confounder ++ p) s.filler, length-append s.confounder p, s.confounder_size, s.filler_size, s.copied.size) in
    let code : List ℕ = hmac12 keys.integrity (s.confounder ++ covered p buffers ++ s.filler ++ s.copy) in
    omega (
      arith,
      ap length s.is,
      length-append (cts (aes keys.encryption) m) code,
      length-hmac12 keys.integrity (s.confounder ++ covered p buffers ++ s.filler ++ s.copy),
      length-aes_cts keys.encryption m (record { below = s.octets }) (omega (arith, size_m)),
    )

pub length-spelt : (keys : SealingPair) (peer : Bool) (ec : ℕ) (buffers : List Buffer) (p : List ℕ) → Spelt keys peer ec buffers p
    → length p + (44 + ec) ≡ length (spelled buffers) - 16
length-spelt keys peer ec buffers p s =
    omega (
      arith,
      body_size (spelled buffers) s.header s.body s.text s.header_size,
      ap length s.is,
      length-turned s.whole (sealed_turn ec (rrc_of s.header) (length s.body)),
      length-sealed keys ec s.header buffers s.whole p s.sealed_as,
    )

pub length-spelt_clear : (key : List ℕ) (peer : Bool) (buffers : List Buffer) (p : List ℕ) → SpeltClear key peer buffers p
    → (length p + 12 ≡ length (spelled buffers) - 16) × (ec_of (take 16 (spelled buffers)) ≡ 12)
length-spelt_clear key peer buffers p s =
    let code : List ℕ = hmac12 key (p ++ without_counts s.header) in
    let front : take 16 (spelled buffers) ≡ s.header = ap (take 16) s.text ∙ take_at s.header s.body 16 s.header_size in (
      omega (
        arith,
        body_size (spelled buffers) s.header s.body s.text s.header_size,
        ap length s.is,
        length-turned s.whole (rrc_of s.header % length s.body),
        ap length s.clear_as.is,
        length-append p code,
        length-hmac12 key (p ++ without_counts s.header),
      ),
      ap (λ (h : List ℕ). ec_of h) front ∙ s.clear_as.count,
    )

-- a text whose header says the context's own length is opened by that
pub count_kept : (rules : Rules) (ec : ℕ) (text : List ℕ) → ec_of (take 16 text) ≡ ec → count_for rules ec text ≡ ec
count_kept rules ec text same = go (has_rule rules extra_count_by_token && nat_le 16 (length text))
  where
    go : (b : Bool) → (if b then ec_of (take 16 text) else ec) ≡ ec
    go true = same
    go false = refl

-- the checks of a header, where the length was found first
pub heads_by : (context : Kerberos) (key : List ℕ) (peer : Bool) (text : List ℕ) (ec : ℕ) (answer : Result (List ℕ) Cause)
    → ec ≡ count_for context.rules context.encryption_params.ec text
    → Heads (record context.encryption_params { ec = ec }) key peer text answer → Heads (params_for context text) key peer text answer
heads_by context key peer text ec answer is h = subst (λ (n : ℕ). Heads (record context.encryption_params { ec = n }) key peer text answer) is h

-- those of a body
pub opens_by : (context : Kerberos) (key : List ℕ) (peer : Bool) (buffers : List Buffer) (plain : Buffer) (text header : List ℕ) (ec : ℕ) (answer : Result (List ℕ) Cause)
    → ec ≡ count_for context.rules context.encryption_params.ec text
    → Answers (OpensBody (record context.encryption_params { ec = ec }) key peer buffers plain text header) answer
    → Answers (OpensBody (params_for context text) key peer buffers plain text header) answer
opens_by context key peer buffers plain text header ec answer is h =
    subst (λ (n : ℕ). Answers (OpensBody (record context.encryption_params { ec = n }) key peer buffers plain text header) answer) is h

pub count_is : (ec : ℕ) (header : List ℕ) → is_sealed header ≡ true → has_count ec header ≡ true → ec_of header ≡ ec
count_is ec header sealed count = let same : (ec_of header == ec) ≡ true = rw sealed at count in eqb-true (ec_of header) ec same

-- how long the text is
pub length-opened : (context : Kerberos) (peer : Bool) (buffers : List Buffer) (p : List ℕ) (o : IsOpened context peer buffers (spelled buffers) p)
    → length p ≡ length (spelled buffers) - 16 - extra_of o.header
length-opened context peer buffers p o =
    let params = params_for context (spelled buffers) in
    let P : Bool → Type 0 = λ v. (is_sealed o.header ≡ v) → SpeltBy v params o.key peer buffers p
    → length p ≡ length (spelled buffers) - 16 - (if v then 44 + ec_of o.header else ec_of o.header) in
    let both : P (is_sealed o.header) = elim (is_sealed o.header) as P [
      | true ↦ λ sealed s. omega (arith, length-spelt (keys_of params o.key peer) peer params.ec buffers p s, count_is params.ec o.header sealed o.headed.count)
      | false ↦ λ clear s.
          let size = length-spelt_clear (kc (suite_of params) o.key (seal_usage peer)) peer buffers p s in
          omega (arith, size.0, size.1, ap (λ (h : List ℕ). ec_of h) o.headed.front)
    ] in
    both refl o.spelt

-- a text without a stream fits into the plain data
pub fits : (context : Kerberos) (peer : Bool) (buffers : List Buffer) (p : List ℕ) → IsOpened context peer buffers (spelled buffers) p → has_part Stream buffers ≡ false
    → IfSome (find_part Plain buffers) (λ b. length p ≤ b.limit)
fits context peer buffers p o none =
    let within : nat_le (length (spelled buffers) - 16 - extra_of o.header) o.plain.limit ≡ true = rw none at o.room in
    let le = leb-true (length (spelled buffers) - 16 - extra_of o.header) o.plain.limit within in
    subst (λ (b : Option Buffer). IfSome b (λ b. length p ≤ b.limit)) (sym o.found) (omega (arith, le, length-opened context peer buffers p o))

-- its number is fresh
pub number_fresh : (context : Kerberos) (peer : Bool) (buffers : List Buffer) (p : List ℕ) → IsOpened context peer buffers (spelled buffers) p
    → number_verdict context.window (message_number buffers) ≡ Fresh
number_fresh context peer buffers p o = ap (λ (h : List ℕ). number_verdict context.window (number_of h)) (sym o.headed.front) ∙ o.fresh

-- a sealed body that is long enough
pub sealed_long : (ec : ℕ) (header : List ℕ) (n : ℕ) → is_sealed header ≡ true → has_count ec header ≡ true → is_long header n ≡ true → 44 + ec ≤ n
sealed_long ec header n sealed count long =
    let both = and_parts (nat_le 1 n) (nat_le (extra_of header) n) long in
    let least = leb-true (extra_of header) n both.1 in
    let extra : extra_of header ≡ 44 + ec_of header = rw sealed refl in
    omega (arith, least, extra, count_is ec header sealed count)

-- a body in the clear that is long enough
pub clear_long : (header : List ℕ) (n : ℕ) → is_sealed header ≡ false → is_long header n ≡ true → (1 ≤ n) × (ec_of header ≤ n)
clear_long header n clear long =
    let both = and_parts (nat_le 1 n) (nat_le (extra_of header) n) long in
    let least = leb-true (extra_of header) n both.1 in
    let extra : extra_of header ≡ ec_of header = rw clear refl in
    (leb-true 1 n both.0, omega (arith, least, extra))
