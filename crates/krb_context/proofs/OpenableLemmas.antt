-- A message passes the checks of an unwrap exactly if it satisfies `IsOpenable`.
use Rattle.std.proofs.Common.{◌≡◌, ℕ, ◌+◌, ◌-◌, ◌≤◌, Bool, true, false, List, length, take, refl, sym, subst, ap, ap₂, ◌∙◌, inl, inr, arith, length-append, Ok}
use Rattle.std.specs.Prelude.{Some, nat_le}
use Rattle.std.proofs.lemmas.Bool.{le-leb, and_from, eq-eqb, eqb-true}
use Rattle.krb_crypto.specs.Suite.{key_size, kc}
use Rattle.sspi_core.specs.declared.cause.Cause.TheVariants.{Sequence, Buffers, Header, Direction, ExtraCount, KeyLength, Short, Room}
use Rattle.sspi_core.specs.declared.buffer.Part.TheVariants.{Plain}
use Rattle.sspi_core.specs.Buffer.{Buffer}
use Rattle.sspi_core.specs.Checks.{err_of}
use Rattle.sspi_core.specs.Messages.{find_part}
use Rattle.sspi_core.proofs.Chain.{follows, gives, takes_some, holds_true}
use Rattle.krb_context.specs.declared.context.Kerberos.{Kerberos}
use Rattle.krb_context.specs.declared.window.NumberVerdict.TheVariants.{Fresh}
use Rattle.krb_context.specs.Contexts.{is_peer_acceptor}
use Rattle.krb_context.specs.Header.{is_wrap_header, is_sealed, is_from, ec_of, number_of}
use Rattle.krb_context.specs.Params.{suite_of}
use Rattle.krb_context.specs.Parties.{ready_key, seal_usage, keys_of}
use Rattle.krb_context.specs.Spelled.{spelled}
use Rattle.krb_context.specs.Spelt.{Spelt, SpeltClear}
use Rattle.krb_context.specs.Unwraps.{header_of, params_for, has_count, has_key_size, Heads, extra_of, is_long, has_room, SpeltBy, OpensBody, aged, ReceivesMessage, Unwraps, message_number}
use Rattle.krb_context.specs.Window.{number_verdict}
use Rattle.krb_context.proofs.TurnLemmas.{halves}
use Rattle.krb_context.proofs.UnwrapLemmas.{IsOpened, is_opened, length-spelt, length-spelt_clear, length-opened, number_fresh}
use Rattle.krb_context.specs.Openable.{IsSpelling, IsOpenable}

header_there : (text h : List ℕ) → 16 ≤ length text → take 16 text ≡ h → is_wrap_header h ≡ true → header_of text ≡ Some h
header_there text h long front token =
    let one : nat_le 16 (length text) ≡ true = le-leb 16 (length text) long in
    let two : is_wrap_header (take 16 text) ≡ true = ap (λ (s : List ℕ). is_wrap_header s) front ∙ token in
    rw (one, two) (ap Some front)

-- what is known of a message that was opened is all that the checks ask
pub receives : (context : Kerberos) (peer : Bool) (buffers : List Buffer) (text p : List ℕ) → IsOpened context peer buffers text p → ReceivesMessage context peer buffers text (Ok p)
unfolding ReceivesMessage Heads OpensBody
receives context peer buffers text p o =
    let params = params_for context text in
    let h : List ℕ = o.header in
    let sized : has_key_size params o.key ≡ true = eq-eqb (length o.key) (key_size (suite_of params)) o.headed.key_length in
    follows _ _ o.key _ (takes_some Sequence (ready_key context.state params) o.key o.ready)
    (follows _ _ o.plain _ (takes_some Buffers (find_part Plain buffers) o.plain o.found)
    (follows _ _ h _
    (follows _ _ h _ (takes_some Header (header_of text) h (header_there text h o.headed.long (sym o.headed.front) o.headed.token))
    (follows _ _ tt _ (holds_true Direction (is_from peer h) o.headed.side)
    (follows _ _ tt _ (holds_true ExtraCount (has_count params.ec h) o.headed.count)
    (follows _ _ tt _ (holds_true KeyLength (has_key_size params o.key) sized) (gives h)))))
    (follows _ _ p _
    (follows _ _ tt _ (holds_true Short (is_long h (length text - 16)) o.long)
    (follows _ _ tt _ (holds_true Room (has_room buffers o.plain (length text - 16 - extra_of h)) o.room)
    (record { is = o.spelt })))
    (follows _ _ tt _ (record { is = sym (ap (λ v. err_of (aged v)) o.fresh) }) (gives p)))))

fills : (h : List ℕ) (n m : ℕ) → m + extra_of h ≡ n → 1 ≤ extra_of h → is_long h n ≡ true
fills h n m sum some = and_from (nat_le 1 n) (nat_le (extra_of h) n) (le-leb 1 n (omega (arith, sum))) (le-leb (extra_of h) n (omega (arith, sum)))

-- a sealed spelling is opened
opened_sealed : (context : Kerberos) (key p : List ℕ) (buffers : List Buffer) (plain : Buffer) → ready_key context.state context.encryption_params ≡ Some key
    → has_key_size context.encryption_params key ≡ true → find_part Plain buffers ≡ Some plain → has_room buffers plain (length p) ≡ true
    → number_verdict context.window (message_number buffers) ≡ Fresh
    → Spelt (keys_of context.encryption_params key (is_peer_acceptor context)) (is_peer_acceptor context) (params_for context (spelled buffers)).ec buffers p
    → IsOpened context (is_peer_acceptor context) buffers (spelled buffers) p
opened_sealed context key p buffers plain ready sized found room fresh s =
    let params = params_for context (spelled buffers) in
    let peer : Bool = is_peer_acceptor context in
    let text : List ℕ = spelled buffers in
    let front : s.header ≡ take 16 text = (halves text s.header s.body s.text s.header_size).0 in
    let size : length p + (44 + params.ec) ≡ length text - 16 = length-spelt (keys_of params key peer) peer params.ec buffers p s in
    let extra : extra_of s.header ≡ 44 + params.ec = rw s.sealed (ap (λ (n : ℕ). 44 + n) s.count) in
    let rest : length p ≡ length text - 16 - extra_of s.header = omega (arith, size, extra) in
    let counted : has_count params.ec s.header ≡ true = rw s.sealed (eq-eqb (ec_of s.header) params.ec s.count) in
    record {
      key = key;
      plain = plain;
      header = s.header;
      ready = ready;
      found = found;
      headed = record {
        long = omega (arith, ap length s.text, length-append s.header s.body, s.header_size);
        front = front;
        token = s.token;
        side = s.side;
        count = counted;
        key_length = eqb-true (length key) (key_size (suite_of params)) sized;
      };
      long = fills s.header (length text - 16) (length p) (omega (arith, size, extra)) (omega (arith, extra));
      room = ap (λ (n : ℕ). has_room buffers plain n) (sym rest) ∙ room;
      spelt = subst (λ (v : Bool). SpeltBy v params key peer buffers p) (sym s.sealed) s;
      fresh = ap (λ (h : List ℕ). number_verdict context.window (number_of h)) front ∙ fresh;
    }

-- a spelling in the clear is opened
opened_clear : (context : Kerberos) (key p : List ℕ) (buffers : List Buffer) (plain : Buffer) → ready_key context.state context.encryption_params ≡ Some key
    → has_key_size context.encryption_params key ≡ true → find_part Plain buffers ≡ Some plain → has_room buffers plain (length p) ≡ true
    → number_verdict context.window (message_number buffers) ≡ Fresh
    → SpeltClear (kc (suite_of context.encryption_params) key (seal_usage (is_peer_acceptor context))) (is_peer_acceptor context) buffers p
    → IsOpened context (is_peer_acceptor context) buffers (spelled buffers) p
opened_clear context key p buffers plain ready sized found room fresh s =
    let params = params_for context (spelled buffers) in
    let peer : Bool = is_peer_acceptor context in
    let text : List ℕ = spelled buffers in
    let front : s.header ≡ take 16 text = (halves text s.header s.body s.text s.header_size).0 in
    let sizes = length-spelt_clear (kc (suite_of params) key (seal_usage peer)) peer buffers p s in
    let twelve : ec_of s.header ≡ 12 = ap (λ (h : List ℕ). ec_of h) front ∙ sizes.1 in
    let extra : extra_of s.header ≡ 12 = rw s.sealed twelve in
    let rest : length p ≡ length text - 16 - extra_of s.header = omega (arith, sizes.0, extra) in
    let counted : has_count params.ec s.header ≡ true = rw s.sealed refl in
    record {
      key = key;
      plain = plain;
      header = s.header;
      ready = ready;
      found = found;
      headed = record {
        long = omega (arith, ap length s.text, length-append s.header s.body, s.header_size);
        front = front;
        token = s.token;
        side = s.side;
        count = counted;
        key_length = eqb-true (length key) (key_size (suite_of params)) sized;
      };
      long = fills s.header (length text - 16) (length p) (omega (arith, sizes.0, extra)) (omega (arith, extra));
      room = ap (λ (n : ℕ). has_room buffers plain n) (sym rest) ∙ room;
      spelt = subst (λ (v : Bool). SpeltBy v params key peer buffers p) (sym s.sealed) s;
      fresh = ap (λ (h : List ℕ). number_verdict context.window (number_of h)) front ∙ fresh;
    }

opened_spelling : (context : Kerberos) (key p : List ℕ) (buffers : List Buffer) (plain : Buffer) → ready_key context.state context.encryption_params ≡ Some key
    → has_key_size context.encryption_params key ≡ true → find_part Plain buffers ≡ Some plain → has_room buffers plain (length p) ≡ true
    → number_verdict context.window (message_number buffers) ≡ Fresh → IsSpelling context key buffers p
    → IsOpened context (is_peer_acceptor context) buffers (spelled buffers) p
opened_spelling context key p buffers plain ready sized found room fresh (inl s) = opened_sealed context key p buffers plain ready sized found room fresh s
opened_spelling context key p buffers plain ready sized found room fresh (inr s) = opened_clear context key p buffers plain ready sized found room fresh s

spelling_by : (context : Kerberos) (key p : List ℕ) (buffers : List Buffer) (sealed : Bool) → SpeltBy sealed (params_for context (spelled buffers)) key (is_peer_acceptor context) buffers p
    → IsSpelling context key buffers p
spelling_by context key p buffers true s = inl s
spelling_by context key p buffers false s = inr s

pub openable : (context : Kerberos) (key p : List ℕ) (buffers : List Buffer) (plain : Buffer) → ready_key context.state context.encryption_params ≡ Some key
    → find_part Plain buffers ≡ Some plain → Unwraps context buffers (Ok p) → IsOpenable context key buffers plain p
openable context key p buffers plain ready found h =
    let params = params_for context (spelled buffers) in
    let peer : Bool = is_peer_acceptor context in
    let text : List ℕ = spelled buffers in
    let o = is_opened context peer buffers text p h in
    let one : Some o.key ≡ Some key = sym o.ready ∙ ready in
    let two : Some o.plain ≡ Some plain = sym o.found ∙ found in
    let k : o.key ≡ key = cc in
    let b : o.plain ≡ plain = cc in
    record {
      spelling = spelling_by context key p buffers (is_sealed o.header) (subst (λ (s : List ℕ). SpeltBy (is_sealed o.header) params s peer buffers p) k o.spelt);
      room = ap₂ (λ (x : Buffer) (n : ℕ). has_room buffers x n) (sym b) (length-opened context peer buffers p o) ∙ o.room;
      fresh = number_fresh context peer buffers p o;
    }

pub unwraps_openable : (context : Kerberos) (key p : List ℕ) (buffers : List Buffer) (plain : Buffer) → ready_key context.state context.encryption_params ≡ Some key
    → has_key_size context.encryption_params key ≡ true → find_part Plain buffers ≡ Some plain → IsOpenable context key buffers plain p → Unwraps context buffers (Ok p)
unwraps_openable context key p buffers plain ready sized found o =
    receives context (is_peer_acceptor context) buffers (spelled buffers) p (opened_spelling context key p buffers plain ready sized found o.room o.fresh o.spelling)
