-- The result of wrapping spells its input (RFC 4121, section 4.2.4).
use Rattle.std.proofs.Common.{◌≡◌, ℕ, zero, suc, ◌+◌, ◌%◌, ◌/◌, ◌<◌, ◌^◌, Bool, true, false, cond, List, [], ◌∷◌, ◌++◌, length, take, drop, replicate, refl, sym, ap, ap₂, ◌∙◌, arith}
use Rattle.std.specs.Prelude.{Option, Some, None, is_some}
use Rattle.std.specs.Option.{option_map}
use Rattle.std.specs.List.{slice_rotate_right}
use Rattle.std.proofs.lemmas.List.{append_assoc, take-append-drop, length-replicate}
use Rattle.std.proofs.lemmas.Nat.{from_be_bytes-to_be_bytes_2}
use Rattle.krb_aes.specs.Octets.{IsOctets}
use Rattle.krb_aes.proofs.InjectiveLemmas.{none_octets, more_octets, IsOctets-append}
use Rattle.krb_crypto.specs.SealingPair.{SealingPair}
use Rattle.sspi_core.specs.declared.buffer.Part.{Part}
use Rattle.sspi_core.specs.declared.buffer.Part.TheVariants.{Token, Stream, Plain}
use Rattle.sspi_core.specs.Buffer.{Buffer, is_part, is_data, is_token}
use Rattle.sspi_core.specs.declared.buffer.BufferType.{BufferType}
use Rattle.sspi_core.specs.declared.buffer.BufferType.TheVariants.{Token as TokenType, Data as DataType, Stream as StreamType}
use Rattle.krb_crypto.specs.Cts.{cts}
use Rattle.krb_crypto.specs.Hmac.{hmac12}
use Rattle.krb_aes.specs.Aes.{aes}
use Rattle.sspi_core.specs.Messages.{find_part, with_part, write}
use Rattle.sspi_core.proofs.PartLemmas.{find-same, kept_by_write}
use Rattle.krb_context.specs.Header.{wrap_header, is_wrap_header, is_sealed, is_from, ec_of, rrc_of, IsCopyOf}
use Rattle.krb_context.specs.Parties.{seal_flags}
use Rattle.krb_context.specs.Spelled.{octets_of, part_octets, has_part, spelled, covered, covered_of}
use Rattle.krb_context.specs.Spelt.{inner_text, sealed_body, sealed_turn, Spelt}
use Rattle.krb_context.specs.Wrapped.{written_body, wrapped_by}
use Rattle.krb_context.proofs.WrapLemmas.{token-after-plain, stream-after-plain, plain-after-token, stream-after-token}

-- the part that was written has what was written
octets_some : (o : Option Buffer) (octets : List ℕ) → is_some o ≡ true → octets_of (option_map {T = Buffer} {U = Buffer} (λ b. record b { octets = octets }) o) ≡ octets
octets_some (Some b) octets e = refl
octets_some None octets e = cc

pub part-written : (part : Part) (octets : List ℕ) (bs : List Buffer) → has_part part bs ≡ true → part_octets part (write part octets bs) ≡ octets
part-written part octets bs has =
    ap octets_of (find-same part (λ b. record b { octets = octets }) bs (λ b e. kept_by_write octets part b ∙ e)) ∙ octets_some (find_part part bs) octets has

pub spelled-wrapped : (token plain : List ℕ) (bs : List Buffer) → has_part Token bs ≡ true → has_part Plain bs ≡ true → has_part Stream bs ≡ false
    → spelled (write Token token (write Plain plain bs)) ≡ token ++ plain
unfolding spelled
spelled-wrapped token plain bs t p s =
    let inner : List Buffer = write Plain plain bs in
    let has : has_part Token inner ≡ true = ap (λ (o : Option Buffer). is_some o) (token-after-plain plain bs) ∙ t in
    let front : part_octets Token (write Token token inner) ≡ token = part-written Token token inner has in
    let none : has_part Stream (write Token token inner) ≡ false =
    ap (λ (o : Option Buffer). is_some o) (stream-after-token token inner ∙ stream-after-plain plain bs) ∙ s in
    let back : part_octets Plain (write Token token inner) ≡ plain = ap octets_of (plain-after-token token inner) ∙ part-written Plain plain bs p in
    rw none (ap₂ (λ (u v : List ℕ). u ++ v) front back)

-- writing the token or the plain data changes nothing of what is covered
covered-with : (part : Part) (p : List ℕ) (f : Buffer → Buffer) (bs : List Buffer) → ((b : Buffer) → is_part part b ≡ true → covered_of p (f b) ≡ covered_of p b)
    → covered p (with_part part f bs) ≡ covered p bs
covered-with part p f [] same = refl
covered-with part p f (b ∷ bs) same =
    let P : Bool → Type 0 = λ v. (is_part part b ≡ v) → covered p (cond v (f b ∷ bs) (b ∷ with_part part f bs)) ≡ covered p (b ∷ bs) in
    let both : P (is_part part b) = elim (is_part part b) as P [
      | true ↦ λ e. ap (λ (s : List ℕ). s ++ covered p bs) (same b e)
      | false ↦ λ e. ap (λ (s : List ℕ). covered_of p b ++ s) (covered-with part p f bs same)
    ] in
    both refl

data_of_token : (k : BufferType) → is_token k ≡ true → is_data k ≡ false
data_of_token TokenType e = refl
data_of_token DataType e = cc
data_of_token StreamType e = refl

pub covered-wrapped : (p token plain : List ℕ) (bs : List Buffer) → covered p (write Token token (write Plain plain bs)) ≡ covered p bs
covered-wrapped p token plain bs =
    covered-with Token p (λ b. record b { octets = token }) (write Plain plain bs)
    (λ b e. rw (data_of_token b.kind e) refl)
    ∙ covered-with Plain p (λ b. record b { octets = plain }) bs (λ b e. rw e refl)

-- the header that a writer makes
pub header_size : (flags ec rrc number : ℕ) → length (wrap_header flags ec rrc number) ≡ 16
unfolding wrap_header
header_size flags ec rrc number = refl

pub header_token : (flags ec rrc number : ℕ) → is_wrap_header (wrap_header flags ec rrc number) ≡ true
unfolding wrap_header
header_token flags ec rrc number = refl

pub header_sealed : (subkey acceptor : Bool) (ec rrc number : ℕ) → is_sealed (wrap_header (seal_flags subkey acceptor) ec rrc number) ≡ true
unfolding wrap_header
header_sealed true true ec rrc number = refl
header_sealed true false ec rrc number = refl
header_sealed false true ec rrc number = refl
header_sealed false false ec rrc number = refl

pub header_side : (subkey acceptor : Bool) (ec rrc number : ℕ) → is_from acceptor (wrap_header (seal_flags subkey acceptor) ec rrc number) ≡ true
unfolding wrap_header
header_side true true ec rrc number = refl
header_side true false ec rrc number = refl
header_side false true ec rrc number = refl
header_side false false ec rrc number = refl

pub header_count : (flags ec rrc number : ℕ) → ec < 2 ^ 16 → ec_of (wrap_header flags ec rrc number) ≡ ec
unfolding wrap_header
header_count flags ec rrc number fits = from_be_bytes-to_be_bytes_2 ec fits

header_turn : (flags ec number : ℕ) → rrc_of (wrap_header flags ec 28 number) ≡ 28
unfolding wrap_header
header_turn flags ec number = refl

header_copied : (flags ec number : ℕ) → IsCopyOf (wrap_header flags ec 28 number) (wrap_header flags ec 0 number)
unfolding wrap_header
header_copied flags ec number = record { size = refl; front = refl; back = refl }

low_octet : (x : ℕ) (xs : List ℕ) → IsOctets xs → IsOctets (x % 256 ∷ xs)
low_octet x xs h = more_octets (x % 256) xs (omega arith) h

small_flags : (subkey acceptor : Bool) → seal_flags subkey acceptor < 256
small_flags true true = omega arith
small_flags true false = omega arith
small_flags false true = omega arith
small_flags false false = omega arith

octets_header : (subkey acceptor : Bool) (ec rrc number : ℕ) → IsOctets (wrap_header (seal_flags subkey acceptor) ec rrc number)
unfolding wrap_header
octets_header subkey acceptor ec rrc number =
    more_octets 5 _ (omega arith) (more_octets 4 _ (omega arith) (more_octets (seal_flags subkey acceptor) _ (small_flags subkey acceptor) (more_octets 255 _ (omega arith)
    (low_octet (ec / 256) _ (low_octet ec _ (low_octet (rrc / 256) _ (low_octet rrc _ (low_octet (number / 72057594037927936) _ (low_octet (number / 281474976710656) _ (low_octet (number / 1099511627776) _ (low_octet (number / 4294967296) _ (low_octet (number / 16777216) _ (low_octet (number / 65536) _ (low_octet (number / 256) _ (low_octet number _ none_octets)))))))))))))))

octets_zeros : (n : ℕ) → IsOctets (replicate n 0)
octets_zeros zero = none_octets
octets_zeros (suc n) = more_octets 0 (replicate n 0) (omega arith) (octets_zeros n)

pub wrapped_spells : (keys : SealingPair) (subkey acceptor : Bool) (ec number : ℕ) (confounder : List ℕ) (bs : List Buffer)
    → ec < 2 ^ 16 → length confounder ≡ 16 → IsOctets confounder → IsOctets (part_octets Plain bs)
    → has_part Token bs ≡ true → has_part Plain bs ≡ true → has_part Stream bs ≡ false
    → Spelt keys acceptor ec (wrapped_by keys (seal_flags subkey acceptor) ec number confounder bs) (part_octets Plain bs)
unfolding wrapped_by written_body sealed_body
wrapped_spells keys subkey acceptor ec number confounder bs fits size_c octets_c octets_p t p s =
    let flags : ℕ = seal_flags subkey acceptor in
    let header : List ℕ = wrap_header flags ec 28 number in
    let copy : List ℕ = wrap_header flags ec 0 number in
    let text : List ℕ = part_octets Plain bs in
    let filler : List ℕ = replicate ec 0 in
    let whole : List ℕ = sealed_body keys bs confounder text filler copy in
    let body : List ℕ = slice_rotate_right whole (28 + ec) in
    let token : List ℕ = header ++ take (44 + ec) body in
    let plain : List ℕ = drop (44 + ec) body in
    record {
      header = header;
      body = body;
      text = spelled-wrapped token plain bs t p s ∙ append_assoc header (take (44 + ec) body) plain ∙ ap (λ (l : List ℕ). header ++ l) (take-append-drop (44 + ec) body);
      header_size = header_size flags ec 28 number;
      token = header_token flags ec 28 number;
      sealed = header_sealed subkey acceptor ec 28 number;
      side = header_side subkey acceptor ec 28 number;
      count = header_count flags ec 28 number fits;
      whole = whole;
      sealed_as = record {
        confounder = confounder;
        confounder_size = size_c;
        filler = filler;
        filler_size = length-replicate ec 0;
        copy = copy;
        copied = header_copied flags ec number;
        octets =
            (IsOctets-append (confounder ++ text ++ filler) copy
            (IsOctets-append (confounder ++ text) filler (IsOctets-append confounder text octets_c octets_p) (octets_zeros ec))
            (octets_header subkey acceptor ec 0 number)).below;
        is = ap (λ (c : List ℕ). cts (aes keys.encryption) (inner_text confounder text filler copy)
            ++ hmac12 keys.integrity (confounder ++ c ++ filler ++ copy)) (sym (covered-wrapped text token plain bs));
      };
      is = ap (slice_rotate_right whole) (sym (ap (λ (r : ℕ). sealed_turn ec r (length body)) (header_turn flags ec number)));
    }
