-- The result of wrapping.
use Rattle.std.proofs.Common.{◌≡◌, ℕ, ◌+◌, ◌-◌, ◌≤◌, Bool, true, false, not, List, ◌++◌, length, take, drop, replicate, refl, sym, ap, ap₂, ◌∙◌, arith, length-append, length-drop}
use Rattle.std.specs.Prelude.{Option, Some, None, IfSome, ◌&&◌}
use Rattle.std.specs.List.{slice_rotate_right}
use Rattle.std.proofs.Math.Seq.{take-append-add, drop-append-add}
use Rattle.std.proofs.lemmas.List.{take-take, drop-take}
use Rattle.krb_aes.specs.Aes.{aes}
use Rattle.krb_crypto.specs.Cts.{cts}
use Rattle.krb_crypto.specs.SealingPair.{SealingPair}
use Rattle.sspi_core.specs.declared.buffer.BufferType.{BufferType}
use Rattle.sspi_core.specs.declared.buffer.BufferType.TheVariants.{Token as TokenType, Data as DataType, Stream as StreamType}
use Rattle.sspi_core.specs.declared.buffer.Part.TheVariants.{Token, Stream, Plain}
use Rattle.sspi_core.specs.Buffer.{Buffer, has_readonly_flag, has_checksum_flag, is_data, is_token, is_stream}
use Rattle.sspi_core.specs.Messages.{find_part, write}
use Rattle.sspi_core.proofs.PartLemmas.{find-other}
use Rattle.krb_context.specs.Header.{wrap_header}
use Rattle.krb_context.specs.Spelled.{octets_of, part_octets}
use Rattle.krb_context.specs.Spelt.{inner_text, sealed_body, covered_code}
use Rattle.krb_context.specs.Wrapped.{limit_of, written_body, wrapped_by}
use Rattle.krb_context.proofs.OpenLemmas.{parted, code_of_parts}

pub fits_in : (o : Option Buffer) (n : ℕ) → n ≡ length (octets_of o) → IfSome o (λ b. length b.octets ≤ b.limit) → IfSome o (λ b. n ≤ b.limit)
fits_in (Some b) n e h = let size : n ≡ length b.octets = e in let fits : length b.octets ≤ b.limit = h in omega (arith, size, fits)
fits_in None n e h = tt

pub within_limit : (o : Option Buffer) (n : ℕ) → n ≤ limit_of o → IfSome o (λ b. n ≤ b.limit)
within_limit (Some b) n h = h
within_limit None n h = tt

-- a buffer is one part at most
pub token_of_plain : (k : BufferType) (x y : Bool) → (is_data k && x && y) ≡ true → is_token k ≡ false
token_of_plain TokenType x y e = cc
token_of_plain DataType x y e = refl
token_of_plain StreamType x y e = refl

pub stream_of_plain : (k : BufferType) (x y : Bool) → (is_data k && x && y) ≡ true → is_stream k ≡ false
stream_of_plain TokenType x y e = refl
stream_of_plain DataType x y e = refl
stream_of_plain StreamType x y e = cc

pub plain_of_token : (k : BufferType) (x y : Bool) → is_token k ≡ true → (is_data k && x && y) ≡ false
plain_of_token TokenType x y e = refl
plain_of_token DataType x y e = cc
plain_of_token StreamType x y e = refl

pub stream_of_token : (k : BufferType) → is_token k ≡ true → is_stream k ≡ false
stream_of_token TokenType e = refl
stream_of_token DataType e = refl
stream_of_token StreamType e = cc

pub token-after-plain : (octets : List ℕ) (bs : List Buffer) → find_part Token (write Plain octets bs) ≡ find_part Token bs
token-after-plain octets bs =
    find-other Token Plain (λ b. record b { octets = octets }) bs
    (λ b e. let apart = token_of_plain b.kind (not (has_readonly_flag b.flags)) (not (has_checksum_flag b.flags)) e in (apart, apart))

pub stream-after-plain : (octets : List ℕ) (bs : List Buffer) → find_part Stream (write Plain octets bs) ≡ find_part Stream bs
stream-after-plain octets bs =
    find-other Stream Plain (λ b. record b { octets = octets }) bs
    (λ b e. let apart = stream_of_plain b.kind (not (has_readonly_flag b.flags)) (not (has_checksum_flag b.flags)) e in (apart, apart))

pub plain-after-token : (octets : List ℕ) (bs : List Buffer) → find_part Plain (write Token octets bs) ≡ find_part Plain bs
plain-after-token octets bs =
    find-other Plain Token (λ b. record b { octets = octets }) bs
    (λ b e. let apart = plain_of_token b.kind (not (has_readonly_flag b.flags)) (not (has_checksum_flag b.flags)) e in (apart, apart))

pub stream-after-token : (octets : List ℕ) (bs : List Buffer) → find_part Stream (write Token octets bs) ≡ find_part Stream bs
stream-after-token octets bs = find-other Stream Token (λ b. record b { octets = octets }) bs (λ b e. let apart = stream_of_token b.kind e in (apart, apart))

-- the encrypted text and the checksum, from what the code computes
pub sealed_from : (keys : SealingPair) (buffers : List Buffer) (confounder p filler copy text slice encrypted code whole : List ℕ) (ec : ℕ)
    → length confounder ≡ 16 → length filler ≡ ec → length copy ≡ 16 → text ≡ inner_text confounder p filler copy → slice ≡ text
    → code ≡ covered_code keys.integrity buffers slice (16 + length p) → encrypted ≡ cts (aes keys.encryption) text → whole ≡ encrypted ++ code
    → whole ≡ sealed_body keys buffers confounder p filler copy
unfolding sealed_body
sealed_from keys buffers confounder p filler copy text slice encrypted code whole ec size_c size_f size_h et es ec_is ee ew =
    let o : List ℕ = inner_text confounder p filler copy in
    let size : 16 + length p ≡ length o - 16 - ec =
    omega (arith, length-append (confounder ++ p ++ filler) copy, length-append (confounder ++ p) filler, length-append confounder p, size_c, size_f, size_h) in
    ew
    ∙ ap₂ (λ (u v : List ℕ). u ++ v) (ee ∙ ap (cts (aes keys.encryption)) et)
    (ec_is ∙ ap₂ (λ (s : List ℕ) (n : ℕ). covered_code keys.integrity buffers s n) (es ∙ et) size
    ∙ code_of_parts keys.integrity buffers confounder p filler copy o ec (parted confounder p filler copy ec size_c size_f size_h))

-- the two halves of a body that was turned by 28 + ec
pub turned_halves : (whole : List ℕ) (ec end : ℕ) → end + (28 + ec) ≡ length whole → 16 ≤ end
    → (take (44 + ec) (slice_rotate_right whole (28 + ec)) ≡ drop end whole ++ take 16 whole)
    × (drop (44 + ec) (slice_rotate_right whole (28 + ec)) ≡ take (end - 16) (drop 16 whole))
turned_halves whole ec end size low =
    let e : length whole - (28 + ec) ≡ end = omega arith in
    let body : slice_rotate_right whole (28 + ec) ≡ drop end whole ++ take end whole = ap (λ (n : ℕ). drop n whole ++ take n whole) e in
    let back : length (drop end whole) ≡ 28 + ec = omega (arith, length-drop end whole) in
    let n : 44 + ec ≡ length (drop end whole) + 16 = omega arith in (
      ap₂ (λ (k : ℕ) (s : List ℕ). take k s) n body ∙ take-append-add (drop end whole) (take end whole) 16
          ∙ ap (λ (s : List ℕ). drop end whole ++ s) (take-take 16 end whole low),
      ap₂ (λ (k : ℕ) (s : List ℕ). drop k s) n body ∙ drop-append-add (drop end whole) (take end whole) 16
          ∙ ap (λ (k : ℕ). drop 16 (take k whole)) (omega arith) ∙ drop-take 16 (end - 16) whole,
    )

pub wrapped_from : (keys : SealingPair) (flags ec number : ℕ) (confounder : List ℕ) (buffers new : List Buffer) (whole header token data_of copy : List ℕ) (end : ℕ)
    → end + (28 + ec) ≡ length whole → 16 ≤ end → header ≡ wrap_header flags ec 28 number → copy ≡ wrap_header flags ec 0 number
    → whole ≡ sealed_body keys buffers confounder (part_octets Plain buffers) (replicate ec 0) copy
    → token ≡ header ++ (drop end whole ++ take 16 whole) → data_of ≡ take (end - 16) (drop 16 whole)
    → new ≡ write Token token (write Plain data_of buffers) → new ≡ wrapped_by keys flags ec number confounder buffers
unfolding wrapped_by written_body
wrapped_from keys flags ec number confounder buffers new whole header token data_of copy end size low eh eg ew et ed en =
    let halves = turned_halves whole ec end size low in
    let made : whole ≡ sealed_body keys buffers confounder (part_octets Plain buffers) (replicate ec 0) (wrap_header flags ec 0 number) =
    ew ∙ ap (sealed_body keys buffers confounder (part_octets Plain buffers) (replicate ec 0)) eg in
    let body : List ℕ = slice_rotate_right whole (28 + ec) in
    let same : body ≡ written_body keys flags ec number confounder buffers = ap (λ (w : List ℕ). slice_rotate_right w (28 + ec)) made in
    en
    ∙ ap₂ (λ (t d : List ℕ). write Token t (write Plain d buffers))
    (et ∙ ap₂ (λ (u v : List ℕ). u ++ v) eh (sym halves.0 ∙ ap (take (44 + ec)) same))
    (ed ∙ sym halves.1 ∙ ap (drop (44 + ec)) same)
