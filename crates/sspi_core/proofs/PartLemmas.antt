-- The place of a part, and the effect of replacing it.
use Rattle.std.proofs.Common.{◌≡◌, ℕ, zero, suc, ◌+◌, Bool, true, false, cond, List, [], ◌∷◌, get_or, set, Option, Some, None, refl, sym, subst, ap, ◌∙◌, arith}
use Rattle.std.specs.Prelude.{IsTrue}
use Rattle.std.specs.Option.{option_map}
use Rattle.std.specs.List.{count_by, sum_by, list_any}
use Rattle.std.proofs.lemmas.List.Sums.{sum_by-cons}
use Rattle.sspi_core.specs.declared.buffer.Part.{Part}
use Rattle.sspi_core.specs.declared.buffer.Part.TheVariants.{Token, Stream, Plain}
use Rattle.sspi_core.specs.Buffer.{Buffer, is_part, is_readonly_alone}
use Rattle.sspi_core.specs.Messages.{is_message, find_part, with_part, IsAt, IsNowhere}

rest_at : (part : Part) (b : Buffer) (bs : List Buffer) (i : ℕ) → IsAt part (b ∷ bs) (suc i) → IsAt part bs i
rest_at part b bs i at = record { within = omega (arith, at.within); here = at.here; first = λ k d h. at.first (suc k) d (omega arith) }

rest_nowhere : (part : Part) (b : Buffer) (bs : List Buffer) → IsNowhere part (b ∷ bs) → IsNowhere part bs
rest_nowhere part b bs absent = record { none = λ k d h. absent.none (suc k) d (omega arith) }

pub find-at : (part : Part) (bs : List Buffer) (i : ℕ) (d : Buffer) → IsAt part bs i → find_part part bs ≡ Some (get_or bs i d)
find-at part [] i d at = absurd (omega (arith, at.within))
find-at part (b ∷ bs) zero d at = rw (at.here d) refl
find-at part (b ∷ bs) (suc i) d at = rw (at.first 0 d (omega arith)) (find-at part bs i d (rest_at part b bs i at))

pub find-nowhere : (part : Part) (bs : List Buffer) → IsNowhere part bs → find_part part bs ≡ None
find-nowhere part [] absent = refl
find-nowhere part (b ∷ bs) absent = rw (absent.none 0 b (omega arith)) (find-nowhere part bs (rest_nowhere part b bs absent))

pub with_part-at : (part : Part) (f : Buffer → Buffer) (bs : List Buffer) (i : ℕ) (d : Buffer) → IsAt part bs i
    → with_part part f bs ≡ set bs i (f (get_or bs i d))
with_part-at part f [] i d at = absurd (omega (arith, at.within))
with_part-at part f (b ∷ bs) zero d at = rw (at.here d) refl
with_part-at part f (b ∷ bs) (suc i) d at = rw (at.first 0 d (omega arith)) (ap (λ (l : List Buffer). b ∷ l) (with_part-at part f bs i d (rest_at part b bs i at)))

pub with_part-nowhere : (part : Part) (f : Buffer → Buffer) (bs : List Buffer) → IsNowhere part bs → with_part part f bs ≡ bs
with_part-nowhere part f [] absent = refl
with_part-nowhere part f (b ∷ bs) absent = rw (absent.none 0 b (omega arith)) (ap (λ (l : List Buffer). b ∷ l) (with_part-nowhere part f bs (rest_nowhere part b bs absent)))

count-with : (q : Buffer → Bool) (part : Part) (f : Buffer → Buffer) (bs : List Buffer) → ((b : Buffer) → q (f b) ≡ q b)
    → count_by q (with_part part f bs) ≡ count_by q bs
count-with q part f [] same = refl
count-with q part f (b ∷ bs) same =
    let once : Buffer → ℕ = λ x. cond (q x) 1 0 in
    elim (is_part part b) as (λ v. sum_by (λ x. cond (q x) 1 0) (cond v (f b ∷ bs) (b ∷ with_part part f bs)) ≡ sum_by (λ x. cond (q x) 1 0) (b ∷ bs)) [
      | true ↦ sum_by-cons once (f b) bs ∙ ap (λ (v : Bool). cond v 1 0 + sum_by once bs) (same b) ∙ sym (sum_by-cons once b bs)
      | false ↦ sum_by-cons once b (with_part part f bs) ∙ ap (λ (n : ℕ). once b + n) (count-with q part f bs same) ∙ sym (sum_by-cons once b bs)
    ]

any-with : (q : Buffer → Bool) (part : Part) (f : Buffer → Buffer) (bs : List Buffer) → ((b : Buffer) → q (f b) ≡ q b)
    → list_any q (with_part part f bs) ≡ list_any q bs
any-with q part f [] same = refl
any-with q part f (b ∷ bs) same = elim (is_part part b) as (λ v. list_any q (cond v (f b ∷ bs) (b ∷ with_part part f bs)) ≡ list_any q (b ∷ bs)) [
  | true ↦ rw (same b) refl
  | false ↦ rw (any-with q part f bs same) refl
]

-- what keeps kinds and flags keeps a message
pub is_message-with : (part : Part) (f : Buffer → Buffer) (bs : List Buffer) → ((p : Part) (b : Buffer) → is_part p (f b) ≡ is_part p b)
    → ((b : Buffer) → is_readonly_alone (f b) ≡ is_readonly_alone b) → is_message (with_part part f bs) ≡ is_message bs
is_message-with part f bs same alone =
    simp (
      count-with (λ b. is_part Token b) part f bs (same Token),
      count-with (λ b. is_part Stream b) part f bs (same Stream),
      count-with (λ b. is_part Plain b) part f bs (same Plain),
      any-with (λ b. is_readonly_alone b) part f bs alone,
    ) refl

pub kept_by_write : (octets : List ℕ) (p : Part) (b : Buffer) → is_part p (record b { octets = octets }) ≡ is_part p b
kept_by_write octets Token b = refl
kept_by_write octets Stream b = refl
kept_by_write octets Plain b = refl

pub kept_by_write_whole : (octets : List ℕ) (limit : ℕ) (p : Part) (b : Buffer) → is_part p (record b { octets = octets; limit = limit }) ≡ is_part p b
kept_by_write_whole octets limit Token b = refl
kept_by_write_whole octets limit Stream b = refl
kept_by_write_whole octets limit Plain b = refl

-- the part was found in the slice of a message's buffers, and another buffer was put in its place
pub put_in_place : (part : Part) (f : Buffer → Buffer) (items slice now : List Buffer) (i : ℕ) (b new : Buffer)
    → slice ≡ items → items ≡ now → IsAt part slice i → b ≡ get_or items i b → new ≡ f b → set items i new ≡ with_part part f now
put_in_place part f items slice now i b new es en at eb ef =
    let so : with_part part f items ≡ set items i (f (get_or items i b)) = with_part-at part f items i b (subst (λ (l : List Buffer). IsAt part l i) es at) in
    ap (set items i) (ef ∙ ap f eb) ∙ sym so ∙ ap (with_part part f) en

pub kept_in_place : (part : Part) (f : Buffer → Buffer) (items slice : List Buffer) (i : ℕ) (b new : Buffer)
    → slice ≡ items → IsAt part slice i → b ≡ get_or items i b → new ≡ f b → ((p : Part) (b : Buffer) → is_part p (f b) ≡ is_part p b)
    → ((b : Buffer) → is_readonly_alone (f b) ≡ is_readonly_alone b) → IsTrue (is_message items) → IsTrue (is_message (set items i new))
kept_in_place part f items slice i b new es at eb ef same alone m =
    subst IsTrue (sym (is_message-with part f items same alone) ∙ ap (λ (l : List Buffer). is_message l) (sym (put_in_place part f items slice items i b new es refl at eb ef))) m

pub found_in_place : (part : Part) (items slice now : List Buffer) (i : ℕ) (b : Buffer)
    → slice ≡ items → items ≡ now → IsAt part slice i → b ≡ get_or items i b → find_part part now ≡ Some b
found_in_place part items slice now i b es en at eb =
    ap (find_part part) (sym en) ∙ find-at part items i b (subst (λ (l : List Buffer). IsAt part l i) es at) ∙ ap Some (sym eb)

pub stays_where_none : (part : Part) (f : Buffer → Buffer) (items slice now : List Buffer)
    → slice ≡ items → items ≡ now → IsNowhere part slice → now ≡ with_part part f now
stays_where_none part f items slice now es en absent =
    sym (with_part-nowhere part f now (subst (λ (l : List Buffer). IsNowhere part l) (es ∙ en) absent))

-- replacing one part leaves the others
pub find-other : (q part : Part) (f : Buffer → Buffer) (bs : List Buffer) → ((b : Buffer) → is_part part b ≡ true → (is_part q b ≡ false) × (is_part q (f b) ≡ false))
    → find_part q (with_part part f bs) ≡ find_part q bs
find-other q part f [] apart = refl
find-other q part f (b ∷ bs) apart =
    let P : Bool → Type 0 = λ v. (is_part part b ≡ v) → find_part q (cond v (f b ∷ bs) (b ∷ with_part part f bs)) ≡ find_part q (b ∷ bs) in
    let both : P (is_part part b) = elim (is_part part b) as P [
      | true ↦ λ e. rw ((apart b e).0, (apart b e).1) refl
      | false ↦ λ e. ap (λ (o : Option Buffer). cond (is_part q b) (Some b) o) (find-other q part f bs apart)
    ] in
    both refl

pub find-same : (part : Part) (f : Buffer → Buffer) (bs : List Buffer) → ((b : Buffer) → is_part part b ≡ true → is_part part (f b) ≡ true)
    → find_part part (with_part part f bs) ≡ option_map f (find_part part bs)
find-same part f [] kept = refl
find-same part f (b ∷ bs) kept =
    let P : Bool → Type 0 = λ v. (is_part part b ≡ v) → find_part part (cond v (f b ∷ bs) (b ∷ with_part part f bs)) ≡ option_map f (cond v (Some b) (find_part part bs)) in
    let both : P (is_part part b) = elim (is_part part b) as P [
      | true ↦ λ e. rw (kept b e) refl
      | false ↦ λ e. rw e (find-same part f bs kept)
    ] in
    both refl
