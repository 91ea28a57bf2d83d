-- The lines of a journal, from the last one on: each determines its entry's seat and verdict.
use Rattle.std.proofs.Common.{◌≡◌, ◌≢◌, ℕ, ◌+◌, ◌==◌, ◌<◌, ◌⊎◌, inl, inr, suc, Bool, true, false, cond, List, [], ◌∷◌, ◌++◌, length, map, get_or, refl, ap, sym, ◌∙◌, subst, arith, append_assoc}
use Rattle.std.specs.Prelude.{◌^◌, if◌then◌else◌, codes, reverse}
use Rattle.std.specs.Fmt.{decimal}
use Rattle.std.specs.Str.Parse.{digits_value}
use Rattle.std.proofs.lemmas.Fmt.{decimal_is_IsNumeral_wide}
use Rattle.std.proofs.lemmas.List.{append-nil, append_cancel_right, map-append, length-reverse, reverse-append, reverse-reverse}
use Rattle.krb_replay.specs.declared.ask.Verdict.{Verdict}
use Rattle.krb_replay.specs.declared.ask.Verdict.TheVariants.{Admitted, Skew, NotYet, Expired, Replayed}
use Rattle.krb_shared.specs.declared.entry.Entry.{Entry}
use Rattle.krb_machine.specs.Text.{end_line}
use Rattle.krb_threads.specs.Answers.{verdict_name, entry_line, entries_text}
use Rattle.krb_threads.proofs.TextLemmas.{entries-push}
use Rattle.krb_laws_journal.proofs.SplitLemmas.{lacks, lacks-append, split-last, split-first, decimal-lacks}

-- octets that are no digits
is_j : (106 < 48) ⊎ (57 < 106)
is_j = inr (omega arith)

is_e : (101 < 48) ⊎ (57 < 101)
is_e = inr (omega arith)

is_space : (32 < 48) ⊎ (57 < 32)
is_space = inl (omega arith)

-- the verdict that has this name, by its first letter
named : ℕ → Verdict
named letter = if letter == 65 then Admitted else (if letter == 83 then Skew else (if letter == 78 then NotYet else (if letter == 69 then Expired else Replayed)))

named_by : (v : Verdict) → named (get_or (verdict_name v) 0 0) ≡ v
unfolding named
named_by Admitted = refl
named_by Skew = refl
named_by NotYet = refl
named_by Expired = refl
named_by Replayed = refl

same_verdict : (v w : Verdict) → verdict_name v ≡ verdict_name w → v ≡ w
same_verdict v w e = sym (named_by v) ∙ ap (λ (name : List ℕ). named (get_or name 0 0)) e ∙ named_by w

verdict_lacks : (v : Verdict) → lacks 106 (verdict_name v) ≡ true
verdict_lacks Admitted = refl
verdict_lacks Skew = refl
verdict_lacks NotYet = refl
verdict_lacks Expired = refl
verdict_lacks Replayed = refl

-- numbers with equal texts are equal
decimal_once : (m n : ℕ) → m < 10 ^ 64 → n < 10 ^ 64 → decimal m ≡ decimal n → m ≡ n
decimal_once m n p q e = sym (decimal_is_IsNumeral_wide m p).1 ∙ ap (digits_value 10) e ∙ (decimal_is_IsNumeral_wide n q).1

-- a line after its first letter
abbrev rest_of : ℕ → Entry → List ℕ
rest_of place entry =
    32 ∷ (decimal place ++ codes " " ++ decimal entry.seat ++ codes " " ++ decimal entry.call ++ codes " " ++ verdict_name entry.verdict ++ codes "\n")

line_is : (place : ℕ) (entry : Entry) → entry_line place entry ≡ 106 ∷ rest_of place entry
line_is place entry = refl

words_lack : (p s c v : List ℕ) → lacks 106 p ≡ true → lacks 106 s ≡ true → lacks 106 c ≡ true → lacks 106 v ≡ true → lacks 106 (p ++ codes " " ++ s ++ codes " " ++ c ++ codes " " ++ v ++ codes "\n") ≡ true
words_lack p s c v in_p in_s in_c in_v =
    let a = lacks-append 106 p (codes " ") in_p refl in
    let b = lacks-append 106 (p ++ codes " ") s a in_s in
    let d = lacks-append 106 (p ++ codes " " ++ s) (codes " ") b refl in
    let e = lacks-append 106 (p ++ codes " " ++ s ++ codes " ") c d in_c in
    let f = lacks-append 106 (p ++ codes " " ++ s ++ codes " " ++ c) (codes " ") e refl in
    let g = lacks-append 106 (p ++ codes " " ++ s ++ codes " " ++ c ++ codes " ") v f in_v in
    lacks-append 106 (p ++ codes " " ++ s ++ codes " " ++ c ++ codes " " ++ v) (codes "\n") g refl

rest_lacks : (place : ℕ) (entry : Entry) → lacks 106 (rest_of place entry) ≡ true
rest_lacks place entry =
    words_lack (decimal place) (decimal entry.seat) (decimal entry.call) (verdict_name entry.verdict) (decimal-lacks 106 place is_j) (decimal-lacks 106 entry.seat is_j) (decimal-lacks 106 entry.call is_j)
    (verdict_lacks entry.verdict)

-- the words of a line, one after the other
apart : (p s c v : List ℕ) → p ++ codes " " ++ s ++ codes " " ++ c ++ codes " " ++ v ++ codes "\n" ≡ p ++ 32 ∷ (s ++ 32 ∷ (c ++ 32 ∷ (v ++ codes "\n")))
apart p s c v = simp append_assoc

-- the seat and the verdict of an entry, which its line shows next to its place and its call
abbrev pub told_of : Entry → ℕ × Verdict
told_of entry = (entry.seat, entry.verdict)

record Same (p q : ℕ) (x y : Entry) : Type 0 where
  place : decimal p ≡ decimal q
  seat : decimal x.seat ≡ decimal y.seat
  verdict : x.verdict ≡ y.verdict

same_words : (p q : ℕ) (x y : Entry) → rest_of p x ≡ rest_of q y → Same p q x y
same_words p q x y e =
    let t : decimal p ++ codes " " ++ decimal x.seat ++ codes " " ++ decimal x.call ++ codes " " ++ verdict_name x.verdict ++ codes "\n"
    ≡ decimal q ++ codes " " ++ decimal y.seat ++ codes " " ++ decimal y.call ++ codes " " ++ verdict_name y.verdict ++ codes "\n" = cc in
    let u = sym (apart (decimal p) (decimal x.seat) (decimal x.call) (verdict_name x.verdict)) ∙ t ∙ apart (decimal q) (decimal y.seat) (decimal y.call) (verdict_name y.verdict) in
    let places = split-first 32 (decimal p) (decimal q) _ _ (decimal-lacks 32 p is_space) (decimal-lacks 32 q is_space) u in
    let seats = split-first 32 (decimal x.seat) (decimal y.seat) _ _ (decimal-lacks 32 x.seat is_space) (decimal-lacks 32 y.seat is_space) places.1 in
    let calls = split-first 32 (decimal x.call) (decimal y.call) _ _ (decimal-lacks 32 x.call is_space) (decimal-lacks 32 y.call is_space) seats.1 in
    record {
      place = places.0;
      seat = seats.0;
      verdict = same_verdict x.verdict y.verdict (append_cancel_right (verdict_name x.verdict) (verdict_name y.verdict) (codes "\n") calls.1);
    }

-- the text of entries that are listed here from the last one to the first
abbrev pub back_text : List Entry → List ℕ
back_text [] = []
back_text (entry ∷ earlier) = back_text earlier ++ entry_line (length earlier + 1) entry

-- each entry is of one of two seats
abbrev pub AreOfTwo : List Entry → Type 0
AreOfTwo [] = Unit {0}
AreOfTwo (entry ∷ entries) = ((entry.seat ≡ 0) ⊎ (entry.seat ≡ 1)) × AreOfTwo entries

small : (seat : ℕ) → (seat ≡ 0) ⊎ (seat ≡ 1) → seat < 10 ^ 64
small seat (inl e) = omega (arith, e)
small seat (inr e) = omega (arith, e)

same_told : (x y : Entry) → (x.seat ≡ 0) ⊎ (x.seat ≡ 1) → (y.seat ≡ 0) ⊎ (y.seat ≡ 1) → decimal x.seat ≡ decimal y.seat → x.verdict ≡ y.verdict → told_of x ≡ told_of y
same_told x y a b seat verdict =
    let s = decimal_once x.seat y.seat (small x.seat a) (small y.seat b) seat in
    ap (λ (n : ℕ). (n, x.verdict)) s ∙ ap (λ (v : Verdict). (y.seat, v)) verdict

-- the last lines of two texts, and the texts before them
last_lines : (a b : List ℕ) (x y : Entry) (xs ys : List Entry) → a ++ back_text (x ∷ xs) ≡ b ++ back_text (y ∷ ys)
    → (a ++ back_text xs ≡ b ++ back_text ys) × (rest_of (length xs + 1) x ≡ rest_of (length ys + 1) y)
last_lines a b x y xs ys e =
    split-last 106 (a ++ back_text xs) (b ++ back_text ys) (rest_of (length xs + 1) x) (rest_of (length ys + 1) y) (rest_lacks (length xs + 1) x) (rest_lacks (length ys + 1) y)
    (append_assoc a (back_text xs) (entry_line (length xs + 1) x) ∙ e ∙ sym (append_assoc b (back_text ys) (entry_line (length ys + 1) y)))

-- entries of two equally long lists, whose texts end two equal texts, have the same seats and verdicts
told_back : (a b : List ℕ) (xs ys : List Entry) → AreOfTwo xs → AreOfTwo ys → length xs ≡ length ys → a ++ back_text xs ≡ b ++ back_text ys → map told_of xs ≡ map told_of ys
told_back a b [] [] p q l e = refl
told_back a b [] (y ∷ ys) p q l e = absurd (omega (arith, l))
told_back a b (x ∷ xs) [] p q l e = absurd (omega (arith, l))
told_back a b (x ∷ xs) (y ∷ ys) p q l e =
    let last = last_lines a b x y xs ys e in
    let words = same_words (length xs + 1) (length ys + 1) x y last.1 in
    let one = same_told x y p.0 q.0 words.seat words.verdict in
    let more = told_back a b xs ys p.1 q.1 (omega (arith, l)) last.0 in
    ap (λ (t : ℕ × Verdict). t ∷ map told_of xs) one ∙ ap (λ (l : List (ℕ × Verdict)). told_of y ∷ l) more

-- the last places are the numbers of entries
as_many : (a b : List ℕ) (x y : Entry) (xs ys : List Entry) → length xs + 1 < 10 ^ 64 → length ys + 1 < 10 ^ 64 → a ++ back_text (x ∷ xs) ≡ b ++ back_text (y ∷ ys) → length xs ≡ length ys
as_many a b x y xs ys p q e =
    let words = same_words (length xs + 1) (length ys + 1) x y (last_lines a b x y xs ys e).1 in
    let s = decimal_once (length xs + 1) (length ys + 1) p q words.place in
    omega (arith, s)

-- the last line of all, after its first letter
abbrev end_rest : ℕ → ℕ → List ℕ
end_rest admissions records = codes "nd " ++ decimal admissions ++ codes " " ++ decimal records ++ codes "\n"

end_lacks : (admissions records : ℕ) → lacks 101 (end_rest admissions records) ≡ true
end_lacks admissions records =
    let a = lacks-append 101 (codes "nd ") (decimal admissions) refl (decimal-lacks 101 admissions is_e) in
    let b = lacks-append 101 (codes "nd " ++ decimal admissions) (codes " ") a refl in
    let c = lacks-append 101 (codes "nd " ++ decimal admissions ++ codes " ") (decimal records) b (decimal-lacks 101 records is_e) in
    lacks-append 101 (codes "nd " ++ decimal admissions ++ codes " " ++ decimal records) (codes "\n") c refl

-- the texts before the last lines are equal if the whole texts are
pub before-end : (a b : List ℕ) (m n k l : ℕ) → a ++ end_line m k ≡ b ++ end_line n l → a ≡ b
before-end a b m n k l e = (split-last 101 a b (end_rest m k) (end_rest n l) (end_lacks m k) (end_lacks n l) e).0

-- the text of entries, from the last one on
text_back : (back : List Entry) → entries_text 1 (reverse back) ≡ back_text back
text_back [] = refl
text_back (entry ∷ back) =
    ap (entries_text 1) (reverse-append (entry ∷ []) back) ∙ entries-push 1 (reverse back) entry
    ∙ ap (λ (l : List ℕ). l ++ entry_line (1 + length (reverse back)) entry) (text_back back)
    ∙ ap (λ n. back_text back ++ entry_line n entry) (ap (λ n. 1 + n) (length-reverse back) ∙ omega arith)

text_is : (entries : List Entry) → entries_text 1 entries ≡ back_text (reverse entries)
text_is entries = ap (entries_text 1) (sym (reverse-reverse entries)) ∙ text_back (reverse entries)

two_append : (xs ys : List Entry) → AreOfTwo xs → AreOfTwo ys → AreOfTwo (xs ++ ys)
two_append [] ys p q = q
two_append (x ∷ xs) ys p q = (p.0, two_append xs ys p.1 q)

two_back : (entries : List Entry) → AreOfTwo entries → AreOfTwo (reverse entries)
two_back [] p = tt
two_back (entry ∷ entries) p =
    subst AreOfTwo (sym (reverse-append (entry ∷ []) entries)) (two_append (reverse entries) (entry ∷ []) (two_back entries p.1) (p.0, tt))

map_back : (entries : List Entry) → map told_of (reverse entries) ≡ reverse (map told_of entries)
map_back [] = refl
map_back (entry ∷ entries) =
    ap (map told_of) (reverse-append (entry ∷ []) entries) ∙ map-append told_of (reverse entries) (entry ∷ [])
    ∙ ap (λ (l : List (ℕ × Verdict)). l ++ told_of entry ∷ []) (map_back entries) ∙ sym (reverse-append (told_of entry ∷ []) (map told_of entries))

map_forth : (xs ys : List Entry) → map told_of (reverse xs) ≡ map told_of (reverse ys) → map told_of xs ≡ map told_of ys
map_forth xs ys e =
    sym (reverse-reverse (map told_of xs)) ∙ ap reverse (sym (map_back xs) ∙ e ∙ map_back ys) ∙ reverse-reverse (map told_of ys)

-- two journals with equal texts: they have the same seats and verdicts, or one of them has no entry
abbrev pub AreAlike : List Entry → List Entry → Type 0
AreAlike xs ys = (map told_of xs ≡ map told_of ys) ⊎ ((xs ≡ []) ⊎ (ys ≡ []))

alike_back : (a b : List ℕ) (xs ys : List Entry) → AreOfTwo xs → AreOfTwo ys → length xs < 10 ^ 64 → length ys < 10 ^ 64 → a ++ back_text xs ≡ b ++ back_text ys → AreAlike xs ys
alike_back a b [] ys p q m n e = inr (inl refl)
alike_back a b (x ∷ xs) [] p q m n e = inr (inr refl)
alike_back a b (x ∷ xs) (y ∷ ys) p q m n e =
    let l = as_many a b x y xs ys (omega (arith, m)) (omega (arith, n)) e in
    inl (told_back a b (x ∷ xs) (y ∷ ys) p q (ap suc l) e)

nil_forth : (xs : List Entry) → reverse xs ≡ [] → xs ≡ []
nil_forth xs e = sym (reverse-reverse xs) ∙ ap reverse e

alike_forth : (xs ys : List Entry) → AreAlike (reverse xs) (reverse ys) → AreAlike xs ys
alike_forth xs ys (inl e) = inl (map_forth xs ys e)
alike_forth xs ys (inr (inl e)) = inr (inl (nil_forth xs e))
alike_forth xs ys (inr (inr e)) = inr (inr (nil_forth ys e))

pub told-alike : (a b : List ℕ) (xs ys : List Entry) → AreOfTwo xs → AreOfTwo ys → length xs < 10 ^ 64 → length ys < 10 ^ 64 → a ++ entries_text 1 xs ≡ b ++ entries_text 1 ys → AreAlike xs ys
told-alike a b xs ys p q m n e =
    alike_forth xs ys
    (alike_back a b (reverse xs) (reverse ys) (two_back xs p) (two_back ys q) (omega (arith, length-reverse xs, m)) (omega (arith, length-reverse ys, n))
    (ap (λ l. a ++ l) (sym (text_is xs)) ∙ e ∙ ap (λ l. b ++ l) (text_is ys)))
