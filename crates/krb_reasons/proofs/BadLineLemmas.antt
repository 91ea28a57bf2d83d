-- The lines of a text, and the first bad one of numbered lines.
use Rattle.std.proofs.Common.{◌≡◌, ℕ, ◌+◌, ◌<◌, ◌≤◌, Bool, true, false, List, [], ◌∷◌, ◌++◌, length, drop, get_or, Option, Some, None, Result, Ok, Err, refl, sym, ap, ◌∙◌, append_assoc}
use Rattle.std.specs.Prelude.{◌==◌, not, map, if◌then◌else◌, is_some, option_map}
use Rattle.std.specs.Borrow.{Bor}
use Rattle.std.specs.List.{slice_split, zip}
use Rattle.std.specs.Option.{option_map_or}
use Rattle.std.proofs.Math.ListN.{get_or-map}
use Rattle.std.proofs.Math.Numerals.{add-one}
use Rattle.std.proofs.Math.Seq.{drop-cons}
use Rattle.std.proofs.lemmas.List.{append-nil, map-append, drop_all, length-map}
use Rattle.krb_text.specs.Lines.{Cut, cut, in_front, unended, lines}
use Rattle.krb_reasons.specs.BadLines.{numbered, number_past, kept_lines, last_number, first_bad, Walks, Finds}
use Rattle.krb_reasons.specs.Judged.{Judged, after, why}
use Rattle.krb_reasons.specs.Kept.{Head, Keeping, number_after}
use Rattle.krb_reasons.specs.declared.bad_line.BadLine.{BadLine}
use Rattle.krb_reasons.specs.declared.judge.Complaint.{Complaint}
use Rattle.krb_reasons.specs.declared.judge.Complaint.TheVariants.{Bad, OutOfMemory}
use Rattle.krb_reasons.specs.declared.reason.Reason.{Reason}
use Rattle.krb_reasons.specs.declared.reason.Reason.TheVariants.{NoSkew}

-- ---- the parts of a text between its 0As

abbrev parts_of : Cut → List (List ℕ)
parts_of c = c.whole ++ c.rest ∷ []

in_front_part : (b : ℕ) (bs : List ℕ) (whole : List (List ℕ)) (rest : List ℕ) → (b == 10) ≡ false
    → slice_split (λ (x : ℕ). x == 10) bs ≡ whole ++ rest ∷ [] → slice_split (λ (x : ℕ). x == 10) (b ∷ bs) ≡ parts_of (in_front b whole rest)
in_front_part b bs [] rest inside later = rw (inside, later) refl
in_front_part b bs (line ∷ whole) rest inside later = rw (inside, later) refl

parts_step : (b : ℕ) (bs : List ℕ) (ends : Bool) → (b == 10) ≡ ends → slice_split (λ (x : ℕ). x == 10) bs ≡ parts_of (cut bs)
    → slice_split (λ (x : ℕ). x == 10) (b ∷ bs) ≡ parts_of (cut (b ∷ bs))
parts_step b bs true is later = rw (is, later) refl
parts_step b bs false is later = in_front_part b bs (cut bs).whole (cut bs).rest is later ∙ rw is refl

pub parts_are : (text : List ℕ) → slice_split (λ (x : ℕ). x == 10) text ≡ parts_of (cut text)
parts_are [] = refl
parts_are (b ∷ bs) = parts_step b bs (b == 10) refl (parts_are bs)

no_last : {A : Type 0} (xs : List A) (x : A) → ◌≡◌ {A = List A} [] (xs ++ x ∷ []) → ⊥
no_last [] x e = absurd cc
no_last (y ∷ xs) x e = absurd cc

same_last : {A : Type 0} (xs ys : List A) (x y : A) → xs ++ x ∷ [] ≡ ys ++ y ∷ [] → (xs ≡ ys) × (x ≡ y)
same_last [] [] x y e = (refl, cc)
same_last [] (z ∷ ys) x y e = absurd (no_last ys y (ap (λ l. drop 1 l) e))
same_last (z ∷ xs) [] x y e = absurd (no_last xs x (sym (ap (λ l. drop 1 l) e)))
same_last {A} (z ∷ xs) (w ∷ ys) x y e =
    let later = same_last xs ys x y (ap (λ (l : List A). drop 1 l) e) in
    let first : z ≡ w = cc in
    (ap (λ (a : A). a ∷ xs) first ∙ ap (λ (l : List A). w ∷ l) later.0, later.1)

abbrev now : Bor (List ℕ) → List ℕ
now line = line.now

-- a text has a part
pub no_part : (text : List ℕ) (parts : List (Bor (List ℕ))) → parts ≡ [] → map now parts ≡ slice_split (λ (x : ℕ). x == 10) text → ⊥
no_part text parts none are =
    no_last (cut text).whole (cut text).rest (ap (λ (l : List (Bor (List ℕ))). map now l) (sym none) ∙ (are ∙ parts_are text))

module _ (text : List ℕ) (parts front : List (Bor (List ℕ))) (last : Bor (List ℕ)) (are : map now parts ≡ slice_split (λ (x : ℕ). x == 10) text)
    (is : parts ≡ front ++ last ∷ []) where
  both : (map now front ≡ (cut text).whole) × (last.now ≡ (cut text).rest)
  both = same_last (map now front) (cut text).whole last.now (cut text).rest
      (sym (map-append now front (last ∷ [])) ∙ (sym (ap (λ (l : List (Bor (List ℕ))). map now l) is) ∙ (are ∙ parts_are text)))

  some_end : (rest : List ℕ) → (rest ≡ [] → ⊥) → unended rest ≡ rest ∷ []
  some_end [] ne = absurd (ne refl)
  some_end (b ∷ bs) ne = refl

  pub ended : last.now ≡ [] → map now front ≡ lines text
  ended none = both.0 ∙ sym (ap (λ (r : List ℕ). (cut text).whole ++ unended r) (sym both.1 ∙ none) ∙ append-nil (cut text).whole)

  pub unended_too : (last.now ≡ [] → ⊥) → map now (front ++ last ∷ []) ≡ lines text
  unended_too some =
      map-append now front (last ∷ []) ∙ (ap (λ (l : List (List ℕ)). l ++ last.now ∷ []) both.0
      ∙ (ap (λ (r : List ℕ). (cut text).whole ++ r ∷ []) both.1
      ∙ sym (ap (λ (l : List (List ℕ)). (cut text).whole ++ l) (some_end (cut text).rest (λ e. some (both.1 ∙ e))))))

-- ---- one line more

pub taken : (judged later : Judged) (line : List ℕ) (number : ℕ) (more : List (List ℕ × ℕ)) (end : ℕ) → after judged line ≡ Some later
    → first_bad judged ((line, number) ∷ more) end ≡ first_bad later more end
taken judged later line number more end is =
    ap (λ (o : Option Judged). option_map_or (λ j. first_bad j more end) o (option_map (λ reason. record { number = number; reason = reason }) (why judged line))) is

pub stopped : (judged : Judged) (line : List ℕ) (number : ℕ) (reason : Reason) (more : List (List ℕ × ℕ)) (end : ℕ) → after judged line ≡ None → why judged line ≡ Some reason
    → first_bad judged ((line, number) ∷ more) end ≡ Some (record { number = number; reason = reason })
stopped judged line number reason more end none is =
    ap (λ (o : Option Judged). option_map_or (λ j. first_bad j more end) o (option_map (λ reason. record { number = number; reason = reason }) (why judged line))) none
    ∙ ap (λ (o : Option Reason). option_map (λ reason. record { number = number; reason = reason }) o) is

next_at : {A : Type 0} (xs : List A) (i : ℕ) (d : A) → i < length xs → drop i xs ≡ get_or xs i d ∷ drop (i + 1) xs
next_at {A} xs i d low = drop-cons xs i d low ∙ ap (λ (n : ℕ). get_or xs i d ∷ drop n xs) (sym (add-one i))

next_is : {A : Type 0} (xs : List A) (i : ℕ) (x : A) → i < length xs → x ≡ get_or xs i x → drop i xs ≡ x ∷ drop (i + 1) xs
next_is {A} xs i x low is = next_at xs i x low ∙ ap (λ (y : A). y ∷ drop (i + 1) xs) (sym is)

-- ---- lines that have their numbers with them

abbrev texts : List (Bor (List ℕ)) → List (List ℕ)
texts lines = map now lines

texts_low : (lines : List (Bor (List ℕ))) (i : ℕ) → i < length lines → i < length (texts lines)
texts_low lines i low = rw length-map low

texts_is : (lines : List (Bor (List ℕ))) (i : ℕ) (line : Bor (List ℕ)) → line ≡ get_or lines i line → line.now ≡ get_or (texts lines) i line.now
texts_is lines i line is = ap now is ∙ sym (get_or-map now lines i line)

zip_none : (xs : List (List ℕ)) → zip {X = ℕ} xs [] ≡ []
zip_none [] = refl
zip_none (x ∷ xs) = refl

zip_next : (ls : List (List ℕ)) (ns : List ℕ) (i : ℕ) (line : List ℕ) → i < length ls → line ≡ get_or ls i line → i < length ns
    → zip (drop i ls) (drop i ns) ≡ (line, get_or ns i 0) ∷ zip (drop (i + 1) ls) (drop (i + 1) ns)
zip_next ls ns i line low is low_n =
    ap (λ (l : List (List ℕ)). zip l (drop i ns)) (next_is ls i line low is) ∙ ap (λ (l : List ℕ). zip (line ∷ drop (i + 1) ls) l) (next_at ns i 0 low_n)

-- after i lines that were taken, the first bad line is among the others
-- reading the line failed
pub err_walks : (old new : Judged) (passed : List (List ℕ × ℕ)) (number : ℕ) (complaint : Complaint)
    → ((reason : Reason) → complaint ≡ Bad reason → (more : List (List ℕ × ℕ)) (end : ℕ) → first_bad old (passed ++ more) end ≡ Some (record { number = number; reason = reason }))
    → Walks old passed (Err complaint) new number
err_walks old new passed number (Bad reason) bad = bad reason refl
err_walks old new passed number OutOfMemory bad = tt

abbrev pub Among : Judged → Judged → List (Bor (List ℕ)) → List ℕ → ℕ → Type 0
Among old judged lines numbers i = (more : List (List ℕ × ℕ)) (end : ℕ)
    → first_bad old (zip (texts lines) numbers ++ more) end ≡ first_bad judged (zip (drop i (texts lines)) (drop i numbers) ++ more) end

module _ (old judged : Judged) (lines : List (Bor (List ℕ))) (numbers : List ℕ) (i : ℕ) (among : Among old judged lines numbers i) where
  module _ (line : Bor (List ℕ)) (low : i < length lines) (is : line ≡ get_or lines i line) (low_n : i < length numbers) where
    abbrev n : ℕ
    n = get_or numbers i 0

    here : (more : List (List ℕ × ℕ)) (end : ℕ) → first_bad old (zip (texts lines) numbers ++ more) end
        ≡ first_bad judged ((line.now, n) ∷ (zip (drop (i + 1) (texts lines)) (drop (i + 1) numbers) ++ more)) end
    here more end =
        among more end
        ∙ ap (λ (l : List (List ℕ × ℕ)). first_bad judged (l ++ more) end) (zip_next (texts lines) numbers i line.now (texts_low lines i low) (texts_is lines i line is) low_n)

    pub among_next : (later : Judged) → after judged line.now ≡ Some later → Among old later lines numbers (i + 1)
    among_next later takes more end = here more end ∙ taken judged later line.now n (zip (drop (i + 1) (texts lines)) (drop (i + 1) numbers) ++ more) end takes

    pub among_stops : (reason : Reason) → after judged line.now ≡ None → why judged line.now ≡ Some reason → (more : List (List ℕ × ℕ)) (end : ℕ)
        → first_bad old (zip (texts lines) numbers ++ more) end ≡ Some (record { number = n; reason = reason })
    among_stops reason none is_why more end =
        here more end ∙ stopped judged line.now n reason (zip (drop (i + 1) (texts lines)) (drop (i + 1) numbers) ++ more) end none is_why

  pub none_left : length lines ≤ i → (more : List (List ℕ × ℕ)) (end : ℕ) → first_bad old (zip (texts lines) numbers ++ more) end ≡ first_bad judged more end
  none_left past more end =
      among more end ∙ ap (λ (l : List (List ℕ)). first_bad judged (zip l (drop i numbers) ++ more) end) (drop_all i (texts lines) (rw length-map past))

  pub no_number_left : length numbers ≤ i → (more : List (List ℕ × ℕ)) (end : ℕ) → first_bad old (zip (texts lines) numbers ++ more) end ≡ first_bad judged more end
  no_number_left past more end =
      among more end ∙ (ap (λ (l : List ℕ). first_bad judged (zip (drop i (texts lines)) l ++ more) end) (drop_all i numbers past)
      ∙ ap (λ (l : List (List ℕ × ℕ)). first_bad judged (l ++ more) end) (zip_none (drop i (texts lines))))

-- ---- lines that are numbered one after another

-- after i lines that were taken, the first bad line is among the others, and they are numbered from here on
pub record Onward (old judged : Judged) (first number : ℕ) (lines : List (Bor (List ℕ))) (i : ℕ) : Type 0 where
  pub among : (more : List (List ℕ × ℕ)) (end : ℕ) → first_bad old (numbered first (texts lines) ++ more) end ≡ first_bad judged (numbered number (drop i (texts lines)) ++ more) end
  pub past : number_past first (texts lines) ≡ number_past number (drop i (texts lines))

pub onward_begins : (judged : Judged) (first : ℕ) (lines : List (Bor (List ℕ))) → Onward judged judged first first lines 0
onward_begins judged first lines = record { among = λ more end. refl; past = refl }

module _ (old judged : Judged) (first number : ℕ) (lines : List (Bor (List ℕ))) (i : ℕ) (onward : Onward old judged first number lines i) where
  module _ (d : Bor (List ℕ)) (low : i < length lines) where
    abbrev line : Bor (List ℕ)
    line = get_or lines i d

    next : drop i (texts lines) ≡ line.now ∷ drop (i + 1) (texts lines)
    next = next_at (texts lines) i d.now (texts_low lines i low) ∙ ap (λ (l : List ℕ). l ∷ drop (i + 1) (texts lines)) (get_or-map now lines i d)

    pub onward_next : (later : Judged) → after judged line.now ≡ Some later → Onward old later first (number_after number) lines (i + 1)
    onward_next later takes = record {
      among = λ more end.
          onward.among more end ∙ (ap (λ (l : List (List ℕ)). first_bad judged (numbered number l ++ more) end) next
          ∙ taken judged later line.now number (numbered (number_after number) (drop (i + 1) (texts lines)) ++ more) end takes);
      past = onward.past ∙ ap (λ (l : List (List ℕ)). number_past number l) next;
    }

    pub onward_stops : (reason : Reason) → after judged line.now ≡ None → why judged line.now ≡ Some reason → (more : List (List ℕ × ℕ)) (end : ℕ)
        → first_bad old (numbered first (texts lines) ++ more) end ≡ Some (record { number = number; reason = reason })
    onward_stops reason none is_why more end =
        onward.among more end ∙ (ap (λ (l : List (List ℕ)). first_bad judged (numbered number l ++ more) end) next
        ∙ stopped judged line.now number reason (numbered (number_after number) (drop (i + 1) (texts lines)) ++ more) end none is_why)

  module _ (past : length lines ≤ i) where
    none : drop i (texts lines) ≡ []
    none = drop_all i (texts lines) (rw length-map past)

    pub onward_ends : (more : List (List ℕ × ℕ)) (end : ℕ) → first_bad old (numbered first (texts lines) ++ more) end ≡ first_bad judged more end
    onward_ends more end = onward.among more end ∙ ap (λ (l : List (List ℕ)). first_bad judged (numbered number l ++ more) end) none

    pub number_at_end : number ≡ number_past first (texts lines)
    number_at_end = sym (onward.past ∙ ap (λ (l : List (List ℕ)). number_past number l) none)

-- ---- the head, the tail, and the end

pub walks_on : (old mid new : Judged) (passed more : List (List ℕ × ℕ)) (n number : ℕ) (u : Unit {0}) (result : Result (Unit {0}) Complaint)
    → Walks old passed (Ok u) mid n → Walks mid more result new number → Walks old (passed ++ more) result new number
walks_on old mid new passed more n number u (Ok v) a b =
    λ rest end. ap (λ (l : List (List ℕ × ℕ)). first_bad old l end) (append_assoc passed more rest) ∙ (a (more ++ rest) end ∙ b rest end)
walks_on old mid new passed more n number u (Err (Bad reason)) a b =
    λ rest end. ap (λ (l : List (List ℕ × ℕ)). first_bad old l end) (append_assoc passed more rest) ∙ (a (more ++ rest) end ∙ b rest end)
walks_on old mid new passed more n number u (Err OutOfMemory) a b = tt

pub fails_on : (old new : Judged) (passed more : List (List ℕ × ℕ)) (number : ℕ) (complaint : Complaint)
    → Walks old passed (Err complaint) new number → Walks old (passed ++ more) (Err complaint) new number
fails_on old new passed more number (Bad reason) a =
    λ rest end. ap (λ (l : List (List ℕ × ℕ)). first_bad old l end) (append_assoc passed more rest) ∙ a (more ++ rest) end
fails_on old new passed more number OutOfMemory a = tt

abbrev in_parts : Head → List ℕ → List (List ℕ × ℕ)
in_parts head tail = zip (lines head.octets) head.numbers ++ numbered (number_after head.lines) (lines tail)

module _ (old new : Judged) (kept : Keeping) (head : Head) (tail : List ℕ) (number : ℕ) (head_is : head ≡ kept.head) (tail_is : tail ≡ kept.tail) where
  parts_kept : kept_lines kept ≡ in_parts head tail ++ []
  parts_kept =
      ap (λ (h : Head). in_parts h kept.tail) (sym head_is)
      ∙ (ap (λ (t : List ℕ). in_parts head t) (sym tail_is) ∙ sym (append-nil (in_parts head tail)))

  pub kept_fails : (complaint : Complaint) → Walks old (in_parts head tail) (Err complaint) new number
      → Finds (first_bad old (kept_lines kept) (last_number kept)) (Err complaint) number
  kept_fails (Bad reason) a = ap (λ (l : List (List ℕ × ℕ)). first_bad old l (last_number kept)) parts_kept ∙ a [] (last_number kept)
  kept_fails OutOfMemory a = tt

  kept_ends : (u : Unit {0}) → Walks old (in_parts head tail) (Ok u) new number
      → first_bad old (kept_lines kept) (last_number kept) ≡ first_bad new [] (last_number kept)
  kept_ends u a = ap (λ (l : List (List ℕ × ℕ)). first_bad old l (last_number kept)) parts_kept ∙ a [] (last_number kept)

  end_is : number ≡ number_past (number_after head.lines) (lines tail) → number ≡ last_number kept
  end_is e =
      e ∙ (ap (λ (h : Head). number_past (number_after h.lines) (lines tail)) head_is
      ∙ ap (λ (t : List ℕ). number_past (number_after kept.head.lines) (lines t)) tail_is)

  abbrev at_end : Bool → ℕ → Option BadLine
  at_end has end = if has then None else Some (record { number = end; reason = NoSkew })

  abbrev so_told : Reason → Option BadLine
  so_told reason = Some (record { number = number; reason = reason })

  lacks : (end : ℕ) (reason : Reason) (has : Bool) → true ≡ not has → reason ≡ NoSkew → number ≡ end → at_end has end ≡ Some (record { number = number; reason = reason })
  lacks end reason true misses is at = absurd cc
  lacks end reason false misses is at =
      ap (λ (n : ℕ). at_end false n) (sym at) ∙ ap (λ (r : Reason). so_told r) (sym is)

  has_it : (end : ℕ) (has : Bool) → false ≡ not has → at_end has end ≡ None
  has_it end true there = refl
  has_it end false there = absurd cc

  pub kept_lacks : (u : Unit {0}) (reason : Reason) → Walks old (in_parts head tail) (Ok u) new number → number ≡ number_past (number_after head.lines) (lines tail)
      → true ≡ not (is_some new.setup.skew) → reason ≡ NoSkew
      → first_bad old (kept_lines kept) (last_number kept) ≡ Some (record { number = number; reason = reason })
  kept_lacks u reason a e misses is = kept_ends u a ∙ lacks (last_number kept) reason (is_some new.setup.skew) misses is (end_is e)

  pub kept_has : (u : Unit {0}) → Walks old (in_parts head tail) (Ok u) new number → false ≡ not (is_some new.setup.skew)
      → first_bad old (kept_lines kept) (last_number kept) ≡ None
  kept_has u a there = kept_ends u a ∙ has_it (last_number kept) (is_some new.setup.skew) there
