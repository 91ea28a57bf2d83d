-- The first bad line of what is kept is that of the whole input.
use Rattle.std.proofs.Common.{◌≡◌, ℕ, ◌+◌, Bool, true, false, ◌||◌, List, [], ◌∷◌, ◌++◌, length, length-append, take, drop, Option, Some, None, refl, sym, ap, subst, ◌∙◌, append_assoc, arith}
use Rattle.std.specs.Prelude.{◌==◌, if◌then◌else◌, is_some, option_map, codes}
use Rattle.std.specs.List.{zip, starts_with, slice_split, concat}
use Rattle.std.specs.Option.{option_map_or}
use Rattle.std.proofs.lemmas.List.{append-nil, take-append-drop}
use Rattle.std.proofs.lemmas.List.Folds.{concat-append}
use Rattle.std.proofs.lemmas.Slice.Eq.{bytes_eq-Decides}
use Rattle.krb_der.specs.Reading.{◌>>=◌}
use Rattle.krb_text.specs.Lines.{Cut, cut, in_front, lines, is_skipped}
use Rattle.krb_text.specs.Cutter.{is_unbroken}
use Rattle.krb_text.proofs.CutLemmas.{lines_line}
use Rattle.krb_script.specs.Items.{item_of, event_of}
use Rattle.krb_script.specs.Script.{Setup, set_up}
use Rattle.krb_script.specs.declared.item.Item.{Item}
use Rattle.krb_script.specs.declared.item.Item.TheVariants.{Declaration as DeclarationItem, Event as EventItem}
use Rattle.krb_script.specs.declared.item.Event.{Event}
use Rattle.krb_script.specs.declared.declaration.Declaration.{Declaration}
use Rattle.krb_reasons.specs.BadLines.{numbered, number_past, first_bad, first_bad_of, first_bad_in, after_lines}
use Rattle.krb_reasons.specs.Judged.{Judged, nothing_judged, after, step}
use Rattle.krb_reasons.specs.Kept.{Head, no_head, with_line, with_lines, kept_of, number_after, is_event}
use Rattle.krb_reasons.specs.declared.bad_line.BadLine.{BadLine}
use Rattle.krb_reasons.proofs.BadLineLemmas.{taken}
use Rattle.krb_reasons.proofs.KeepsLemmas.{lines_onto_last, kept_last, head_before, tail_before}

-- ---- lines and their numbers

numbered_onto : (n : ℕ) (xs ys : List (List ℕ)) → numbered n (xs ++ ys) ≡ numbered n xs ++ numbered (number_past n xs) ys
numbered_onto n [] ys = refl
numbered_onto n (x ∷ xs) ys = ap (λ (l : List (List ℕ × ℕ)). (x, n) ∷ l) (numbered_onto (number_after n) xs ys)

past_onto : (n : ℕ) (xs ys : List (List ℕ)) → number_past n (xs ++ ys) ≡ number_past (number_past n xs) ys
past_onto n [] ys = refl
past_onto n (x ∷ xs) ys = past_onto (number_after n) xs ys

after_past : (n : ℕ) (xs : List (List ℕ)) → number_after (number_past n xs) ≡ number_past (number_after n) xs
after_past n [] = refl
after_past n (x ∷ xs) = after_past (number_after n) xs

line_counts : (head : Head) (line : List ℕ) → (with_line head line).lines ≡ number_after head.lines
line_counts head line = by (head.has_event || is_skipped line)
  where
    by : (counts : Bool) → (if counts then record head { lines = number_after head.lines }
        else record { octets = head.octets ++ (line ++ 10 ∷ []); numbers = head.numbers ++ number_after head.lines ∷ []; lines = number_after head.lines; has_event = is_event line }).lines
        ≡ number_after head.lines
    by true = refl
    by false = refl

lines_count : (head : Head) (before : List (List ℕ)) → (with_lines head before).lines ≡ number_past head.lines before
lines_count head [] = refl
lines_count head (line ∷ before) = lines_count (with_line head line) before ∙ ap (λ (n : ℕ). number_past n before) (line_counts head line)

-- ---- lines that are allowed

module _ (judged later : Judged) (line : List ℕ) (n : ℕ) (before : List (List ℕ)) (more : List (List ℕ × ℕ)) (end : ℕ)
    (rest : (next : Judged) → after_lines next before ≡ Some later → first_bad next (numbered (number_after n) before ++ more) end ≡ first_bad later more end) where
  passed_on : (next : Option Judged) → after judged line ≡ next → (next >>= (λ (j : Judged). after_lines j before)) ≡ Some later
      → first_bad judged ((line, n) ∷ (numbered (number_after n) before ++ more)) end ≡ first_bad later more end
  passed_on None takes is = absurd cc
  passed_on (Some next) takes is = taken judged next line n (numbered (number_after n) before ++ more) end takes ∙ rest next is

passed : (judged later : Judged) (n : ℕ) (before : List (List ℕ)) (more : List (List ℕ × ℕ)) (end : ℕ) → after_lines judged before ≡ Some later
    → first_bad judged (numbered n before ++ more) end ≡ first_bad later more end
passed judged later n [] more end is = let same : judged ≡ later = cc in ap (λ (j : Judged). first_bad j more end) same
passed judged later n (line ∷ before) more end is =
    passed_on judged later line n before more end (λ next goes. passed next later (number_after n) before more end goes) (after judged line) refl is

-- ---- a text of whole lines

abbrev ended : List (List ℕ) → List ℕ
ended [] = []
ended (line ∷ more) = line ++ 10 ∷ ended more

abbrev AreUnbroken : List (List ℕ) → Type 0
AreUnbroken [] = Unit {0}
AreUnbroken (line ∷ more) = (is_unbroken line ≡ true) × AreUnbroken more

ended_onto : (xs : List (List ℕ)) (line : List ℕ) → ended (xs ++ line ∷ []) ≡ ended xs ++ (line ++ 10 ∷ [])
ended_onto [] line = refl
ended_onto (x ∷ xs) line =
    ap (λ (l : List ℕ). x ++ 10 ∷ l) (ended_onto xs line) ∙ sym (append_assoc x (10 ∷ ended xs) (line ++ 10 ∷ []))

unbroken_onto : (xs : List (List ℕ)) (line : List ℕ) → AreUnbroken xs → is_unbroken line ≡ true → AreUnbroken (xs ++ line ∷ [])
unbroken_onto [] line are is = (is, tt)
unbroken_onto (x ∷ xs) line are is = (are.0, unbroken_onto xs line are.1 is)

lines_ended : (xs : List (List ℕ)) → AreUnbroken xs → lines (ended xs) ≡ xs
lines_ended [] are = refl
lines_ended (x ∷ xs) are = lines_line x (ended xs) are.0 ∙ ap (λ (l : List (List ℕ)). x ∷ l) (lines_ended xs are.1)

front_unbroken : (b : ℕ) (whole : List (List ℕ)) (rest : List ℕ) → (b == 10) ≡ false → AreUnbroken whole → AreUnbroken (in_front b whole rest).whole
front_unbroken b [] rest inside are = tt
front_unbroken b (line ∷ more) rest inside are = (rw inside are.0, are.1)

cut_unbroken : (b : ℕ) (c : Cut) (ends : Bool) → (b == 10) ≡ ends → AreUnbroken c.whole
    → AreUnbroken (if ends then record { whole = [] ∷ c.whole; rest = c.rest } else in_front b c.whole c.rest).whole
cut_unbroken b c true is are = (refl, are)
cut_unbroken b c false is are = front_unbroken b c.whole c.rest is are

whole_unbroken : (text : List ℕ) → AreUnbroken (cut text).whole
whole_unbroken [] = tt
whole_unbroken (b ∷ bs) = cut_unbroken b (cut bs) (b == 10) refl (whole_unbroken bs)

zip_onto : (xs : List (List ℕ)) (ns : List ℕ) (line : List ℕ) (n : ℕ) → length xs ≡ length ns → zip (xs ++ line ∷ []) (ns ++ n ∷ []) ≡ zip xs ns ++ (line, n) ∷ []
zip_onto [] [] line n same = refl
zip_onto [] (m ∷ ns) line n same = absurd (omega (arith, same))
zip_onto (x ∷ xs) [] line n same = absurd (omega (arith, same))
zip_onto (x ∷ xs) (m ∷ ns) line n same = ap (λ (l : List (List ℕ × ℕ)). (x, m) ∷ l) (zip_onto xs ns line n (omega (arith, same)))

-- ---- a line of an event, and a line after one

begins_with : (front line : List ℕ) → starts_with ◌==◌ line front ≡ true → line ≡ front ++ drop (length front) line
begins_with front line e =
    sym (take-append-drop (length front) line)
    ∙ ap (λ (l : List ℕ). l ++ drop (length front) line) (sym ((bytes_eq-Decides front (take (length front) line)).0 e))

event_item : (rest : List (List ℕ)) (declaration : Declaration) → option_map EventItem (event_of rest) ≡ Some (DeclarationItem declaration) → ⊥
event_item rest declaration = by (event_of rest)
  where
    by : (event : Option Event) → option_map EventItem event ≡ Some (DeclarationItem declaration) → ⊥
    by None e = absurd cc
    by (Some event) e = absurd cc

event_only : (line : List ℕ) (declaration : Declaration) → is_event line ≡ true → item_of line ≡ Some (DeclarationItem declaration) → ⊥
event_only line declaration begins is =
    let rest = drop (length (codes "event ")) line in
    let shows : line ≡ codes "event " ++ rest = begins_with (codes "event ") line begins in
    event_item (slice_split (λ (b : ℕ). b == 32) rest) declaration (sym (ap item_of shows) ∙ is)

-- after a line of an event, there is one
event_after : (judged later : Judged) (line : List ℕ) → is_event line ≡ true → is_skipped line ≡ false → after judged line ≡ Some later → later.has_events ≡ true
event_after judged later line begins kept is = by (item_of line) refl (rw kept at is)
  where
    on : (has : Bool) → (if has then Some (record { setup = judged.setup; has_events = true }) else None) ≡ Some later → later.has_events ≡ true
    on true e = sym (ap (λ (o : Option Judged). option_map_or (λ (j : Judged). j.has_events) o true) e)
    on false e = absurd cc

    by : (item : Option Item) → item_of line ≡ item → (item >>= (λ (i : Item). step judged i)) ≡ Some later → later.has_events ≡ true
    by None shows e = absurd cc
    by (Some (EventItem event)) shows e = on (is_some judged.setup.skew) e
    by (Some (DeclarationItem declaration)) shows e = absurd (event_only line declaration begins shows)

-- after an event, an allowed line changes nothing
same_after : (judged later : Judged) (line : List ℕ) → judged.has_events ≡ true → after judged line ≡ Some later → later ≡ judged
same_after judged later line has is = by (is_skipped line) is
  where
    same : Judged
    same = record { setup = judged.setup; has_events = true }

    one : (a b : Judged) → Some a ≡ Some b → b ≡ a
    one a b e = cc

    with_event : same ≡ judged
    with_event = ap (λ (b : Bool). record { setup = judged.setup; has_events = b }) (sym has)

    on : (skew : Bool) → (if skew then Some same else None) ≡ Some later → later ≡ judged
    on true e = one same later e ∙ with_event
    on false e = absurd cc

    late : (has' : Bool) (next : Option Judged) → has' ≡ true → (if has' then None else next) ≡ Some later → later ≡ judged
    late true next is e = absurd cc
    late false next is e = absurd cc

    item : (i : Option Item) → (i >>= (λ (it : Item). step judged it)) ≡ Some later → later ≡ judged
    item None e = absurd cc
    item (Some (EventItem event)) e = on (is_some judged.setup.skew) e
    item (Some (DeclarationItem declaration)) e =
        late judged.has_events (option_map (λ (setup : Setup). record { setup = setup; has_events = judged.has_events }) (set_up judged.setup declaration)) has e

    by : (skipped : Bool) → (if skipped then Some judged else item_of line >>= (λ (it : Item). step judged it)) ≡ Some later → later ≡ judged
    by true e = one judged later e
    by false e = item (item_of line) e

-- ---- the head

-- the first bad line is not among those of the head, which are allowed
record Stands (head : Head) (judged : Judged) : Type 0 where
  pub kept : List (List ℕ)
  pub octets_are : head.octets ≡ ended kept
  pub unbroken : AreUnbroken kept
  pub count : length kept ≡ length head.numbers
  pub first : (more : List (List ℕ × ℕ)) (end : ℕ) → first_bad nothing_judged (zip kept head.numbers ++ more) end ≡ first_bad judged more end
  pub event : head.has_event ≡ true → judged.has_events ≡ true

module _ (head : Head) (judged later : Judged) (line : List ℕ) (s : Stands head judged) (is : after judged line ≡ Some later) where
  abbrev n : ℕ
  n = number_after head.lines

  -- a line that is only counted
  counted : later ≡ judged → Stands (record head { lines = n }) later
  counted same = record {
    kept = s.kept;
    octets_are = s.octets_are;
    unbroken = s.unbroken;
    count = s.count;
    first = λ more end. s.first more end ∙ ap (λ (j : Judged). first_bad j more end) (sym same);
    event = λ has. ap (λ (j : Judged). j.has_events) same ∙ s.event has;
  }

  module _ (unbroken : is_unbroken line ≡ true) where
    taken_too : is_skipped line ≡ false
        → Stands (record { octets = head.octets ++ (line ++ 10 ∷ []); numbers = head.numbers ++ n ∷ []; lines = n; has_event = is_event line }) later
    taken_too kept = record {
      kept = s.kept ++ line ∷ [];
      octets_are = ap (λ (l : List ℕ). l ++ (line ++ 10 ∷ [])) s.octets_are ∙ sym (ended_onto s.kept line);
      unbroken = unbroken_onto s.kept line s.unbroken unbroken;
      count = length-append s.kept (line ∷ []) ∙ ap (λ (k : ℕ). k + 1) s.count ∙ sym (length-append head.numbers (n ∷ []));
      first = λ more end.
          ap (λ (l : List (List ℕ × ℕ)). first_bad nothing_judged (l ++ more) end) (zip_onto s.kept head.numbers line n s.count)
          ∙ ap (λ (l : List (List ℕ × ℕ)). first_bad nothing_judged l end) (append_assoc (zip s.kept head.numbers) ((line, n) ∷ []) more)
          ∙ s.first ((line, n) ∷ more) end ∙ taken judged later line n more end is;
      event = λ begins. event_after judged later line begins kept is;
    }

    first_of : (c : Bool) (a b : Head) → c ≡ true → Stands a later → Stands (if c then a else b) later
    first_of true a b e stands = stands
    first_of false a b e stands = absurd cc

    second_of : (c : Bool) (a b : Head) → c ≡ false → Stands b later → Stands (if c then a else b) later
    second_of true a b e stands = absurd cc
    second_of false a b e stands = stands

    abbrev only_counted : Head
    only_counted = record head { lines = n }

    abbrev with_it : Head
    with_it = record { octets = head.octets ++ (line ++ 10 ∷ []); numbers = head.numbers ++ n ∷ []; lines = n; has_event = is_event line }

    step_by : (has skipped : Bool) → head.has_event ≡ has → is_skipped line ≡ skipped → Stands (with_line head line) later
    step_by true skipped h k =
        first_of (head.has_event || is_skipped line) only_counted with_it (rw h refl) (counted (same_after judged later line (s.event h) is))
    step_by false true h k = first_of (head.has_event || is_skipped line) only_counted with_it (rw (h, k) refl) (counted (same (rw k at is)))
      where
        same : Some judged ≡ Some later → later ≡ judged
        same e = cc
    step_by false false h k = second_of (head.has_event || is_skipped line) only_counted with_it (rw (h, k) refl) (taken_too k)

    one_more : Stands (with_line head line) later
    one_more = step_by head.has_event (is_skipped line) refl refl

abbrev Allowed : Judged → List (List ℕ) → Judged → Type 0
Allowed judged before later = after_lines judged before ≡ Some later

module _ (head : Head) (judged later : Judged) (line : List ℕ) (before : List (List ℕ))
    (rest : (next : Judged) → Stands (with_line head line) next → Allowed next before later → Stands (with_lines (with_line head line) before) later) where
  stand_on : (s : Stands head judged) (unbroken : is_unbroken line ≡ true) (next : Option Judged) → after judged line ≡ next → (next >>= (λ (j : Judged). after_lines j before)) ≡ Some later
      → Stands (with_lines (with_line head line) before) later
  stand_on s unbroken None takes is = absurd cc
  stand_on s unbroken (Some next) takes is = rest next (one_more head judged next line s takes unbroken) is

stand : (head : Head) (judged later : Judged) (before : List (List ℕ)) → Stands head judged → AreUnbroken before → Allowed judged before later → Stands (with_lines head before) later
stand head judged later [] s are is = let same : judged ≡ later = cc in subst (λ (j : Judged). Stands head j) same s
stand head judged later (line ∷ before) s are is =
    stand_on head judged later line before (λ next t goes. stand (with_line head line) next later before t are.1 goes) s are.0 (after judged line) refl is

first_stands : Stands no_head nothing_judged
first_stands = record { kept = []; octets_are = refl; unbroken = tt; count = refl; first = λ more end. refl; event = λ has. absurd cc }

-- ---- the whole input

module _ (before : List (List ℕ)) (tail : List ℕ) (later : Judged) (are : AreUnbroken before) (is : Allowed nothing_judged before later) where
  abbrev head : Head
  head = with_lines no_head before

  stands : Stands head later
  stands = stand no_head nothing_judged later before first_stands are is

  next_number : number_after head.lines ≡ number_past 1 before
  next_number = ap number_after (lines_count no_head before) ∙ after_past 0 before

  abbrev rest : List (List ℕ × ℕ)
  rest = numbered (number_past 1 before) (lines tail)

  abbrev at_end : ℕ
  at_end = number_past 1 (before ++ lines tail)

  pub first_is : (n : ℕ) → n ≡ number_after head.lines
      → first_bad nothing_judged (zip (lines head.octets) head.numbers ++ numbered n (lines tail)) (number_past n (lines tail))
      ≡ first_bad nothing_judged (numbered 1 (before ++ lines tail)) at_end
  first_is n at =
      let starts : n ≡ number_past 1 before = at ∙ next_number in
      let octets : lines head.octets ≡ stands.kept = ap lines stands.octets_are ∙ lines_ended stands.kept stands.unbroken in
      ap (λ (k : ℕ). first_bad nothing_judged (zip (lines head.octets) head.numbers ++ numbered k (lines tail)) (number_past k (lines tail))) starts
      ∙ ap (λ (e : ℕ). first_bad nothing_judged (zip (lines head.octets) head.numbers ++ rest) e) (sym (past_onto 1 before (lines tail)))
      ∙ ap (λ (l : List (List ℕ)). first_bad nothing_judged (zip l head.numbers ++ rest) at_end) octets
      ∙ stands.first rest at_end
      ∙ sym (passed nothing_judged later 1 before rest at_end is)
      ∙ ap (λ (l : List (List ℕ × ℕ)). first_bad nothing_judged l at_end) (sym (numbered_onto 1 before (lines tail)))

module _ (pieces : List (List ℕ)) (last : List ℕ) where
  abbrev input : List ℕ
  input = concat (pieces ++ last ∷ [])

  abbrev before : List (List ℕ)
  before = (cut (concat pieces)).whole

  abbrev tail : List ℕ
  tail = (cut (concat pieces)).rest ++ last

  input_is : input ≡ concat pieces ++ last
  input_is = concat-append pieces (last ∷ []) ∙ ap (λ (l : List ℕ). concat pieces ++ l) (append-nil last)

  pub lines_are : lines input ≡ before ++ lines tail
  lines_are = ap lines input_is ∙ lines_onto_last (concat pieces) last

  abbrev found_in : Head → List ℕ → Option BadLine
  found_in head tail = first_bad nothing_judged (zip (lines head.octets) head.numbers ++ numbered (number_after head.lines) (lines tail)) (number_past (number_after head.lines) (lines tail))

  kept_is : first_bad_of (kept_of (pieces ++ last ∷ [])) ≡ found_in (with_lines no_head before) tail
  kept_is =
      ap first_bad_of (kept_last pieces last)
      ∙ ap (λ (h : Head). found_in h ((cut (kept_of pieces).tail).rest ++ last)) (head_before pieces)
      ∙ ap (λ (l : List ℕ). found_in (with_lines no_head before) (l ++ last)) (tail_before pieces)

  abbrev found : List (List ℕ) → Option BadLine
  found ls = first_bad nothing_judged (numbered 1 ls) (number_past 1 ls)

  whole_by : (later : Option Judged) → after_lines nothing_judged before ≡ later → is_some later ≡ true → first_bad_of (kept_of (pieces ++ last ∷ [])) ≡ first_bad_in input
  whole_by None is some = absurd cc
  whole_by (Some later) is some =
      kept_is ∙ first_is before tail later (whole_unbroken (concat pieces)) is (number_after (with_lines no_head before).lines) refl ∙ ap found (sym lines_are)

  pub whole_first : is_some (after_lines nothing_judged before) ≡ true → first_bad_of (kept_of (pieces ++ last ∷ [])) ≡ first_bad_in input
  whole_first some = whole_by (after_lines nothing_judged before) refl some
