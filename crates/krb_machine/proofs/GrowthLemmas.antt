-- The declarations grow from line to line.
use Rattle.std.proofs.Common.{◌≡◌, ℕ, ◌+◌, ◌≤◌, ◌⊎◌, inl, inr, Bool, true, false, List, [], ◌∷◌, ◌++◌, length, length-append, Option, Some, None, is_some, refl, ap, sym, ◌∙◌, subst, append_assoc, arith}
use Rattle.std.specs.Prelude.{if◌then◌else◌}
use Rattle.std.proofs.lemmas.List.{append-nil}
use Rattle.krb_text.specs.Lines.{is_skipped}
use Rattle.krb_der.specs.Reading.{◌>>=◌}
use Rattle.krb_script.specs.Items.{item_of}
use Rattle.krb_script.specs.Script.{Setup, Declared, Reading, set_up_before, declare, declare_line, read_lines, read_on}
use Rattle.krb_text.specs.Limits.{is_long}
use Rattle.krb_script.specs.declared.item.Item.{Item}
use Rattle.krb_script.specs.declared.item.Item.TheVariants.{Declaration as DeclarationItem, Event as EventItem}
use Rattle.krb_script.specs.declared.declaration.Declaration.{Declaration}
use Rattle.krb_script.specs.declared.item.Event.{Event}

-- events are added after the others, or there was none yet
abbrev pub Grows : Declared → Declared → Type 0
Grows so_far next = (so_far.events ≡ []) ⊎ ((next.setup ≡ so_far.setup) × ((more : List Event) × (next.events ≡ so_far.events ++ more)))

pub Grows-refl : (so_far : Declared) → Grows so_far so_far
Grows-refl so_far = inr (refl, ([], sym (append-nil so_far.events)))

front_empty : (xs ys : List Event) → xs ++ ys ≡ [] → xs ≡ []
front_empty [] ys e = refl
front_empty (x ∷ xs) ys e = absurd (cc)

pub Grows-trans : (a b c : Declared) → Grows a b → Grows b c → Grows a c
Grows-trans a b c (inl none) q = inl none
Grows-trans a b c (inr p) (inl none) = inl (front_empty a.events p.1.0 (sym p.1.1 ∙ none))
Grows-trans a b c (inr p) (inr q) =
    inr (q.0 ∙ p.0, (p.1.0 ++ q.1.0, q.1.1 ∙ ap (λ l. l ++ q.1.0) p.1.1 ∙ append_assoc a.events p.1.0 q.1.0))

pub Grows-length : (so_far final : Declared) → Grows so_far final → length so_far.events ≤ length final.events
Grows-length so_far final (inl none) = let e = ap length none in omega arith
Grows-length so_far final (inr p) = let e = ap length p.1.1 ∙ length-append so_far.events p.1.0 in omega arith

grows_to : (so_far here next : Declared) → here ≡ next → Grows so_far here → Grows so_far next
grows_to so_far here next is grows = let P : Declared → Type 0 = λ d. Grows so_far d in subst P is grows

event_grows : (so_far next : Declared) (event : Event) (t : Bool) → (if t then Some (record so_far { events = so_far.events ++ event ∷ [] }) else None) ≡ Some next → Grows so_far next
event_grows so_far next event true e = grows_to so_far (record so_far { events = so_far.events ++ event ∷ [] }) next (cc) (inr (refl, (event ∷ [], refl)))
event_grows so_far next event false e = absurd (cc)

setup_grows : (setup : Setup) (events : List Event) (next : Declared) (item : Declaration) → set_up_before events setup item ≡ Some next → Grows (record { setup = setup; events = events }) next
setup_grows setup [] next item e = inl refl
setup_grows setup (event ∷ events) next item e = absurd (cc)

item_grows : (so_far next : Declared) (item : Item) → declare so_far item ≡ Some next → Grows so_far next
item_grows so_far next (EventItem event) e = event_grows so_far next event (is_some so_far.setup.skew) e
item_grows so_far next (DeclarationItem item) e = setup_grows so_far.setup so_far.events next item e

content_grows : (so_far next : Declared) (o : Option Item) → (o >>= (λ item. declare so_far item)) ≡ Some next → Grows so_far next
content_grows so_far next None e = absurd (cc)
content_grows so_far next (Some item) e = item_grows so_far next item e

line_grows : (so_far next : Declared) (line : List ℕ) (t : Bool) → (if t then Some so_far else (item_of line >>= (λ item. declare so_far item))) ≡ Some next → Grows so_far next
line_grows so_far next line true e = grows_to so_far so_far next (cc) (Grows-refl so_far)
line_grows so_far next line false e = content_grows so_far next (item_of line) e

-- one more line
pub declare-grows : (so_far next : Declared) (line : List ℕ) → declare_line so_far line ≡ Some next → Grows so_far next
declare-grows so_far next line e = line_grows so_far next line (is_skipped line) e

grows_if : (so_far : Declared) (t : Bool) (here later : Reading) → Grows so_far here.so_far → Grows so_far later.so_far → Grows so_far (if t then here else later).so_far
grows_if so_far true here later h l = h
grows_if so_far false here later h l = l

grows_on : (so_far : Declared) (o : Option Declared) (later : Declared → Reading) (here : Reading) → Grows so_far here.so_far → ((next : Declared) → o ≡ Some next → Grows so_far (later next).so_far)
    → Grows so_far (read_on o later here).so_far
grows_on so_far None later here h l = h
grows_on so_far (Some next) later here h l = l next refl

-- further lines add to the declarations so far
pub read-grows : (total at n : ℕ) (so_far : Declared) (input_lines : List (List ℕ)) → Grows so_far (read_lines total at n so_far input_lines).so_far
read-grows total at n so_far [] = Grows-refl so_far
read-grows total at n so_far (line ∷ rest) =
    grows_if so_far (is_long total at line) _ _ (Grows-refl so_far)
    (grows_on so_far (declare_line so_far line) (λ next. read_lines total (at + length line + 1) (n + 1) next rest) _ (Grows-refl so_far)
    (λ next is. Grows-trans so_far next (read_lines total (at + length line + 1) (n + 1) next rest).so_far (declare-grows so_far next line is) (read-grows total (at + length line + 1) (n + 1) next rest)))
