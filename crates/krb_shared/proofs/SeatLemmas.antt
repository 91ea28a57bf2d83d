-- Receipts, entries and seats, one more at a time.
use Rattle.std.proofs.Common.{◌≡◌, ◌≢◌, ℕ, zero, suc, ◌+◌, ◌<◌, ◌≤◌, ◌==◌, true, false, List, [], ◌∷◌, ◌++◌, length, take, drop, Some, None, slice_get, get_or, set, All, refl, sym, ap, ◌∙◌, subst, arith, append_assoc}
use Rattle.std.specs.List.{sum_by}
use Rattle.std.proofs.lemmas.List.Elements.{All-push}
use Rattle.std.proofs.lemmas.List.Sums.{sum_by_push, sum_by-set}
use Rattle.std.proofs.lemmas.List.{append-nil, length_push, take_more, drop_more, drop_all, take_at, take_all, length-take-le}
use Rattle.std.proofs.lemmas.Bool.Decides.{nat_tests}
use Rattle.std.proofs.lemmas.Option.{slice_get_past, slice_get-get_or}
use Rattle.krb_shared.specs.declared.entry.Entry.{Entry}
use Rattle.krb_shared.proofs.SameLemmas.{placed}
use Rattle.krb_shared.specs.declared.entry.Receipt.{Receipt}
use Rattle.krb_replay.specs.declared.ask.Ask.{Ask}
use Rattle.krb_replay.specs.declared.ask.Verdict.{Verdict}
use Rattle.krb_replay.specs.Gate.{IsJudged}
use Rattle.krb_shared.specs.Seats.{Seat, AddsReceipt, placed_from, entries_of, DifferAt, Agrees, FirstDiffers, AreNumbered, AreAll, IsNew}

-- the entries of the seat before this index are the first receipts, as many as agree so far
pub record AgreesUntil (receipts : List Receipt) (seat : ℕ) (journal : List Entry) (agreed index : ℕ) : Type 0 where
  pub within : agreed ≤ length receipts
  pub split : entries_of seat journal ≡ take agreed receipts ++ placed_from (index + 1) seat (drop index journal)

pub at_first : (receipts : List Receipt) (seat : ℕ) (journal : List Entry) → AgreesUntil receipts seat journal 0 0
at_first receipts seat journal = record { within = omega arith; split = refl }

placed_other : (place seat : ℕ) (entry : Entry) (rest : List Entry) → (entry.seat == seat) ≡ false → placed_from place seat (entry ∷ rest) ≡ placed_from (place + 1) seat rest
placed_other place seat entry rest other = rw other refl

placed_own : (place seat : ℕ) (entry : Entry) (rest : List Entry) → (entry.seat == seat) ≡ true → placed_from place seat (entry ∷ rest) ≡ record { entry = entry; place = place } ∷ placed_from (place + 1) seat rest
placed_own place seat entry rest own = rw own refl

rest_at : (journal : List Entry) (index : ℕ) (entry : Entry) → index < length journal → entry ≡ get_or journal index entry → drop index journal ≡ entry ∷ drop (index + 1) journal
rest_at journal index entry inside is = drop_more journal index entry inside ∙ ap (λ (e : Entry). e ∷ drop (index + 1) journal) (sym is)

-- another seat's entry
pub past_other : (receipts : List Receipt) (seat : ℕ) (journal : List Entry) (agreed index : ℕ) (entry : Entry) → index < length journal → entry ≡ get_or journal index entry → entry.seat ≢ seat
    → AgreesUntil receipts seat journal agreed index → AgreesUntil receipts seat journal agreed (index + 1)
past_other receipts seat journal agreed index entry inside is other so_far = record {
  within = so_far.within;
  split = so_far.split ∙ ap (λ (es : List Entry). take agreed receipts ++ placed_from (index + 1) seat es) (rest_at journal index entry inside is) ∙ ap (λ (rs : List Receipt). take agreed receipts ++ rs) (placed_other (index + 1) seat entry (drop (index + 1) journal) (grind (arith, nat_tests)));
}

-- the seat's own entry, after the entries that agree
own_split : (receipts : List Receipt) (seat : ℕ) (journal : List Entry) (agreed index : ℕ) (entry : Entry) → index < length journal → entry ≡ get_or journal index entry → entry.seat ≡ seat
    → AgreesUntil receipts seat journal agreed index → entries_of seat journal ≡ take agreed receipts ++ placed entry (index + 1) ∷ placed_from (index + 1 + 1) seat (drop (index + 1) journal)
own_split receipts seat journal agreed index entry inside is own so_far =
    so_far.split ∙ ap (λ (es : List Entry). take agreed receipts ++ placed_from (index + 1) seat es) (rest_at journal index entry inside is) ∙ ap (λ (rs : List Receipt). take agreed receipts ++ rs) (placed_own (index + 1) seat entry (drop (index + 1) journal) (grind (arith, nat_tests)))

get_within : (receipts : List Receipt) (k : ℕ) (r : Receipt) → slice_get receipts k ≡ Some r → (k < length receipts) × (take (suc k) receipts ≡ take k receipts ++ r ∷ [])
get_within [] k r e = absurd (grind arith)
get_within (x ∷ xs) zero r e = (omega arith, grind arith)
get_within (x ∷ xs) (suc k) r e = let so = get_within xs k r e in (omega (arith, so.0), ap (λ (l : List Receipt). x ∷ l) so.1)

pub past_own : (receipts : List Receipt) (seat : ℕ) (journal : List Entry) (agreed index : ℕ) (entry : Entry) → index < length journal → entry ≡ get_or journal index entry → entry.seat ≡ seat
    → slice_get receipts agreed ≡ Some (placed entry (index + 1)) → AgreesUntil receipts seat journal agreed index → AgreesUntil receipts seat journal (agreed + 1) (index + 1)
past_own receipts seat journal agreed index entry inside is own here so_far =
    let more = get_within receipts agreed (placed entry (index + 1)) here in
    let rest = placed_from (index + 1 + 1) seat (drop (index + 1) journal) in
    let next : suc agreed ≡ agreed + 1 = omega arith in
    record {
      within = omega (arith, more.0);
      split = own_split receipts seat journal agreed index entry inside is own so_far
          ∙ sym (append_assoc (take agreed receipts) (placed entry (index + 1) ∷ []) rest)
          ∙ ap (λ (rs : List Receipt). rs ++ rest) (sym more.1)
          ∙ ap (λ (n : ℕ). take n receipts ++ rest) next;
    }

get_behind : (front : List Receipt) (x : Receipt) (rest : List Receipt) (k : ℕ) → length front ≡ k → slice_get (front ++ x ∷ rest) k ≡ Some x
get_behind [] x rest k e = subst (λ (n : ℕ). slice_get (x ∷ rest) n ≡ Some x) e refl
get_behind (y ∷ front) x rest k e = subst (λ (n : ℕ). slice_get (y ∷ front ++ x ∷ rest) n ≡ Some x) e (get_behind front x rest (length front) refl)

-- the seat's own entry, of which there is no receipt
pub differ_here : (receipts : List Receipt) (seat : ℕ) (journal : List Entry) (agreed index : ℕ) (entry : Entry) → index < length journal → entry ≡ get_or journal index entry → entry.seat ≡ seat
    → slice_get receipts agreed ≢ Some (placed entry (index + 1)) → AgreesUntil receipts seat journal agreed index → DifferAt receipts (entries_of seat journal) (agreed + 1)
differ_here receipts seat journal agreed index entry inside is own not_here so_far =
    let split = own_split receipts seat journal agreed index entry inside is own so_far in
    let rest = placed_from (index + 1 + 1) seat (drop (index + 1) journal) in
    let long = length-take-le agreed receipts so_far.within in
    record {
      agreed = agreed;
      call_is = refl;
      before = sym (ap (take agreed) split ∙ take_at (take agreed receipts) (placed entry (index + 1) ∷ rest) agreed long);
      next = λ same. not_here (same ∙ ap (λ (rs : List Receipt). slice_get rs agreed) split ∙ get_behind (take agreed receipts) (placed entry (index + 1)) rest agreed long);
    }

-- after the last entry
entries_end : (receipts : List Receipt) (seat : ℕ) (journal : List Entry) (agreed index : ℕ) → length journal ≤ index → AgreesUntil receipts seat journal agreed index → entries_of seat journal ≡ take agreed receipts
entries_end receipts seat journal agreed index end so_far =
    so_far.split ∙ ap (λ (es : List Entry). take agreed receipts ++ placed_from (index + 1) seat es) (drop_all index journal end) ∙ append-nil (take agreed receipts)

missing : (receipts : List Receipt) (k : ℕ) → k < length receipts → slice_get receipts k ≡ None → ⊥
missing [] k inside e = absurd (omega (arith, inside))
missing (x ∷ xs) zero inside e = absurd (grind arith)
missing (x ∷ xs) (suc k) inside e = missing xs k (omega (arith, inside)) e

pub differ_end : (receipts : List Receipt) (seat : ℕ) (journal : List Entry) (agreed index : ℕ) → length journal ≤ index → agreed < length receipts → AgreesUntil receipts seat journal agreed index → DifferAt receipts (entries_of seat journal) (agreed + 1)
differ_end receipts seat journal agreed index end more so_far =
    let all = entries_end receipts seat journal agreed index end so_far in
    let long = length-take-le agreed receipts so_far.within in
    record {
      agreed = agreed;
      call_is = refl;
      before = sym (ap (take agreed) all ∙ take_all agreed (take agreed receipts) (omega (arith, long)));
      next = λ same. missing receipts agreed more (same ∙ ap (λ (rs : List Receipt). slice_get rs agreed) all ∙ slice_get_past (take agreed receipts) agreed (omega (arith, long)));
    }

pub agree_end : (receipts : List Receipt) (seat : ℕ) (journal : List Entry) (agreed index : ℕ) → length journal ≤ index → length receipts ≤ agreed → AgreesUntil receipts seat journal agreed index → receipts ≡ entries_of seat journal
agree_end receipts seat journal agreed index end all so_far = sym (entries_end receipts seat journal agreed index end so_far ∙ take_all agreed receipts all)

-- ---- seats

-- the seats up to this one agree
pub agree_more : (journal : List Entry) (seats : List Seat) (index : ℕ) (seat : Seat) → index < length seats → seat ≡ get_or seats index seat → All (Agrees journal) (take index seats) → Agrees journal seat → All (Agrees journal) (take (index + 1) seats)
agree_more journal seats index seat inside is before here =
    subst (All (Agrees journal)) (sym (take_more seats index seat inside ∙ ap (λ (s : Seat). take index seats ++ s ∷ []) (sym is))) (All-push (Agrees journal) (take index seats) seat before here)

pub number_at : (n : ℕ) (seats : List Seat) (k : ℕ) (d : Seat) → AreNumbered n seats → k < length seats → (get_or seats k d).number ≡ n + k
number_at n [] k d a inside = absurd (omega (arith, inside))
number_at n (x ∷ xs) zero d a inside = omega (arith, a.0)
number_at n (x ∷ xs) (suc k) d a inside = omega (arith, number_at (n + 1) xs k d a.1 (omega (arith, inside)))

-- the seats before this one agree, and this one doesn't
pub first_differs : (journal : List Entry) (seats : List Seat) (index : ℕ) (seat : Seat) (number call : ℕ) → AreNumbered 0 seats → index < length seats → seat ≡ get_or seats index seat → All (Agrees journal) (take index seats) → seat.number ≡ number
    → DifferAt seat.receipts (entries_of seat.number journal) call → FirstDiffers journal seats number call
first_differs journal seats index seat number call numbered inside is before at differ =
    let same : index ≡ number = omega (arith, number_at 0 seats index seat numbered inside, ap (λ (s : Seat). s.number) is, at) in
    subst (λ (n : ℕ). FirstDiffers journal seats n call) same (record {
      lower = before;
      seat = seat;
      found = slice_get-get_or seats index seat inside ∙ ap (λ (s : Seat). Some s) (sym is);
      differ = differ;
    })

numbered_push : (n : ℕ) (seats : List Seat) (seat : Seat) → AreNumbered n seats → seat.number ≡ n + length seats → AreNumbered n (seats ++ seat ∷ [])
numbered_push n [] seat a e = (omega (arith, e), tt)
numbered_push n (x ∷ xs) seat a e = (a.0, numbered_push (n + 1) xs seat a.1 (omega (arith, e)))

-- new seats in the order of their numbers, which have `parts` parts together
pub record AreMade (seats : List Seat) (number parts : ℕ) : Type 0 where
  pub count : length seats ≡ number
  pub numbered : AreNumbered 0 seats
  pub whole : sum_by (λ (seat : Seat). seat.parts) seats ≡ parts
  pub new : All IsNew seats

pub none_made : AreMade [] 0 0
none_made = record { count = refl; numbered = tt; whole = refl; new = λ k d inside. absurd (omega (arith, inside)) }

pub one_made : (seats seats' : List Seat) (number parts : ℕ) (seat : Seat) → AreMade seats number parts → seat.number ≡ number → IsNew seat → seats' ≡ seats ++ seat ∷ [] → AreMade seats' (number + 1) (parts + seat.parts)
one_made seats seats' number parts seat made at new is = subst (λ (s : List Seat). AreMade s (number + 1) (parts + seat.parts)) (sym is) (record {
  count = length_push seats seat ∙ ap (λ (n : ℕ). n + 1) made.count;
  numbered = numbered_push 0 seats seat made.numbered (omega (arith, at, made.count));
  whole = sum_by_push (λ (s : Seat). s.parts) seats seat ∙ ap (λ (n : ℕ). n + seat.parts) made.whole;
  new = All-push IsNew seats seat made.new new;
})

numbered_set : (n : ℕ) (seats : List Seat) (k : ℕ) (new : Seat) → AreNumbered n seats → new.number ≡ n + k → AreNumbered n (set seats k new)
numbered_set n [] k new a e = tt
numbered_set n (x ∷ xs) zero new a e = (omega (arith, e), a.1)
numbered_set n (x ∷ xs) (suc k) new a e = (a.0, numbered_set (n + 1) xs k new a.1 (omega (arith, e)))

-- all seats of a book, after one of them has called
pub all_still : (parts : ℕ) (seats : List Seat) (k : ℕ) (old new : Seat) → AreAll parts seats → k < length seats → old ≡ get_or seats k old → new.number ≡ old.number → new.parts ≡ old.parts → AreAll parts (set seats k new)
all_still parts seats k old new all inside is number part = record {
  numbered = numbered_set 0 seats k new all.numbered (omega (arith, number, ap (λ (s : Seat). s.number) is, number_at 0 seats k old all.numbered inside));
  whole = omega (arith, all.whole, part, ap (λ (s : Seat). s.parts) is, sum_by-set (λ (s : Seat). s.parts) seats k new old inside);
}

-- what a call leaves, where ask, number and call are those of the seat
pub added : (skew : ℕ) (old new : Seat) (ask received judged : Ask) (verdict : Verdict) (number call place : ℕ) (items : List Receipt) → number ≡ old.number → items ≡ old.receipts → call ≡ length old.receipts + 1 → received ≡ ask → judged ≡ ask
    → new.number ≡ number → new.parts ≡ old.parts → new.receipts ≡ items ++ record { entry = record { seat = number; call = call; ask = received; verdict = verdict }; place = place } ∷ [] → IsJudged skew new.moment judged verdict
    → AddsReceipt skew old ask verdict new
added skew old new ask received judged verdict number call place items at before next same told number_is parts_are receipts_are is_judged =
    let receipt : ℕ → ℕ → Ask → Receipt = λ n c q. record { entry = record { seat = n; call = c; ask = q; verdict = verdict }; place = place } in
    record {
      number = number_is ∙ at;
      parts = parts_are;
      place = place;
      receipts = receipts_are
          ∙ ap (λ (l : List Receipt). l ++ receipt number call received ∷ []) before
          ∙ ap (λ (n : ℕ). old.receipts ++ receipt n call received ∷ []) at
          ∙ ap (λ (c : ℕ). old.receipts ++ receipt old.number c received ∷ []) next
          ∙ ap (λ (q : Ask). old.receipts ++ receipt old.number (length old.receipts + 1) q ∷ []) same;
      judged = subst (λ (q : Ask). IsJudged skew new.moment q verdict) told is_judged;
    }
