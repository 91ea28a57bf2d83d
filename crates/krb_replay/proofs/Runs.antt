-- Lists of asks to the pruned book, and to the one that never forgets.
use Rattle.std.proofs.Common.{◌≡◌, ℕ, ◌+◌, ◌<◌, ◌≤◌, Bool, true, false, if◌then◌else◌, List, [], ◌∷◌, ◌++◌, length, refl, sym, ap, ◌∙◌, subst, arith, append_assoc}
use Rattle.std.proofs.lemmas.List.{append-nil}
use Rattle.krb_replay.specs.declared.record.Record.{Record}
use Rattle.krb_replay.specs.declared.ask.Ask.{Ask}
use Rattle.krb_replay.specs.declared.ask.Verdict.{Verdict}
use Rattle.krb_replay.specs.Records.{IsDistinct}
use Rattle.krb_replay.specs.Verdicts.{is_admitted}
use Rattle.krb_replay.specs.Gate.{Run}
use Rattle.krb_replay.specs.History.{History, verdict_of, history_after, window}
use Rattle.krb_replay.specs.Book.{Book, Follows, StandsFor, NeedsRoom}
use Rattle.krb_replay.specs.Runs.{verdicts_of, history_past, IsNeverAbove, admitted_of}
use Rattle.krb_replay.proofs.Window.{admitted_open, IsDistinct-push}

-- ---- any gate

module _ {G : Type 0} (admits : G → Ask → Verdict → G → Type 0) (skew : G → ℕ) (keeps : (old new : G) (ask : Ask) (verdict : Verdict) → admits old ask verdict new → skew new ≡ skew old) where
  pub run_keeps : (old new : G) (asks : List Ask) (verdicts : List Verdict) → Run admits old asks verdicts new → skew new ≡ skew old
  run_keeps old new [] [] e = ap skew e
  run_keeps old new (ask ∷ asks) (verdict ∷ verdicts) run = run_keeps run.0 new asks verdicts run.2 ∙ keeps old run.0 ask verdict run.1
  run_keeps old new [] (verdict ∷ verdicts) e = elim e [ ]
  run_keeps old new (ask ∷ asks) [] e = elim e [ ]

-- ---- the pruned book

pub record FollowsAll (old : Book) (asks : List Ask) (verdicts : List Verdict) (new : Book) (h : History) : Type 0 where
  pub skew : new.skew ≡ old.skew
  pub answers : verdicts ≡ verdicts_of old.skew h asks
  pub stands : StandsFor new (history_past old.skew h asks)
  pub room : old.spare + length old.kept ≤ new.spare + length new.kept

pub all : (old new : Book) (asks : List Ask) (verdicts : List Verdict) (h : History) → StandsFor old h → Run (Follows StandsFor) old asks verdicts new → FollowsAll old asks verdicts new h
all old new [] [] h s e = subst (λ (b : Book). FollowsAll old [] [] b h) (sym e) (record { skew = refl; answers = refl; stands = s; room = omega arith })
all old new (ask ∷ asks) (verdict ∷ verdicts) h s run =
    let first = run.1 in
    let after = history_after old.skew h ask in
    let rest = all run.0 new asks verdicts after (first.history h s) run.2 in
    record {
      skew = rest.skew ∙ first.skew;
      answers = ap (λ (v : Verdict). v ∷ verdicts) (first.answer h s) ∙ ap (λ (vs : List Verdict). verdict_of old.skew h ask ∷ vs) (rest.answers ∙ ap (λ (k : ℕ). verdicts_of k after asks) first.skew);
      stands = subst (λ (k : ℕ). StandsFor new (history_past k after asks)) first.skew rest.stands;
      room = omega (arith, first.room, rest.room);
    }
all old new [] (verdict ∷ verdicts) h s e = elim e [ ]
all old new (ask ∷ asks) [] h s e = elim e [ ]

last_window : (n skew : ℕ) (h : History) (asks : List Ask) (ask : Ask) → IsNeverAbove n skew h (asks ++ ask ∷ []) → length (window skew (history_after skew (history_past skew h asks) ask)) ≤ n
last_window n skew h [] ask f = f.0
last_window n skew h (first ∷ asks) ask f = last_window n skew (history_after skew h first) asks ask f.1

pub has_room : (n : ℕ) (old mid : Book) (asks : List Ask) (verdicts : List Verdict) (ask : Ask) (h : History) → StandsFor old h → Run (Follows StandsFor) old asks verdicts mid → n ≤ old.spare + length old.kept → IsNeverAbove n old.skew h (asks ++ ask ∷ []) → NeedsRoom mid ask → ⊥
has_room n old mid asks verdicts ask h s run room fits needs =
    let done = all old mid asks verdicts h s run in
    let over = subst (λ (k : ℕ). mid.spare + length mid.kept < length (window k (history_after k (history_past old.skew h asks) ask))) done.skew (needs.over _ done.stands) in
    omega (arith, over, done.room, room, last_window n old.skew h asks ask fits)

-- ---- the book that never forgets

distinct_after : (skew : ℕ) (h : History) (ask : Ask) → IsDistinct h.admitted → IsDistinct (history_after skew h ask).admitted
distinct_after skew h ask d = by (is_admitted (verdict_of skew h ask)) refl
  where
    by : (b : Bool) → is_admitted (verdict_of skew h ask) ≡ b → IsDistinct (if b then h.admitted ++ ask.entry ∷ [] else h.admitted)
    by false e = d
    by true e = IsDistinct-push h.admitted ask.entry d (admitted_open skew _ _ ask e).1

distinct_past : (skew : ℕ) (h : History) (asks : List Ask) → IsDistinct h.admitted → IsDistinct (history_past skew h asks).admitted
distinct_past skew h [] d = d
distinct_past skew h (ask ∷ asks) d = distinct_past skew (history_after skew h ask) asks (distinct_after skew h ask d)

one_more : (b : Bool) (admitted rest : List Record) (entry : Record) → (if b then admitted ++ entry ∷ [] else admitted) ++ rest ≡ admitted ++ (if b then entry ∷ rest else rest)
one_more true admitted rest entry = append_assoc admitted (entry ∷ []) rest
one_more false admitted rest entry = refl

admitted_past : (skew : ℕ) (h : History) (asks : List Ask) → (history_past skew h asks).admitted ≡ h.admitted ++ admitted_of asks (verdicts_of skew h asks)
admitted_past skew h [] = sym (append-nil h.admitted)
admitted_past skew h (ask ∷ asks) = admitted_past skew (history_after skew h ask) asks ∙ one_more (is_admitted (verdict_of skew h ask)) h.admitted (admitted_of asks (verdicts_of skew (history_after skew h ask) asks)) ask.entry

pub admits_once : (skew : ℕ) (h : History) (asks : List Ask) → IsDistinct h.admitted → IsDistinct (h.admitted ++ admitted_of asks (verdicts_of skew h asks))
admits_once skew h asks d = subst IsDistinct (admitted_past skew h asks) (distinct_past skew h asks d)

pub book_admits_once : (old new : Book) (asks : List Ask) (verdicts : List Verdict) (h : History) → StandsFor old h → Run (Follows StandsFor) old asks verdicts new → IsDistinct (h.admitted ++ admitted_of asks verdicts)
book_admits_once old new asks verdicts h s run =
    subst (λ (vs : List Verdict). IsDistinct (h.admitted ++ admitted_of asks vs)) (sym (all old new asks verdicts h s run).answers) (admits_once old.skew h asks s.distinct)
