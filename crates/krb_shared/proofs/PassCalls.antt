-- A pass after a call.
use Rattle.std.proofs.Common.{◌≡◌, ℕ, ◌+◌, List, [], ◌∷◌, ◌++◌, length, length-append, sym, refl, ap, ◌∙◌, subst}
use Rattle.std.specs.Prelude.{Result, Ok, Err, OnErr}
use mathlib.Core.List.{IsPrefix}
use Rattle.krb_shared.specs.declared.entry.Entry.{Entry}
use Rattle.krb_shared.specs.declared.entry.Receipt.{Receipt}
use Rattle.krb_shared.specs.declared.rule.Stage.TheVariants.{Idle}
use Rattle.krb_shared.specs.declared.rule.Holding.{Holding}
use Rattle.krb_shared.specs.declared.rule.View.{View}
use Rattle.krb_replay.specs.declared.ask.Ask.{Ask}
use Rattle.krb_replay.specs.declared.ask.Verdict.{Verdict}
use Rattle.krb_replay.specs.Gate.{IsJudged}
use Rattle.krb_shared.specs.Journal.{IsLegal}
use Rattle.krb_shared.specs.Seats.{entries_of}
use Rattle.krb_shared.specs.Turns.{AreCounts, at_stage, has_called, raised, Moment, Place, HasLooked}
use Rattle.krb_shared.specs.Passes.{PassAccount, IsSeated, Admits, IsLeft, entry_of, moment_of}
use Rattle.krb_shared.proofs.Receipts.{receipts_length, receipts_still, receipts_push}

pub on_err : {A E : Type 0} (r : Result A E) (P : Type 0) → P → OnErr r P
on_err (Ok a) P p = tt
on_err (Err e) P p = p

pub still_number : (v w : View) (number calls : ℕ) (journal : List Entry) → v.held ≡ record { number = number; count = calls } ∷ [] → HasLooked journal v w → (h : Holding) × (w.held ≡ h ∷ []) × (h.number ≡ number)
still_number v w number calls journal has looked = (record { number = number; count = calls }, ap (λ (u : View). u.held) looked.0 ∙ has, refl)

-- the receipts of a pass are its calls in the journal that it has looked at
own_still : (s : Place) (w : View) (number seen : ℕ) (receipts : List Receipt) (journal : List Entry) → IsSeated s number seen receipts → HasLooked journal s.me.0 w → entries_of number journal ≡ receipts
own_still s w number seen receipts journal at looked =
    let count = (subst (AreCounts journal) at.held looked.3).0 in
    let before = receipts_length 1 number s.me.0.front in
    let same = ap length at.own in
    receipts_still number s.me.0.front journal looked.1 (sym count ∙ sym same ∙ before) ∙ at.own

module _ (s t : Place) (w x : View) (number seen now_seen : ℕ) (receipts after : List Receipt) (journal : List Entry) (at : IsSeated s number seen receipts) (looked : HasLooked journal s.me.0 w) where
  -- a call that found no memory
  pub stays : after ≡ receipts → x ≡ w → t.me ≡ (at_stage Idle x, []) → now_seen ≡ length x.front → IsSeated t number now_seen after
  stays same is served count =
      let v : t.me.0 ≡ at_stage Idle x = ap (λ (m : Moment). m.0) served in
      let held : t.me.0.held ≡ s.me.0.held = ap (λ (u : View). u.held) v ∙ ap (λ (u : View). u.held) is ∙ ap (λ (u : View). u.held) looked.0 in
      let front : t.me.0.front ≡ journal = ap (λ (u : View). u.front) v ∙ ap (λ (u : View). u.front) is ∙ ap (λ (u : View). u.front) looked.0 in
      record {
        idle = (ap (λ (u : View). u.stage) v, ap (λ (m : Moment). m.1) served);
        others = ap (λ (u : View). u.others) v ∙ ap (λ (u : View). u.others) is ∙ ap (λ (u : View). u.others) looked.0 ∙ at.others;
        held = held ∙ at.held ∙ ap (λ (l : List Receipt). record { number = number; count = length l } ∷ []) (sym same);
        own = ap (entries_of number) front ∙ own_still s w number seen receipts journal at looked ∙ sym same;
        length_seen = count ∙ ap (λ (u : View). length u.front) (sym v);
      }

  -- a call that was answered
  pub adds : (e : Entry) → e.seat ≡ number → x ≡ has_called (w.front ++ e ∷ []) w → t.me ≡ (at_stage Idle x, []) → now_seen ≡ length x.front → after ≡ receipts ++ record { place = length x.front; entry = e } ∷ [] → IsSeated t number now_seen after
  adds e mine is served count added =
      let v : t.me.0 ≡ at_stage Idle x = ap (λ (m : Moment). m.0) served in
      let w_front : w.front ≡ journal = ap (λ (u : View). u.front) looked.0 in
      let x_front : x.front ≡ journal ++ e ∷ [] = ap (λ (u : View). u.front) is ∙ ap (λ (l : List Entry). l ++ e ∷ []) w_front in
      let long : length x.front ≡ length journal + 1 = ap length x_front ∙ length-append journal (e ∷ []) in
      let longer : length after ≡ length receipts + 1 = ap length added ∙ length-append receipts (record { place = length x.front; entry = e } ∷ []) in
      let held : t.me.0.held ≡ raised s.me.0.held = ap (λ (u : View). u.held) v ∙ ap (λ (u : View). u.held) is ∙ ap (λ (u : View). raised u.held) looked.0 in
      record {
        idle = (ap (λ (u : View). u.stage) v, ap (λ (m : Moment). m.1) served);
        others = ap (λ (u : View). u.others) v ∙ ap (λ (u : View). u.others) is ∙ ap (λ (u : View). u.others) looked.0 ∙ at.others;
        held = held ∙ ap raised at.held ∙ ap (λ (k : ℕ). record { number = number; count = k } ∷ []) (sym longer);
        own = ap (λ (u : View). entries_of number u.front) v ∙ ap (entries_of number) x_front ∙ receipts_push number journal e mine
            ∙ (λ i. own_still s w number seen receipts journal at looked i ++ record { place = sym long i; entry = e } ∷ []) ∙ sym added;
        length_seen = count ∙ ap (λ (u : View). length u.front) (sym v);
      }

  pub left : (moment : ℕ) → after ≡ receipts → x ≡ w → t.me ≡ (at_stage Idle x, []) → t.table_id ≡ s.table_id → IsLeft
      (record { table = s.table_id; number = number; skew = s.me.0.skew; passes = s.me.0.passes; moment = moment; front = s.me.0.front; receipts = receipts })
      (record { table = t.table_id; number = number; skew = t.me.0.skew; passes = t.me.0.passes; moment = moment; front = t.me.0.front; receipts = after })
  left moment same is served table =
      let v : t.me.0 ≡ at_stage Idle x = ap (λ (m : Moment). m.0) served in
      let front : t.me.0.front ≡ journal = ap (λ (u : View). u.front) v ∙ ap (λ (u : View). u.front) is ∙ ap (λ (u : View). u.front) looked.0 in
      record {
        table = table;
        number = refl;
        skew = ap (λ (u : View). u.skew) v ∙ ap (λ (u : View). u.skew) is ∙ ap (λ (u : View). u.skew) looked.0;
        passes = ap (λ (u : View). u.passes) v ∙ ap (λ (u : View). u.passes) is ∙ ap (λ (u : View). u.passes) looked.0;
        moment = refl;
        seen = subst (IsPrefix s.me.0.front) (sym front) looked.1;
        receipts = same;
        own = λ _. ap (entries_of number) front ∙ own_still s w number seen receipts journal at looked ∙ sym same;
        legal = λ _. subst (IsLegal s.me.0.skew) (sym front) looked.2;
      }

  pub admitted : (moment before_moment call : ℕ) (ask : Ask) (verdict : Verdict) → call ≡ length receipts + 1 → x ≡ has_called (w.front ++ entry_of number call ask verdict ∷ []) w → IsLegal x.skew x.front → t.me ≡ (at_stage Idle x, []) → t.table_id ≡ s.table_id
      → moment ≡ moment_of x.skew x.front → after ≡ receipts ++ record { place = length x.front; entry = entry_of number call ask verdict } ∷ [] → IsJudged s.me.0.skew moment ask verdict → Admits
      (record { table = s.table_id; number = number; skew = s.me.0.skew; passes = s.me.0.passes; moment = before_moment; front = s.me.0.front; receipts = receipts })
      ask verdict
      (record { table = t.table_id; number = number; skew = t.me.0.skew; passes = t.me.0.passes; moment = moment; front = t.me.0.front; receipts = after })
  admitted moment before_moment call ask verdict which is legal served table moment_is added judged =
      let e : Entry = entry_of number call ask verdict in
      let v : t.me.0 ≡ at_stage Idle x = ap (λ (m : Moment). m.0) served in
      let t_front : x.front ≡ t.me.0.front = ap (λ (u : View). u.front) (sym v) in
      let x_skew : x.skew ≡ s.me.0.skew = ap (λ (u : View). u.skew) is ∙ ap (λ (u : View). u.skew) looked.0 in
      let x_front : x.front ≡ journal ++ e ∷ [] = ap (λ (u : View). u.front) is ∙ ap (λ (l : List Entry). l ++ e ∷ []) (ap (λ (u : View). u.front) looked.0) in
      let long : length x.front ≡ length journal + 1 = ap length x_front ∙ length-append journal (e ∷ []) in
      let front_is : t.me.0.front ≡ journal ++ entry_of number (length receipts + 1) ask verdict ∷ [] = sym t_front ∙ x_front ∙ ap (λ (k : ℕ). journal ++ entry_of number k ask verdict ∷ []) which in
      record {
        before = journal;
        table = table;
        number = refl;
        skew = ap (λ (u : View). u.skew) v ∙ x_skew;
        passes = ap (λ (u : View). u.passes) v ∙ ap (λ (u : View). u.passes) is ∙ ap (λ (u : View). u.passes) looked.0;
        seen = looked.1;
        front = front_is;
        legal = subst (λ (l : List Entry). IsLegal s.me.0.skew l) t_front (subst (λ (k : ℕ). IsLegal k x.front) x_skew legal);
        receipts = added ∙ (λ i. receipts ++ record { place = length (t_front i); entry = entry_of number (which i) ask verdict } ∷ []);
        own = ap (entries_of number) (sym t_front ∙ x_front) ∙ receipts_push number journal e refl ∙ (λ i. own_still s w number seen receipts journal at looked i ++ record { place = sym long i; entry = e } ∷ []) ∙ sym added;
        moment = moment_is ∙ (λ i. moment_of (x_skew i) (t_front i));
        judged = judged;
      }

  -- the same of the pass as a clause has it
  pub left_of : (o : PassAccount) (moment : ℕ) → record { table = s.table_id; number = number; skew = s.me.0.skew; passes = s.me.0.passes; moment = moment; front = s.me.0.front; receipts = receipts } ≡ o
      → after ≡ receipts → x ≡ w → t.me ≡ (at_stage Idle x, []) → t.table_id ≡ s.table_id → IsLeft o
      (record { table = t.table_id; number = number; skew = t.me.0.skew; passes = t.me.0.passes; moment = moment; front = t.me.0.front; receipts = after })
  left_of o moment view same is served table =
      subst (λ (p : PassAccount). IsLeft p (record { table = t.table_id; number = number; skew = t.me.0.skew; passes = t.me.0.passes; moment = moment; front = t.me.0.front; receipts = after })) view (left moment same is served table)

  pub admitted_of : (o : PassAccount) (moment before_moment call : ℕ) (ask : Ask) (verdict : Verdict) → record { table = s.table_id; number = number; skew = s.me.0.skew; passes = s.me.0.passes; moment = before_moment; front = s.me.0.front; receipts = receipts } ≡ o
      → call ≡ length receipts + 1 → x ≡ has_called (w.front ++ entry_of number call ask verdict ∷ []) w → IsLegal x.skew x.front → t.me ≡ (at_stage Idle x, []) → t.table_id ≡ s.table_id
      → moment ≡ moment_of x.skew x.front → after ≡ receipts ++ record { place = length x.front; entry = entry_of number call ask verdict } ∷ [] → IsJudged s.me.0.skew moment ask verdict → Admits o ask verdict
      (record { table = t.table_id; number = number; skew = t.me.0.skew; passes = t.me.0.passes; moment = moment; front = t.me.0.front; receipts = after })
  admitted_of o moment before_moment call ask verdict view which is legal served table moment_is added judged =
      subst (λ (p : PassAccount). Admits p ask verdict (record { table = t.table_id; number = number; skew = t.me.0.skew; passes = t.me.0.passes; moment = moment; front = t.me.0.front; receipts = after })) view
      (admitted moment before_moment call ask verdict which is legal served table moment_is added judged)
