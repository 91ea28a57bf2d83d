-- The progress of a session against the declarations of the lines.
use Rattle.std.proofs.Common.{◌≡◌, ℕ, ◌+◌, ◌<◌, ◌⊎◌, inl, inr, Bool, true, false, List, [], ◌∷◌, ◌++◌, length, length-append, take, Option, Some, None, is_some, option_map, refl, ap, sym, ◌∙◌, subst, arith}
use Rattle.std.specs.Prelude.{if◌then◌else◌, MatchBool, MatchOption, IfSome}
use Rattle.std.proofs.lemmas.List.{append-nil, take_at}
use Rattle.std.proofs.lemmas.List.Concat.{flat_map-append}
use Rattle.std.proofs.lemmas.List.Sums.{sum_by_push}
use Rattle.krb_text.specs.Lines.{is_skipped}
use Rattle.krb_der.specs.Reading.{◌>>=◌}
use Rattle.krb_script.specs.Items.{item_of}
use Rattle.krb_script.specs.Script.{Setup, Declared, set_up, set_up_before, declare, declare_line}
use Rattle.krb_script.specs.declared.item.Item.{Item}
use Rattle.krb_script.specs.declared.item.Item.TheVariants.{Declaration as DeclarationItem, Event as EventItem}
use Rattle.krb_script.specs.declared.declaration.Declaration.{Declaration}
use Rattle.krb_script.specs.declared.item.Event.{Event}
use Rattle.krb_machine.specs.declared.reply.Reply.{Reply}
use Rattle.krb_replay.specs.Book.{Book, StandsFor}
use Rattle.krb_replay.specs.History.{History, no_history}
use Rattle.krb_machine.specs.Policy.{State, Runs}
use Rattle.krb_machine.specs.Described.{Remembers, skew_of, connections_of, service_of, with_gate}
use Rattle.krb_machine.specs.Reply.{reply_line, replies_text}
use Rattle.krb_machine.specs.Text.{Answered, first_events}
use Rattle.krb_machine.specs.Progress.{Progress, IsNew, BeginsService, CannotBegin, one_if_admits, Answers, prepare, prepare_by, Prepares, TakesItem, RefusesItem, TakesContent, counted, Takes, Refuses}
use Rattle.krb_machine.proofs.Following.{IsBefore, IsAmid, Follows}
use Rattle.krb_machine.proofs.PolicyLemmas.{Runs-push}
use Rattle.krb_machine.proofs.HistoryLemmas.{step-remembered}
use Rattle.krb_machine.proofs.GrowthLemmas.{Grows}

-- the state after a line that is taken
pub record Made (progress : Progress) (so_far : Declared) (replies : List Reply) (declared : Option Declared) (text : List ℕ) (lines : ℕ) (after : Progress) : Type 0 where
  pub next : Declared
  pub is : declared ≡ Some next
  pub all : List Reply
  pub follows : Follows after next all
  pub text_is : replies_text all ≡ replies_text replies ++ text
  pub lines_are : after.lines ≡ lines

-- the needs of an event: a session with a skew, and the service after the events so far
record IsReady (so_far : Declared) (replies : List Reply) (before : State Book) : Type 0 where
  history : History
  skew : is_some so_far.setup.skew ≡ true
  runs : Runs (Remembers (skew_of so_far.setup)) (service_of so_far.setup) so_far.events replies (with_gate before history)
  stands : StandsFor before.gate history
  own_skew : before.gate.skew ≡ skew_of so_far.setup

-- a new service is the one that the lines describe
new_is : (setup : Setup) (before : State Book) → IsNew setup before → with_gate before no_history ≡ service_of setup
new_is setup before n =
    ap (λ c. record { connections = c; env = before.env; gate = no_history }) n.connections
    ∙ ap (λ e. record { connections = connections_of setup; env = e; gate = no_history }) n.env

new_ready : (so_far : Declared) (replies : List Reply) (before : State Book) → so_far.events ≡ [] → replies ≡ [] → is_some so_far.setup.skew ≡ true → IsNew so_far.setup before → IsReady so_far replies before
new_ready so_far replies before events none skew n =
    let E : List Event → Type 0 = λ es. Runs (Remembers (skew_of so_far.setup)) (service_of so_far.setup) es replies (with_gate before no_history) in
    let R : List Reply → Type 0 = λ rs. Runs (Remembers (skew_of so_far.setup)) (service_of so_far.setup) [] rs (with_gate before no_history) in
    record {
      history = no_history;
      skew = skew;
      runs = subst E (sym events) (subst R (sym none) (new_is so_far.setup before n));
      stands = n.stands;
      own_skew = n.skew;
    }

ready_before : (progress : Progress) (so_far : Declared) (replies : List Reply) (before : State Book) → IsBefore progress so_far replies → BeginsService progress before → IsReady so_far replies before
ready_before progress so_far replies before b begins =
    let B : Option (State Book) → Type 0 = λ o. MatchOption o ((is_some progress.setup.skew ≡ true) × IsNew progress.setup before) (λ service. before ≡ service) in
    let N : Setup → Type 0 = λ setup. (is_some setup.skew ≡ true) × IsNew setup before in
    let n : (is_some so_far.setup.skew ≡ true) × IsNew so_far.setup before = subst N b.setup (subst B b.service begins) in
    new_ready so_far replies before b.events b.none n.0 n.1

ready_amid : (progress : Progress) (so_far : Declared) (replies : List Reply) (before : State Book) → (m : IsAmid progress so_far replies) → BeginsService progress before → IsReady so_far replies before
ready_amid progress so_far replies before m begins =
    let B : Option (State Book) → Type 0 = λ o. MatchOption o ((is_some progress.setup.skew ≡ true) × IsNew progress.setup before) (λ service. before ≡ service) in
    let is : before ≡ m.after = subst B m.service begins in
    let R : State Book → Type 0 = λ s. IsReady so_far replies s in
    subst R (sym is) (record { history = m.history; skew = m.skew; runs = m.runs; stands = m.stands; own_skew = m.own_skew })

ready : (progress : Progress) (so_far : Declared) (replies : List Reply) (before : State Book) → IsBefore progress so_far replies ⊎ IsAmid progress so_far replies → BeginsService progress before
    → IsReady so_far replies before
ready progress so_far replies before (inl b) begins = ready_before progress so_far replies before b begins
ready progress so_far replies before (inr m) begins = ready_amid progress so_far replies before m begins

replies-push : (replies : List Reply) (reply : Reply) (text : List ℕ) → text ≡ reply_line reply → replies_text (replies ++ reply ∷ []) ≡ replies_text replies ++ text
replies-push replies reply text is = flat_map-append reply_line replies (reply ∷ []) ∙ ap (λ l. replies_text replies ++ l) (append-nil (reply_line reply) ∙ sym is)

event_made : (progress : Progress) (so_far : Declared) (replies : List Reply) (event : Event) (text : List ℕ) (after : Progress) → Follows progress so_far replies → Answers progress event text after
    → Made progress so_far replies (declare so_far (EventItem event)) text progress.lines after
event_made progress so_far replies event text after f a =
    let r = ready progress so_far replies a.before f.state a.begins in
    let k = skew_of so_far.setup in
    let m = step-remembered k a.before r.history event a.reply a.next r.stands r.own_skew a.steps in
    let len = length-append so_far.events (event ∷ []) in
    let answered = f.answered in
    let answered_is = a.answered_is in
    let admitted_is = a.admitted_is in
    record {
      next = record { setup = so_far.setup; events = so_far.events ++ event ∷ [] };
      is = rw r.skew refl;
      all = replies ++ a.reply ∷ [];
      follows = record {
        answered = omega arith;
        admitted = a.admitted_is ∙ ap (λ n. n + one_if_admits a.reply) f.admitted ∙ sym (sum_by_push (λ reply. one_if_admits reply) replies a.reply);
        state = inr (record {
          after = a.next;
          history = m.after;
          service = a.service_is;
          skew = r.skew;
          some = omega arith;
          runs = Runs-push (Remembers k) (service_of so_far.setup) so_far.events replies (with_gate a.before r.history) event a.reply (with_gate a.next m.after) r.runs m.steps;
          stands = m.stands;
          own_skew = m.own_skew;
        });
      };
      text_is = replies-push replies a.reply text a.text_is;
      lines_are = a.lines_are;
    }

prepared : (progress after : Progress) (o : Option Setup) → option_map (λ setup. record progress { setup = setup }) o ≡ Some after → (setup : Setup) × (o ≡ Some setup) × (after ≡ record progress { setup = setup })
prepared progress after None e = absurd (cc)
prepared progress after (Some setup) e = (setup, refl, cc)

setup_made : (progress : Progress) (so_far : Declared) (replies : List Reply) (item : Declaration) (text : List ℕ) (after : Progress) → Follows progress so_far replies
    → IsBefore progress so_far replies ⊎ IsAmid progress so_far replies → Prepares progress item text after → Made progress so_far replies (set_up_before so_far.events so_far.setup item) text progress.lines after
setup_made progress so_far replies item text after f (inl b) p =
    let made = prepared progress after (set_up so_far.setup item)
    (ap (λ (s : Setup). option_map (λ setup. record progress { setup = setup }) (set_up s item)) (sym b.setup) ∙ ap (λ o. prepare_by o progress item) (sym b.service) ∙ p.after_is) in
    let none : length so_far.events ≡ 0 = ap length b.events in
    let answered_is : after.answered ≡ progress.answered = ap (λ (q : Progress). q.answered) made.2 in
    let admitted_is : after.admitted ≡ progress.admitted = ap (λ (q : Progress). q.admitted) made.2 in
    let answered = f.answered in
    record {
      next = record { setup = made.0; events = [] };
      is = ap (λ es. set_up_before es so_far.setup item) b.events ∙ ap (λ o. option_map (λ setup. record { setup = setup; events = [] }) o) made.1;
      all = replies;
      follows = record {
        answered = omega arith;
        admitted = admitted_is ∙ f.admitted;
        state = inl (record {
          setup = ap (λ (q : Progress). q.setup) made.2;
          service = ap (λ (q : Progress). q.service) made.2 ∙ b.service;
          events = refl;
          none = b.none;
        });
      };
      text_is = sym (append-nil (replies_text replies)) ∙ ap (λ l. replies_text replies ++ l) (sym p.text_is);
      lines_are = ap (λ (q : Progress). q.lines) made.2;
    }
setup_made progress so_far replies item text after f (inr m) p =
    let none : prepare progress item ≡ None = ap (λ o. prepare_by o progress item) m.service in
    let is = p.after_is in absurd (cc)

item_made : (progress : Progress) (so_far : Declared) (replies : List Reply) (item : Item) (text : List ℕ) (after : Progress) → Follows progress so_far replies → TakesItem progress item text after
    → Made progress so_far replies (declare so_far item) text progress.lines after
item_made progress so_far replies (EventItem event) text after f t = event_made progress so_far replies event text after f t
item_made progress so_far replies (DeclarationItem item) text after f t = setup_made progress so_far replies item text after f f.state t

line_made : (progress : Progress) (so_far : Declared) (replies : List Reply) (line text : List ℕ) (after : Progress) (t : Bool) → Follows progress so_far replies
    → MatchBool t ((text ≡ []) × (after ≡ progress)) (TakesContent progress line text after)
    → Made progress so_far replies (if t then Some so_far else (item_of line >>= (λ item. declare so_far item))) text progress.lines after
line_made progress so_far replies line text after true f m =
    let P : Progress → Type 0 = λ p. Follows p so_far replies in
    record {
      next = so_far;
      is = refl;
      all = replies;
      follows = subst P (sym m.1) f;
      text_is = sym (append-nil (replies_text replies)) ∙ ap (λ l. replies_text replies ++ l) (sym m.0);
      lines_are = ap (λ (p : Progress). p.lines) m.1;
    }
line_made progress so_far replies line text after false f m =
    let O : Option Declared → Type 0 = λ d. Made progress so_far replies d text progress.lines after in
    subst O (ap (λ o. o >>= (λ item. declare so_far item)) (sym m.is)) (item_made progress so_far replies m.item text after f m.takes)

counted_state : (progress : Progress) (so_far : Declared) (replies : List Reply) → IsBefore progress so_far replies ⊎ IsAmid progress so_far replies
    → IsBefore (counted progress) so_far replies ⊎ IsAmid (counted progress) so_far replies
counted_state progress so_far replies (inl b) = inl (record { setup = b.setup; service = b.service; events = b.events; none = b.none })
counted_state progress so_far replies (inr m) =
    inr (record { after = m.after; history = m.history; service = m.service; skew = m.skew; some = m.some; runs = m.runs; stands = m.stands; own_skew = m.own_skew })

-- a line that is taken is declared, and the reply to its event is the last
pub line-made : (progress : Progress) (so_far : Declared) (replies : List Reply) (line text : List ℕ) (after : Progress) → Follows progress so_far replies → Takes progress line text after
    → Made progress so_far replies (declare_line so_far line) text (progress.lines + 1) after
line-made progress so_far replies line text after f t =
    let m = line_made progress so_far replies line text t.last (is_skipped line) f t.content in
    let P : Progress → Type 0 = λ p. Follows p m.next m.all in
    let lines_are = m.lines_are in
    record {
      next = m.next;
      is = m.is;
      all = m.all;
      follows = subst P (sym t.after_is) (record { answered = m.follows.answered; admitted = m.follows.admitted; state = counted_state t.last m.next m.all m.follows.state });
      text_is = m.text_is;
      lines_are = ap (λ (p : Progress). p.lines) t.after_is ∙ ap (λ n. n + 1) lines_are;
    }

event_refused : (progress : Progress) (so_far : Declared) (replies : List Reply) (event : Event) → IsBefore progress so_far replies ⊎ IsAmid progress so_far replies → CannotBegin progress
    → declare so_far (EventItem event) ≡ None
event_refused progress so_far replies event (inl b) none = rw (ap (λ (s : Setup). is_some s.skew) (sym b.setup) ∙ none.1) refl
event_refused progress so_far replies event (inr m) none = let p = none.0 in let q = m.service in absurd (cc)

mapped_none : {A B : Type 0} (f : A → B) (o : Option A) → option_map f o ≡ None → o ≡ None
mapped_none f None e = refl
mapped_none f (Some x) e = absurd (cc)

setup_behind : (setup : Setup) (events : List Event) (item : Declaration) → 0 < length events → set_up_before events setup item ≡ None
setup_behind setup [] item some = absurd (omega arith)
setup_behind setup (event ∷ events) item some = refl

setup_refused : (progress : Progress) (so_far : Declared) (replies : List Reply) (item : Declaration) → IsBefore progress so_far replies ⊎ IsAmid progress so_far replies → prepare progress item ≡ None
    → set_up_before so_far.events so_far.setup item ≡ None
setup_refused progress so_far replies item (inl b) none =
    let no_setup : set_up so_far.setup item ≡ None = mapped_none (λ setup. record progress { setup = setup }) (set_up so_far.setup item)
    (ap (λ (s : Setup). option_map (λ setup. record progress { setup = setup }) (set_up s item)) (sym b.setup) ∙ ap (λ o. prepare_by o progress item) (sym b.service) ∙ none) in
    ap (λ es. set_up_before es so_far.setup item) b.events ∙ ap (λ o. option_map (λ setup. record { setup = setup; events = [] }) o) no_setup
setup_refused progress so_far replies item (inr m) none = setup_behind so_far.setup so_far.events item m.some

item_refused : (progress : Progress) (so_far : Declared) (replies : List Reply) (item : Item) → IsBefore progress so_far replies ⊎ IsAmid progress so_far replies → RefusesItem progress item → declare so_far item ≡ None
item_refused progress so_far replies (EventItem event) s r = event_refused progress so_far replies event s r
item_refused progress so_far replies (DeclarationItem item) s r = setup_refused progress so_far replies item s r

content_refused : (progress : Progress) (so_far : Declared) (replies : List Reply) (o : Option Item) → IsBefore progress so_far replies ⊎ IsAmid progress so_far replies → IfSome o (λ item. RefusesItem progress item)
    → (o >>= (λ item. declare so_far item)) ≡ None
content_refused progress so_far replies None s r = refl
content_refused progress so_far replies (Some item) s r = item_refused progress so_far replies item s r

-- a line that is refused is bad
pub line-refused : (progress : Progress) (so_far : Declared) (replies : List Reply) (line : List ℕ) → Follows progress so_far replies → Refuses progress line → declare_line so_far line ≡ None
line-refused progress so_far replies line f r = rw r.content (content_refused progress so_far replies (item_of line) f.state r.refuses)

-- no event was answered: the service is the one that the lines describe
first_before : (progress : Progress) (so_far final : Declared) (replies : List Reply) → IsBefore progress so_far replies → Answered (first_events 0 final) (replies_text replies) replies (service_of final.setup)
first_before progress so_far final replies b =
    let R : List Reply → Type 0 = λ rs. Runs (Remembers (skew_of final.setup)) (service_of final.setup) [] rs (service_of final.setup) in
    record { runs = subst R (sym b.none) refl; is = refl }

first_grown : (progress : Progress) (so_far final : Declared) (replies : List Reply) (m : IsAmid progress so_far replies) → Grows so_far final
    → Answered (first_events (length so_far.events) final) (replies_text replies) replies (with_gate m.after m.history)
first_grown progress so_far final replies m (inl none) = let e = ap length none in let some = m.some in absurd (omega arith)
first_grown progress so_far final replies m (inr p) =
    let front : take (length so_far.events) final.events ≡ so_far.events = ap (take (length so_far.events)) p.1.1 ∙ take_at so_far.events p.1.0 (length so_far.events) refl in
    let E : List Event → Type 0 = λ es. Runs (Remembers (skew_of so_far.setup)) (service_of so_far.setup) es replies (with_gate m.after m.history) in
    let S : Setup → Type 0 = λ setup. Runs (Remembers (skew_of setup)) (service_of setup) (take (length so_far.events) final.events) replies (with_gate m.after m.history) in
    record { runs = subst S (sym p.0) (subst E (sym front) m.runs); is = refl }

-- the replies so far are those to the first events of all declared ones
pub first-answered : (progress : Progress) (so_far final : Declared) (replies : List Reply) → progress.answered ≡ length so_far.events → IsBefore progress so_far replies ⊎ IsAmid progress so_far replies → Grows so_far final
    → (after : State History) × Answered (first_events progress.answered final) (replies_text replies) replies after
first-answered progress so_far final replies answered (inl b) grows =
    let T : ℕ → Type 0 = λ t. (after : State History) × Answered (first_events t final) (replies_text replies) replies after in
    subst T (sym (answered ∙ ap length b.events)) (service_of final.setup, first_before progress so_far final replies b)
first-answered progress so_far final replies answered (inr m) grows =
    let T : ℕ → Type 0 = λ t. (after : State History) × Answered (first_events t final) (replies_text replies) replies after in
    subst T (sym answered) (with_gate m.after m.history, first_grown progress so_far final replies m grows)

pub before-answered : (progress : Progress) (so_far : Declared) (replies : List Reply) → IsBefore progress so_far replies → Answered so_far (replies_text replies) replies (service_of so_far.setup)
before-answered progress so_far replies b =
    let R : List Reply → Type 0 = λ rs. Runs (Remembers (skew_of so_far.setup)) (service_of so_far.setup) [] rs (service_of so_far.setup) in
    let E : List Event → Type 0 = λ es. Runs (Remembers (skew_of so_far.setup)) (service_of so_far.setup) es replies (service_of so_far.setup) in
    record { runs = subst E (sym b.events) (subst R (sym b.none) refl); is = refl }

-- the replies so far are those to the events declared so far
pub all-answered : (progress : Progress) (so_far : Declared) (replies : List Reply) → IsBefore progress so_far replies ⊎ IsAmid progress so_far replies
    → (after : State History) × Answered so_far (replies_text replies) replies after
all-answered progress so_far replies (inl b) = (service_of so_far.setup, before-answered progress so_far replies b)
all-answered progress so_far replies (inr m) = (with_gate m.after m.history, record { runs = m.runs; is = refl })
