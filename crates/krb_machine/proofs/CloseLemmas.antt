-- The text of an input, by its reading.
use Rattle.std.proofs.Common.{◌≡◌, ◌≢◌, ℕ, ◌+◌, ◌⊎◌, inl, inr, List, [], ◌∷◌, ◌++◌, length, Option, Some, None, IfSome, refl, ap, sym, ◌∙◌, subst, arith}
use Rattle.std.specs.Prelude.{if◌then◌else◌}
use Rattle.std.proofs.lemmas.List.{append-nil}
use Rattle.krb_text.specs.Lines.{cut}
use Rattle.krb_text.specs.declared.status.Status.{Status}
use Rattle.krb_text.specs.declared.status.Status.TheVariants.{Done, BadWords, BadLine, TooLong, ReadFault, WriteFault, OutOfMemory}
use Rattle.krb_lines.specs.Answering.{octet_count, Reaches, IsBad, IsLong, EndsDone, EndsStopped, EndsUnread, IsWholeText, AnswersLines, Written as WrittenBy}
use Rattle.krb_lines.specs.Halts.{closing, status_at}
use Rattle.krb_lines.specs.declared.halt.Halt.TheVariants.{End}
use Rattle.krb_script.specs.Script.{Declared, Reading, read_lines, read_on, reading_of}
use Rattle.krb_script.specs.declared.stop.Stop.{Stop}
use Rattle.krb_script.specs.declared.stop.Stop.TheVariants.{Whole, Bad, Long}
use Rattle.krb_replay.specs.Book.{Book, StandsFor}
use Rattle.krb_replay.specs.History.{History, window}
use Rattle.krb_replay.proofs.Order.{length-in_order}
use Rattle.krb_machine.specs.declared.reply.Reply.{Reply}
use Rattle.krb_machine.specs.Policy.{State}
use Rattle.krb_machine.specs.Described.{skew_of, service_of, with_gate}
use Rattle.krb_machine.specs.Reply.{replies_text, admissions}
use Rattle.krb_machine.specs.Text.{Answered, IsText, IsStopped, last_line, end_line, bad_line, long_line}
use Rattle.krb_machine.specs.Progress.{Progress, new_progress}
use Rattle.krb_machine.specs.LineRules.{line_rules, kept_by}
use Rattle.krb_machine.specs.Serve.{Written, Serves, IsSound, whole_reading, status_of, end_of}
use Rattle.krb_machine.proofs.Following.{IsBefore, IsAmid, Follows}
use Rattle.krb_machine.proofs.GrowthLemmas.{Grows, Grows-length, read-grows}
use Rattle.krb_machine.proofs.ProgressLemmas.{line-refused, before-answered, all-answered, first-answered}
use Rattle.krb_machine.proofs.ReadingLemmas.{read-short, read-long, Reached, run-reaches, input-reaches, reading-from}

-- the last line of a whole input, and the run that leads to it
pub record EndsWith (progress : Progress) (so_far : Declared) (n : ℕ) (replies : List Reply) : Type 0 where
  pub after : State History
  pub answered : Answered so_far (replies_text replies) replies after
  pub kept_is : kept_by progress.service ≡ length (window (skew_of so_far.setup) after.gate)
  pub line_is : closing line_rules progress End ≡ last_line Whole n so_far.setup replies after.gate
  pub status_is : status_at line_rules progress End ≡ status_of Whole so_far

ends_before : (progress : Progress) (so_far : Declared) (replies : List Reply) → progress.admitted ≡ admissions replies → IsBefore progress so_far replies → EndsWith progress so_far (progress.lines + 1) replies
ends_before progress so_far replies admitted b = record {
  after = service_of so_far.setup;
  answered = before-answered progress so_far replies b;
  kept_is = ap kept_by b.service;
  line_is = rw (b.service, b.setup, admitted) refl;
  status_is = rw (b.service, b.setup) refl;
}

-- the book keeps as many records as the window has
window_kept : (book : Book) (h : History) (skew : ℕ) → StandsFor book h → book.skew ≡ skew → length book.kept ≡ length (window skew h)
window_kept book h skew stands own_skew = ap length stands.kept ∙ length-in_order (window book.skew h) ∙ ap (λ k. length (window k h)) own_skew

ends_amid : (progress : Progress) (so_far : Declared) (replies : List Reply) → progress.admitted ≡ admissions replies → IsAmid progress so_far replies → EndsWith progress so_far (progress.lines + 1) replies
ends_amid progress so_far replies admitted m =
    let kept : length m.after.gate.kept ≡ length (window (skew_of so_far.setup) m.history) = window_kept m.after.gate m.history (skew_of so_far.setup) m.stands m.own_skew in
    record {
      after = with_gate m.after m.history;
      answered = record { runs = m.runs; is = refl };
      kept_is = ap kept_by m.service ∙ kept;
      line_is = rw (m.service, m.skew, admitted) (ap (λ n. end_line (admissions replies) n) kept);
      status_is = rw (m.service, m.skew) refl;
    }

ends_by : (progress : Progress) (so_far : Declared) (replies : List Reply) → progress.admitted ≡ admissions replies → IsBefore progress so_far replies ⊎ IsAmid progress so_far replies
    → EndsWith progress so_far (progress.lines + 1) replies
ends_by progress so_far replies admitted (inl b) = ends_before progress so_far replies admitted b
ends_by progress so_far replies admitted (inr m) = ends_amid progress so_far replies admitted m

pub ends_with : (progress : Progress) (so_far : Declared) (replies : List Reply) → Follows progress so_far replies → EndsWith progress so_far (progress.lines + 1) replies
ends_with progress so_far replies f = ends_by progress so_far replies f.admitted f.state

-- a text that ends at the end of the reading
ended_text : (input text front line : List ℕ) (so_far : Declared) (n : ℕ) (stop : Stop) (replies : List Reply) (after : State History) → reading_of input ≡ record { so_far = so_far; number = n; stop = stop }
    → Answered so_far (replies_text replies) replies after → front ≡ replies_text replies → line ≡ last_line stop n so_far.setup replies after.gate → text ≡ front ++ line → IsText input text
ended_text input text front line so_far n stop replies after is answered front_is line_is text_is =
    let D : Reading → Type 0 = λ r. Answered r.so_far front replies after in
    record {
      front = front;
      replies = replies;
      after = after;
      answered = subst D (sym is) (record { runs = answered.runs; is = front_is });
      is = text_is ∙ ap (λ l. front ++ l) (line_is ∙ sym (ap (λ (r : Reading). last_line r.stop r.number r.so_far.setup replies after.gate) is));
    }

ended_status : (input : List ℕ) (so_far : Declared) (n : ℕ) (stop : Stop) → reading_of input ≡ record { so_far = so_far; number = n; stop = stop } → end_of input ≡ status_of stop so_far
ended_status input so_far n stop is = ap (λ (r : Reading). status_of r.stop r.so_far) is

-- no line is left: the last line and the status are those of the end
at_end : (input text front line : List ℕ) (progress : Progress) (status : Status) → Reaches line_rules new_progress input [] front progress → line ≡ closing line_rules progress End
    → status ≡ status_at line_rules progress End → text ≡ front ++ line → (end_of input ≡ status) × IsText input text
at_end input text front line progress status r line_is status_is text_is =
    let k = input-reaches input [] front progress r in
    let is = reading-from input [] front progress r k in
    let w = ends_with progress k.so_far k.replies k.follows in (
      ended_status input k.so_far (progress.lines + 1) Whole is ∙ sym (status_is ∙ w.status_is),
      ended_text input text front line k.so_far (progress.lines + 1) Whole k.replies w.after is w.answered k.text_is (line_is ∙ w.line_is) text_is,
    )

done_text : (input text : List ℕ) → EndsDone line_rules new_progress input text → (end_of input ≡ Done) × IsText input text
done_text input text e =
    at_end input text e.front (line_rules.end_line e.taker) e.taker Done e.reaches
    (sym (ap (λ t. if t then line_rules.end_line e.taker else bad_line (e.taker.lines + 1)) e.can_end)) (sym (ap (λ t. if t then Done else BadLine) e.can_end)) e.is

-- the reading stops at a line that is left
stopped_text : (input text front line : List ℕ) (others : List (List ℕ)) (progress : Progress) (stop : Stop) (r : Reaches line_rules new_progress input others front progress)
    → ((so_far : Declared) (replies : List Reply) → Follows progress so_far replies
    → read_lines (length input) (octet_count r.first) (progress.lines + 1) so_far others ≡ record { so_far = so_far; number = progress.lines + 1; stop = stop })
    → ((so_far : Declared) (replies : List Reply) (after : State History) → line ≡ last_line stop (progress.lines + 1) so_far.setup replies after.gate)
    → text ≡ front ++ line → ((so_far : Declared) × (end_of input ≡ status_of stop so_far)) × IsText input text
stopped_text input text front line others progress stop r stops line_is text_is =
    let k = input-reaches input others front progress r in
    let is = reading-from input others front progress r k ∙ stops k.so_far k.replies k.follows in
    let all = all-answered progress k.so_far k.replies k.follows.state in (
      (k.so_far, ended_status input k.so_far (progress.lines + 1) stop is),
      ended_text input text front line k.so_far (progress.lines + 1) stop k.replies all.0 is all.1 k.text_is (line_is k.so_far k.replies all.0) text_is,
    )

bad_text : (input text front : List ℕ) (others : List (List ℕ)) (progress : Progress) (r : Reaches line_rules new_progress input others front progress)
    → IsBad line_rules (length input) (octet_count r.first) progress others → text ≡ front ++ bad_line (progress.lines + 1) → (end_of input ≡ BadLine) × IsText input text
bad_text input text front [] progress r bad is =
    at_end input text front (bad_line (progress.lines + 1)) progress BadLine r
    (sym (ap (λ t. if t then line_rules.end_line progress else bad_line (progress.lines + 1)) bad)) (sym (ap (λ t. if t then Done else BadLine) bad)) is
bad_text input text front (line ∷ more) progress r bad is =
    let t = stopped_text input text front (bad_line (progress.lines + 1)) (line ∷ more) progress Bad r
    (λ so_far replies f. read-short (length input) (octet_count r.first) (progress.lines + 1) so_far line more bad.0
    ∙ ap (λ o. read_on o (λ next. read_lines (length input) (octet_count r.first + length line + 1) (progress.lines + 1 + 1) next more) (record { so_far = so_far; number = progress.lines + 1; stop = Bad }))
    (line-refused progress so_far replies line f bad.1))
    (λ so_far replies after. refl) is in
    (t.0.1, t.1)

long_text : (input text front : List ℕ) (others : List (List ℕ)) (progress : Progress) (r : Reaches line_rules new_progress input others front progress)
    → IsLong (length input) (octet_count r.first) others → text ≡ front ++ long_line (progress.lines + 1) → (end_of input ≡ TooLong) × IsText input text
long_text input text front [] progress r long is = absurd long
long_text input text front (line ∷ more) progress r long is =
    let t = stopped_text input text front (long_line (progress.lines + 1)) (line ∷ more) progress Long r
    (λ so_far replies f. read-long (length input) (octet_count r.first) (progress.lines + 1) so_far line more long)
    (λ so_far replies after. refl) is in
    (t.0.1, t.1)

-- memory ran out after the first lines
short_text : (input text : List ℕ) → EndsStopped line_rules new_progress input text → IsStopped input text
short_text input text e =
    let k = input-reaches input e.others e.front e.taker e.reaches in
    let is = reading-from input e.others e.front e.taker e.reaches k in
    let final = (reading_of input).so_far in
    let G : Reading → Type 0 = λ r. Grows k.so_far r.so_far in
    let grows : Grows k.so_far final = subst G (sym is) (read-grows (length input) (octet_count e.reaches.first) (e.taker.lines + 1) k.so_far e.others) in
    let answered = k.follows.answered in
    let fewer = Grows-length k.so_far final grows in
    let first = first-answered e.taker k.so_far final k.replies answered k.follows.state grows in
    record {
      t = e.taker.answered;
      few = omega (arith, answered, fewer);
      front = e.front;
      replies = k.replies;
      after = first.0;
      answered = record { runs = first.1.runs; is = k.text_is };
      is = e.is;
    }

-- a read failed after the whole lines
unread_text : (taken text : List ℕ) → EndsUnread line_rules new_progress taken text
    → IsSound taken × ((replies : List Reply) × (after : State History) × Answered (whole_reading taken).so_far text replies after)
unread_text taken text e =
    let whole = (cut taken).whole in
    let k = run-reaches (length taken) whole [] text e.taker e.runs e.short in
    let L : List (List ℕ) → Type 0 = λ l. Reached (length taken) (octet_count whole) l [] text e.taker in
    let r = subst L (append-nil whole) k in
    let all = all-answered e.taker r.so_far r.replies r.follows.state in
    let D : Reading → Type 0 = λ s. Answered s.so_far text r.replies all.0 in (
      (ap (λ (s : Reading). s.stop) r.reading, e.rest, e.total),
      (r.replies, all.0, subst D (sym r.reading) (record { runs = all.1.runs; is = r.text_is })),
    )

-- a whole text, whatever its status
whole_text : (input : List ℕ) (status : Status) (text : List ℕ) → IsWholeText line_rules new_progress input status text → IsText input text ⊎ IsStopped input text
whole_text input Done text e = inl (done_text input text e).1
whole_text input BadLine text e = inl (bad_text input text e.front e.others e.taker e.reaches e.bad e.is).1
whole_text input TooLong text e = inl (long_text input text e.front e.others e.taker e.reaches e.long e.is).1
whole_text input OutOfMemory text e = inr (short_text input text e)
whole_text input BadWords text e = absurd e
whole_text input ReadFault text e = absurd e
whole_text input WriteFault text e = absurd e

written_by : (input taken : List ℕ) (status : Status) (text : List ℕ) → WrittenBy line_rules new_progress input taken status text → Written input taken status text
written_by input taken Done text w = let d = done_text input text w.0 in (d.0, d.1, w.1)
written_by input taken BadLine text w = bad_text input text w.front w.others w.taker w.reaches w.bad w.is
written_by input taken TooLong text w = long_text input text w.front w.others w.taker w.reaches w.long w.is
written_by input taken OutOfMemory text w = short_text input text w
written_by input taken ReadFault text w = unread_text taken text w
written_by input taken WriteFault text w = (w.whole, w.front, whole_text input w.status w.whole w.is)
written_by input taken BadWords text w = w

map_some : (P Q : List ℕ → Type 0) (o : Option (List ℕ)) → ((x : List ℕ) → P x → Q x) → IfSome o P → IfSome o Q
map_some P Q None f p = tt
map_some P Q (Some x) f p = f x p

-- the text for the lines, taken one after another, is the text for the whole input
pub serves-read : (left b before after : Option (List ℕ)) (session : Progress) (status : Status) → session ≡ new_progress → AnswersLines line_rules session left b before after status
    → Serves left b before after status
serves-read left b before after session status is answers =
    let A : Progress → Type 0 = λ p. AnswersLines line_rules p left b before after status in
    map_some _ _ left (λ input k. (k.0, k.1, k.2, k.3, written_by input k.0 status k.1 k.4)) (subst A is answers)

-- an input with no bad and no long line
pub answered-whole : (input taken written : List ℕ) (status : Status) → end_of input ≡ Done → Written input taken status written → status ≢ BadWords
    → (status ≡ Done) ⊎ ((status ≡ ReadFault) ⊎ ((status ≡ WriteFault) ⊎ (status ≡ OutOfMemory)))
answered-whole input taken written Done e w n = inl refl
answered-whole input taken written BadWords e w n = absurd (n refl)
answered-whole input taken written BadLine e w n = let f = w.0 in absurd (cc)
answered-whole input taken written TooLong e w n = let f = w.0 in absurd (cc)
answered-whole input taken written ReadFault e w n = inr (inl refl)
answered-whole input taken written WriteFault e w n = inr (inr (inl refl))
answered-whole input taken written OutOfMemory e w n = inr (inr (inr refl))
