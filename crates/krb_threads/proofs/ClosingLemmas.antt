-- The text that is written after the end of the reading.
use Rattle.std.proofs.Common.{◌≡◌, ◌≢◌, ℕ, ◌+◌, ◌⊎◌, inl, inr, true, false, List, [], Option, Some, None, IfSome, is_some, refl, ap, sym, ◌∙◌, subst}
use Rattle.std.specs.Io.KnownBytes.{Appends}
use Rattle.std.proofs.lemmas.List.{append-nil}
use Rattle.krb_text.specs.Output.{AppendsFront}
use Rattle.krb_script.specs.Script.{Declared, Reading, reading_of}
use Rattle.krb_script.specs.declared.stop.Stop.TheVariants.{Whole as WholeStop, Bad as BadStop, Long as LongStop}
use Rattle.krb_text.specs.declared.status.Status.{Status}
use Rattle.krb_text.specs.declared.status.Status.TheVariants.{Done, BadWords, BadLine, TooLong, ReadFault, WriteFault, OutOfMemory}
use Rattle.krb_input.specs.Taken.{IsTaken}
use Rattle.krb_machine.specs.Serve.{status_of, end_of}
use Rattle.krb_machine.specs.Text.{bad_line, long_line, stopped_line}
use Rattle.krb_input.specs.Known.{Known, Ends}
use Rattle.krb_input.specs.declared.ending.Ending.TheVariants.{Whole, Bad, Long, OutOfMemory as NoMemory}
use Rattle.krb_threads.specs.Answers.{IsAnswer}
use Rattle.krb_threads.specs.Threads.{IsText, IsTextAt, Written, Runs, Answers}

-- by the status that a write returned
pub by-write : (P : Status → Type 0) (A F : Type 0) (status own : Status) → (status ≢ WriteFault → (status ≡ own) × A) → (status ≡ WriteFault → F) → (A → P own) → (F → P WriteFault) → P status
by-write P A F WriteFault own whole cut f g = g (cut refl)
by-write P A F Done own whole cut f g = let w = whole (λ e. cc) in subst P (sym w.0) (f w.1)
by-write P A F BadWords own whole cut f g = let w = whole (λ e. cc) in subst P (sym w.0) (f w.1)
by-write P A F BadLine own whole cut f g = let w = whole (λ e. cc) in subst P (sym w.0) (f w.1)
by-write P A F TooLong own whole cut f g = let w = whole (λ e. cc) in subst P (sym w.0) (f w.1)
by-write P A F ReadFault own whole cut f g = let w = whole (λ e. cc) in subst P (sym w.0) (f w.1)
by-write P A F OutOfMemory own whole cut f g = let w = whole (λ e. cc) in subst P (sym w.0) (f w.1)

map_some : (P Q : List ℕ → Type 0) (o : Option (List ℕ)) → ((x : List ℕ) → P x → Q x) → IfSome o P → IfSome o Q
map_some P Q None f p = tt
map_some P Q (Some x) f p = f x p

Appends-nothing : (a : Option (List ℕ)) → Appends a a []
Appends-nothing None = tt
Appends-nothing (Some xs) = sym (append-nil xs)

-- a text whose status is known
text_at : (input text : List ℕ) (status : Status) → end_of input ≡ status → IsTextAt input status text → IsText input text
text_at input text status is t = let P : Status → Type 0 = λ s. IsTextAt input s text in subst P (sym is) t

-- the line that is written for a bad or a long line
pub closed-line : (left b before after : Option (List ℕ)) (status own : Status) (line : List ℕ)
    → IfSome left (λ input. (taken : List ℕ) × IsTaken input b taken × IsText input line × ((written : List ℕ) → IsText input written → Written input taken own written))
    → (status ≢ WriteFault → (status ≡ own) × Appends before after line) → (status ≡ WriteFault → AppendsFront before after line) → Runs left b before after status
closed-line left b before after status own line known whole cut =
    by-write (λ s. Runs left b before after s) (Appends before after line) (AppendsFront before after line) status own whole cut
    (λ a. map_some _ _ left (λ input k. (k.0, line, k.1, a, k.3 line k.2)) known)
    (λ f. map_some _ _ left (λ input k. (k.0, f.0, k.1, f.2, (line, f.1, inl k.2))) known)

ended : (input : List ℕ) (r : Reading) (status : Status) → reading_of input ≡ r → status_of r.stop r.so_far ≡ status → end_of input ≡ status
ended input r status is s = ap (λ (q : Reading). status_of q.stop q.so_far) is ∙ s

-- a bad line
pub closed-bad : (left b before after : Option (List ℕ)) (known : Known) (status : Status) (line : List ℕ) → line ≡ bad_line (known.lines + 1) → Ends left b known Bad
    → (status ≢ WriteFault → (status ≡ BadLine) × Appends before after line) → (status ≡ WriteFault → AppendsFront before after line) → Runs left b before after status
closed-bad left b before after known status line is ends whole cut =
    closed-line left b before after status BadLine line
    (map_some _ _ left (λ input k.
    let end : end_of input ≡ BadLine = ended input (record { so_far = known.so_far; number = known.lines + 1; stop = BadStop }) BadLine k.2 refl in
    let text : line ≡ bad_line (reading_of input).number = is ∙ ap (λ (r : Reading). bad_line r.number) (sym k.2) in
    (k.0, k.1, text_at input line BadLine end text, λ written t. (end, t))) ends) whole cut

-- the lines set no skew
pub closed-short : (left b before after : Option (List ℕ)) (known : Known) (status : Status) (line : List ℕ) → line ≡ bad_line (known.lines + 1) → is_some known.so_far.setup.skew ≡ false → Ends left b known Whole
    → (status ≢ WriteFault → (status ≡ BadLine) × Appends before after line) → (status ≡ WriteFault → AppendsFront before after line) → Runs left b before after status
closed-short left b before after known status line is none ends whole cut =
    closed-line left b before after status BadLine line
    (map_some _ _ left (λ input k.
    let end : end_of input ≡ BadLine = ended input (record { so_far = known.so_far; number = known.lines + 1; stop = WholeStop }) BadLine k.2.0 (rw none refl) in
    let text : line ≡ bad_line (reading_of input).number = is ∙ ap (λ (r : Reading). bad_line r.number) (sym k.2.0) in
    (k.0, k.1, text_at input line BadLine end text, λ written t. (end, t))) ends) whole cut

-- a long line
pub closed-long : (left b before after : Option (List ℕ)) (known : Known) (status : Status) (line : List ℕ) → line ≡ long_line (known.lines + 1) → Ends left b known Long
    → (status ≢ WriteFault → (status ≡ TooLong) × Appends before after line) → (status ≡ WriteFault → AppendsFront before after line) → Runs left b before after status
closed-long left b before after known status line is ends whole cut =
    closed-line left b before after status TooLong line
    (map_some _ _ left (λ input k.
    let end : end_of input ≡ TooLong = ended input (record { so_far = known.so_far; number = known.lines + 1; stop = LongStop }) TooLong k.2 refl in
    let text : line ≡ long_line (reading_of input).number = is ∙ ap (λ (r : Reading). long_line r.number) (sym k.2) in
    (k.0, k.1, text_at input line TooLong end text, λ written t. (end, t))) ends) whole cut

-- memory ran out at the reading
pub closed-memory : (left b before after : Option (List ℕ)) (known : Known) (status : Status) (line : List ℕ) → line ≡ stopped_line 0 → Ends left b known NoMemory
    → (status ≢ WriteFault → (status ≡ OutOfMemory) × Appends before after line) → (status ≡ WriteFault → AppendsFront before after line) → Runs left b before after status
closed-memory left b before after known status line is ends whole cut =
    by-write (λ s. Runs left b before after s) (Appends before after line) (AppendsFront before after line) status OutOfMemory whole cut
    (λ a. map_some _ _ left (λ input k. (k.0, line, k.1, a, is)) ends)
    (λ f. map_some _ _ left (λ input k. (k.0, f.0, k.1, f.2, (line, f.1, inr is))) ends)

-- the input was read to its end
record IsWhole (b : Option (List ℕ)) (so_far : Declared) (input : List ℕ) : Type 0 where
  taken : List ℕ
  is_taken : IsTaken input b taken
  end : end_of input ≡ Done
  all : taken ≡ input
  text : (text : List ℕ) → IsAnswer so_far text → IsText input text

is_whole : (left b : Option (List ℕ)) (known : Known) → is_some known.so_far.setup.skew ≡ true → Ends left b known Whole → IfSome left (IsWhole b known.so_far)
is_whole left b known begun ends =
    map_some _ _ left (λ input k.
    let end : end_of input ≡ Done = ended input (record { so_far = known.so_far; number = known.lines + 1; stop = WholeStop }) Done k.2.0 (rw begun refl) in
    record {
      taken = k.0;
      is_taken = k.1;
      end = end;
      all = k.2.1;
      text = λ text answer.
          let P : Declared → Type 0 = λ d. IsAnswer d text in
          text_at input text Done end (subst P (ap (λ (r : Reading). r.so_far) (sym k.2.0)) answer);
    }) ends

answered_by : (left b before after : Option (List ℕ)) (so_far : Declared) (status : Status) → IfSome left (IsWhole b so_far) → Answers so_far before after status → Runs left b before after status
answered_by left b before after so_far Done whole a = map_some _ _ left (λ input k. (k.taken, a.0, k.is_taken, a.2, (k.end, k.text a.0 a.1, k.all))) whole
answered_by left b before after so_far OutOfMemory whole a = map_some _ _ left (λ input k. (k.taken, stopped_line 0, k.is_taken, a, refl)) whole
answered_by left b before after so_far WriteFault whole (text, inl answer, f) = map_some _ _ left (λ input k. (k.taken, f.0, k.is_taken, f.2, (text, f.1, inl (k.text text answer)))) whole
answered_by left b before after so_far WriteFault whole (text, inr stopped, f) = map_some _ _ left (λ input k. (k.taken, f.0, k.is_taken, f.2, (text, f.1, inr stopped))) whole
answered_by left b before after so_far BadWords whole a = absurd a
answered_by left b before after so_far BadLine whole a = absurd a
answered_by left b before after so_far TooLong whole a = absurd a
answered_by left b before after so_far ReadFault whole a = absurd a

-- the events were answered
pub closed-answered : (left b before after : Option (List ℕ)) (known : Known) (status : Status) → is_some known.so_far.setup.skew ≡ true → Ends left b known Whole → Answers known.so_far before after status
    → Runs left b before after status
closed-answered left b before after known status begun ends a = answered_by left b before after known.so_far status (is_whole left b known begun ends) a

-- an input with no bad and no long line is answered whole, unless the outside fails or memory runs out
pub answered-whole : (input taken written : List ℕ) (status : Status) → end_of input ≡ Done → Written input taken status written → status ≢ BadWords
    → (status ≡ Done) ⊎ ((status ≡ ReadFault) ⊎ ((status ≡ WriteFault) ⊎ (status ≡ OutOfMemory)))
answered-whole input taken written Done e w n = inl refl
answered-whole input taken written ReadFault e w n = inr (inl refl)
answered-whole input taken written WriteFault e w n = inr (inr (inl refl))
answered-whole input taken written OutOfMemory e w n = inr (inr (inr refl))
answered-whole input taken written BadWords e w n = absurd (n refl)
answered-whole input taken written BadLine e w n = let q = w.0 in absurd (cc)
answered-whole input taken written TooLong e w n = let q = w.0 in absurd (cc)
