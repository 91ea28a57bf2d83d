-- The written text with the last line.
use Rattle.std.proofs.Common.{◌≡◌, ℕ, ◌+◌, Bool, true, false, List, [], ◌∷◌, ◌++◌, Option, Some, None, refl, ap, sym, subst}
use Rattle.std.specs.Prelude.{if◌then◌else◌, IfSome}
use Rattle.std.specs.Io.KnownBytes.{Appends}
use Rattle.std.proofs.lemmas.List.{append-nil}
use Rattle.krb_text.specs.Output.{IsFront, AppendsFront}
use Rattle.krb_text.specs.declared.status.Status.{Status}
use Rattle.krb_text.specs.declared.status.Status.TheVariants.{Done, BadLine as BadStatus, TooLong, WriteFault as WriteStatus, OutOfMemory as MemoryStatus}
use Rattle.krb_text.proofs.OutputLemmas.{Appends-trans, AppendsFront-next}
use Rattle.krb_lines.specs.Answering.{Reaches, EndsUnwritten, Written, AnswersLines}
use Rattle.krb_lines.specs.Halts.{closing, status_at, Halts, HaltsAt}
use Rattle.krb_lines.specs.Rules.{Rules}
use Rattle.krb_lines.specs.Text.{bad_line, stopped_line}
use Rattle.krb_lines.specs.declared.halt.Halt.{Halt}
use Rattle.krb_lines.specs.declared.halt.Halt.TheVariants.{End, BadLine, LongLine, ReadFault, WriteFault, OutOfMemory}

map_some : (P Q : List ℕ → Type 0) (o : Option (List ℕ)) → ((x : List ℕ) → P x → Q x) → IfSome o P → IfSome o Q
map_some P Q None f p = tt
map_some P Q (Some x) f p = f x p

module _ {T : Type 0} (rules : Rules T) (new : T) where
  end_closed : (input taken written : List ℕ) (taker : T) (t : Bool) → rules.can_end taker ≡ t → Reaches rules new input [] written taker → taken ≡ input
      → Written rules new input taken (if t then Done else BadStatus) (written ++ (if t then rules.end_line taker else bad_line (rules.lines taker + 1)))
  end_closed input taken written taker true e r a = (record { front = written; taker = taker; reaches = r; can_end = e; is = refl }, a)
  end_closed input taken written taker false e r a = record { others = []; front = written; taker = taker; reaches = r; bad = e; is = refl }

  -- the last line makes the text whole
  closed : (input taken written : List ℕ) (taker : T) (halt : Halt) → HaltsAt rules new input taken written taker halt → (halt ≡ ReadFault → ⊥) → (halt ≡ WriteFault → ⊥)
      → Written rules new input taken (status_at rules taker halt) (written ++ closing rules taker halt)
  closed input taken written taker End h r w = end_closed input taken written taker (rules.can_end taker) refl h.0 h.1
  closed input taken written taker BadLine h r w = record {
    others = h.line ∷ h.more;
    front = written;
    taker = h.before;
    reaches = h.reaches;
    bad = (h.fits, h.refuses);
    is = ap (λ n. written ++ bad_line (n + 1)) h.counts.lines_are;
  }
  closed input taken written taker LongLine h r w = record { others = h.others; front = written; taker = taker; reaches = h.reaches; long = h.long; is = refl }
  closed input taken written taker ReadFault h r w = absurd (r refl)
  closed input taken written taker WriteFault h r w = absurd (w refl)
  closed input taken written taker OutOfMemory h r w = record {
    others = h.others;
    front = written;
    taker = h.before;
    reaches = h.reaches;
    is = ap (λ n. written ++ stopped_line n) h.counts.answered_are;
  }

  end_front : (input taken whole front : List ℕ) (t : Bool) → Written rules new input taken (if t then Done else BadStatus) whole → IsFront front whole → EndsUnwritten rules new input front
  end_front input taken whole front true w f = record { status = Done; whole = whole; is = w.0; front = f }
  end_front input taken whole front false w f = record { status = BadStatus; whole = whole; is = w; front = f }

  closed_front : (input taken whole front : List ℕ) (taker : T) (halt : Halt) → Written rules new input taken (status_at rules taker halt) whole → IsFront front whole → (halt ≡ ReadFault → ⊥) → (halt ≡ WriteFault → ⊥)
      → EndsUnwritten rules new input front
  closed_front input taken whole front taker End w f r k = end_front input taken whole front (rules.can_end taker) w f
  closed_front input taken whole front taker BadLine w f r k = record { status = BadStatus; whole = whole; is = w; front = f }
  closed_front input taken whole front taker LongLine w f r k = record { status = TooLong; whole = whole; is = w; front = f }
  closed_front input taken whole front taker ReadFault w f r k = absurd (r refl)
  closed_front input taken whole front taker WriteFault w f r k = absurd (k refl)
  closed_front input taken whole front taker OutOfMemory w f r k = record { status = MemoryStatus; whole = whole; is = w; front = f }

  -- the last line is written
  pub answers-closed : (left b before between after : Option (List ℕ)) (taker : T) (halt : Halt) (line : List ℕ) (status : Status) → Halts rules new left b before between taker halt
      → line ≡ closing rules taker halt → status ≡ status_at rules taker halt → Appends between after line → (halt ≡ ReadFault → ⊥) → (halt ≡ WriteFault → ⊥)
      → AnswersLines rules new left b before after status
  answers-closed left b before between after taker halt line status h line_is status_is wrote r w =
      let L : List ℕ → Type 0 = λ l. Appends between after l in
      let S : Status → Type 0 = λ st. AnswersLines rules new left b before after st in
      let last = closing rules taker halt in
      let made : AnswersLines rules new left b before after (status_at rules taker halt) = map_some _ _ left (λ input k.
      (k.0, k.1 ++ last, k.2, Appends-trans before between after k.1 last k.3 (subst L line_is wrote), closed input k.0 k.1 taker halt k.4 r w)) h in
      subst S (sym status_is) made

  -- a write fails at the last line
  pub answers-front : (left b before between after : Option (List ℕ)) (taker : T) (halt : Halt) (line : List ℕ) → Halts rules new left b before between taker halt
      → line ≡ closing rules taker halt → AppendsFront between after line → (halt ≡ ReadFault → ⊥) → (halt ≡ WriteFault → ⊥) → AnswersLines rules new left b before after WriteStatus
  answers-front left b before between after taker halt line h line_is wrote r w =
      let L : List ℕ → Type 0 = λ l. AppendsFront between after l in
      let last = closing rules taker halt in
      map_some _ _ left (λ input k.
      let whole = k.1 ++ last in
      let front = AppendsFront-next before between after whole k.1 last [] (ap (λ l. k.1 ++ l) (sym (append-nil last))) k.3 (subst L line_is wrote) in
      (k.0, front.0, k.2, front.2, closed_front input k.0 whole front.0 taker halt (closed input k.0 k.1 taker halt k.4 r w) front.1 r w)) h
