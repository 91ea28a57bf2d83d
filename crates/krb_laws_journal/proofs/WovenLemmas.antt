-- A journal of two seats is determined by the seats and verdicts of its lines and by the entries of each seat.
use Rattle.std.proofs.Common.{◌≡◌, ◌≢◌, ℕ, ◌+◌, ◌==◌, ◌≤◌, ◌⊎◌, inl, inr, suc, Bool, true, false, cond, List, [], ◌∷◌, ◌++◌, length, map, refl, ap, sym, ◌∙◌, subst, arith}
use Rattle.std.specs.Prelude.{if◌then◌else◌}
use Rattle.std.proofs.lemmas.Bool.Decides.{nat_tests}
use Rattle.krb_replay.specs.declared.ask.Verdict.{Verdict}
use Rattle.krb_shared.specs.declared.entry.Entry.{Entry}
use Rattle.krb_threads.specs.Journaled.{entries_of}
use Rattle.krb_laws_journal.proofs.LineLemmas.{AreOfTwo, told_of}

-- the first of some entries is of a seat, or not
abbrev pub Splits : ℕ → Entry → List Entry → Type 0
Splits seat entry entries =
    ((entry.seat ≡ seat) × (entries_of seat (entry ∷ entries) ≡ entry ∷ entries_of seat entries)) ⊎ ((entry.seat ≢ seat) × (entries_of seat (entry ∷ entries) ≡ entries_of seat entries))

splits_by : (b : Bool) (seat : ℕ) (entry : Entry) (entries : List Entry) → (entry.seat == seat) ≡ b → Splits seat entry entries
splits_by true seat entry entries e = inl (grind (arith, nat_tests), ap (λ here. cond here (entry ∷ entries_of seat entries) (entries_of seat entries)) e)
splits_by false seat entry entries e = inr (λ s. grind (arith, nat_tests), ap (λ here. cond here (entry ∷ entries_of seat entries) (entries_of seat entries)) e)

splits : (seat : ℕ) (entry : Entry) (entries : List Entry) → Splits seat entry entries
splits seat entry entries = splits_by (entry.seat == seat) seat entry entries refl

-- the entries of both seats are no more than all
few_step : (entry : Entry) (entries : List Entry) → length (entries_of 0 entries) + length (entries_of 1 entries) ≤ length entries → Splits 0 entry entries → Splits 1 entry entries
    → length (entries_of 0 (entry ∷ entries)) + length (entries_of 1 (entry ∷ entries)) ≤ length (entry ∷ entries)
few_step entry entries h (inl a) (inl b) = absurd (let p = a.0 in let q = b.0 in omega (arith, p, q))
few_step entry entries h (inl a) (inr b) = let p = ap length a.1 in let q = ap length b.1 in omega (arith, p, q, h)
few_step entry entries h (inr a) (inl b) = let p = ap length a.1 in let q = ap length b.1 in omega (arith, p, q, h)
few_step entry entries h (inr a) (inr b) = let p = ap length a.1 in let q = ap length b.1 in omega (arith, p, q, h)

few : (entries : List Entry) → length (entries_of 0 entries) + length (entries_of 1 entries) ≤ length entries
few [] = omega arith
few (entry ∷ entries) = few_step entry entries (few entries) (splits 0 entry entries) (splits 1 entry entries)

-- if the entries of both seats are all entries, each entry is of one of the two seats
record TwoStep (entry : Entry) (entries : List Entry) : Type 0 where
  seat : (entry.seat ≡ 0) ⊎ (entry.seat ≡ 1)
  rest : length entries ≡ length (entries_of 0 entries) + length (entries_of 1 entries)

two_step : (entry : Entry) (entries : List Entry) → length (entry ∷ entries) ≡ length (entries_of 0 (entry ∷ entries)) + length (entries_of 1 (entry ∷ entries)) → Splits 0 entry entries
    → Splits 1 entry entries → TwoStep entry entries
two_step entry entries h (inl a) (inl b) = absurd (let p = a.0 in let q = b.0 in omega (arith, p, q))
two_step entry entries h (inl a) (inr b) = let p = ap length a.1 in let q = ap length b.1 in record { seat = inl a.0; rest = omega (arith, p, q, h) }
two_step entry entries h (inr a) (inl b) = let p = ap length a.1 in let q = ap length b.1 in record { seat = inr b.0; rest = omega (arith, p, q, h) }
two_step entry entries h (inr a) (inr b) = absurd (let p = ap length a.1 in let q = ap length b.1 in let l = few entries in omega (arith, p, q, h, l))

pub two-all : (entries : List Entry) → length entries ≡ length (entries_of 0 entries) + length (entries_of 1 entries) → AreOfTwo entries
two-all [] h = tt
two-all (entry ∷ entries) h = let s = two_step entry entries h (splits 0 entry entries) (splits 1 entry entries) in (s.seat, two-all entries s.rest)

-- the verdicts that a seat got
abbrev pub verdicts_at : ℕ → List (ℕ × Verdict) → List Verdict
verdicts_at seat [] = []
verdicts_at seat (told ∷ more) = if told.0 == seat then told.1 ∷ verdicts_at seat more else verdicts_at seat more

picked_by : (b : Bool) (entry : Entry) (xs : List Entry) (vs : List Verdict) → map (λ (e : Entry). e.verdict) xs ≡ vs
    → map (λ (e : Entry). e.verdict) (cond b (entry ∷ xs) xs) ≡ (if b then entry.verdict ∷ vs else vs)
picked_by true entry xs vs e = ap (λ (l : List Verdict). entry.verdict ∷ l) e
picked_by false entry xs vs e = e

picked : (seat : ℕ) (entries : List Entry) → map (λ (e : Entry). e.verdict) (entries_of seat entries) ≡ verdicts_at seat (map told_of entries)
picked seat [] = refl
picked seat (entry ∷ entries) = picked_by (entry.seat == seat) entry (entries_of seat entries) (verdicts_at seat (map told_of entries)) (picked seat entries)

-- journals with the same seats and verdicts have the same verdicts for each seat
pub same-verdicts : (seat : ℕ) (xs ys : List Entry) → map told_of xs ≡ map told_of ys → map (λ (e : Entry). e.verdict) (entries_of seat xs) ≡ map (λ (e : Entry). e.verdict) (entries_of seat ys)
same-verdicts seat xs ys e = picked seat xs ∙ ap (verdicts_at seat) e ∙ sym (picked seat ys)

-- one more entry, of the same seat in both
record Step (x y : Entry) (xs ys : List Entry) : Type 0 where
  first : x ≡ y
  low : entries_of 0 xs ≡ entries_of 0 ys
  high : entries_of 1 xs ≡ entries_of 1 ys

same_step : (x y : Entry) (xs ys : List Entry) → (x.seat ≡ 0) ⊎ (x.seat ≡ 1) → x.seat ≡ y.seat → entries_of 0 (x ∷ xs) ≡ entries_of 0 (y ∷ ys) → entries_of 1 (x ∷ xs) ≡ entries_of 1 (y ∷ ys)
    → Splits 0 x xs → Splits 1 x xs → Splits 0 y ys → Splits 1 y ys → Step x y xs ys
same_step x y xs ys (inl z) s low high (inl a) (inr b) (inl c) (inr d) =
    let e : x ∷ entries_of 0 xs ≡ y ∷ entries_of 0 ys = sym a.1 ∙ low ∙ c.1 in
    record { first = cc; low = cc; high = sym b.1 ∙ high ∙ d.1 }
same_step x y xs ys (inr z) s low high (inr a) (inl b) (inr c) (inl d) =
    let e : x ∷ entries_of 1 xs ≡ y ∷ entries_of 1 ys = sym b.1 ∙ high ∙ d.1 in
    record { first = cc; low = sym a.1 ∙ low ∙ c.1; high = cc }
same_step x y xs ys (inl z) s low high (inr a) b c d = absurd (a.0 z)
same_step x y xs ys (inl z) s low high a (inl b) c d = absurd (let p = b.0 in omega (arith, p, z))
same_step x y xs ys (inl z) s low high a b (inr c) d = absurd (c.0 (sym s ∙ z))
same_step x y xs ys (inl z) s low high a b c (inl d) = absurd (let p = d.0 in omega (arith, p, s, z))
same_step x y xs ys (inr z) s low high (inl a) b c d = absurd (let p = a.0 in omega (arith, p, z))
same_step x y xs ys (inr z) s low high a (inr b) c d = absurd (b.0 z)
same_step x y xs ys (inr z) s low high a b (inl c) d = absurd (let p = c.0 in omega (arith, p, s, z))
same_step x y xs ys (inr z) s low high a b c (inr d) = absurd (d.0 (sym s ∙ z))

-- two journals with the same seats and verdicts, and the same entries for each seat, are the same
pub woven : (xs ys : List Entry) → AreOfTwo xs → map told_of xs ≡ map told_of ys → entries_of 0 xs ≡ entries_of 0 ys → entries_of 1 xs ≡ entries_of 1 ys → xs ≡ ys
woven [] [] two told low high = refl
woven [] (y ∷ ys) two told low high = absurd (cc)
woven (x ∷ xs) [] two told low high = absurd (cc)
woven (x ∷ xs) (y ∷ ys) two told low high =
    let first : told_of x ≡ told_of y = cc in
    let more : map told_of xs ≡ map told_of ys = cc in
    let s = same_step x y xs ys two.0 (ap (λ (t : ℕ × Verdict). t.0) first) low high (splits 0 x xs) (splits 1 x xs) (splits 0 y ys) (splits 1 y ys) in
    ap (λ (e : Entry). e ∷ xs) s.first ∙ ap (λ (l : List Entry). y ∷ l) (woven xs ys two.1 more s.low s.high)
