-- Records that are cut into blocks.
use Rattle.std.proofs.Common.{◌≡◌, ℕ, zero, suc, ◌+◌, ◌-◌, ◌*◌, ◌^◌, ◌<◌, ◌≤◌, nat_eq, Bool, true, false, not, ◌||◌, cond, nat_le, List, [], ◌∷◌, ◌++◌, length, take, drop, get_or, set, Ok, Err, Result, MatchResult, is_ok, Ordering, Less, Equal, Greater, refl, sym, ap, ◌∙◌, subst, arith}
use Rattle.std.proofs.lemmas.Bool.{false≢true}
use Rattle.std.proofs.Math.Nat.{min-le_left}
use Rattle.std.proofs.lemmas.List.{length-append}
use Rattle.std.proofs.lemmas.List.Folds.{list_any-append}
use Rattle.std.specs.List.{filter, insert, AllByRecursion}
use Rattle.std.specs.Ordering.{is_lt, is_gt, ordering_reverse}
use Rattle.krb_replay.specs.declared.record.Record.{Record}
use Rattle.krb_replay.specs.Records.{record_eq, record_cmp, has_record}
use Rattle.krb_replay.specs.Order.{Ascends, IsPlace, is_front_stale, place}
use Rattle.krb_replay.specs.Blocks.{flat, is_none, ends_below, are_below, has_room, AllBelow, AllNone, Filled, IsBlockOf, IsHeld, IsRecut, room_of}
use Rattle.krb_replay.proofs.Order.{record_total, record_ties, below, less_by, length-place, absent}
use Rattle.krb_replay.proofs.Window.{or_false}

-- ---- parts of lists

append-none : {A : Type 0} (xs : List A) → xs ++ [] ≡ xs
append-none [] = refl
append-none (x ∷ xs) = ap (λ l. x ∷ l) (append-none xs)

append-assoc : {A : Type 0} (xs ys zs : List A) → xs ++ (ys ++ zs) ≡ (xs ++ ys) ++ zs
append-assoc [] ys zs = refl
append-assoc (x ∷ xs) ys zs = ap (λ l. x ∷ l) (append-assoc xs ys zs)

module _ {A : Type 0} (P : A → Type 0) where
  all-left : (xs ys : List A) → AllByRecursion P (xs ++ ys) → AllByRecursion P xs
  all-left [] ys h = tt
  all-left (x ∷ xs) ys h = (h.0, all-left xs ys h.1)

  all-right : (xs ys : List A) → AllByRecursion P (xs ++ ys) → AllByRecursion P ys
  all-right [] ys h = h
  all-right (x ∷ xs) ys h = all-right xs ys h.1

  all-append : (xs ys : List A) → AllByRecursion P xs → AllByRecursion P ys → AllByRecursion P (xs ++ ys)
  all-append [] ys h k = k
  all-append (x ∷ xs) ys h k = (h.0, all-append xs ys h.1 k)

Ascends-left : (xs ys : List Record) → Ascends (xs ++ ys) → Ascends xs
Ascends-left [] ys a = tt
Ascends-left (x ∷ xs) ys a = (all-left (λ y. is_gt (record_cmp x y) ≡ false) xs ys a.0, Ascends-left xs ys a.1)

Ascends-right : (xs ys : List Record) → Ascends (xs ++ ys) → Ascends ys
Ascends-right [] ys a = a
Ascends-right (x ∷ xs) ys a = Ascends-right xs ys a.1

flat-take : (bs : List (List Record)) (n : ℕ) → flat bs ≡ flat (take n bs) ++ flat (drop n bs)
flat-take [] zero = refl
flat-take [] (suc n) = refl
flat-take (b ∷ bs) zero = refl
flat-take (b ∷ bs) (suc n) = ap (λ l. b ++ l) (flat-take bs n) ∙ append-assoc b (flat (take n bs)) (flat (drop n bs))

pub Ascends-at : (bs : List (List Record)) (k : ℕ) (d : List Record) → k < length bs → Ascends (flat bs) → Ascends (get_or bs k d)
Ascends-at [] k d h a = absurd (omega arith)
Ascends-at (b ∷ bs) zero d h a = Ascends-left b (flat bs) a
Ascends-at (b ∷ bs) (suc k) d h a = Ascends-at bs k d (omega arith) (Ascends-right b (flat bs) a)

-- ---- the end of a block

first_has : (least : ℕ) (b : List Record) (bs : List (List Record)) → 1 ≤ least → Filled least (b ∷ bs) → 1 ≤ length b
first_has least b [] h f = f
first_has least b (c ∷ cs) h f = omega (arith, f.0)

module _ (e : Record) where
  below_end : (xs : List Record) → Ascends xs → ends_below e xs ≡ true → AllBelow e xs
  below_end [] a h = tt
  below_end (x ∷ []) a h = (less_by x e h, tt)
  below_end (x ∷ y ∷ ys) a h = let rest = below_end (y ∷ ys) a.1 h in (below x y e a.0.0 rest.0, rest)

  end-past : (xs ys : List Record) → 1 ≤ length ys → ends_below e (xs ++ ys) ≡ ends_below e ys
  end-past xs [] h = absurd (omega arith)
  end-past [] (y ∷ ys) h = refl
  end-past (x ∷ []) (y ∷ ys) h = refl
  end-past (x ∷ z ∷ zs) (y ∷ ys) h = end-past (z ∷ zs) (y ∷ ys) h

  -- up to a block, the records end as it does
  end_at : (least : ℕ) (bs : List (List Record)) (k : ℕ) (d : List Record) → 1 ≤ least → Filled least bs → k < length bs
      → ends_below e (flat (take (suc k) bs)) ≡ ends_below e (get_or bs k d)
  end_at least [] k d m f h = absurd (omega arith)
  end_at least (b ∷ bs) zero d m f h = ap (ends_below e) (append-none b)
  end_at least (b ∷ []) (suc k) d m f h = absurd (omega arith)
  end_at least (b ∷ c ∷ cs) (suc k) d m f h =
      end-past b (c ++ flat (take k cs)) (omega (arith, length-append c (flat (take k cs)), first_has 256 c cs (omega arith) f.1))
      ∙ end_at 256 (c ∷ cs) k d (omega arith) f.1 (omega arith)

  end_all : (least : ℕ) (bs : List (List Record)) → 1 ≤ least → Filled least bs → ends_below e (flat bs) ≡ are_below e bs
  end_all least [] m f = refl
  end_all least (b ∷ []) m f = ap (ends_below e) (append-none b)
  end_all least (b ∷ c ∷ cs) m f =
      end-past b (c ++ flat cs) (omega (arith, length-append c (flat cs), first_has 256 c cs (omega arith) f.1))
      ∙ end_all 256 (c ∷ cs) (omega arith) f.1

  -- where the last block ends below the entry, all do
  pub all_below : (bs : List (List Record)) → Ascends (flat bs) → Filled 1 bs → are_below e bs ≡ true → AllBelow e (flat bs)
  all_below bs a f h = below_end (flat bs) a (end_all 1 bs (omega arith) f ∙ h)

  pub below_block : (bs : List (List Record)) (k : ℕ) (d : List Record) → Ascends (flat bs) → Filled 1 bs → k < length bs
      → ends_below e (get_or bs k d) ≡ true → AllBelow e (flat (take (suc k) bs))
  below_block bs k d a f h end =
      below_end (flat (take (suc k) bs)) (Ascends-left (flat (take (suc k) bs)) (flat (drop (suc k) bs)) (subst Ascends (flat-take bs (suc k)) a)) (end_at 1 bs k d (omega arith) f h ∙ end)

  last_at : (bs : List (List Record)) (n : ℕ) (d : List Record) → n + 1 ≡ length bs → are_below e bs ≡ ends_below e (get_or bs n d)
  last_at [] n d h = absurd (omega arith)
  last_at (b ∷ []) zero d h = refl
  last_at (b ∷ []) (suc n) d h = absurd (omega arith)
  last_at (b ∷ c ∷ cs) zero d h = absurd (omega arith)
  last_at (b ∷ c ∷ cs) (suc n) d h = last_at (c ∷ cs) n d (omega arith)

  pub last_is : (bs : List (List Record)) (d : List Record) → 0 < length bs → are_below e bs ≡ ends_below e (get_or bs (length bs - 1) d)
  last_is bs d h = last_at bs (length bs - 1) d (omega arith)

  pub some_block : (bs : List (List Record)) → are_below e bs ≡ false → 0 < length bs
  some_block [] h = absurd (false≢true (sym h))
  some_block (b ∷ bs) h = omega arith

  -- ---- where a record is

  pub absent_below : (xs : List Record) → AllBelow e xs → has_record xs e ≡ false
  absent_below [] h = refl
  absent_below (x ∷ xs) h = rw (record_ties x e, h.0, absent_below xs h.1)

  above_up : (x y : Record) → is_gt (record_cmp x y) ≡ false → record_cmp x e ≡ Greater → record_cmp y e ≡ Greater
  above_up x y h g = by (record_cmp x y) refl h
    where
      by : (o : Ordering) → record_cmp x y ≡ o → is_gt o ≡ false → record_cmp y e ≡ Greater
      by Less f k = record_total.antisymm y e ∙ ap ordering_reverse (record_total.trans e x y (record_total.antisymm e x ∙ ap ordering_reverse g) f)
      by Equal f k = sym (record_total.congr x y e f) ∙ g
      by Greater f k = absurd (false≢true (sym k))

  absent_above : (x : Record) (ys : List Record) → record_cmp x e ≡ Greater → AllByRecursion (λ y. is_gt (record_cmp x y) ≡ false) ys → has_record ys e ≡ false
  absent_above x [] g h = refl
  absent_above x (y ∷ ys) g h = rw (record_ties y e, above_up x y h.0 g, absent_above x ys g h.1)

  has_front : (b ys : List Record) → Ascends (b ++ ys) → ends_below e b ≡ false → has_record (b ++ ys) e ≡ has_record b e
  has_front [] ys a h = absurd (false≢true (sym h))
  has_front (x ∷ []) ys a h = by (record_cmp x e) refl h
    where
      by : (o : Ordering) → record_cmp x e ≡ o → is_lt o ≡ false → (record_eq x e || has_record ys e) ≡ (record_eq x e || false)
      by Less f k = absurd (false≢true (sym k))
      by Equal f k = rw (record_ties x e, f)
      by Greater f k = rw (absent_above x ys f a.0)
  has_front (x ∷ y ∷ zs) ys a h = ap (λ p. record_eq x e || p) (has_front (y ∷ zs) ys a.1 h)

  pub has_at : (bs : List (List Record)) (k : ℕ) (d : List Record) → Ascends (flat bs) → k < length bs → AllBelow e (flat (take k bs))
      → ends_below e (get_or bs k d) ≡ false → has_record (flat bs) e ≡ has_record (get_or bs k d) e
  has_at [] k d a h low here = absurd (omega arith)
  has_at (b ∷ bs) zero d a h low here = has_front b (flat bs) a here
  has_at (b ∷ bs) (suc k) d a h low here =
      list_any-append (λ x. record_eq x e) b (flat bs)
      ∙ ap (λ p. p || has_record (flat bs) e) (absent_below b (all-left _ b (flat (take k bs)) low))
      ∙ has_at bs k d (Ascends-right b (flat bs) a) (omega arith) (all-right _ b (flat (take k bs)) low) here

  -- ---- a record put in its place

  place-left : (b ys : List Record) → ends_below e b ≡ false → place (b ++ ys) e ≡ place b e ++ ys
  place-left [] ys h = absurd (false≢true (sym h))
  place-left (x ∷ []) ys h = rw h
  place-left (x ∷ y ∷ zs) ys h =
      elim (is_lt (record_cmp x e)) as (λ c. cond c (x ∷ place (y ∷ zs ++ ys) e) (e ∷ x ∷ y ∷ zs ++ ys) ≡ cond c (x ∷ place (y ∷ zs) e) (e ∷ x ∷ y ∷ zs) ++ ys) [ true ↦ ap (λ l. x ∷ l) (place-left (y ∷ zs) ys h) | false ↦ refl ]

  pub place-past : (b ys : List Record) → AllBelow e b → place (b ++ ys) e ≡ b ++ place ys e
  place-past [] ys h = refl
  place-past (x ∷ xs) ys h = rw h.0 (ap (λ l. x ∷ l) (place-past xs ys h.1))

  pub place_behind_all : (xs : List Record) → AllBelow e xs → xs ++ e ∷ [] ≡ place xs e
  place_behind_all xs h = sym (place-past xs [] h) ∙ ap (λ l. place l e) (append-none xs)

  placed : (bs : List (List Record)) (k : ℕ) (d w : List Record) → k < length bs → AllBelow e (flat (take k bs)) → ends_below e (get_or bs k d) ≡ false
      → w ≡ place (get_or bs k d) e → flat (set bs k w) ≡ place (flat bs) e
  placed [] k d w h low here is = absurd (omega arith)
  placed (b ∷ bs) zero d w h low here is = ap (λ l. l ++ flat bs) is ∙ sym (place-left b (flat bs) here)
  placed (b ∷ bs) (suc k) d w h low here is =
      ap (λ l. b ++ l) (placed bs k d w (omega arith) (all-right _ b (flat (take k bs)) low) here is)
      ∙ sym (place-past b (flat bs) (all-left _ b (flat (take k bs)) low))

  halved : (bs : List (List Record)) (k : ℕ) (d w v : List Record) → k < length bs → AllBelow e (flat (take k bs)) → ends_below e (get_or bs k d) ≡ false
      → w ++ v ≡ place (get_or bs k d) e → flat (insert (set bs k w) (suc k) v) ≡ place (flat bs) e
  halved [] k d w v h low here is = absurd (omega arith)
  halved (b ∷ bs) zero d w v h low here is = append-assoc w v (flat bs) ∙ ap (λ l. l ++ flat bs) is ∙ sym (place-left b (flat bs) here)
  halved (b ∷ bs) (suc k) d w v h low here is =
      ap (λ l. b ++ l) (halved bs k d w v (omega arith) (all-right _ b (flat (take k bs)) low) here is)
      ∙ sym (place-past b (flat bs) (all-left _ b (flat (take k bs)) low))

-- ---- how well blocks are filled

Filled-grown : (least : ℕ) (bs : List (List Record)) (k : ℕ) (d w : List Record) → Filled least bs → length (get_or bs k d) ≤ length w → Filled least (set bs k w)
Filled-grown least [] k d w f h = tt
Filled-grown least (b ∷ []) zero d w f h = omega (arith, f, h)
Filled-grown least (b ∷ []) (suc k) d w f h = f
Filled-grown least (b ∷ c ∷ cs) zero d w f h = (omega (arith, f.0, h), f.1)
Filled-grown least (b ∷ c ∷ cs) (suc zero) d w f h = (f.0, Filled-grown 256 (c ∷ cs) zero d w f.1 h)
Filled-grown least (b ∷ c ∷ cs) (suc (suc k)) d w f h = (f.0, Filled-grown 256 (c ∷ cs) (suc k) d w f.1 h)

Filled-halved : (least : ℕ) (bs : List (List Record)) (k : ℕ) (w v : List Record) → least ≤ 256 → Filled least bs → k < length bs → 256 ≤ length w → 256 ≤ length v
    → Filled least (insert (set bs k w) (suc k) v)
Filled-halved least [] k w v m f h p q = absurd (omega arith)
Filled-halved least (b ∷ []) zero w v m f h p q = (omega (arith, m, p), omega (arith, q))
Filled-halved least (b ∷ []) (suc k) w v m f h p q = absurd (omega arith)
Filled-halved least (b ∷ c ∷ cs) zero w v m f h p q = (omega (arith, m, p), (q, f.1))
Filled-halved least (b ∷ c ∷ cs) (suc zero) w v m f h p q = (f.0, Filled-halved 256 (c ∷ cs) zero w v (omega arith) f.1 (omega arith) p q)
Filled-halved least (b ∷ c ∷ cs) (suc (suc k)) w v m f h p q = (f.0, Filled-halved 256 (c ∷ cs) (suc k) w v (omega arith) f.1 (omega arith) p q)

full_is : (n : ℕ) → not (nat_le 512 n) ≡ false → 512 ≤ n
full_is n h = grind arith

Filled-pushed : (least : ℕ) (bs : List (List Record)) (w : List Record) → least ≤ 256 → Filled least bs → has_room bs ≡ false → 1 ≤ length w → Filled least (bs ++ w ∷ [])
Filled-pushed least [] w m f h p = p
Filled-pushed least (b ∷ []) w m f h p = (omega (arith, m, full_is (length b) h), p)
Filled-pushed least (b ∷ c ∷ cs) w m f h p = (f.0, Filled-pushed 256 (c ∷ cs) w (omega arith) f.1 h p)

held_behind : (bs : List (List Record)) → Filled 256 bs → (length bs - 1) * 256 ≤ length (flat bs)
held_behind [] f = omega arith
held_behind (b ∷ []) f = omega arith
held_behind (b ∷ c ∷ cs) f = omega (arith, length-append b (flat (c ∷ cs)), f.0, held_behind (c ∷ cs) f.1)

-- how many records the blocks have at least
pub held : (least : ℕ) (bs : List (List Record)) → Filled least bs → (length bs - 2) * 256 ≤ length (flat bs)
held least [] f = omega arith
held least (b ∷ []) f = omega arith
held least (b ∷ c ∷ cs) f = omega (arith, length-append b (flat (c ∷ cs)), held_behind (c ∷ cs) f.1)

-- ---- what each step leaves

pub popped : (bs sp new : List (List Record)) (d w : List Record) → 0 < length bs → Filled 1 bs → AllNone sp → w ≡ drop 1 (get_or bs 0 d) → is_none w ≡ false
    → new ≡ set bs 0 w → IsRecut bs sp new sp (drop 1 (flat bs))
popped [] sp new d w h f n is more new_is = absurd (omega arith)
popped ([] ∷ bs) sp new d w h f n is more new_is = absurd (omega (arith, first_has 1 [] bs (omega arith) f))
popped ((x ∷ xs) ∷ bs) sp new d [] h f n is more new_is = absurd (false≢true (sym more))
popped ((x ∷ xs) ∷ bs) sp new d (y ∷ ys) h f n is more new_is = subst (λ (l : List (List Record)). IsRecut ((x ∷ xs) ∷ bs) sp l sp (xs ++ flat bs)) (sym new_is) (record {
  items = ap (λ l. l ++ flat bs) is;
  filled = more_left bs f;
  none = n;
  count = refl;
})
  where
    more_left : (bs : List (List Record)) → Filled 1 ((x ∷ xs) ∷ bs) → Filled 1 ((y ∷ ys) ∷ bs)
    more_left [] f = omega arith
    more_left (c ∷ cs) f = (omega arith, f.1)

Filled-less : (bs : List (List Record)) → Filled 256 bs → Filled 1 bs
Filled-less [] f = tt
Filled-less (b ∷ []) f = f
Filled-less (b ∷ c ∷ cs) f = (omega (arith, f.0), f.1)

Filled-rest : (least : ℕ) (b : List Record) (bs : List (List Record)) → Filled least (b ∷ bs) → Filled 1 bs
Filled-rest least b [] f = tt
Filled-rest least b (c ∷ cs) f = Filled-less (c ∷ cs) f.1

none_is : (w : List Record) → is_none w ≡ true → w ≡ []
none_is [] h = refl
none_is (x ∷ xs) h = absurd (false≢true h)

pub emptied : (bs sp new new_sp : List (List Record)) (d w : List Record) → 0 < length bs → Filled 1 bs → AllNone sp → w ≡ drop 1 (get_or bs 0 d) → is_none w ≡ true
    → new ≡ drop 1 (set bs 0 w) → new_sp ≡ sp ++ w ∷ [] → IsRecut bs sp new new_sp (drop 1 (flat bs))
emptied [] sp new new_sp d w h f n is none new_is sp_is = absurd (omega arith)
emptied ([] ∷ bs) sp new new_sp d w h f n is none new_is sp_is = absurd (omega (arith, first_has 1 [] bs (omega arith) f))
emptied ((x ∷ xs) ∷ bs) sp new new_sp d w h f n is none new_is sp_is = record {
  items = ap flat new_is ∙ ap (λ l. l ++ flat bs) (sym (none_is w none) ∙ is);
  filled = subst (Filled 1) (sym new_is) (Filled-rest 1 (x ∷ xs) bs f);
  none = subst AllNone (sym sp_is) (all-append (λ b. b ≡ []) sp (w ∷ []) n (none_is w none, tt));
  count = omega (arith, ap length new_is, ap length sp_is, length-append sp (w ∷ []));
}

flat-append : (bs cs : List (List Record)) → flat (bs ++ cs) ≡ flat bs ++ flat cs
flat-append [] cs = refl
flat-append (b ∷ bs) cs = ap (λ l. b ++ l) (flat-append bs cs) ∙ append-assoc b (flat bs) (flat cs)

set_last : (bs : List (List Record)) (n : ℕ) (d : List Record) (e : Record) → n + 1 ≡ length bs → flat (set bs n (get_or bs n d ++ e ∷ [])) ≡ flat bs ++ e ∷ []
set_last [] n d e h = absurd (omega arith)
set_last (b ∷ []) zero d e h = append-none (b ++ e ∷ []) ∙ ap (λ l. l ++ e ∷ []) (sym (append-none b))
set_last (b ∷ []) (suc n) d e h = absurd (omega arith)
set_last (b ∷ c ∷ cs) zero d e h = absurd (omega arith)
set_last (b ∷ c ∷ cs) (suc n) d e h = ap (λ l. b ++ l) (set_last (c ∷ cs) n d e (omega arith)) ∙ append-assoc b (flat (c ∷ cs)) (e ∷ [])

length-set : (bs : List (List Record)) (n : ℕ) (w : List Record) → length (set bs n w) ≡ length bs
length-set [] n w = refl
length-set (b ∷ bs) zero w = refl
length-set (b ∷ bs) (suc n) w = ap suc (length-set bs n w)

pub pushed_last : (bs sp new : List (List Record)) (d w : List Record) (e : Record) → 0 < length bs → Filled 1 bs → AllNone sp
    → w ≡ get_or bs (length bs - 1) d ++ e ∷ [] → new ≡ set bs (length bs - 1) w → IsRecut bs sp new sp (flat bs ++ e ∷ [])
pushed_last bs sp new d w e h f n is new_is = record {
  items = ap flat new_is ∙ ap (λ l. flat (set bs (length bs - 1) l)) is ∙ set_last bs (length bs - 1) d e (omega arith);
  filled = subst (Filled 1) (sym new_is) (Filled-grown 1 bs (length bs - 1) d w f (omega (arith, ap length is, length-append (get_or bs (length bs - 1) d) (e ∷ []))));
  none = n;
  count = omega (arith, ap length new_is, length-set bs (length bs - 1) w);
}

pub last_none : (sp rest : List (List Record)) (x : List Record) → sp ≡ rest ++ x ∷ [] → AllNone sp → AllNone rest × (x ≡ [])
last_none sp rest x is n = let all = subst AllNone is n in (all-left (λ b. b ≡ []) rest (x ∷ []) all, (all-right (λ b. b ≡ []) rest (x ∷ []) all).0)

pub pushed_new : (bs sp new new_sp : List (List Record)) (x w : List Record) (e : Record) → Filled 1 bs → AllNone sp → has_room bs ≡ false
    → sp ≡ new_sp ++ x ∷ [] → w ≡ x ++ e ∷ [] → new ≡ bs ++ w ∷ [] → IsRecut bs sp new new_sp (flat bs ++ e ∷ [])
pushed_new bs sp new new_sp x w e f n full sp_is is new_is =
    let rest = last_none sp new_sp x sp_is n in
    let w_is : w ≡ e ∷ [] = is ∙ ap (λ l. l ++ e ∷ []) rest.1 in
    record {
      items = ap flat new_is ∙ flat-append bs (w ∷ []) ∙ ap (λ l. flat bs ++ (l ++ [])) w_is;
      filled = subst (Filled 1) (sym new_is) (Filled-pushed 1 bs w (omega arith) f full (omega (arith, ap length w_is)));
      none = rest.0;
      count = omega (arith, ap length new_is, length-append bs (w ∷ []), ap length sp_is, length-append new_sp (x ∷ []));
    }

pub inserted : (bs sp new : List (List Record)) (k : ℕ) (d w : List Record) (e : Record) → Filled 1 bs → AllNone sp → IsBlockOf e bs k
    → w ≡ place (get_or bs k d) e → new ≡ set bs k w → IsRecut bs sp new sp (place (flat bs) e)
inserted bs sp new k d w e f n at is new_is = record {
  items = ap flat new_is ∙ placed e bs k d w at.within at.below (at.here d) is;
  filled = subst (Filled 1) (sym new_is) (Filled-grown 1 bs k d w f (omega (arith, ap length is, length-place (get_or bs k d) e)));
  none = n;
  count = omega (arith, ap length new_is, length-set bs k w);
}

length-insert : (bs : List (List Record)) (k : ℕ) (w : List Record) → k ≤ length bs → length (insert bs k w) ≡ length bs + 1
length-insert [] zero w h = refl
length-insert [] (suc k) w h = absurd (omega arith)
length-insert (b ∷ bs) zero w h = omega arith
length-insert (b ∷ bs) (suc k) w h = omega (arith, length-insert bs k w (omega arith))

pub inserted_halved : (bs sp new new_sp : List (List Record)) (k i : ℕ) (d x w v : List Record) (e : Record) → Filled 1 bs → AllNone sp → IsBlockOf e bs k
    → sp ≡ new_sp ++ x ∷ [] → w ++ v ≡ place (get_or bs k d) e → 256 ≤ length w → 256 ≤ length v → i ≡ k + 1 → new ≡ insert (set bs k w) i v
    → IsRecut bs sp new new_sp (place (flat bs) e)
inserted_halved bs sp new new_sp k i d x w v e f n at sp_is is p q i_is new_is =
    let new_is' : new ≡ insert (set bs k w) (suc k) v = new_is ∙ ap (λ (j : ℕ). insert (set bs k w) j v) (i_is ∙ plus_one k) in
    record {
      items = ap flat new_is' ∙ halved e bs k d w v at.within at.below (at.here d) is;
      filled = subst (Filled 1) (sym new_is') (Filled-halved 1 bs k w v (omega arith) f at.within p q);
      none = (last_none sp new_sp x sp_is n).0;
      count = omega (arith, ap length new_is', length-insert (set bs k w) (suc k) v (omega (arith, at.within, length-set bs k w)), length-set bs k w, ap length sp_is, length-append new_sp (x ∷ []));
    }
  where
    plus_one : (k : ℕ) → k + 1 ≡ suc k
    plus_one k = omega arith

-- the half that has the record's place
pub in_upper : (e : Record) (w v b : List Record) → w ++ v ≡ b → Ascends b → ends_below e w ≡ true → w ++ place v e ≡ place b e
in_upper e w v b is a h = sym (place-past e w v (below_end e w (Ascends-left w v (subst Ascends (sym is) a)) h)) ∙ ap (λ l. place l e) is

pub in_lower : (e : Record) (w v b : List Record) → w ++ v ≡ b → ends_below e w ≡ false → place w e ++ v ≡ place b e
in_lower e w v b is h = sym (place-left e w v h) ∙ ap (λ l. place l e) is

pub absent_lower : (e : Record) (w v b : List Record) → w ++ v ≡ b → has_record b e ≡ false → has_record w e ≡ false
absent_lower e w v b is h = (or_false (has_record w e) (has_record v e) (sym (list_any-append (λ x. record_eq x e) w v) ∙ ap (λ l. has_record l e) is ∙ h)).0

pub absent_upper : (e : Record) (w v b : List Record) → w ++ v ≡ b → has_record b e ≡ false → has_record v e ≡ false
absent_upper e w v b is h = (or_false (has_record w e) (has_record v e) (sym (list_any-append (λ x. record_eq x e) w v) ∙ ap (λ l. has_record l e) is ∙ h)).1

pub Ascends-lower : (w v b : List Record) → w ++ v ≡ b → Ascends b → Ascends w
Ascends-lower w v b is a = Ascends-left w v (subst Ascends (sym is) a)

pub Ascends-upper : (w v b : List Record) → w ++ v ≡ b → Ascends b → Ascends v
Ascends-upper w v b is a = Ascends-right w v (subst Ascends (sym is) a)

-- ---- the ends that the code looks at

end_from : (e : Record) (xs : List Record) (n : ℕ) (d : Record) → n + 1 ≡ length xs → ends_below e xs ≡ is_lt (record_cmp (get_or xs n d) e)
end_from e [] n d h = absurd (omega arith)
end_from e (x ∷ []) zero d h = refl
end_from e (x ∷ []) (suc n) d h = absurd (omega arith)
end_from e (x ∷ y ∷ ys) zero d h = absurd (omega arith)
end_from e (x ∷ y ∷ ys) (suc n) d h = end_from e (y ∷ ys) n d (omega arith)

pub end_is : (e : Record) (xs : List Record) (d : Record) → 0 < length xs → d ≡ get_or xs (length xs - 1) d → ends_below e xs ≡ is_lt (record_cmp d e)
end_is e xs d h is = end_from e xs (length xs - 1) d (omega arith) ∙ ap (λ (x : Record). is_lt (record_cmp x e)) (sym is)

pub no_end : (e : Record) (xs : List Record) → length xs ≡ 0 → ends_below e xs ≡ true
no_end e [] h = refl
no_end e (x ∷ xs) h = absurd (omega arith)

pub below_is : (e : Record) (bs : List (List Record)) (d : List Record) → 0 < length bs → d ≡ get_or bs (length bs - 1) d → are_below e bs ≡ ends_below e d
below_is e bs d h is = last_is e bs d h ∙ ap (ends_below e) (sym is)

pub no_blocks : (e : Record) (bs : List (List Record)) → length bs ≡ 0 → are_below e bs ≡ true
no_blocks e [] h = refl
no_blocks e (b ∷ bs) h = absurd (omega arith)

room_from : (bs : List (List Record)) (n : ℕ) (d : List Record) → n + 1 ≡ length bs → has_room bs ≡ not (nat_le 512 (length (get_or bs n d)))
room_from [] n d h = absurd (omega arith)
room_from (b ∷ []) zero d h = refl
room_from (b ∷ []) (suc n) d h = absurd (omega arith)
room_from (b ∷ c ∷ cs) zero d h = absurd (omega arith)
room_from (b ∷ c ∷ cs) (suc n) d h = room_from (c ∷ cs) n d (omega arith)

pub room_is : (bs : List (List Record)) (d : List Record) → 0 < length bs → d ≡ get_or bs (length bs - 1) d → has_room bs ≡ not (nat_le 512 (length d))
room_is bs d h is = room_from bs (length bs - 1) d (omega arith) ∙ ap (λ (b : List Record). not (nat_le 512 (length b))) (sym is)

pub no_room : (bs : List (List Record)) → length bs ≡ 0 → has_room bs ≡ false
no_room [] h = refl
no_room (b ∷ bs) h = absurd (omega arith)

pub some_room : (bs : List (List Record)) → has_room bs ≡ true → 0 < length bs
some_room [] h = absurd (false≢true h)
some_room (b ∷ bs) h = omega arith

pub front_is : (skew moment : ℕ) (bs : List (List Record)) (d : List Record) → Filled 1 bs → 0 < length bs → d ≡ get_or bs 0 d
    → is_front_stale skew moment d ≡ is_front_stale skew moment (flat bs)
front_is skew moment [] d f h is = absurd (omega arith)
front_is skew moment ([] ∷ bs) d f h is = absurd (omega (arith, first_has 1 [] bs (omega arith) f))
front_is skew moment ((x ∷ xs) ∷ bs) d f h is = ap (is_front_stale skew moment) is

pub no_front : (skew moment : ℕ) (bs : List (List Record)) → length bs ≡ 0 → is_front_stale skew moment (flat bs) ≡ false
no_front skew moment [] h = refl
no_front skew moment (b ∷ bs) h = absurd (omega arith)

pub some_front : (skew moment : ℕ) (bs : List (List Record)) → is_front_stale skew moment (flat bs) ≡ true → 0 < length bs
some_front skew moment [] h = absurd (false≢true h)
some_front skew moment (b ∷ bs) h = omega arith

pub found_is : (xs : List Record) (e : Record) (r : Result ℕ ℕ) → MatchResult r (λ i. has_record xs e ≡ true) (IsPlace xs e) → is_ok r ≡ has_record xs e
found_is xs e (Ok i) h = sym h
found_is xs e (Err i) p = sym (absent xs e i p)

pub room_less : (n : ℕ) → not (nat_le 512 n) ≡ true → n < 512
room_less n h = grind arith

-- ---- what stays true of all

module _ (P : Record → Type 0) (p : Record → Bool) where
  all-filter : (xs : List Record) → AllByRecursion P xs → AllByRecursion P (filter p xs)
  all-filter [] h = tt
  all-filter (x ∷ xs) h = elim (p x) as (λ b. AllByRecursion P (cond b (x ∷ filter p xs) (filter p xs))) [ true ↦ (h.0, all-filter xs h.1) | false ↦ all-filter xs h.1 ]

pub Ascends-filter : (p : Record → Bool) (xs : List Record) → Ascends xs → Ascends (filter p xs)
Ascends-filter p [] a = tt
Ascends-filter p (x ∷ xs) a =
    elim (p x) as (λ b. Ascends (cond b (x ∷ filter p xs) (filter p xs))) [ true ↦ (all-filter (λ y. is_gt (record_cmp x y) ≡ false) p xs a.0, Ascends-filter p xs a.1) | false ↦ Ascends-filter p xs a.1 ]

pub held_after : (bs sp new new_sp : List (List Record)) (items : List Record) (m n bc sc new_bc new_sc : ℕ) → IsHeld bs sp m bc sc → IsRecut bs sp new new_sp items
    → Ascends items → n ≡ length items → length items ≤ room_of (length bs + length sp) → bc ≤ new_bc → sc ≤ new_sc → IsHeld new new_sp n new_bc new_sc
held_after bs sp new new_sp items m n bc sc new_bc new_sc h r a n_is fits p q = record {
  ordered = subst Ascends (sym r.items) a;
  filled = r.filled;
  none = r.none;
  len = n_is ∙ ap length (sym r.items);
  room = subst (λ (k : ℕ). length (flat new) ≤ room_of k) (sym r.count) (subst (λ (l : List Record). length l ≤ room_of (length bs + length sp)) (sym r.items) fits);
  blocks_room = omega (arith, r.count, h.blocks_room, p);
  spare_room = omega (arith, r.count, h.spare_room, q);
}

pub minus_plus : (a b : ℕ) → a ≤ b → b - a + a ≡ b
minus_plus a b h = omega arith

-- the same blocks hold as many records
pub same_total : (bs sp new new_sp : List (List Record)) → length (flat bs) ≤ room_of (length bs + length sp) → length (flat new) ≤ room_of (length new + length new_sp)
    → length new + length new_sp ≡ length bs + length sp
    → room_of (length new + length new_sp) - length (flat new) + length (flat new) ≡ room_of (length bs + length sp) - length (flat bs) + length (flat bs)
same_total bs sp new new_sp h k count = minus_plus _ _ k ∙ ap room_of count ∙ sym (minus_plus _ _ h)

-- where there is room, there is a spare block
pub some_spare : (bs sp : List (List Record)) → Filled 1 bs → 0 < room_of (length bs + length sp) - length (flat bs) → 0 < length sp
some_spare bs sp f h = omega (arith, held 1 bs f, h, min-le_left ((length bs + length sp - 2) * 256) (2 ^ 64 - 1))

pub below_room : (n r : ℕ) → nat_eq n r ≡ false → n ≤ r → n < r
below_room n r h k = grind arith
