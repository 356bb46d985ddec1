-- What a memory holds after an entry was raised: the larger of what it was and the new one; other entries as they were; those skipped 0;
-- none beyond the new count. Assumes nothing.
use Rattle.std.proofs.Common.{◌≡◌, refl, ap, ◌∙◌, sym, List, ℕ, zero, suc, ◌+◌, ◌≤◌, ◌<◌, ◌-◌, arith, length, take, get_or, set, length-take, length-set, get_or-take, get_or-set_same, get_or-set_other, Bool, true, false, not, cond, T, ltb, ltb→lt, nltb→le}
use Rattle.std.specs.Prelude.{Float}
use Rattle.std.specs.Float.{nan}
use Rattle.emath.specs.Rectangles.{zero_f, max_f}
use Rattle.std.proofs.lemmas.Bool.{le-ltb, lt-ltb}
use Rattle.grid.specs.Entries.{entry, cleared, raised, zeros}
use Rattle.grid.specs.Memories.{raised_count}
use Rattle.grid.proofs.Turns.{length-cleared}

-- ---- an entry that is there, and one that is not
pub entry-there : (vs : List Float) (i : ℕ) (other : Float) → i < length vs → entry vs i other ≡ get_or vs i nan
unfolding entry
entry-there vs i other h = rw (lt-ltb i (length vs) h)

pub entry-none : (vs : List Float) (i : ℕ) (other : Float) → length vs ≤ i → entry vs i other ≡ other
unfolding entry
entry-none vs i other h = rw (le-ltb i (length vs) h)

-- ---- zeros at the n places from a
apart : {i j : ℕ} → j < i → j ≡ i → ⊥
apart h e = omega arith

apart-over : {i j : ℕ} → i < j → j ≡ i → ⊥
apart-over h e = omega arith

cleared-before : (xs : List Float) (a n j : ℕ) → j < a → get_or (cleared xs a n) j nan ≡ get_or xs j nan
unfolding cleared
cleared-before xs a zero j h = refl
cleared-before xs a (suc n) j h = get_or-set_other (cleared xs a n) (a + n) j zero_f nan (apart (omega arith)) ∙ cleared-before xs a n j h

cleared-after : (xs : List Float) (a n j : ℕ) → a + n ≤ j → get_or (cleared xs a n) j nan ≡ get_or xs j nan
unfolding cleared
cleared-after xs a zero j h = refl
cleared-after xs a (suc n) j h = get_or-set_other (cleared xs a n) (a + n) j zero_f nan (apart-over (omega arith)) ∙ cleared-after xs a n j (omega arith)

cleared-in : (xs : List Float) (a n j : ℕ) → a ≤ j → j < a + n → j < length xs → get_or (cleared xs a n) j nan ≡ zero_f
unfolding cleared
cleared-in xs a zero j g h l = absurd (omega arith)
cleared-in xs a (suc n) j g h l = go (ltb j (a + n)) (ltb→lt j (a + n)) (nltb→le j (a + n)) (λ (s : j < a + n). cleared-in xs a n j g s l)
  where
    go : (b : Bool) → (T b → j < a + n) → (T (not b) → a + n ≤ j) → (j < a + n → get_or (cleared xs a n) j nan ≡ zero_f) → get_or (set (cleared xs a n) (a + n) zero_f) j nan ≡ zero_f
    go true y z f =
        let s : j < a + n = y tt in
        get_or-set_other (cleared xs a n) (a + n) j zero_f nan (apart s) ∙ f s
    go false y z f =
        let s : a + n ≤ j = z tt in
        let e : j ≡ a + n = omega arith in
        let m : j < length (cleared xs a n) = omega (arith, length-cleared xs a n) in
        rw (← e) (get_or-set_same (cleared xs a n) j zero_f nan m)

-- ---- an entry raised, among the first n of xs
module _ (xs : List Float) (n i : ℕ) (w : Float) (N : n ≤ length xs) (I : i < length xs) where
  count-is : (n ≤ raised_count n (i + 1)) × (i + 1 ≤ raised_count n (i + 1)) × (raised_count n (i + 1) ≤ length xs)
  unfolding raised_count
  count-is = go (ltb n (i + 1)) (ltb→lt n (i + 1)) (nltb→le n (i + 1))
    where
      go : (b : Bool) → (T b → n < i + 1) → (T (not b) → i + 1 ≤ n) → (n ≤ cond b (i + 1) n) × (i + 1 ≤ cond b (i + 1) n) × (cond b (i + 1) n ≤ length xs)
      go true y z = let h : n < i + 1 = y tt in (omega arith, omega arith, omega arith)
      go false y z = let h : i + 1 ≤ n = z tt in (omega arith, omega arith, omega arith)

  pub length-raised : length (raised xs n i w) ≡ length xs
  unfolding raised
  length-raised = simp length-set (length-cleared xs n (i - n))

  -- the list that is then remembered
  abbrev pub after : List Float
  after = take (raised_count n (i + 1)) (raised xs n i w)

  pub length-after : length after ≡ raised_count n (i + 1)
  length-after = let c = count-is in simp length-take (omega (arith, length-raised, c))

  at : (j : ℕ) (other : Float) → j < raised_count n (i + 1) → entry after j other ≡ get_or (raised xs n i w) j nan
  at j other h = entry-there after j other (omega (arith, length-after)) ∙ get_or-take (raised_count n (i + 1)) (raised xs n i w) j nan h

  own-entry : get_or (raised xs n i w) i nan ≡ max_f (entry (take n xs) i zero_f) w
  unfolding raised
  own-entry = let l : i < length (cleared xs n (i - n)) = omega (arith, length-cleared xs n (i - n)) in get_or-set_same (cleared xs n (i - n)) i (max_f (entry (take n xs) i zero_f) w) nan l

  pub raised-same : (other : Float) → entry after i other ≡ max_f (entry (take n xs) i zero_f) w
  raised-same other = let c = count-is in at i other (omega (arith, c)) ∙ own-entry

  other-entry : (j : ℕ) → (j ≡ i → ⊥) → get_or (raised xs n i w) j nan ≡ get_or (cleared xs n (i - n)) j nan
  unfolding raised
  other-entry j h = get_or-set_other (cleared xs n (i - n)) i j (max_f (entry (take n xs) i zero_f) w) nan h

  pub raised-kept : (j : ℕ) (other : Float) → j < n → (j ≡ i → ⊥) → entry after j other ≡ entry (take n xs) j other
  raised-kept j other h d =
      let c = count-is in
      let m : j < length (take n xs) = simp length-take (omega arith) in
      at j other (omega (arith, c)) ∙ other-entry j d ∙ cleared-before xs n (i - n) j h
      ∙ sym (entry-there (take n xs) j other m ∙ get_or-take n xs j nan h)

  -- RULES 3.3: what was skipped holds 0
  pub raised-skipped : (j : ℕ) (other : Float) → n ≤ j → j < i → entry after j other ≡ zero_f
  raised-skipped j other g h =
      let c = count-is in
      at j other (omega (arith, c)) ∙ other-entry j (apart h) ∙ cleared-in xs n (i - n) j g (omega arith) (omega arith)

  pub raised-none : (j : ℕ) (other : Float) → raised_count n (i + 1) ≤ j → entry after j other ≡ other
  raised-none j other h = entry-none after j other (omega (arith, length-after))

-- ---- zeros beyond the count stay zeros
unfoldable pub Beyond : List Float → ℕ → Type 0
Beyond xs n = (j : ℕ) → n ≤ j → j < length xs → get_or xs j nan ≡ zero_f

pub length-zeros : (n : ℕ) → length (zeros n) ≡ n
unfolding zeros
length-zeros zero = refl
length-zeros (suc n) = ap suc (length-zeros n)

get_or-zeros : (n j : ℕ) → j < n → get_or (zeros n) j nan ≡ zero_f
unfolding zeros
get_or-zeros zero j h = absurd (omega arith)
get_or-zeros (suc n) zero h = refl
get_or-zeros (suc n) (suc j) h = get_or-zeros n j (omega arith)

pub zeros-beyond : (room n : ℕ) → Beyond (zeros room) n
unfolding Beyond
zeros-beyond room n j g h = get_or-zeros room j (omega (arith, length-zeros room))

pub raised-beyond : (xs : List Float) (n i : ℕ) (w : Float) → n ≤ length xs → i < length xs → Beyond xs n → Beyond (raised xs n i w) (raised_count n (i + 1))
unfolding Beyond
raised-beyond xs n i w N I B j g h =
    let c = count-is xs n i w N I in
    let l : j < length xs = omega (arith, length-raised xs n i w N I) in
    other-entry xs n i w N I j (apart-over (omega (arith, c))) ∙ cleared-after xs n (i - n) j (omega (arith, c)) ∙ B j (omega (arith, c)) l
