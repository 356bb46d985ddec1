-- The cache of W sizes: what the array holds as the check goes through a text, and that after it each W of an accepted sheet has its size
-- there. Assumes nothing.
use Rattle.std.proofs.Common.{ℕ, zero, suc, ◌+◌, ◌-◌, ◌≤◌, ◌<◌, ◌≡◌, refl, ap, sym, ◌∙◌, List, [], ◌∷◌, Bool, true, false, cond, ◌&&◌, true≢false, arith, ne_eqb, length, get_or, set, drop, length-set, length-drop, drop_of_length-le, get_or-set_same, get_or-set_other, Float}
use Rattle.std.proofs.Math.Seq.{drop-nil}
use Rattle.std.specs.Float.{nan}
use Rattle.records.specs.declared.Heading.{Heading as HeadingOf}
use Rattle.records.specs.declared.Step.{Step}
use Rattle.records.specs.declared.Step.TheVariants.{Widget, Space, RowHeight, MaxWidth, MaxHeight, MinWidth, MinHeight, RowEnd}
use Rattle.records.specs.Records.{Record}
use Rattle.std.specs.Prelude.{Some as Steps, None as Wrong}
use Rattle.records.specs.Sheets.{Accepted}
use Rattle.records.specs.declared.SizeUnit.{SizeUnit}
use Rattle.records.specs.Parts.{letter, ends, size_in, is_length, length_value}
use Rattle.records.specs.Records.{step_record, widget_record, record_of, record_at, size, rest, next_at}
use Rattle.text.specs.Letters as letters
use Rattle.records.specs.Headings.{heading_in, heading_fault}
use Rattle.records.specs.Sheets.{records_from, steps_left, wrong_from, checked}
use Rattle.records.specs.Implementation.SizeCache.{stored_step, stored, cached_from, cached_by, IsCached, AreCached, CachedIn}
use Rattle.records.proofs.Places.{next-is-rest}
use Rattle.records.proofs.Reached.{is_step, records-few, records-step, step-on, stops, none_left, no_more}
use Rattle.records.proofs.Prefixes.{few-records}
use Rattle.records.proofs.Checks.{clear}

-- ---- one record changes its own two places and no other
step-length : (ss : List Float) (n : ℕ) (st : Step) → length (stored_step ss n st) ≡ length ss
unfolding stored_step
step-length ss n (Widget x y) = length-set (set ss n x) (513 + n) y ∙ length-set ss n x
step-length ss n (Space x) = refl
step-length ss n (RowHeight x) = refl
step-length ss n (MaxWidth x) = refl
step-length ss n (MaxHeight x) = refl
step-length ss n (MinWidth x) = refl
step-length ss n (MinHeight x) = refl
step-length ss n RowEnd = refl

stored-length : (ss : List Float) (n : ℕ) (r : Record) → length (stored ss n r) ≡ length ss
unfolding stored
stored-length ss n (Steps st) = step-length ss n st
stored-length ss n Wrong = refl

-- the places of record m hold the same in both arrays
abbrev Same : List Float → List Float → ℕ → Type 0
Same ss ts m = (get_or ss m nan ≡ get_or ts m nan) × (get_or ss (513 + m) nan ≡ get_or ts (513 + m) nan)

step-below : (ss : List Float) (n m : ℕ) (st : Step) → m < n → n < 513 → Same (stored_step ss n st) ss m
unfolding stored_step
step-below ss n m (Widget x y) h l = (elsewhere m (λ e. omega arith) (λ e. omega arith), elsewhere (513 + m) (λ e. omega arith) (λ e. omega arith))
  where
    elsewhere : (j : ℕ) → (j ≡ n → ⊥) → (j ≡ 513 + n → ⊥) → get_or (set (set ss n x) (513 + n) y) j nan ≡ get_or ss j nan
    elsewhere j a b = get_or-set_other (set ss n x) (513 + n) j y nan b ∙ get_or-set_other ss n j x nan a
step-below ss n m (Space x) h l = (refl, refl)
step-below ss n m (RowHeight x) h l = (refl, refl)
step-below ss n m (MaxWidth x) h l = (refl, refl)
step-below ss n m (MaxHeight x) h l = (refl, refl)
step-below ss n m (MinWidth x) h l = (refl, refl)
step-below ss n m (MinHeight x) h l = (refl, refl)
step-below ss n m RowEnd h l = (refl, refl)

-- ---- its places then hold the size of a W
is-widget : (m : SizeUnit) (u : List ℕ) → letter u ≡ letters.W → record_of m u ≡ widget_record m u
unfolding record_of
is-widget m u h = rw h

stands : (ss : List Float) (n : ℕ) (x y : Float) → 513 + n < length ss → Steps (Widget x y) ≡ Steps (Widget (get_or (stored ss n (Steps (Widget x y))) n nan) (get_or (stored ss n (Steps (Widget x y))) (513 + n) nan))
unfolding stored stored_step
stands ss n x y h =
    let l : 513 + n < length (set ss n x) = omega (arith, length-set ss n x) in
    let a : get_or (set (set ss n x) (513 + n) y) n nan ≡ x = get_or-set_other (set ss n x) (513 + n) n y nan (λ e. omega arith) ∙ get_or-set_same ss n x nan (omega arith) in
    let b : get_or (set (set ss n x) (513 + n) y) (513 + n) nan ≡ y = get_or-set_same (set ss n x) (513 + n) y nan l in
    rw (a, b)

no_step : is_step Wrong ≡ true → ⊥
unfolding is_step
no_step h = let z : ◌≡◌ {A = ℕ} 0 1 = cc in omega arith

is-cached : (m : SizeUnit) (u : List ℕ) (ss : List Float) (n : ℕ) → is_step (record_of m u) ≡ true → 513 + n < length ss → IsCached m u (stored ss n (record_of m u)) n
unfolding widget_record step_record
is-cached m u ss n p l h = go (is_length (size_in m u 0) && is_length (size_in m u 1) && ends u 2) (length_value (size_in m u 0)) (length_value (size_in m u 1)) (is-widget m u h)
  where
    go : (b : Bool) (x y : Float) → record_of m u ≡ cond b (Steps (Widget x y)) Wrong
        → record_of m u ≡ Steps (Widget (get_or (stored ss n (record_of m u)) n nan) (get_or (stored ss n (record_of m u)) (513 + n) nan))
    go true x y e = rw e (stands ss n x y l)
    go false x y e = absurd (no_step (ap (λ (r : Record). is_step r) (sym e) ∙ p))

-- ---- all records
cached-below : (rs : List Record) (ss : List Float) (n m : ℕ) → m < n → n + length rs ≤ 513 → Same (cached_from n rs ss) ss m
unfolding cached_from
cached-below [] ss n m h l = (refl, refl)
cached-below (Steps st ∷ rs) ss n m h l =
    let later = cached-below rs (stored_step ss n st) (n + 1) m (omega arith) (omega arith) in
    let now = step-below ss n m st h (omega arith) in
    (later.0 ∙ now.0, later.1 ∙ now.1)
cached-below (Wrong ∷ rs) ss n m h l = (refl, refl)

cached-step : (n : ℕ) (r : Record) (rs : List Record) (ss : List Float) → is_step r ≡ true → cached_from n (r ∷ rs) ss ≡ cached_from (n + 1) rs (stored ss n r)
unfolding cached_from stored
cached-step n (Steps st) rs ss e = refl
cached-step n Wrong rs ss e = absurd (no_step e)

cached-stops : (n : ℕ) (r : Record) (rs : List Record) (ss : List Float) → is_step r ≡ false → cached_from n (r ∷ rs) ss ≡ ss
unfolding cached_from is_step
cached-stops n (Steps st) rs ss e = absurd (true≢false e)
cached-stops n Wrong rs ss e = refl

same-cached : (m : SizeUnit) (u : List ℕ) (ss ts : List Float) (n : ℕ) → Same ts ss n → IsCached m u ss n → IsCached m u ts n
same-cached m u ss ts n e h w = h w ∙ rw (e.0, e.1)

-- the rest leaves the places of the record at the front as they are
stays-cached : (m : SizeUnit) (u : List ℕ) (rs : List Record) (ss : List Float) (n : ℕ) → is_step (record_of m u) ≡ true → n + 1 + length rs ≤ 513 → 513 + n < length ss → IsCached m u (cached_from (n + 1) rs (stored ss n (record_of m u))) n
stays-cached m u rs ss n e few l =
    let mid = stored ss n (record_of m u) in
    same-cached m u mid (cached_from (n + 1) rs mid) n (cached-below rs mid (n + 1) n (omega arith) few) (is-cached m u ss n e l)

first_step : (n : ℕ) (r : Record) (rs : List Record) → 0 < n → wrong_from n (r ∷ rs) ≡ 0 → is_step r ≡ true
first_step n r rs N m = go (is_step r) refl
  where
    go : (p : Bool) → is_step r ≡ p → is_step r ≡ true
    go true e = e
    go false e = absurd (omega (arith, stops n r rs 0 e m))

all-cached : (m : SizeUnit) (left : ℕ) (s : List ℕ) (ss : List Float) (n : ℕ) → 0 < n → wrong_from n (records_from m left s) ≡ 0 → n + left ≤ 513 → length ss ≡ 1026 → AreCached m left s (cached_from n (records_from m left s) ss) n
unfolding AreCached records_from
all-cached m zero s ss n N w few l = tt
all-cached m (suc left) [] ss n N w few l = tt
all-cached m (suc left) (b ∷ s) ss n N w few l =
    let r = record_of m (b ∷ s) in
    let rs = records_from m left (rest (b ∷ s)) in
    let e : is_step r ≡ true = first_step n r rs N w in
    rw (cached-step n r rs ss e) (
      stays-cached m (b ∷ s) rs ss n e (omega (arith, records-few m left (rest (b ∷ s)))) (omega arith),
      all-cached m left (rest (b ∷ s)) (stored ss n r) (n + 1) (omega arith) (step-on n r rs 0 e w) (omega arith) (stored-length ss n r ∙ l),
    )

-- of an accepted text the check leaves the size of every W in its places
pub cached-in : (s : List ℕ) (room k w : ℕ) (ss : List Float) → length ss ≡ 1026 → checked s room ≡ Accepted k w → CachedIn s (cached_by s ss)
unfolding cached_by
cached-in s room k w ss l e =
    let c = clear s room k w e in
    let few = few-records s in
    rw c.heading (all-cached (heading_in s).unit (steps_left s) (drop (heading_in s).next s) ss ((heading_in s).records + 1) (omega arith) c.steps (omega (arith, few)) l)

-- ---- as the check goes through a text
pub not-cached : (s : List ℕ) (ss : List Float) (f : ℕ) → f ≡ heading_fault s → (f ≡ 0 → ⊥) → ss ≡ cached_by s ss
unfolding cached_by
not-cached s ss f e h = rw (← e, ne_eqb f 0 h)

pub cached-start : (s : List ℕ) (ss : List Float) (h : HeadingOf) → heading_fault s ≡ 0 → h ≡ heading_in s → cached_from (h.records + 1) (records_from (heading_in s).unit (512 - h.records) (drop h.next s)) ss ≡ cached_by s ss
unfolding cached_by
cached-start s ss h f e = rw (e, f)

no-records : (n : ℕ) (rs : List Record) (ss : List Float) → rs ≡ [] → cached_from n rs ss ≡ ss
unfolding cached_from
no-records n rs ss e = rw e

pub cached-full : (m : SizeUnit) (u : List ℕ) (ss : List Float) (n left : ℕ) (all : List Float) → cached_from n (records_from m left u) ss ≡ all → left ≤ 0 → ss ≡ all
cached-full m u ss n left all inv full = sym (no-records n (records_from m left u) ss (no_more m left u full)) ∙ inv

module _ (m : SizeUnit) (s : List ℕ) (ss : List Float) (at k left : ℕ) (all : List Float) (inv : cached_from (k + 1) (records_from m left (drop at s)) ss ≡ all) where
  pub cached-ended : length s ≤ at → ss ≡ all
  cached-ended out = sym (no-records (k + 1) (records_from m left (drop at s)) ss (ap (λ (u : List ℕ). records_from m left u) (drop_of_length-le s out) ∙ none_left m left)) ∙ inv

  module _ (more : 0 < left) (here : at < length s) (r : Record) (er : r ≡ record_at m s at) where
    front : cached_from (k + 1) (r ∷ records_from m (left - 1) (drop (next_at s at) s)) ss ≡ all
    front = ap (λ (rs : List Record). cached_from (k + 1) rs ss) (rw er (sym (records-step m left s at more here))) ∙ inv

    pub cached-next : is_step r ≡ true → cached_from (k + 1 + 1) (records_from m (left - 1) (drop (next_at s at) s)) (stored ss (k + 1) r) ≡ all
    cached-next e = sym (cached-step (k + 1) r (records_from m (left - 1) (drop (next_at s at) s)) ss e) ∙ front

    pub cached-stopped : is_step r ≡ false → ss ≡ all
    cached-stopped e = sym (cached-stops (k + 1) r (records_from m (left - 1) (drop (next_at s at) s)) ss e) ∙ front

-- ---- as a run goes through it
none-cached : (m : SizeUnit) (left : ℕ) (ss : List Float) (n : ℕ) → AreCached m left [] ss n
unfolding AreCached
none-cached m zero ss n = tt
none-cached m (suc left) ss n = tt

cached-rest : (m : SizeUnit) (left : ℕ) (u : List ℕ) (ss : List Float) (n : ℕ) → AreCached m left u ss n → AreCached m (left - 1) (rest u) ss (n + 1)
cached-rest m zero u ss n k = let e : zero - 1 ≡ 0 = omega arith in rw e (unfold AreCached in tt)
cached-rest m (suc left) [] ss n k = rw (drop-nil (size [])) (none-cached m (suc left - 1) ss (n + 1))
cached-rest m (suc left) (b ∷ u) ss n k = let e : suc left - 1 ≡ left = omega arith in rw e (unfold AreCached in k.1)

front-cached : (m : SizeUnit) (left : ℕ) (u : List ℕ) (ss : List Float) (n : ℕ) → 0 < left → 0 < length u → AreCached m left u ss n → IsCached m u ss n
unfolding AreCached
front-cached m zero u ss n h l k = absurd (omega arith)
front-cached m (suc left) [] ss n h l k = absurd (omega arith)
front-cached m (suc left) (b ∷ u) ss n h l k = k.0

module _ (m : SizeUnit) (s : List ℕ) (ss : List Float) (at n left : ℕ) (k : AreCached m left (drop at s) ss n) where
  pub still-cached : AreCached m (left - 1) (drop (next_at s at) s) ss (n + 1)
  still-cached = rw (next-is-rest s at) (cached-rest m left (drop at s) ss n k)

  pub cached-here : 0 < left → at < length s → IsCached m (drop at s) ss n
  cached-here more here = front-cached m left (drop at s) ss n more (omega (arith, length-drop at s)) k
