-- Adding 12582912, half more than 2 ^ 23, and taking it away again: a sum from 2 ^ 23 on is whole, so what comes back is whole, and a y that
-- comes back as it was is its own nearest whole number. Assumes nothing.
use Rattle.std.proofs.Common.{◌≡◌, ℕ, suc, ◌+◌, ◌*◌, ◌^◌, ◌<◌, ◌≤◌, Bool, true, false, not, ◌&&◌, ◌||◌, T, eqb, leb, ℤ, pos, negsuc, ◌-ℤ◌, nat_abs, sym, refl, ap, ◌∙◌, inl, inr, arith, lit<, le→leb, eqb→eq, leb→le}
use mathlib.Core.Bool.{beq}
use lib.Dec.{nleb→lt}
use lib.Ieee.{Float, nan, inf, fin, binary32, up, down, round, add, sub, neg, lt, le, eq, fits}
use lib.Ieee.Fits.{down_pos, and_l, and_r, round-fits, add-fits}
use Rattle.emath.specs.Rectangles.{near_up, round_f, round_ui, round_rect}
use Rattle.emath.specs.declared.Rect.{Rect}
use Rattle.emath.specs.Implementation.Shifting.{shift, back_in_ticks, back_rect}
use Rattle.emath.specs.Steps.{tick, sgn, signed, val}
use Rattle.emath.proofs.Tests.{both, or_split}
use Rattle.emath.proofs.Whole.{more, less, diff, within-unsigned_abs}
use Rattle.emath.proofs.Exact.{Small, val_is, sub_is}
use Rattle.emath.proofs.Order.{factor-zero, val_mono, before}
use Rattle.emath.proofs.OrderLaws.{le_not_lt}
use Rattle.emath.proofs.NearUp.{near_up-same, near_up-le, near-whole}
use Rattle.emath.proofs.Rounding.{whole-at, signed_back, fits-says}
use Rattle.emath.proofs.NearestWhole.{from-high, too_many, two-le}

-- 2 ^ 23
abbrev pub least : Float
least = fin false 1 (pos 23)

-- ---- floats that equal each other have one nearest whole number
same_sign : (s t : Bool) → T (beq s t) → s ≡ t
same_sign true true h = refl
same_sign false false h = refl
same_sign true false h = absurd h
same_sign false true h = absurd h

signed-none : (s t : Bool) (n : ℕ) → n ≡ 0 → signed s n ≡ signed t n
signed-none s t n h = rw h (go s t)
  where
    go : (s t : Bool) → signed s 0 ≡ signed t 0
    go true true = refl
    go true false = refl
    go false true = refl
    go false false = refl

round-equal : (x y : Float) → T (eq x y) → round_f x ≡ round_f y
unfolding eq
round-equal nan y h = absurd h
round-equal (inf s) nan h = absurd h
round-equal (inf s) (inf t) h = ap (λ (b : Bool). round_f (inf b)) (same_sign s t h)
round-equal (inf s) (fin t n d) h = absurd h
round-equal (fin s m e) nan h = absurd h
round-equal (fin s m e) (inf t) h = absurd h
round-equal (fin s m e) (fin t n d) h =
    let X = m * up e * down d in
    let Y = n * up d * down e in
    let q : near_up (m * up e) (down e) ≡ near_up (n * up d) (down d) = near_up-same (m * up e) (down e) (n * up d) (down d) (down_pos e) (down_pos d) (eqb→eq X Y (and_l (eqb X Y) (beq s t || eqb X 0) h)) in
    whole-at (fin s m e) s (m * up e) (down e) (down_pos e) (refl, refl)
    ∙ elim (or_split (beq s t) (eqb X 0) (and_r (eqb X Y) (beq s t || eqb X 0) h)) [
      | inl u ↦ ap (λ (b : Bool). val 0 (signed b (near_up (m * up e) (down e)))) (same_sign s t u)
      | inr u ↦ ap (val 0) (signed-none s t (near_up (m * up e) (down e)) (none (m * up e) (down e) (down d) (down_pos e) (down_pos d) (eqb→eq X 0 u)))
    ]
    ∙ ap (λ (z : ℕ). val 0 (signed t z)) q
    ∙ sym (whole-at (fin t n d) t (n * up d) (down d) (down_pos d) (refl, refl))
  where
    none : (M a b : ℕ) → 0 < a → 0 < b → M * b ≡ 0 → near_up M a ≡ 0
    none M a b A B h = let z : M ≡ 0 = factor-zero M b B h in rw z (omega (arith, near_up-le 0 a A))

-- ---- the float of a whole number is its own nearest whole number
small-back : (z : ℤ) → Small z → round_f (val 0 z) ≡ val 0 z
small-back z h = whole-at (val 0 z) (sgn z) (nat_abs z) 1 (lit< tt) (val_is 0 z (omega arith) h) ∙ ap (λ (n : ℕ). val 0 (signed (sgn z) n)) (near-whole (nat_abs z)) ∙ ap (val 0) (signed_back z)

least-is : val 0 (pos 8388608) ≡ least
unfolding val round
least-is = refl

large-back : (n : ℕ) → 16777216 < n → round_f (val 0 (pos n)) ≡ val 0 (pos n)
large-back n h = from-high (val 0 (pos n)) (unfold val in round-fits binary32 false n 1) (le_not_lt least (val 0 (pos n)) (rw (← least-is) (val_mono 0 (pos 8388608) (pos n) (le→leb 8388608 n (omega arith)))))

val_back : (z : ℤ) → less z ≤ 16777216 + more z → round_f (val 0 z) ≡ val 0 z
val_back (negsuc n) h = small-back (negsuc n) (within-unsigned_abs (negsuc n) (omega arith))
val_back (pos n) h = go (leb n 16777216) (leb→le n 16777216) (nleb→lt n 16777216)
  where
    go : (b : Bool) → (T b → n ≤ 16777216) → (T (not b) → 16777216 < n) → round_f (val 0 (pos n)) ≡ val 0 (pos n)
    go true y f = small-back (pos n) (within-unsigned_abs (pos n) (y tt))
    go false y f = large-back n (f tt)

-- ---- from 2 ^ 23 on, less the shift: whole
whole-less : (s : Float) → T (fits binary32 s) → T (le least s) → round_f (sub binary32 s shift) ≡ sub binary32 s shift
unfolding le lt eq
whole-less nan f h = absurd h
whole-less (inf true) f h = absurd h
whole-less (inf false) f h = unfold round_f sub add neg in refl
whole-less (fin true m e) f h = absurd (omega (arith, before false (1 * 2 ^ 23 * down e) true (m * up e * 1) h, down_pos e))
whole-less (fin false m (negsuc j)) f h = absurd (too_many m (2 ^ suc j) (fits-says false m j f).0 (two-le j) (before false (1 * 2 ^ 23 * 2 ^ suc j) false (m * 1 * 1) h))
whole-less (fin false m (pos j)) f h =
    let z = pos (m * 2 ^ j) -ℤ pos 12582912 in
    let e : sub binary32 (fin false m (pos j)) shift ≡ val 0 z = sub_is (fin false m (pos j)) shift 0 (pos (m * 2 ^ j)) (pos 12582912) (refl, refl) (refl, refl) in
    let b : less z ≤ 16777216 + more z = omega (arith, diff (pos (m * 2 ^ j)) (pos 12582912)) in
    ap round_f e ∙ val_back z b ∙ sym e

-- ---- THE LAW
pub shifted_back : (y : Float) → T (le least (add binary32 y shift)) → T (eq (sub binary32 (add binary32 y shift) shift) y) → sub binary32 (add binary32 y shift) shift ≡ round_f y
shifted_back y h e = sym (whole-less (add binary32 y shift) (add-fits binary32 y shift) h) ∙ round-equal (sub binary32 (add binary32 y shift) shift) y e

-- ---- four edges
module _ (r : Rect) (a b c d : Bool) (ea : a ≡ true → back_in_ticks r.left ≡ round_ui tick r.left) (eb : b ≡ true → back_in_ticks r.top ≡ round_ui tick r.top)
    (ec : c ≡ true → back_in_ticks r.right ≡ round_ui tick r.right) (ed : d ≡ true → back_in_ticks r.bottom ≡ round_ui tick r.bottom) where
  pub all_back : a && (b && (c && d)) ≡ true → back_rect r ≡ round_rect tick r
  unfolding round_rect
  all_back h =
      let p = both a (b && (c && d)) h in
      let q = both b (c && d) p.1 in
      let t = both c d q.1 in
      rw (ea p.0, eb q.0, ec t.0, ed t.1)
