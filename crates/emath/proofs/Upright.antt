-- What turns no rectangle inside out: aligning a size that is not negative, and translating. For every f32 edge, infinities and NaN
-- included. What is not inside out is upright where it is in the domain. Assumes nothing.
use Rattle.std.proofs.Common.{◌≡◌, Bool, true, false, cond, ◌&&◌, ◌||◌, T, ◌⊎◌, sym, refl, inl, inr, true≢false}
use lib.Ieee.{Float, nan, inf, fin, binary32, of_bits, add, sub, div, lt, le, eq}
use lib.Ieee.Fits.{and_i, and_l, and_r}
use Rattle.emath.specs.Rectangles.{zero_f, two_f, max_f, centre_on, from_min_size, translate, is_infinite, centred, aligned_to, align_on, align_within}
use Rattle.emath.specs.Domain.{finite, within, both_of, negative, at_least_zero, inside_out, upright}
use Rattle.emath.specs.Binary32.{F32, RectF32}
use Rattle.emath.specs.Refusals.{when, least, pair_fault, edges_fault, size_fault}
use Rattle.emath.proofs.Tests.{both, neither, T_true}
use Rattle.emath.proofs.OrderLaws.{Number, lt-nan, le_trans, not-lt-le}
use Rattle.emath.proofs.Zeros.{plus_zero}
use Rattle.emath.proofs.MinMax.{max-first-le}
use Rattle.emath.proofs.SumOrder.{add-not-below, sub-not-above, difference-not-below, infinitely-apart}
use Rattle.emath.proofs.Binary32.{sum-f32, difference-f32}
use Rattle.emath.proofs.Refusals.{lesser-none, when-none, when-never, edges-within, within-finite}
use Rattle.emath.specs.declared.Rect.{Rect}
use Rattle.emath.specs.declared.Vec2.{Vec2}
use Rattle.emath.specs.declared.Pos2.{Pos2}
use Rattle.emath.specs.declared.Rangef.{Rangef}
use Rattle.emath.specs.declared.Align.{Align}
use Rattle.emath.specs.declared.Align.TheVariants.{Min, Center, Max}
use Rattle.emath.specs.declared.Align2.{Align2}

-- ---- lengths that are not negative
-- a number, and at least zero
abbrev pub Up : Float → Type 0
Up s = T (le zero_f s)

up-number : (s : Float) → Up s → Number s
unfolding le lt eq of_bits
up-number nan h = h
up-number (inf t) h = tt
up-number (fin t m e) h = tt

-- so is the greater of it and anything, NaN included
pub up-max : (s v : Float) → Up s → Up (max_f s v)
up-max s v h = le_trans zero_f s (max_f s v) h (max-first-le s v (up-number s h))

pub size-up : (s : Vec2) → T (at_least_zero s) → Up s.x × Up s.y
unfolding at_least_zero
size-up s h = (and_l (le zero_f s.x) (le zero_f s.y) h, and_r (le zero_f s.x) (le zero_f s.y) h)

-- a size without a fault is such a one
finite_number : (x : Float) → finite x ≡ true → Number x
unfolding finite
finite_number nan h = true≢false (sym h)
finite_number (inf s) h = tt
finite_number (fin s m e) h = tt

pub size-at-least-zero : (s : Vec2) → size_fault s ≡ 0 → T (at_least_zero s)
unfolding size_fault pair_fault least both_of negative at_least_zero
size-at-least-zero s h =
    let p = lesser-none _ (when (lt s.x zero_f || lt s.y zero_f) 6) h in
    let f = both (finite s.x) (finite s.y) (when-none (finite s.x && finite s.y) 3 (lesser-none _ _ p.0).0) in
    let n = neither (lt s.x zero_f) (lt s.y zero_f) (when-never (lt s.x zero_f || lt s.y zero_f) 5 p.1) in
    and_i (le zero_f s.x) (le zero_f s.y) (up s.x f.0 n.0) (up s.y f.1 n.1)
  where
    up : (x : Float) → finite x ≡ true → lt x zero_f ≡ false → Up x
    up x f h = not-lt-le zero_f x (unfold of_bits in tt) (finite_number x f) h

-- ---- aligned in the range from low to high
ends : lt (inf false) (inf true) ≡ false
unfolding lt
ends = refl

add-up : (x s : Float) → F32 x → Up s → lt (add binary32 x s) x ≡ false
unfolding of_bits
add-up x s f h = add-not-below x s f.holds h

sub-down : (x s : Float) → F32 x → Up s → lt x (sub binary32 x s) ≡ false
unfolding of_bits
sub-down x s f h = sub-not-above x s f.holds h

aligned : (a : Align) (low high size : Float) → F32 low → F32 high → Up size → lt (aligned_to a low high size).max (aligned_to a low high size).min ≡ false
unfolding aligned_to centred
aligned Min low high size f g h = add-up low size f h
aligned Max low high size f g h = sub-down high size g h
aligned Center low high size f g h = go (is_infinite size)
  where
    start : Float
    start = sub binary32 (centre_on low high) (div binary32 size two_f)

    go : (b : Bool) → lt (cond {A = Rangef} b (record { min = inf true; max = inf false }) (record { min = start; max = add binary32 start size })).max (cond {A = Rangef} b (record { min = inf true; max = inf false }) (record { min = start; max = add binary32 start size })).min ≡ false
    go true = ends
    go false = add-up start size (difference-f32 (centre_on low high) (div binary32 size two_f)) h

align-upright : (a : Align) (low high size : Float) → F32 low → F32 high → Up size → lt (align_on a low high size).max (align_on a low high size).min ≡ false
unfolding align_on
align-upright a low high size f g h = go (is_infinite size) (is_infinite (sub binary32 high low)) (infinitely-apart low high)
  where
    go : (b c : Bool) → (c ≡ true → lt high low ≡ false)
        → lt (cond {A = Rangef} (b && c) (record { min = low; max = high }) (aligned_to a low high size)).max (cond {A = Rangef} (b && c) (record { min = low; max = high }) (aligned_to a low high size)).min ≡ false
    go true true w = w refl
    go true false w = aligned a low high size f g h
    go false c w = aligned a low high size f g h

-- ---- rectangles
pub within-upright : (a : Align2) (s : Vec2) (r : Rect) → RectF32 r → Up s.x → Up s.y → inside_out (align_within a s r) ≡ false
unfolding align_within inside_out
within-upright a s r f x y = rw (align-upright a.x r.left r.right s.x f.left f.right x, align-upright a.y r.top r.bottom s.y f.top f.bottom y)

-- a size from a corner on
pub corner-upright : (p : Pos2) (s : Vec2) → F32 p.x → F32 p.y → Up s.x → Up s.y → inside_out (from_min_size p s) ≡ false
unfolding inside_out
corner-upright p s f g x y = rw (add-up p.x s.x f x, add-up p.y s.y g y)

add-nan : (x : Float) → add binary32 x nan ≡ nan
unfolding add
add-nan nan = refl
add-nan (inf s) = refl
add-nan (fin s m e) = refl

-- low moved, and the length added again
shifted : (x low high : Float) → F32 x → lt high low ≡ false → lt (add binary32 x (sub binary32 high low)) x ≡ false
shifted x low high f h = go (difference-not-below low high h)
  where
    go : (sub binary32 high low ≡ nan) ⊎ T (le plus_zero (sub binary32 high low)) → lt (add binary32 x (sub binary32 high low)) x ≡ false
    go (inl e) = rw (e, add-nan x) (lt-nan x).0
    go (inr u) = add-not-below x (sub binary32 high low) f.holds u

pub translate-upright : (r : Rect) (d : Vec2) → inside_out r ≡ false → inside_out (translate r d) ≡ false
unfolding translate inside_out
translate-upright r d h =
    let p = neither (lt r.right r.left) (lt r.bottom r.top) h in
    rw (shifted (add binary32 r.left d.x) r.left r.right (sum-f32 r.left d.x) p.0, shifted (add binary32 r.top d.y) r.top r.bottom (sum-f32 r.top d.y) p.1)

-- ---- in the domain
within-number : (x : Float) → T (within x) → Number x
within-number x t = finite_number x (within-finite x (T_true (within x) t))

pub upright-within : (r : Rect) → inside_out r ≡ false → edges_fault r ≡ 0 → T (upright r)
unfolding inside_out upright
upright-within r h e =
    let p = neither (lt r.right r.left) (lt r.bottom r.top) h in
    let w = edges-within r e in
    and_i (le r.left r.right) (le r.top r.bottom)
    (not-lt-le r.left r.right (within-number r.left w.left) (within-number r.right w.right) p.0)
    (not-lt-le r.top r.bottom (within-number r.top w.top) (within-number r.bottom w.bottom) p.1)
