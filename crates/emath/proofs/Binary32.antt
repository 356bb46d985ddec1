-- What an f32 holds: the result of every operation, the lesser and the greater of two, an infinity; so a rounded edge, a midpoint, a
-- length in steps. Assumes nothing.
use Rattle.std.proofs.Common.{◌≡◌, ℕ, ◌^◌, Bool, true, false, ◌⊎◌, ℤ, nat_abs, sym, subst, inl, inr}
use lib.Ieee.{Float, inf, binary32, of_bits, fits, neg, add, sub, mul}
use lib.Ieee.Fits.{round-fits, inf-fits, add-fits, sub-fits, mul-fits, div-fits}
use Rattle.emath.specs.Rectangles.{zero_f, half_f, min_f, max_f, midpoint, intersect, union, extend_with_x, extend_with_y, round_f, round_by, round_ui, round_rect}
use Rattle.emath.specs.Binary32.{F32, RectF32}
use Rattle.emath.specs.Steps.{sgn, val, two}
use Rattle.emath.proofs.MinMax.{min-one-of, max-one-of}
use Rattle.emath.specs.declared.Rect.{Rect}

-- ---- the operations
pub sum-f32 : (x y : Float) → F32 (add binary32 x y)
sum-f32 x y = record { holds = add-fits binary32 x y }

pub difference-f32 : (x y : Float) → F32 (sub binary32 x y)
difference-f32 x y = record { holds = sub-fits binary32 x y }

pub midpoint-f32 : (low high : Float) → F32 (midpoint low high)
midpoint-f32 low high = record { holds = mul-fits binary32 half_f (add binary32 low high) }

pub infinity-f32 : (s : Bool) → F32 (inf s)
infinity-f32 s = record { holds = inf-fits binary32 s }

pub neg-infinity-f32 : F32 (neg (inf false))
unfolding neg
neg-infinity-f32 = infinity-f32 true

pub zero-f32 : F32 zero_f
unfolding of_bits fits
zero-f32 = record { holds = tt }

pub val-f32 : (k : ℕ) (z : ℤ) → F32 (val k z)
unfolding val
val-f32 k z = record { holds = round-fits binary32 (sgn z) (nat_abs z) (2 ^ k) }

-- ---- one of two
either : (z x y : Float) → F32 x → F32 y → (z ≡ x) ⊎ (z ≡ y) → F32 z
either z x y f g (inl e) = subst F32 (sym e) f
either z x y f g (inr e) = subst F32 (sym e) g

pub min-f32 : {x y : Float} → F32 x → F32 y → F32 (min_f x y)
min-f32 {x} {y} f g = either (min_f x y) x y f g (min-one-of x y)

pub max-f32 : {x y : Float} → F32 x → F32 y → F32 (max_f x y)
max-f32 {x} {y} f g = either (max_f x y) x y f g (max-one-of x y)

-- ---- rectangles
pub intersect-f32 : {a b : Rect} → RectF32 a → RectF32 b → RectF32 (intersect a b)
unfolding intersect
intersect-f32 f g = record { left = max-f32 f.left g.left; top = max-f32 f.top g.top; right = min-f32 f.right g.right; bottom = min-f32 f.bottom g.bottom }

pub union-f32 : {a b : Rect} → RectF32 a → RectF32 b → RectF32 (union a b)
unfolding union
union-f32 f g = record { left = min-f32 f.left g.left; top = min-f32 f.top g.top; right = max-f32 f.right g.right; bottom = max-f32 f.bottom g.bottom }

pub extend-x-f32 : {r : Rect} {x : Float} → RectF32 r → F32 x → RectF32 (extend_with_x r x)
unfolding extend_with_x
extend-x-f32 f e = record { left = min-f32 f.left e; top = f.top; right = max-f32 f.right e; bottom = f.bottom }

pub extend-y-f32 : {r : Rect} {y : Float} → RectF32 r → F32 y → RectF32 (extend_with_y r y)
unfolding extend_with_y
extend-y-f32 f e = record { left = f.left; top = min-f32 f.top e; right = f.right; bottom = max-f32 f.bottom e }

rounded : (k : ℕ) (x : Float) → F32 (round_ui k x)
unfolding round_by
rounded k x = record { holds = div-fits binary32 (round_f (mul binary32 x (two k))) (two k) }

pub rounded-f32 : (k : ℕ) (r : Rect) → RectF32 (round_rect k r)
unfolding round_rect
rounded-f32 k r = record { left = rounded k _; top = rounded k _; right = rounded k _; bottom = rounded k _ }
