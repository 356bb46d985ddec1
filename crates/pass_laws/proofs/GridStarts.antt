-- A grid starts at the left top corner of max_rect. Assumes nothing.
use mathlib.Core.Path.{◌≡◌, refl, sym}
use mathlib.Core.Bool.{Bool, true, false, cond, true≢false}
use lib.Ieee.{Float, lt, ne}
use Rattle.emath.specs.Rectangles.{max_f}
use Rattle.emath.specs.declared.Rect.{Rect}
use Rattle.layout.specs.Rules.{initial_cursor}
use Rattle.region.specs.declared.Direction.{Direction}
use Rattle.region.specs.declared.Direction.TheVariants.{LeftToRight, RightToLeft, TopDown, BottomUp}
use Rattle.grid.specs.Refusals.{fits_grid}

-- ---- a grid's directions start at max_rect's corner
pub corner-left : (d : Direction) (m : Rect) → fits_grid d ≡ true → (initial_cursor d m).left ≡ m.left
unfolding fits_grid initial_cursor
corner-left LeftToRight m h = refl
corner-left RightToLeft m h = absurd (true≢false (sym h))
corner-left TopDown m h = refl
corner-left BottomUp m h = absurd (true≢false (sym h))

pub corner-top : (d : Direction) (m : Rect) → fits_grid d ≡ true → (initial_cursor d m).top ≡ m.top
unfolding fits_grid initial_cursor
corner-top LeftToRight m h = refl
corner-top RightToLeft m h = absurd (true≢false (sym h))
corner-top TopDown m h = refl
corner-top BottomUp m h = absurd (true≢false (sym h))

pub max_self : (x : Float) → max_f x x ≡ x
unfolding max_f
max_self x = go (lt x x) (ne x x)
  where
    go : (a b : Bool) → cond a x (cond b x x) ≡ x
    go true b = refl
    go false true = refl
    go false false = refl
