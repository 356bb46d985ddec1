-- RULES 2.28: whole steps of 1 / 2 ^ k point, the words of the laws in proofs/, for every k.
use Rattle.std.specs.Prelude.{◌≡◌, ℕ}
use Rattle.emath.specs.Steps.{Edge}
use Rattle.region.specs.Refusals.{closed}
use Rattle.emath.specs.declared.Rect.{Rect}
use Rattle.emath.specs.declared.Vec2.{Vec2}
use Rattle.region.specs.declared.Direction.{Direction}
use Rattle.region.specs.declared.Region.{Region}

-- RULES 2.28: every edge is a whole number of steps of the domain; so are both parts of a size
pub record WholeRect (k : ℕ) (r : Rect) : Type 0 where
  pub left : Edge k r.left
  pub top : Edge k r.top
  pub right : Edge k r.right
  pub bottom : Edge k r.bottom

pub record WholeSize (k : ℕ) (v : Vec2) : Type 0 where
  pub x : Edge k v.x
  pub y : Edge k v.y

-- RULES 2.28: and of a cursor every edge but an open one at infinity; a region has all three rectangles so
abbrev pub WholeCursor : ℕ → Direction → Rect → Type 0
WholeCursor k d c = WholeRect k (closed d c)

pub record WholeRegion (k : ℕ) (d : Direction) (g : Region) : Type 0 where
  pub inner : WholeRect k g.min_rect
  pub outer : WholeRect k g.max_rect
  pub cursor : WholeCursor k d g.cursor

-- RULES 2.20: a rectangle of no size
pub record OnePoint (r : Rect) : Type 0 where
  pub across : r.left ≡ r.right
  pub down : r.top ≡ r.bottom
