-- A pass over a sheet of controls and row ends, in whole steps: the frames and the memory that it gives. An edge is counted from a line
-- 65,536 points before zero, so that every edge of the domain is a natural number. Assumes nothing.
use mathlib.Core.List.{List, [], ◌∷◌}
use Prim.Native.Nat.{ℕ, zero, suc, ◌+◌, ◌≤◌, max}
use lib.ListN.{get_or}

-- A record of such a sheet: a control with its width and height, or a row's end.
pub data Step : Type 0 where
  W : ℕ → ℕ → Step
  E : Step

-- RULES 10.3: the same records one by one, no control of the second smaller on either axis than the first's in its place.
pub data Grown : List Step → List Step → Type 0 where
  none : Grown [] []
  control : {w h w' h' : ℕ} {k l : List Step} → w ≤ w' → h ≤ h' → Grown k l → Grown (W w h ∷ k) (W w' h' ∷ l)
  end : {k l : List Step} → Grown k l → Grown (E ∷ k) (E ∷ l)

-- A frame: its left top corner, and its size.
pub record Box : Type 0 where
  pub left : ℕ
  pub top : ℕ
  pub width : ℕ
  pub height : ℕ

abbrev pub box : ℕ → ℕ → ℕ → ℕ → Box
box x y w h = record { left = x; top = y; width = w; height = h }

-- b starts no further left and no higher than a, and is no narrower and no less tall.
pub record NoLess (a b : Box) : Type 0 where
  pub left : a.left ≤ b.left
  pub top : a.top ≤ b.top
  pub width : a.width ≤ b.width
  pub height : a.height ≤ b.height

-- ---- grids

-- max_rect's left top corner, the minimum cell, the spacing, and the start row
pub record Heading : Type 0 where
  pub left : ℕ
  pub top : ℕ
  pub min_w : ℕ
  pub min_h : ℕ
  pub gap_x : ℕ
  pub gap_y : ℕ
  pub start : ℕ

pub record Memory : Type 0 where
  pub cols : List ℕ
  pub rows : List ℕ

unfoldable pub nothing : Memory
nothing = record { cols = []; rows = [] }

-- a list raised at a place, which zeros lengthen first if it does not reach there
unfoldable pub lift : List ℕ → ℕ → ℕ → List ℕ
lift [] zero v = v ∷ []
lift [] (suc i) v = zero ∷ lift [] i v
lift (x ∷ l) zero v = max x v ∷ l
lift (x ∷ l) (suc i) v = x ∷ lift l i v

pub record State : Type 0 where
  pub col : ℕ
  pub row : ℕ
  pub x : ℕ
  pub y : ℕ
  pub cols : List ℕ
  pub rows : List ℕ

unfoldable pub begin : Heading → State
begin g = record { col = 0; row = g.start; x = g.left; y = g.top; cols = []; rows = [] }

-- the height of a control's rectangle once its edges are rounded, by its frame's top, its frame's height and its own height
abbrev pub Rounding : Type 0
Rounding = ℕ → ℕ → ℕ → ℕ

-- a rounded rectangle stays in its frame, and is no lower than the control
unfoldable pub InBounds : Rounding → Type 0
InBounds tall = (y H h : ℕ) → h ≤ H → (h ≤ tall y H h) × (tall y H h ≤ H)

module _ (tall : Rounding) (g : Heading) (m : Memory) where
  unfoldable pub cell : State → ℕ → ℕ → Box
  cell s w h = box s.x s.y (max w (get_or m.cols s.col 0)) (max h (get_or m.rows s.row g.min_h))

  unfoldable pub after_w : State → ℕ → ℕ → State
  after_w s w h = record {
    col = suc s.col;
    row = s.row;
    x = s.x + get_or m.cols s.col g.min_w + g.gap_x;
    y = s.y;
    cols = lift s.cols s.col (max w g.min_w);
    rows = lift s.rows s.row (max (tall s.y (max h (get_or m.rows s.row g.min_h)) h) g.min_h);
  }

  unfoldable pub after_e : State → State
  after_e s = record { col = 0; row = suc s.row; x = g.left; y = s.y + g.gap_y + get_or s.rows s.row g.min_h; cols = s.cols; rows = s.rows }

  -- the frames of the records from here on, and the state after them
  unfoldable pub frames : State → List Step → List Box
  unfolding cell after_w after_e
  frames s [] = []
  frames s (W w h ∷ l) = cell s w h ∷ frames (after_w s w h) l
  frames s (E ∷ l) = frames (after_e s) l

  unfoldable pub final : State → List Step → State
  unfolding after_w after_e
  final s [] = s
  final s (W w h ∷ l) = final (after_w s w h) l
  final s (E ∷ l) = final (after_e s) l

-- what a pass gives
pub record Pass : Type 0 where
  pub frames : List Box
  pub memory : Memory

unfoldable pub grid_pass : Rounding → Heading → List Step → Memory → Pass
unfolding begin frames final
grid_pass tall g l m = record {
  frames = frames tall g m (begin g) l;
  memory = record { cols = (final tall g m (begin g) l).cols; rows = (final tall g m (begin g) l).rows };
}
