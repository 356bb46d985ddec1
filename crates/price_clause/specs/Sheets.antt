-- RULES 10.3, 10.4: the words of the price clause about two sheets, their frames and their plates.
use Rattle.std.specs.Prelude.{◌≡◌, true, false, List, [], ◌∷◌, ℕ, get_or, ◌≤ℤ◌, Float}
use Rattle.std.specs.Float.Ieee.{le}
use Rattle.emath.specs.Rectangles.{zero_f}
use Rattle.emath.specs.declared.Align.{Align}
use Rattle.region.specs.Refusals.{zero_rect}
use Rattle.layout.specs.Strips.{strip}
use Rattle.records.specs.declared.Step.{Step}
use Rattle.records.specs.declared.Step.TheVariants.{Widget, RowEnd}
use Rattle.sheet.specs.Pass.{Sheet, Cell}
use Rattle.sheet.specs.Ticks.{Ticks, in_ticks, width, height}

-- ---- RULES 10.3: two sheets
-- the same records one by one, controls and row ends only, no control of the second smaller on either axis than the first's in its place
pub data Grown : List Step → List Step → Type 0 where
  none : Grown [] []
  control : {w h w' h' : Float} {a b : List Step} → le w w' ≡ true → le h h' ≡ true → Grown a b → Grown (Widget w h ∷ a) (Widget w' h' ∷ b)
  row_end : {a b : List Step} → Grown a b → Grown (RowEnd ∷ a) (RowEnd ∷ b)

-- RULES 10.3: under the same heading
pub record GrownSheet (a b : Sheet) : Type 0 where
  pub heading : a.heading ≡ b.heading
  pub steps : Grown a.steps b.steps

-- RULES 10.3: neither spacing is below 0
pub record NoNegativeSpacing (s : Sheet) : Type 0 where
  pub across : le zero_f s.heading.spacing.x ≡ true
  pub down : le zero_f s.heading.spacing.y ≡ true

-- RULES 10.3: a strip: the main align alone is free, every other field of its layout is 0; and there is no G
pub record Strip (s : Sheet) : Type 0 where
  pub align : Align
  pub is : s.heading.layout ≡ strip align
  pub no-grid : s.heading.has_grid ≡ false

-- ---- RULES 10.4: frames and plates in ticks
-- a frame b beside a frame a: neither its start nor its extent is less, on either axis
pub record FrameNoLess (a b : Ticks) : Type 0 where
  pub left : a.left ≤ℤ b.left
  pub top : a.top ≤ℤ b.top
  pub width : width a ≤ℤ width b
  pub height : height a ≤ℤ height b

-- RULES 10.4: so the frame of a W d beside that of a W c
abbrev pub CellNoLess : ℕ → Cell → Cell → Type 0
CellNoLess k c d = FrameNoLess (in_ticks k c.frame) (in_ticks k d.frame)

-- RULES 10.4: a plate b beside a plate a: what is sold is the extent
pub record PlateNoLess (a b : Ticks) : Type 0 where
  pub width : width a ≤ℤ width b
  pub height : height a ≤ℤ height b

-- RULES 10.4: two rectangles with one left top corner; and two plates p and q that have that of their first frames, f and g
pub record OneCorner (a b : Ticks) : Type 0 where
  pub left : a.left ≡ b.left
  pub top : a.top ≡ b.top

pub record AtFirstFrames (p f q g : Ticks) : Type 0 where
  pub first : OneCorner p f
  pub second : OneCorner q g
  pub both : OneCorner p q

-- RULES 10.4: W number n's rectangles among those of a pass, and the first frame
abbrev pub cell_at : List Cell → ℕ → Cell
cell_at cells n = get_or cells n (record { frame = zero_rect; widget = zero_rect })

abbrev pub first_frame : ℕ → List Cell → Ticks
first_frame k cells = in_ticks k (cell_at cells 0).frame
