-- RULES 1.1, 2.3: a region whose edges an f32 holds, as every region of the code is.
use Rattle.emath.specs.Binary32.{RectF32}
use Rattle.region.specs.declared.Region.{Region}

-- RULES 1.1, 2.3: all three rectangles
pub record RegionF32 (g : Region) : Type 0 where
  pub inner : RectF32 g.min_rect
  pub outer : RectF32 g.max_rect
  pub cursor : RectF32 g.cursor
