-- An advance and an end of row by their parts: the grid, the cursor and the region. Assumes nothing.
use mathlib.Core.Path.{◌≡◌, refl}
use mathlib.Core.Bool.{Bool, true, false, cond}
use Rattle.emath.specs.declared.Rect.{Rect}
use Rattle.emath.specs.declared.Vec2.{Vec2}
use Rattle.region.specs.Regions as regions
use Rattle.layout.specs.Rules as layout-rules
use Rattle.region.specs.Regions.{with_cursor}
use Rattle.region.specs.declared.Region.{Region}
use Rattle.grid.specs.Grids as grid-rules
use Rattle.placer.specs.Rules.{set_grid, with_region, set_cursor, expand_to_include_rect, moved_past, advance_after_rects, end_row}
use Rattle.placer.specs.Implementation.Lent.{placer_with}
use Rattle.placer.specs.declared.Placer.{Placer}

module _ (p : Placer) (f w : Rect) (sp : Vec2) where
  abbrev moved : Bool → Placer
  moved b =
      cond b
      (set_grid (set_cursor p (grid-rules.advance p.grid p.region.cursor w).cursor) (grid-rules.advance p.grid p.region.cursor w).grid)
      (set_cursor p (layout-rules.advance_after_rects p.layout p.region.cursor f w sp))

  moved_cursor : (b : Bool) → with_cursor p.region (moved b).region.cursor ≡ (moved b).region
  unfolding set_cursor
  moved_cursor true = refl
  moved_cursor false = refl

  pub region-past : regions.expand_to_include_rect (with_cursor p.region (moved_past p f w sp).region.cursor) f ≡ (advance_after_rects p f w sp).region
  unfolding advance_after_rects expand_to_include_rect moved_past
  region-past = rw (moved_cursor p.has_grid)

  pub past-grid : (r : Region) → p.has_grid ≡ true → r ≡ (advance_after_rects p f w sp).region
      → placer_with p.has_grid (grid-rules.advance p.grid p.region.cursor w).grid p.layout r ≡ advance_after_rects p f w sp
  unfolding advance_after_rects expand_to_include_rect moved_past set_cursor
  past-grid r on e = rw (e, on)

  pub past-plain : (r : Region) → p.has_grid ≡ false → r ≡ (advance_after_rects p f w sp).region → placer_with p.has_grid p.grid p.layout r ≡ advance_after_rects p f w sp
  unfolding advance_after_rects expand_to_include_rect moved_past set_cursor
  past-plain r off e = rw (e, off)

abbrev pub ended : Placer → Placer
ended p =
    placer_with p.has_grid (grid-rules.end_row p.grid p.region.cursor).grid p.layout
    (with_cursor p.region (grid-rules.end_row p.grid p.region.cursor).cursor)

pub row-ended : (p : Placer) (sp : Vec2) → p.has_grid ≡ true → ended p ≡ end_row p sp
unfolding end_row set_cursor
row-ended p sp on = rw on

pub row-ended-plain : (p : Placer) (sp : Vec2) → p.has_grid ≡ false → end_row p sp ≡ with_region p (layout-rules.end_row p.layout p.region sp)
unfolding end_row
row-ended-plain p sp off = rw off
