-- Calls other than an advance, an end of row and set_grid leave the grid alone: its memories, column and row. And an advance or an end of
-- row leaves the memory that the pass was given alone. Assumes nothing.
use mathlib.Core.Path.{◌≡◌, refl}
use mathlib.Core.Bool.{Bool, true, false, cond, ◌&&◌}
use Prim.Native.Nat.{ℕ}
use lib.Dec.{ltb}
use lib.Ieee.{Float, le}
use Rattle.emath.specs.Rectangles.{zero_f}
use Rattle.emath.specs.declared.Rect.{Rect}
use Rattle.grid.specs.Grids as grid-rules
use Rattle.grid.specs.declared.GridLayout.{GridLayout}
use Rattle.placer.specs.Rules.{with_region, force_set_min_rect, set_cursor, advance_cursor, set_row_height, expand_to_include_rect, expand_to_include_x, expand_to_include_y, set_max_width, set_max_height, grown_across, grown_down, set_min_width, set_min_height, next_widget_space_ignore_wrap_justify}
use Rattle.placer.specs.declared.Placer.{Placer}

module _ (p : Placer) where
  pub force-set-min-rect-keeps : (m : Rect) → (force_set_min_rect p m).grid ≡ p.grid
  unfolding force_set_min_rect
  force-set-min-rect-keeps m = refl

  pub set-cursor-keeps : (c : Rect) → (set_cursor p c).grid ≡ p.grid
  unfolding set_cursor
  set-cursor-keeps c = refl

  pub advance-cursor-keeps : (a : Float) → (advance_cursor p a).grid ≡ p.grid
  unfolding advance_cursor
  advance-cursor-keeps a = refl

  pub set-row-height-keeps : (h : Float) → (set_row_height p h).grid ≡ p.grid
  unfolding set_row_height
  set-row-height-keeps h = refl

  pub expand-rect-keeps : (r : Rect) → (expand_to_include_rect p r).grid ≡ p.grid
  unfolding expand_to_include_rect
  expand-rect-keeps r = refl

  pub expand-x-keeps : (x : Float) → (expand_to_include_x p x).grid ≡ p.grid
  unfolding expand_to_include_x
  expand-x-keeps x = refl

  pub expand-y-keeps : (y : Float) → (expand_to_include_y p y).grid ≡ p.grid
  unfolding expand_to_include_y
  expand-y-keeps y = refl

  pub set-max-width-keeps : (k : ℕ) (w : Float) → (set_max_width k p w).grid ≡ p.grid
  unfolding set_max_width
  set-max-width-keeps k w = refl

  pub set-max-height-keeps : (k : ℕ) (h : Float) → (set_max_height k p h).grid ≡ p.grid
  unfolding set_max_height
  set-max-height-keeps k h = refl

  pub set-min-width-keeps : (k : ℕ) (w : Float) → (set_min_width k p w).grid ≡ p.grid
  unfolding set_min_width grown_across expand_to_include_x
  set-min-width-keeps k w = go (le w zero_f)
    where
      go : (b : Bool) → (cond b p (grown_across p (next_widget_space_ignore_wrap_justify k p (record { x = w; y = zero_f })))).grid ≡ p.grid
      go true = refl
      go false = refl

  pub set-min-height-keeps : (k : ℕ) (h : Float) → (set_min_height k p h).grid ≡ p.grid
  unfolding set_min_height grown_down expand_to_include_y
  set-min-height-keeps k h = go (le h zero_f)
    where
      go : (b : Bool) → (cond b p (grown_down p (next_widget_space_ignore_wrap_justify k p (record { x = zero_f; y = h })))).grid ≡ p.grid
      go true = refl
      go false = refl

-- ---- nothing but the region
module _ (k : ℕ) (p : Placer) where
  pub min-width-region : (w : Float) → with_region p (set_min_width k p w).region ≡ set_min_width k p w
  unfolding set_min_width grown_across expand_to_include_x
  min-width-region w = go (le w zero_f)
    where
      go : (b : Bool) → with_region p (cond b p (grown_across p (next_widget_space_ignore_wrap_justify k p (record { x = w; y = zero_f })))).region ≡ cond b p (grown_across p (next_widget_space_ignore_wrap_justify k p (record { x = w; y = zero_f })))
      go true = refl
      go false = refl

  pub min-height-region : (h : Float) → with_region p (set_min_height k p h).region ≡ set_min_height k p h
  unfolding set_min_height grown_down expand_to_include_y
  min-height-region h = go (le h zero_f)
    where
      go : (b : Bool) → with_region p (cond b p (grown_down p (next_widget_space_ignore_wrap_justify k p (record { x = zero_f; y = h })))).region ≡ cond b p (grown_down p (next_widget_space_ignore_wrap_justify k p (record { x = zero_f; y = h })))
      go true = refl
      go false = refl

-- ---- the memory that the pass was given
pub advance-keeps-given : (g : GridLayout) (c w : Rect) → (grid-rules.advance g c w).grid.prev_state ≡ g.prev_state
unfolding grid-rules.advance grid-rules.advanced
advance-keeps-given g c w = go (ltb g.col 32 && ltb g.row 128)
  where
    go : (b : Bool) → (cond b (grid-rules.advanced g c w) (record { grid = g; cursor = c })).grid.prev_state ≡ g.prev_state
    go true = refl
    go false = refl

pub end-row-keeps-given : (g : GridLayout) (c : Rect) → (grid-rules.end_row g c).grid.prev_state ≡ g.prev_state
unfolding grid-rules.end_row grid-rules.row_ended
end-row-keeps-given g c = go (ltb g.row 128)
  where
    go : (b : Bool) → (cond b (grid-rules.row_ended g c) (record { grid = g; cursor = c })).grid.prev_state ≡ g.prev_state
    go true = refl
    go false = refl
