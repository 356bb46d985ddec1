-- A placer without fault: the number of the next one is that of what a call changes, the region and in an advance the entries that it
-- raises. Assumes nothing.
use mathlib.Core.Path.{◌≡◌, refl, sym, ap, ◌∙◌}
use mathlib.Core.Bool.{Bool, true, false, cond, not, ◌&&◌}
use mathlib.Core.List.{[], ◌∷◌}
use Prim.Native.Nat.{ℕ, ◌<◌}
use native.Mathlib.Omega.{arith}
use lib.Dec.{T, leb, nleb→lt}
use lib.ListN.{length}
use Rattle.emath.specs.Refusals.{when, lesser, least, or_else, outside}
use Rattle.emath.specs.Implementation.NoNaN.{Numbers}
use Rattle.emath.proofs.Refusals.{lesser-none, lesser-zero, zero-lesser, rect-none, edges-numbers}
use Rattle.region.specs.Refusals.{region_fault}
use Rattle.region.proofs.Answers.{region-none}
use Rattle.grid.specs.Refusals.{grid_fault, direction_fault}
use Rattle.grid.proofs.Unfaulted.{advance-fault, end-row-fault}
use Rattle.placer.specs.Rules.{with_region, set_cursor, expand_to_include_rect, moved_past, advance_after_rects, end_row}
use Rattle.placer.specs.Refusals.{grid_part, placer_fault, advance_fault, placer_answer, changed_placer}
use Rattle.placer.specs.Implementation.Lent.{raised_part, past_part}
use Rattle.placer.proofs.Answers.{placer-region}
use Rattle.placer.proofs.Parts.{ended, row-ended}
use Rattle.emath.specs.declared.Rect.{Rect}
use Rattle.emath.specs.declared.Vec2.{Vec2}
use Rattle.region.specs.declared.Region.{Region}
use Rattle.placer.specs.declared.Placer.{Placer}

-- ---- a call that sets the region anew
module _ (p : Placer) (none : placer_fault p ≡ 0) where
  grid-none : grid_part p ≡ 0
  grid-none = (lesser-none (region_fault p.layout.main_dir p.region) (grid_part p) (unfold placer_fault least in none)).1

  pub region-fault : (r : Region) → placer_fault (with_region p r) ≡ region_fault p.layout.main_dir r
  unfolding placer_fault least grid_part
  region-fault r = let h : cond p.has_grid (least (grid_fault p.grid ∷ direction_fault p.layout.main_dir ∷ [])) 0 ≡ 0 = grid-none in rw h (lesser-zero (region_fault p.layout.main_dir r))

  -- its rectangles have no NaN
  pub region-numbers : Numbers p.region.min_rect × Numbers p.region.max_rect
  region-numbers =
      let r = region-none p.layout.main_dir p.region (placer-region p none) in
      (edges-numbers _ (rect-none _ r.0).0, edges-numbers _ (rect-none _ r.1).0)

  -- what a call answers, with its new placer's number known
  pub changed-is : (before n : ℕ) (new : Placer) → placer_fault new ≡ n → changed_placer (least (placer_fault p ∷ before ∷ [])) p new ≡ placer_answer (or_else before (outside n)) p new
  unfolding changed_placer least
  changed-is before n new e = rw (none, zero-lesser, e)

  -- ---- in a grid
  module _ (on : p.has_grid ≡ true) where
    parts_none : (grid_fault p.grid ≡ 0) × (direction_fault p.layout.main_dir ≡ 0)
    parts_none =
        let h : cond p.has_grid (lesser (grid_fault p.grid) (direction_fault p.layout.main_dir)) 0 ≡ 0 = unfold grid_part least in grid-none in
        lesser-none (grid_fault p.grid) (direction_fault p.layout.main_dir) (rw on at h)

    pub row-ended-fault : (sp : Vec2) → placer_fault (end_row p sp) ≡ region_fault p.layout.main_dir (end_row p sp).region
    unfolding end_row set_cursor placer_fault grid_part least
    row-ended-fault sp =
        rw (on, end-row-fault p.grid p.region.cursor p.region.cursor parts_none.0, parts_none.1, zero-lesser) (lesser-zero _)

    -- what an end of row answers
    pub row-ended-is : (before : ℕ) (sp : Vec2)
        → placer_answer (or_else before (outside (region_fault p.layout.main_dir (ended p).region))) p (ended p) ≡ changed_placer (least (placer_fault p ∷ before ∷ [])) p (end_row p sp)
    row-ended-is before sp =
        ap (λ (q : Placer). placer_answer (or_else before (outside (region_fault p.layout.main_dir q.region))) p q) (row-ended p sp on)
        ∙ sym (changed-is before (region_fault p.layout.main_dir (end_row p sp).region) (end_row p sp) (row-ended-fault sp))

    past-grid-fault : (f w : Rect) (sp : Vec2) → length p.grid.curr_state.col_widths ≡ 32 → length p.grid.curr_state.row_heights ≡ 128 → p.grid.col < 32 → p.grid.row < 128
        → placer_fault (advance_after_rects p f w sp) ≡ past_part p (advance_after_rects p f w sp).region w
    unfolding advance_after_rects expand_to_include_rect moved_past set_cursor placer_fault grid_part least past_part raised_part
    past-grid-fault f w sp W H h l =
        rw (on, advance-fault p.grid p.region.cursor w parts_none.0 W H h l, parts_none.1) (rw lesser-zero refl)

-- ---- an advance
below : (n room : ℕ) → when (true && leb room n) 8 ≡ 0 → n < room
below n room h = go (leb room n) (nleb→lt room n) h
  where
    go : (b : Bool) → (T (not b) → n < room) → when b 8 ≡ 0 → n < room
    go true f e = absurd (let z : ◌≡◌ {A = ℕ} 8 0 = e in omega arith)
    go false f e = f tt

record Room (p : Placer) : Type 0 where
  pub col : p.grid.col < 32
  pub row : p.grid.row < 128

room-left : (p : Placer) → p.has_grid ≡ true → advance_fault p ≡ 0 → Room p
unfolding advance_fault least
room-left p on h =
    let a = lesser-none (when (true && leb 32 p.grid.col) 8) (when (true && leb 128 p.grid.row) 8) (rw on at h) in
    record { col = below p.grid.col 32 a.0; row = below p.grid.row 128 a.1 }

-- without a grid
past-plain-fault : (p : Placer) (f w : Rect) (sp : Vec2) → p.has_grid ≡ false → placer_fault (advance_after_rects p f w sp) ≡ past_part p (advance_after_rects p f w sp).region w
unfolding advance_after_rects expand_to_include_rect moved_past set_cursor placer_fault grid_part least past_part raised_part
past-plain-fault p f w sp off = rw off

pub past-fault : (p : Placer) (f w : Rect) (sp : Vec2) → placer_fault p ≡ 0 → length p.grid.curr_state.col_widths ≡ 32 → length p.grid.curr_state.row_heights ≡ 128 → advance_fault p ≡ 0
    → placer_fault (advance_after_rects p f w sp) ≡ past_part p (advance_after_rects p f w sp).region w
past-fault p f w sp none W H room = go p.has_grid refl
  where
    go : (b : Bool) → p.has_grid ≡ b → placer_fault (advance_after_rects p f w sp) ≡ past_part p (advance_after_rects p f w sp).region w
    go true e = let r = room-left p e room in past-grid-fault p none e f w sp W H r.col r.row
    go false e = past-plain-fault p f w sp e
