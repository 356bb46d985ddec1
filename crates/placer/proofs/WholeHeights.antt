-- The heights of a pass stay whole: after an accepted `advance_after_rects` past a widget in whole steps, and after every `end_row`, a grid
-- whose heights were whole has whole heights. For steps of 1 to 1/64 point. Assumes nothing.
use mathlib.Core.Path.{◌≡◌, refl}
use mathlib.Core.Bool.{Bool, true, false, not, cond, ◌&&◌}
use mathlib.Core.List.{List, [], ◌∷◌}
use Prim.Native.Nat.{ℕ, zero, suc, ◌+◌, ◌≤◌, ◌<◌}
use native.Mathlib.Omega.{arith}
use lib.Dec.{T, ltb, ltb→lt, nltb→le}
use lib.ListN.{length, take, get_or, length-take}
use lib.Ieee.{Float, nan, lt}
use Rattle.emath.specs.Rectangles.{zero_f, max_f, width, height}
use Rattle.emath.specs.Domain.{within, finite}
use Rattle.emath.specs.Refusals.{when, least, length_fault, extent_fault}
use Rattle.emath.specs.Steps.{Edge}
use Rattle.emath.proofs.Tests.{T_of}
use Rattle.emath.proofs.Refusals.{lesser-none, when-none}
use Rattle.emath.proofs.Sums.{grid-edge, grid-sub}
use Rattle.region.specs.Regions as regions
use Rattle.region.specs.Steps.{WholeRect}
use Rattle.grid.specs.Entries.{entry, raised, entries_fault}
use Rattle.grid.specs.Memories.{heights, raised_count, set_min_col_width, set_min_row_height, row_height}
use Rattle.grid.specs.Grids as grid-rules
use Rattle.grid.specs.Grids.{noted}
use Rattle.grid.specs.Refusals.{memory_fault, grid_fault}
use Rattle.grid.proofs.Remembered.{raised-same, raised-kept, raised-skipped, raised-none, entry-none, entry-there}
use Rattle.grid.proofs.Advances.{Sound, row-without-cell}
use Rattle.placer.specs.Refusals.{placer_fault}
use Rattle.placer.specs.Rules.{moved_past, advance_after_rects, expand_to_include_rect, set_cursor, end_row}
use Rattle.placer.specs.Steps.{WholeDown}
use Rattle.placer.proofs.Answers.{placer-grid}
use Rattle.placer.proofs.WholePlacers.{WholeIf, max-whole-if, zero-whole-if}
use Rattle.emath.specs.declared.Rect.{Rect}
use Rattle.emath.specs.declared.Vec2.{Vec2}
use Rattle.grid.specs.declared.Memory.{Memory}
use Rattle.grid.specs.declared.GridLayout.{GridLayout}
use Rattle.placer.specs.declared.Placer.{Placer}

-- ---- what is remembered without a fault is within the limit
extent-within : (x : Float) → extent_fault x ≡ 0 → T (within x)
unfolding extent_fault length_fault least
extent-within x h = T_of (when-none (within x) 4 (lesser-none (when (not (finite x)) 4) (when (not (within x)) 5) (lesser-none (length_fault x) (when (lt x zero_f) 6) h).0).1)

entry-within : (vs : List Float) (i : ℕ) → entries_fault vs ≡ 0 → i < length vs → T (within (get_or vs i nan))
unfolding entries_fault
entry-within [] i h l = absurd (omega arith)
entry-within (v ∷ vs) zero h l = extent-within v (lesser-none (extent_fault v) (entries_fault vs) h).0
entry-within (v ∷ vs) (suc i) h l = entry-within vs i (lesser-none (extent_fault v) (entries_fault vs) h).1 (omega arith)

data Place (i n : ℕ) : Type 0 where
  there : i < n → Place i n
  beyond : n ≤ i → Place i n

place : (i n : ℕ) → Place i n
place i n = go (ltb i n) (ltb→lt i n) (nltb→le i n)
  where
    go : (b : Bool) → (T b → i < n) → (T (not b) → n ≤ i) → Place i n
    go true y z = there (y tt)
    go false y z = beyond (z tt)

-- the fault of this pass's heights
heights-none : (g : GridLayout) → grid_fault g ≡ 0 → entries_fault (heights g.curr_state) ≡ 0
unfolding grid_fault memory_fault least
heights-none g h =
    let a = (lesser-none (memory_fault g.prev_state) _ h).1 in
    let b = (lesser-none (memory_fault g.curr_state) _ a).0 in
    (lesser-none (entries_fault (heights g.curr_state)) _ (lesser-none (entries_fault (take g.curr_state.cols g.curr_state.col_widths)) _ b).1).0

module _ (k : ℕ) (l : k ≤ 6) where
  -- ---- a height raised among whole ones
  module _ (xs : List Float) (n i : ℕ) (w other : Float) (N : n ≤ length xs) (I : i < length xs) (f : (j : ℕ) → WholeIf k (entry (take n xs) j other)) (e : WholeIf k w) where
    own-if : WholeIf k (entry (take n xs) i zero_f)
    own-if = go (place i n)
      where
        go : Place i n → WholeIf k (entry (take n xs) i zero_f)
        go (there h) =
            let m : i < length (take n xs) = simp length-take (omega arith) in
            rw (entry-there (take n xs) i zero_f m) (rw (entry-there (take n xs) i other m) at (f i))
        go (beyond h) = rw (entry-none (take n xs) i zero_f (simp length-take (omega arith))) (zero-whole-if k l)

    -- no entry is past both the count and the raised one
    past : (j : ℕ) → i < j → n ≤ j → j < raised_count n (i + 1) → ⊥
    unfolding raised_count
    past j b c d = up (ltb n (i + 1)) d
      where
        up : (t : Bool) → j < cond t (i + 1) n → ⊥
        up true h = omega arith
        up false h = omega arith

    raised-if : (j : ℕ) → WholeIf k other → WholeIf k (entry (take (raised_count n (i + 1)) (raised xs n i w)) j other)
    raised-if j o = go (place j i) (place i j) (place j n) (place j (raised_count n (i + 1)))
      where
        go : Place j i → Place i j → Place j n → Place j (raised_count n (i + 1)) → WholeIf k (entry (take (raised_count n (i + 1)) (raised xs n i w)) j other)
        go a b c (beyond d) = rw (raised-none xs n i w N I j other d) o
        go (there a) b (there c) (there d) = rw (raised-kept xs n i w N I j other c (λ (q : j ≡ i). omega arith)) (f j)
        go (there a) b (beyond c) (there d) = rw (raised-skipped xs n i w N I j other c a) (zero-whole-if k l)
        go (beyond a) (there b) (there c) (there d) = rw (raised-kept xs n i w N I j other c (λ (q : j ≡ i). omega arith)) (f j)
        go (beyond a) (there b) (beyond c) (there d) = absurd (past j b c d)
        go (beyond a) (beyond b) c (there d) = let q : j ≡ i = omega arith in rw q (rw (raised-same xs n i w N I other) (max-whole-if k l own-if e))

  -- ---- a pass's heights after a cell
  below-if : (m : Memory) (row : ℕ) (h other : Float) → length m.row_heights ≡ 128 → m.rows ≤ 128 → ((j : ℕ) → WholeIf k (row_height m j other)) → WholeIf k other → WholeIf k h → (j : ℕ) → WholeIf k (row_height (set_min_row_height m row h) j other)
  unfolding row_height set_min_row_height
  below-if m row h other R M f o e j = go (ltb row 128) (ltb→lt row 128)
    where
      go : (b : Bool) → (T b → row < 128) → WholeIf k (entry (heights (cond b (record { col_widths = m.col_widths; cols = m.cols; row_heights = raised m.row_heights m.rows row h; rows = raised_count m.rows (row + 1) }) m)) j other)
      go true y = raised-if m.row_heights m.rows row h other (omega arith) (let q : row < 128 = y tt in omega arith) f e j o
      go false y = f j

  noted-if : (g : GridLayout) (v : Rect) → Sound g.curr_state → WholeDown k g → WholeRect k v → (j : ℕ) → WholeIf k (row_height (noted g v) j g.min_cell_size.y)
  unfolding noted set_min_col_width row_height
  noted-if g v s d r j = go (ltb g.col 32)
    where
      m : Memory
      m = g.curr_state

      y : Float
      y = g.min_cell_size.y

      w : Float
      w = max_f (width v) g.min_cell_size.x

      h : Float
      h = max_f (height v) y

      other : WholeIf k y
      other t = rw (row-without-cell m m.rows y (omega arith)) at (d.heights m.rows)

      down : WholeIf k h
      down = max-whole-if k l (λ (t : T (within (height v))). grid-edge k (omega arith) (grid-sub k (omega arith) r.bottom r.top) t) other

      all : (j : ℕ) → WholeIf k (row_height m j y)
      all j t = d.heights j

      go : (b : Bool) → WholeIf k (row_height (set_min_row_height (cond b (record { col_widths = raised m.col_widths m.cols g.col w; cols = raised_count m.cols (g.col + 1); row_heights = m.row_heights; rows = m.rows }) m) g.row h) j y)
      go true = below-if (record { col_widths = raised m.col_widths m.cols g.col w; cols = raised_count m.cols (g.col + 1); row_heights = m.row_heights; rows = m.rows }) g.row h y s.rows-room s.rows_few all other down j
      go false = below-if m g.row h y s.rows-room s.rows_few all other down j

  -- ---- whole wherever it is within the limit, and within it where there is no fault
  down-whole : (g : GridLayout) → grid_fault g ≡ 0 → Edge k g.min_cell_size.y → Edge k g.spacing.y → ((j : ℕ) → WholeIf k (row_height g.curr_state j g.min_cell_size.y)) → WholeDown k g
  unfolding row_height
  down-whole g h o s f = record { heights = all; gap = s }
    where
      vs : List Float
      vs = heights g.curr_state

      all : (j : ℕ) → Edge k (entry vs j g.min_cell_size.y)
      all j = go (place j (length vs))
        where
          go : Place j (length vs) → Edge k (entry vs j g.min_cell_size.y)
          go (there i) = f j (rw (entry-there vs j g.min_cell_size.y i) (entry-within vs j (heights-none g h) i))
          go (beyond i) = rw (entry-none vs j g.min_cell_size.y i) o

  pub advance-heights : (g : GridLayout) (c v : Rect) → Sound g.curr_state → WholeDown k g → WholeRect k v → grid_fault (grid-rules.advance g c v).grid ≡ 0 → WholeDown k (grid-rules.advance g c v).grid
  unfolding grid-rules.advance grid-rules.advanced
  advance-heights g c v s d r h = go (ltb g.col 32 && ltb g.row 128) h
    where
      min : Edge k g.min_cell_size.y
      min = rw (row-without-cell g.curr_state g.curr_state.rows g.min_cell_size.y (omega arith)) at (d.heights g.curr_state.rows)

      go : (b : Bool) → grid_fault (cond b (grid-rules.advanced g c v) (record { grid = g; cursor = c })).grid ≡ 0 → WholeDown k (cond b (grid-rules.advanced g c v) (record { grid = g; cursor = c })).grid
      go true h = down-whole (grid-rules.advanced g c v).grid h min d.gap (noted-if g v s d r)
      go false h = d

  pub end-row-heights : (g : GridLayout) (c : Rect) → WholeDown k g → WholeDown k (grid-rules.end_row g c).grid
  unfolding grid-rules.end_row grid-rules.row_ended
  end-row-heights g c d = go (ltb g.row 128)
    where
      go : (b : Bool) → WholeDown k (cond b (grid-rules.row_ended g c) (record { grid = g; cursor = c })).grid
      go true = record { heights = d.heights; gap = d.gap }
      go false = d

  -- ---- the placer's calls
  pub advance-after-rects-down : (p : Placer) (f v : Rect) (sp : Vec2) → p.has_grid ≡ true → Sound p.grid.curr_state → WholeDown k p.grid → WholeRect k v
      → placer_fault (advance_after_rects p f v sp) ≡ 0 → WholeDown k (advance_after_rects p f v sp).grid
  unfolding advance_after_rects moved_past set_cursor expand_to_include_rect
  advance-after-rects-down p f v sp g s d r h = rw g (advance-heights p.grid p.region.cursor v s d r
      (placer-grid (record { has_grid = true; grid = (grid-rules.advance p.grid p.region.cursor v).grid; layout = p.layout; region = regions.expand_to_include_rect (regions.with_cursor p.region (grid-rules.advance p.grid p.region.cursor v).cursor) f }) refl (rw g at h)))

  pub end-row-down : (p : Placer) (sp : Vec2) → p.has_grid ≡ true → WholeDown k p.grid → WholeDown k (end_row p sp).grid
  unfolding end_row set_cursor
  end-row-down p sp g d = rw g (end-row-heights p.grid p.region.cursor d)
