-- A column's width, record by record: it is raised by each control of that column, to the control's own width or the minimum, and by
-- nothing else, whatever memory the pass was given. Assumes nothing.
use Prim.Native.Nat.{ℕ, zero, suc, ◌+◌, ◌≤◌, ◌<◌}
use mathlib.Core.Path.{◌≡◌, refl, ap, sym, ◌∙◌}
use mathlib.Core.Bool.{Bool, true, false, cond}
use mathlib.Core.List.{List}
use native.Mathlib.Omega.{arith}
use lib.Dec.{eqb, ltb}
use borrow.Author.Tests.{ltb-true, ltb-false, eqb-true, eqb-false}
use lib.ListN.{length, take, length-take}
use lib.Ieee.{Float}
use Rattle.emath.specs.Rectangles.{zero_f, max_f, width}
use Rattle.emath.proofs.Tests.{is_lt}
use Rattle.emath.specs.declared.Rect.{Rect}
use Rattle.grid.specs.Entries.{entry, raised}
use Rattle.grid.specs.Memories.{col_width, set_min_col_width, set_min_row_height, raised_count, widths}
use Rattle.grid.specs.Grids.{noted}
use Rattle.grid.proofs.Remembered.{entry-none, raised-same, raised-kept, raised-skipped, raised-none}
use Rattle.grid.proofs.Advances.{Sound}
use Rattle.grid.specs.declared.Memory.{Memory}
use Rattle.grid.specs.declared.GridLayout.{GridLayout}

-- ---- one entry more: an entry that is not counted is 0 here
count-least : (n m j : ℕ) → n ≤ j → m ≤ j → raised_count n m ≤ j
unfolding raised_count
count-least n m j p q = go (ltb n m)
  where
    go : (b : Bool) → cond b m n ≤ j
    go true = q
    go false = p

pub count-reaches : (n m : ℕ) → m ≤ raised_count n m
unfolding raised_count
count-reaches n m = go (ltb n m) refl
  where
    go : (b : Bool) → ltb n m ≡ b → m ≤ cond b m n
    go true e = omega arith
    go false e = ltb-false n m e

pub count-grows : (n m : ℕ) → n ≤ raised_count n m
unfolding raised_count
count-grows n m = go (ltb n m) refl
  where
    go : (b : Bool) → ltb n m ≡ b → n ≤ cond b m n
    go true e = omega (arith, ltb-true n m e)
    go false e = omega arith

above : (j i : ℕ) → i ≤ j → (j ≡ i → ⊥) → i + 1 ≤ j
above zero zero h d = absurd (d refl)
above zero (suc i) h d = absurd (omega arith)
above (suc j) zero h d = omega arith
above (suc j) (suc i) h d = let r : i + 1 ≤ j = above j i (omega arith) (λ (e : j ≡ i). d (ap suc e)) in omega arith

module _ (xs : List Float) (n i : ℕ) (w : Float) (N : n ≤ length xs) (I : i < length xs) where
  abbrev after : List Float
  after = take (raised_count n (i + 1)) (raised xs n i w)

  old-none : (j : ℕ) → n ≤ j → zero_f ≡ entry (take n xs) j zero_f
  old-none j h = sym (entry-none (take n xs) j zero_f (simp length-take (omega arith)))

  other-kept : (j : ℕ) → (j ≡ i → ⊥) → entry after j zero_f ≡ entry (take n xs) j zero_f
  other-kept j d = go (ltb j n) (ltb j i) refl refl
    where
      go : (b c : Bool) → ltb j n ≡ b → ltb j i ≡ c → entry after j zero_f ≡ entry (take n xs) j zero_f
      go true c e f = raised-kept xs n i w N I j zero_f (ltb-true j n e) d
      go false true e f = raised-skipped xs n i w N I j zero_f (ltb-false j n e) (ltb-true j i f) ∙ old-none j (ltb-false j n e)
      go false false e f =
          let a : n ≤ j = ltb-false j n e in
          let b : i + 1 ≤ j = above j i (ltb-false j i f) d in
          raised-none xs n i w N I j zero_f (count-least n (i + 1) j a b) ∙ old-none j a

  pub entry-raised : (j : ℕ) → entry after j zero_f ≡ cond (eqb i j) (max_f (entry (take n xs) j zero_f) w) (entry (take n xs) j zero_f)
  entry-raised j = go (eqb i j) refl
    where
      go : (b : Bool) → eqb i j ≡ b → entry after j zero_f ≡ cond b (max_f (entry (take n xs) j zero_f) w) (entry (take n xs) j zero_f)
      go true e = let f : i ≡ j = eqb-true i j e in rw (← f) (raised-same xs n i w N I zero_f)
      go false e = other-kept j (λ (f : j ≡ i). eqb-false i j e (sym f))

-- ---- the memory of a grid
width-raised : (m : Memory) (i : ℕ) (w : Float) (c : ℕ) → Sound m → i < 32 → col_width (set_min_col_width m i w) c zero_f ≡ cond (eqb i c) (max_f (col_width m c zero_f) w) (col_width m c zero_f)
unfolding col_width set_min_col_width
width-raised m i w c s h = rw (is_lt i 32 h) (entry-raised m.col_widths m.cols i w (omega (arith, s.cols-room, s.cols-few)) (omega (arith, s.cols-room)) c)

rows_apart : (m : Memory) (row : ℕ) (h : Float) (c : ℕ) → (col_width (set_min_row_height m row h) c zero_f ≡ col_width m c zero_f) × ((set_min_row_height m row h).cols ≡ m.cols)
unfolding col_width set_min_row_height
rows_apart m row h c = go (ltb row 128)
  where
    go : (t : Bool) → (entry (widths (cond t (record { col_widths = m.col_widths; cols = m.cols; row_heights = raised m.row_heights m.rows row h; rows = raised_count m.rows (row + 1) }) m)) c zero_f ≡ entry (widths m) c zero_f)
        × ((cond t (record { col_widths = m.col_widths; cols = m.cols; row_heights = raised m.row_heights m.rows row h; rows = raised_count m.rows (row + 1) }) m).cols ≡ m.cols)
    go true = (refl, refl)
    go false = (refl, refl)

pub noted-width : (g : GridLayout) (v : Rect) (c : ℕ) → Sound g.curr_state → g.col < 32
    → col_width (noted g v) c zero_f ≡ cond (eqb g.col c) (max_f (col_width g.curr_state c zero_f) (max_f (width v) g.min_cell_size.x)) (col_width g.curr_state c zero_f)
unfolding noted
noted-width g v c s h = (rows_apart _ g.row _ c).0 ∙ width-raised g.curr_state g.col (max_f (width v) g.min_cell_size.x) c s h

cols-raised : (m : Memory) (i : ℕ) (w : Float) → i < 32 → (set_min_col_width m i w).cols ≡ raised_count m.cols (i + 1)
unfolding set_min_col_width
cols-raised m i w h = rw (is_lt i 32 h)

pub noted-cols : (g : GridLayout) (v : Rect) → g.col < 32 → (noted g v).cols ≡ raised_count g.curr_state.cols (g.col + 1)
unfolding noted
noted-cols g v h = (rows_apart _ g.row _ 0).1 ∙ cols-raised g.curr_state g.col (max_f (width v) g.min_cell_size.x) h
