-- A grid without fault that advances or ends a row: the only new fault that it can have is one of the two entries that were raised.
-- Assumes nothing.
use Rattle.std.proofs.Common.{◌≡◌, refl, sym, ◌∙◌, Bool, true, false, not, cond, List, [], ◌∷◌, ℕ, zero, suc, ◌+◌, ◌≤◌, ◌<◌, arith, T, ltb, ltb→lt, nltb→le, length, take, get_or, length-take}
use Rattle.std.specs.Prelude.{Float}
use Rattle.std.specs.Float.{nan}
use Rattle.std.specs.Float.Ieee.{lt, le, eq, neg, of_bits}
use Rattle.emath.specs.Rectangles.{zero_f, max_f, width, height}
use Rattle.emath.specs.Domain.{finite, within}
use Rattle.emath.specs.Refusals.{when, lesser, least, length_fault, extent_fault, pair_fault, size_fault, edges_fault}
use Rattle.emath.proofs.Refusals.{lesser-none, lesser-zero, zero-lesser}
use Rattle.std.proofs.lemmas.Bool.{lt-ltb, le-ltb}
use Rattle.grid.specs.Entries.{entry, raised, entries_fault}
use Rattle.grid.specs.Memories.{raised_count, set_min_col_width, set_min_row_height, col_width, row_height, widths, heights}
use Rattle.grid.specs.Grids.{noted, advanced, advance, row_ended, end_row}
use Rattle.grid.specs.Refusals.{memory_fault, max_cell_fault, grid_fault}
use Rattle.grid.specs.Implementation.Lent.{noted_size}
use Rattle.grid.proofs.Remembered.{entry-there, after, length-after, raised-same, raised-kept, raised-skipped}
use Rattle.emath.specs.declared.Rect.{Rect}
use Rattle.grid.specs.declared.Memory.{Memory}
use Rattle.grid.specs.declared.GridLayout.{GridLayout}

-- ---- lists whose entries have no fault, but for one
each_none : (vs : List Float) (j : ℕ) → entries_fault vs ≡ 0 → j < length vs → extent_fault (get_or vs j nan) ≡ 0
unfolding entries_fault
each_none [] j h l = absurd (omega arith)
each_none (v ∷ vs) zero h l = (lesser-none (extent_fault v) (entries_fault vs) h).0
each_none (v ∷ vs) (suc j) h l = each_none vs j (lesser-none (extent_fault v) (entries_fault vs) h).1 (omega arith)

all_none : (vs : List Float) → ((j : ℕ) → j < length vs → extent_fault (get_or vs j nan) ≡ 0) → entries_fault vs ≡ 0
unfolding entries_fault lesser
all_none [] f = refl
all_none (v ∷ vs) f =
    let h : extent_fault v ≡ 0 = f 0 (omega arith) in
    rw h (all_none vs (λ (j : ℕ) (l : j < length vs). f (suc j) (omega arith)))

apart : {i j : ℕ} → suc j ≡ suc i → (j ≡ i → ⊥) → ⊥
apart e d = d (omega arith)

but-one : (vs : List Float) (i : ℕ) → i < length vs → ((j : ℕ) → j < length vs → (j ≡ i → ⊥) → extent_fault (get_or vs j nan) ≡ 0) → entries_fault vs ≡ extent_fault (get_or vs i nan)
unfolding entries_fault
but-one [] i l f = absurd (omega arith)
but-one (v ∷ vs) zero l f =
    let h = all_none vs (λ (j : ℕ) (m : j < length vs). f (suc j) (omega arith) (λ (e : suc j ≡ 0). omega arith)) in
    rw h (lesser-zero (extent_fault v))
but-one (v ∷ vs) (suc i) l f =
    let h : extent_fault v ≡ 0 = f 0 (omega arith) (λ (e : 0 ≡ suc i). omega arith) in
    rw (h, zero-lesser) (but-one vs i (omega arith) (λ (j : ℕ) (m : j < length vs) (d : j ≡ i → ⊥). f (suc j) (omega arith) (λ (e : suc j ≡ suc i). apart e d)))

below : (a b : ℕ) → a < b + 1 → (a ≡ b → ⊥) → a < b
below a b s d = go (ltb a b) (ltb→lt a b) (nltb→le a b)
  where
    go : (t : Bool) → (T t → a < b) → (T (not t) → b ≤ a) → a < b
    go true y z = y tt
    go false y z = absurd (d (omega (arith, z tt)))

-- ---- an entry raised
zero-none : extent_fault zero_f ≡ 0
unfolding extent_fault length_fault least lesser finite within lt le eq neg of_bits
zero-none = refl

module _ (xs : List Float) (n i : ℕ) (w : Float) (N : n ≤ length xs) (I : i < length xs) (none : entries_fault (take n xs) ≡ 0) where
  counted : (i + 1 ≤ raised_count n (i + 1)) × (raised_count n (i + 1) ≤ length xs) × ((j : ℕ) → n ≤ j → j < raised_count n (i + 1) → j < i + 1)
  unfolding raised_count
  counted = go (ltb n (i + 1)) (ltb→lt n (i + 1)) (nltb→le n (i + 1))
    where
      go : (b : Bool) → (T b → n < i + 1) → (T (not b) → i + 1 ≤ n) → (i + 1 ≤ cond b (i + 1) n) × (cond b (i + 1) n ≤ length xs) × ((j : ℕ) → n ≤ j → j < cond b (i + 1) n → j < i + 1)
      go true y z = (omega arith, omega arith, λ (j : ℕ) (g : n ≤ j) (l : j < i + 1). l)
      go false y z = let h : i + 1 ≤ n = z tt in (omega arith, omega arith, λ (j : ℕ) (g : n ≤ j) (l : j < n). omega arith)

  here : (j : ℕ) → j < raised_count n (i + 1) → get_or (after xs n i w N I) j nan ≡ entry (after xs n i w N I) j nan
  here j l = sym (entry-there (after xs n i w N I) j nan (omega (arith, length-after xs n i w N I)))

  others : (j : ℕ) → j < length (after xs n i w N I) → (j ≡ i → ⊥) → extent_fault (get_or (after xs n i w N I) j nan) ≡ 0
  others j l d =
      let m : j < raised_count n (i + 1) = omega (arith, length-after xs n i w N I) in
      rw (here j m) (go (ltb j n) (ltb→lt j n) (nltb→le j n))
    where
      go : (b : Bool) → (T b → j < n) → (T (not b) → n ≤ j) → extent_fault (entry (after xs n i w N I) j nan) ≡ 0
      go true y z =
          let h : j < n = y tt in
          let k : j < length (take n xs) = simp length-take (omega arith) in
          rw (raised-kept xs n i w N I j nan h d, entry-there (take n xs) j nan k) (each_none (take n xs) j none k)
      go false y z =
          let h : n ≤ j = z tt in
          let m : j < raised_count n (i + 1) = omega (arith, length-after xs n i w N I) in
          let s : j < i + 1 = counted.2 j h m in
          rw (raised-skipped xs n i w N I j nan h (below j i s d)) zero-none

  pub raised-fault : entries_fault (take (raised_count n (i + 1)) (raised xs n i w)) ≡ extent_fault (max_f (entry (take n xs) i zero_f) w)
  raised-fault =
      let l : i < raised_count n (i + 1) = omega (arith, counted.0) in
      but-one (after xs n i w N I) i (omega (arith, length-after xs n i w N I)) others ∙ rw (here i l, raised-same xs n i w N I nan)

-- ---- a memory, a grid
few : (n room : ℕ) → when (ltb room n) 8 ≡ 0 → n ≤ room
few n room h = go (ltb room n) (nltb→le room n) h
  where
    go : (b : Bool) → (T (not b) → n ≤ room) → when b 8 ≡ 0 → n ≤ room
    go true f e = absurd (let z : ◌≡◌ {A = ℕ} 8 0 = e in omega arith)
    go false f e = f tt

-- what no fault says of each part
pub record MemoryParts (m : Memory) : Type 0 where
  pub widths : entries_fault (widths m) ≡ 0
  pub heights : entries_fault (heights m) ≡ 0
  pub cols : m.cols ≤ 32
  pub rows : m.rows ≤ 128

pub memory-parts : (m : Memory) → memory_fault m ≡ 0 → MemoryParts m
unfolding memory_fault least
memory-parts m h =
    let a = lesser-none (entries_fault (widths m)) _ h in
    let b = lesser-none (entries_fault (heights m)) _ a.1 in
    let c = lesser-none (when (ltb 32 m.cols) 8) _ b.1 in
    record { widths = a.0; heights = b.0; cols = few m.cols 32 c.0; rows = few m.rows 128 c.1 }

pub record GridParts (g : GridLayout) : Type 0 where
  pub prev : memory_fault g.prev_state ≡ 0
  pub curr : memory_fault g.curr_state ≡ 0
  pub available : edges_fault g.initial_available ≡ 0
  pub spacing : pair_fault g.spacing.x g.spacing.y ≡ 0
  pub smallest : size_fault g.min_cell_size ≡ 0
  pub largest : max_cell_fault g.max_cell_size ≡ 0
  pub col : g.col ≤ 32
  pub row : g.row ≤ 128

pub grid-parts : (g : GridLayout) → grid_fault g ≡ 0 → GridParts g
unfolding grid_fault least
grid-parts g h =
    let a = lesser-none (memory_fault g.prev_state) _ h in
    let b = lesser-none (memory_fault g.curr_state) _ a.1 in
    let c = lesser-none (edges_fault g.initial_available) _ b.1 in
    let d = lesser-none (pair_fault g.spacing.x g.spacing.y) _ c.1 in
    let e = lesser-none (size_fault g.min_cell_size) _ d.1 in
    let f = lesser-none (max_cell_fault g.max_cell_size) _ e.1 in
    let i = lesser-none (when (ltb 32 g.col) 8) _ f.1 in
    record { prev = a.0; curr = b.0; available = c.0; spacing = d.0; smallest = e.0; largest = f.0; col = few g.col 32 i.0; row = few g.row 128 i.1 }

-- the entries that an advance raises
abbrev pub raised_fault : GridLayout → Rect → ℕ
raised_fault g w = lesser (extent_fault (noted_size g w).x) (extent_fault (noted_size g w).y)

count-few : (n i room : ℕ) → n ≤ room → i < room → raised_count n (i + 1) ≤ room
unfolding raised_count
count-few n i room h l = go (ltb n (i + 1))
  where
    go : (b : Bool) → cond b (i + 1) n ≤ room
    go true = omega arith
    go false = h

module _ (g : GridLayout) (c w : Rect) (none : grid_fault g ≡ 0) where
  noted-fault : length g.curr_state.col_widths ≡ 32 → length g.curr_state.row_heights ≡ 128 → g.col < 32 → g.row < 128 → memory_fault (noted g w) ≡ raised_fault g w
  unfolding noted set_min_col_width set_min_row_height memory_fault least noted_size col_width row_height
  noted-fault L H h l =
      let m = memory-parts g.curr_state (grid-parts g none).curr in
      let ws = g.curr_state.col_widths in
      let hs = g.curr_state.row_heights in
      rw (
        lt-ltb g.col 32 h,
        lt-ltb g.row 128 l,
        raised-fault ws g.curr_state.cols g.col (max_f (width w) g.min_cell_size.x) (omega (arith, m.cols)) (omega arith) m.widths,
        raised-fault hs g.curr_state.rows g.row (max_f (height w) g.min_cell_size.y) (omega (arith, m.rows)) (omega arith) m.heights,
        le-ltb 32 (raised_count g.curr_state.cols (g.col + 1)) (count-few g.curr_state.cols g.col 32 m.cols h),
        le-ltb 128 (raised_count g.curr_state.rows (g.row + 1)) (count-few g.curr_state.rows g.row 128 m.rows l),
      ) (unfold lesser in rw (lesser-zero (extent_fault (max_f (entry (take g.curr_state.rows hs) g.row zero_f) (max_f (height w) g.min_cell_size.y)))))

  pub advance-fault : length g.curr_state.col_widths ≡ 32 → length g.curr_state.row_heights ≡ 128 → g.col < 32 → g.row < 128 → grid_fault (advance g c w).grid ≡ raised_fault g w
  unfolding advance advanced grid_fault least
  advance-fault L H h l =
      let p = grid-parts g none in
      rw (
        lt-ltb g.col 32 h,
        lt-ltb g.row 128 l,
        p.prev,
        noted-fault L H h l,
        p.available,
        p.spacing,
        p.smallest,
        p.largest,
        le-ltb 32 (g.col + 1) (omega arith),
        le-ltb 128 g.row p.row,
      ) (unfold lesser in lesser-zero (raised_fault g w))

  row-ended-fault : g.row < 128 → grid_fault (row_ended g c).grid ≡ 0
  unfolding row_ended grid_fault least
  row-ended-fault h =
      let p = grid-parts g none in
      rw (p.prev, p.curr, p.available, p.spacing, p.smallest, p.largest, le-ltb 128 (g.row + 1) (omega arith)) (unfold lesser in refl)

  pub end-row-fault : grid_fault (end_row g c).grid ≡ 0
  unfolding end_row
  end-row-fault = go (ltb g.row 128) (ltb→lt g.row 128)
    where
      go : (b : Bool) → (T b → g.row < 128) → grid_fault (cond b (row_ended g c) (record { grid = g; cursor = c })).grid ≡ 0
      go true y = row-ended-fault (y tt)
      go false y = none
