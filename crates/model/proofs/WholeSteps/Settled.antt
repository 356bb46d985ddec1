-- The memory that a sheet settles at, from its records alone. A first pass gives it, and a pass given it gives it back and has the frames
-- of a pass that rounds nothing, whatever the rounding does. Assumes nothing.
use mathlib.Core.Path.{◌≡◌, refl, ap}
use mathlib.Core.List.Forall₂
use mathlib.Core.List.{List, [], ◌∷◌}
use Prim.Native.Nat.{ℕ, suc, max}
use native.Mathlib.Omega.{arith}
use lib.ListN.{get_or}
use Rattle.model.proofs.WholeSteps.Model.{Step, W, E, Heading, Memory, nothing, lift, State, Rounding, InBounds, begin, cell, after_w, after_e, frames, final, grid_pass}
use Rattle.model.proofs.WholeSteps.Lists.{Le, Below, between}
use Rattle.model.proofs.WholeSteps.Heights.{rows_from, rows-ended, Run, done, placed, ended, first-heights, stay-between, heights-again}

-- the widths that records settle at, with the minimum m, from the widths k, met in column c
unfoldable pub cols_from : ℕ → ℕ → List ℕ → List Step → List ℕ
cols_from m c k [] = k
cols_from m c k (W w h ∷ l) = cols_from m (suc c) (lift k c (max w m)) l
cols_from m c k (E ∷ l) = cols_from m 0 k l

unfoldable pub settled : Heading → List Step → Memory
settled g l = record { cols = cols_from g.min_w 0 [] l; rows = rows_from g.min_h g.start [] l }

-- the columns of any pass
cols-are : (tall : Rounding) (g : Heading) (m : Memory) (s : State) (l : List Step) → (final tall g m s l).cols ≡ cols_from g.min_w s.col s.cols l
unfolding final after_w after_e cols_from
cols-are tall g m s [] = refl
cols-are tall g m s (W w h ∷ l) = cols-are tall g m (after_w tall g m s w h) l
cols-are tall g m s (E ∷ l) = cols-are tall g m (after_e tall g m s) l

-- the rows of any pass
rows_run : (tall : Rounding) → InBounds tall → (g : Heading) (m : Memory) (s : State) (l : List Step) → Run g.min_h m.rows s.row s.rows l (final tall g m s l).rows
unfolding final after_w after_e InBounds
rows_run tall bounds g m s [] = done
rows_run tall bounds g m s (W w h ∷ l) =
    let H = max h (get_or m.rows s.row g.min_h) in
    let f = bounds s.y H h (omega arith) in
    placed (tall s.y H h) f.0 f.1 (rows_run tall bounds g m (after_w tall g m s w h) l)
rows_run tall bounds g m s (E ∷ l) = ended (rows_run tall bounds g m (after_e tall g m s) l)

-- ---- no rounding at all
unfoldable pub plain : Rounding
plain y H h = h

abbrev with_rows : State → List ℕ → State
with_rows s k = record { col = s.col; row = s.row; x = s.x; y = s.y; cols = s.cols; rows = k }

-- when a row ends, the pass has met its settled height
frames-plain : (tall : Rounding) → InBounds tall → (g : Heading) (m : Memory) (s : State) (k : List ℕ) (l : List Step) → Le k s.rows → Below s.rows m.rows
    → m.rows ≡ rows_from g.min_h s.row k l → frames tall g m s l ≡ frames plain g m (with_rows s k) l
unfolding frames cell after_w after_e rows_from plain InBounds
frames-plain tall bounds g m s k [] a b e = refl
frames-plain tall bounds g m s k (W w h ∷ l) a b e =
    let f = bounds s.y (max h (get_or m.rows s.row g.min_h)) h (omega arith) in
    let i = stay-between g.min_h s.row l f.0 f.1 a b e in
    ap (λ z. cell tall g m s w h ∷ z) (frames-plain tall bounds g m (after_w tall g m s w h) (lift k s.row (max h g.min_h)) l i.0 i.1 e)
frames-plain tall bounds g m s k (E ∷ l) a b e =
    let d = g.min_h in
    let y : get_or s.rows s.row d ≡ get_or k s.row d = between s.row d a b (λ n. rw e (rows-ended d (suc s.row) k l s.row d (omega arith) n)) in
    rw (← y) (frames-plain tall bounds g m (after_e tall g m s) k l a b e)

-- ---- so of passes
module _ (tall : Rounding) (bounds : InBounds tall) (g : Heading) (l : List Step) where
  pub memory-first : (grid_pass tall g l nothing).memory ≡ settled g l
  unfolding grid_pass begin settled nothing
  memory-first = λ i. record { cols = cols-are tall g nothing (begin g) l i; rows = first-heights (rows_run tall bounds g nothing (begin g) l) i }

  pub memory_kept : (grid_pass tall g l (settled g l)).memory ≡ settled g l
  unfolding grid_pass begin settled
  memory_kept = λ i. record { cols = cols-are tall g (settled g l) (begin g) l i; rows = heights-again (rows_run tall bounds g (settled g l) (begin g) l) refl i }

  pub frames-settled : frames tall g (settled g l) (begin g) l ≡ frames plain g (settled g l) (begin g) l
  unfolding begin settled
  frames-settled = frames-plain tall bounds g (settled g l) (begin g) [] l Forall₂.nil Below.none refl
