-- Two grids, the second with larger controls: in the second pass no frame of it is less, and both open at one corner. There everything is
-- monotone, since nothing depends on what was rounded. Assumes nothing.
use mathlib.Core.Path.{refl}
use mathlib.Core.List.{List, [], ◌∷◌, Forall₂}
use Prim.Native.Nat.{ℕ, suc, ◌+◌, ◌≤◌}
use native.Mathlib.Omega.{arith}
use native.Mathlib.Nat.{le_refl}
use Rattle.model.proofs.WholeSteps.Model.{Step, W, E, Grown, control, end, box, NoLess, Heading, Memory, State, begin, Rounding, InBounds, cell, after_w, after_e, frames, grid_pass}
use Rattle.model.proofs.WholeSteps.Lists.{Le, Le-get_or, Le-lift, max-mono}
use Rattle.model.proofs.WholeSteps.Openings.{From, more, Opening, one}
use Rattle.model.proofs.WholeSteps.Heights.{rows_from}
use Rattle.model.proofs.WholeSteps.Settled.{cols_from, plain, settled, frames-settled}

across : {a b c d : ℕ} (gap : ℕ) → a ≤ b → c ≤ d → a + c + gap ≤ b + d + gap
across gap p q = omega arith

down : {a b c d : ℕ} (gap : ℕ) → a ≤ b → c ≤ d → a + gap + c ≤ b + gap + d
down gap p q = omega arith

-- ---- the memory grows with the controls

cols-grow : (m c : ℕ) {a b : List ℕ} {k l : List Step} → Le a b → Grown k l → Le (cols_from m c a k) (cols_from m c b l)
unfolding cols_from
cols-grow m c p Grown.none = p
cols-grow m c p (control u v t) = cols-grow m (suc c) (Le-lift c p (max-mono u (le_refl m))) t
cols-grow m c p (end t) = cols-grow m 0 p t

rows_grow : (m r : ℕ) {a b : List ℕ} {k l : List Step} → Le a b → Grown k l → Le (rows_from m r a k) (rows_from m r b l)
unfolding rows_from
rows_grow m r p Grown.none = p
rows_grow m r p (control u v t) = rows_grow m r (Le-lift r p (max-mono v (le_refl m))) t
rows_grow m r p (end t) = rows_grow m (suc r) p t

-- ---- so do the frames, where nothing is rounded

grows : {x y w h x' y' w' h' : ℕ} → x ≤ x' → y ≤ y' → w ≤ w' → h ≤ h' → NoLess (box x y w h) (box x' y' w' h')
grows a b c d = record { left = a; top = b; width = c; height = d }

abbrev state : ℕ → ℕ → ℕ → ℕ → List ℕ → List ℕ → State
state c r x y a b = record { col = c; row = r; x = x; y = y; cols = a; rows = b }

module _ (g : Heading) (m n : Memory) (wide : Le m.cols n.cols) (high : Le m.rows n.rows) where
  frames-grow : (c r x x' y y' : ℕ) (a a' b b' : List ℕ) {k l : List Step} → x ≤ x' → y ≤ y' → Le b b' → Grown k l
      → Forall₂ NoLess (frames plain g m (state c r x y a b) k) (frames plain g n (state c r x' y' a' b') l)
  unfolding frames cell after_w after_e plain
  frames-grow c r x x' y y' a a' b b' p q e Grown.none = Forall₂.nil
  frames-grow c r x x' y y' a a' b b' p q e (control u v t) =
      Forall₂.cons (grows p q (max-mono u (Le-get_or c 0 wide)) (max-mono v (Le-get_or r g.min_h high)))
      (frames-grow (suc c) r _ _ y y' _ _ _ _ (across g.gap_x p (Le-get_or c g.min_w wide)) q (Le-lift r e (max-mono v (le_refl g.min_h))) t)
  frames-grow c r x x' y y' a a' b b' p q e (end t) =
      frames-grow 0 (suc r) g.left g.left _ _ a a' b b' (le_refl g.left) (down g.gap_y q (Le-get_or r g.min_h e)) e t

-- ---- and both open at one corner

under : (tall : Rounding) (g : Heading) (m : Memory) (b : ℕ) (s : State) (l : List Step) → g.left ≤ s.x → b ≤ s.y → From g.left b (frames tall g m s l)
unfolding frames cell after_w after_e
under tall g m b s [] h v = From.none
under tall g m b s (W w z ∷ l) h v = more (cell tall g m s w z) h v (under tall g m b (after_w tall g m s w z) l (omega arith) v)
under tall g m b s (E ∷ l) h v = under tall g m b (after_e tall g m s) l (le_refl g.left) (omega arith)

opening : (g : Heading) (m n : Memory) (c r y : ℕ) (a a' : List ℕ) {k l : List Step} → Grown k l
    → Opening (frames plain g m (state c r g.left y a []) k) (frames plain g n (state c r g.left y a' []) l)
unfolding frames cell after_w after_e plain
opening g m n c r y a a' Grown.none = Opening.none
opening g m n c r y a a' (control {w = w} {h = h} {w' = w'} {h' = h'} {k = k} {l = l} u v t) =
    one refl refl (under plain g m y (after_w plain g m (state c r g.left y a []) w h) k (omega arith) (le_refl y))
    (under plain g n y (after_w plain g n (state c r g.left y a' []) w' h') l (omega arith) (le_refl y))
opening g m n c r y a a' (end t) = opening g m n 0 (suc r) (y + g.gap_y + g.min_h) a a' t

-- ---- so the second pass, with the memory that the first gave
module _ (tall : Rounding) (bounds : InBounds tall) (g : Heading) {k l : List Step} (h : Grown k l) where
  plain-grow : Forall₂ NoLess (frames plain g (settled g k) (begin g) k) (frames plain g (settled g l) (begin g) l)
  unfolding begin settled
  plain-grow =
      frames-grow g (settled g k) (settled g l) (cols-grow g.min_w 0 Forall₂.nil h) (rows_grow g.min_h g.start Forall₂.nil h)
      0 g.start g.left g.left g.top g.top [] [] [] [] (le_refl g.left) (le_refl g.top) Forall₂.nil h

  plain-open : Opening (frames plain g (settled g k) (begin g) k) (frames plain g (settled g l) (begin g) l)
  unfolding begin
  plain-open = opening g (settled g k) (settled g l) 0 g.start g.top [] [] h

  pub grids-grow : Forall₂ NoLess (grid_pass tall g k (settled g k)).frames (grid_pass tall g l (settled g l)).frames
      × Opening (grid_pass tall g k (settled g k)).frames (grid_pass tall g l (settled g l)).frames
  unfolding grid_pass
  grids-grow = rw (frames-settled tall bounds g k, frames-settled tall bounds g l) (plain-grow, plain-open)
