-- The same in whole steps, as a slice or a list of them has it: an edge times 2 ^ k, read as an integer. Of two accepted passes of a grid by
-- the engine on f32, the second with larger controls, no frame is less, and both open at one corner. Assumes nothing.
use mathlib.Core.Path.{◌≡◌, ap}
use mathlib.Core.Bool.{Bool}
use mathlib.Core.List.{List, [], ◌∷◌, map, Forall₂}
use Prim.Native.Nat.{ℕ, ◌+◌, ◌*◌, ◌≤◌}
use native.Mathlib.Omega.{arith}
use lib.Dec.{T}
use lib.IntN.{ℤ, ◌-ℤ◌}
use lib.Ieee.{Float, binary32, mul, to_signed, in_signed}
use Rattle.emath.specs.Steps.{two, most}
use Rattle.emath.proofs.Whole.{◌≤ᶻ◌, diff}
use Rattle.emath.proofs.Casts.{points-to-steps}
use Rattle.model.proofs.WholeSteps.Model.{Step, Grown, Box, NoLess, Heading}
use Rattle.model.proofs.WholeSteps.Openings.{From, Opening}
use Rattle.model.proofs.WholeSteps.Halves.{centred, centred-in-bounds}
use Rattle.model.proofs.WholeSteps.Grids.{grids-grow}
use Rattle.model.proofs.AnyNumbers.EngineAnswers.{accepted}
use Rattle.model.proofs.AnyNumbers.Engine.{Edges, EngineState, Given, Move, Out, memory_f, first_f, later_f}
use Rattle.model.proofs.AnyNumbers.Embedding.{box_edges, head_of, moves, Fits, FineHeading, Boxes}
use Rattle.model.proofs.AnyNumbers.GridPasses.{second_is}
use Rattle.model.proofs.InFloats.Ticks.{at, at-parts, pt, len, cap, small_at}
use Rattle.model.proofs.InFloats.Floats.{ops, exact}

unfoldable pub tick_of : ℕ → Float → ℤ
tick_of k x = to_signed 31 (mul binary32 x (two k))

abbrev pub ticks : ℕ → Edges Float → Edges ℤ
ticks k r = record { left = tick_of k r.left; top = tick_of k r.top; right = tick_of k r.right; bottom = tick_of k r.bottom }

-- b starts no further left and no higher than a, and is no narrower and no less tall
pub record Frame≤ (a b : Edges ℤ) : Type 0 where
  pub left : a.left ≤ᶻ b.left
  pub top : a.top ≤ᶻ b.top
  pub wide : a.right -ℤ a.left ≤ᶻ b.right -ℤ b.left
  pub tall : a.bottom -ℤ a.top ≤ᶻ b.bottom -ℤ b.top

-- no frame starts further left than x or higher than y
pub data After (x y : ℤ) : List (Edges ℤ) → Type 0 where
  none : After x y []
  more : {f : Edges ℤ} {l : List (Edges ℤ)} → x ≤ᶻ f.left → y ≤ᶻ f.top → After x y l → After x y (f ∷ l)

-- both lists open at one corner
pub data Opened : List (Edges ℤ) → List (Edges ℤ) → Type 0 where
  none : Opened [] []
  both : {f g : Edges ℤ} {k l : List (Edges ℤ)} → f.left ≡ g.left → f.top ≡ g.top → After f.left f.top k → After g.left g.top l
      → Opened (f ∷ k) (g ∷ l)

at-mono : (B a b : ℕ) → a ≤ b → at B a ≤ᶻ at B b
at-mono B a b h = record { le = omega (arith, at-parts B a, at-parts B b) }

span-mono : (B a b c d : ℕ) → b + c ≤ d + a → at B b -ℤ at B a ≤ᶻ at B d -ℤ at B c
span-mono B a b c d h = record { le = omega (arith, diff (at B b) (at B a), diff (at B d) (at B c), at-parts B a, at-parts B b, at-parts B c, at-parts B d) }

module _ (k B : ℕ) (l : k ≤ 6) (b : B ≡ most k) where
  pub tick_is : (n : ℕ) → n ≤ 4 * B → T (in_signed binary32 31 (mul binary32 (pt k B n) (two k))) × (tick_of k (pt k B n) ≡ at B n)
  unfolding tick_of
  tick_is n h = points-to-steps k (omega arith) (at B n) (small_at k B (omega arith) (cap k B l b) n h)

  ticks-are : (x y z t : ℕ) → x ≤ 2 * B → y ≤ 2 * B → z ≤ 2 * B → t ≤ 2 * B
      → ticks k (record { left = pt k B x; top = pt k B y; right = pt k B z; bottom = pt k B t }) ≡ record { left = at B x; top = at B y; right = at B z; bottom = at B t }
  ticks-are x y z t p q r s = rw ((tick_is x (omega arith)).1, (tick_is y (omega arith)).1, (tick_is z (omega arith)).1, (tick_is t (omega arith)).1)

  frame≤ : (f g : Box) → NoLess f g → f.left + f.width ≤ 2 * B → f.top + f.height ≤ 2 * B → g.left + g.width ≤ 2 * B → g.top + g.height ≤ 2 * B
      → Frame≤ (ticks k (box_edges (pt k B) f)) (ticks k (box_edges (pt k B) g))
  frame≤ f g n i j x y =
      rw (
        ticks-are f.left f.top (f.left + f.width) (f.top + f.height) (omega arith) (omega arith) i j,
        ticks-are g.left g.top (g.left + g.width) (g.top + g.height) (omega arith) (omega arith) x y,
      ) (record {
        left = at-mono B f.left g.left n.left;
        top = at-mono B f.top g.top n.top;
        wide = span-mono B f.left (f.left + f.width) g.left (g.left + g.width) (omega arith);
        tall = span-mono B f.top (f.top + f.height) g.top (g.top + g.height) (omega arith);
      })

  frames≤ : {m n : List Box} → Forall₂ NoLess m n → Boxes B m → Boxes B n → Forall₂ Frame≤ (map (ticks k) (map (box_edges (pt k B)) m)) (map (ticks k) (map (box_edges (pt k B)) n))
  frames≤ Forall₂.nil p q = Forall₂.nil
  frames≤ (Forall₂.cons {a = f} {b = g} n t) (Boxes.more i j p) (Boxes.more x y q) = Forall₂.cons (frame≤ f g n i j x y) (frames≤ t p q)

  corner : (f : Box) → f.left + f.width ≤ 2 * B → f.top + f.height ≤ 2 * B → (tick_of k (pt k B f.left) ≡ at B f.left) × (tick_of k (pt k B f.top) ≡ at B f.top)
  corner f i j = ((tick_is f.left (omega arith)).1, (tick_is f.top (omega arith)).1)

  after : (f : Box) {l : List Box} → f.left + f.width ≤ 2 * B → f.top + f.height ≤ 2 * B → From f.left f.top l → Boxes B l
      → After (tick_of k (pt k B f.left)) (tick_of k (pt k B f.top)) (map (ticks k) (map (box_edges (pt k B)) l))
  after f i j From.none Boxes.none = After.none
  after f i j (From.more g x y rest) (Boxes.more u v boxes) =
      let c = corner f i j in
      let d = corner g u v in
      After.more {f = ticks k (box_edges (pt k B) g)} (rw (c.0, d.0) (at-mono B f.left g.left x)) (rw (c.1, d.1) (at-mono B f.top g.top y)) (after f i j rest boxes)

  opened : {m n : List Box} → Opening m n → Boxes B m → Boxes B n → Opened (map (ticks k) (map (box_edges (pt k B)) m)) (map (ticks k) (map (box_edges (pt k B)) n))
  opened Opening.none p q = Opened.none
  opened (Opening.one {f = f} {g = g} x y u v) (Boxes.more i j p) (Boxes.more i' j' q) =
      Opened.both (ap (λ (n : ℕ). tick_of k (pt k B n)) x) (ap (λ (n : ℕ). tick_of k (pt k B n)) y) (after f i j u p) (after g i' j' v q)

  pub grids-in-ticks : (also : Given Float → EngineState Float → Move Float → Bool) (g : Heading) → FineHeading B g → {m n : List Step} → Grown m n → Fits B m → Fits B n → (x y x' y' : Out Float (EngineState Float))
      → first_f (ops k) also (head_of (pt k B) (len k) g) (moves (len k) m) ≡ accepted x → later_f (ops k) also (head_of (pt k B) (len k) g) (moves (len k) m) (memory_f x) ≡ accepted y
      → first_f (ops k) also (head_of (pt k B) (len k) g) (moves (len k) n) ≡ accepted x' → later_f (ops k) also (head_of (pt k B) (len k) g) (moves (len k) n) (memory_f x') ≡ accepted y'
      → Forall₂ Frame≤ (map (ticks k) y.frames) (map (ticks k) y'.frames) × Opened (map (ticks k) y.frames) (map (ticks k) y'.frames)
  grids-in-ticks also g fg {m} {n} h fm fn x y x' y' one two one' two' =
      let law = exact k B l b in
      let q = second_is law also g fg m fm x y one two in
      let q' = second_is law also g fg n fn x' y' one' two' in
      let w = grids-grow (centred B) (centred-in-bounds B) g h in
      rw (q.frames-are, q'.frames-are) (frames≤ w.0 q.boxes q'.boxes, opened w.1 q.boxes q'.boxes)
