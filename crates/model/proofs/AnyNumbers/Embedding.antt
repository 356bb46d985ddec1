-- The model's sheets and states in the engine's numbers, and that they are of the domain: an edge is at most 2 B, a length at most B.
-- Assumes nothing.
use mathlib.Core.Bool.{Bool}
use mathlib.Core.List.{List, [], ◌∷◌, map}
use Prim.Native.Nat.{ℕ, zero, suc, zero-le, ◌+◌, ◌*◌, ◌≤◌, max}
use native.Mathlib.Omega.{arith}
use lib.ListN.{get_or}
use Rattle.model.proofs.WholeSteps.Model.{Step, W, E, Box, Heading, Memory, State, lift, begin}
use Rattle.model.proofs.AnyNumbers.Engine.{Edges, EngineState, Given, HeadF, MemF, Move, place, finish}

module _ {F : Type 0} (pt : ℕ → F) where
  abbrev pub edges : ℕ → ℕ → ℕ → ℕ → Edges F
  edges a b c d = record { left = pt a; top = pt b; right = pt c; bottom = pt d }

  abbrev pub box_edges : Box → Edges F
  box_edges f = edges f.left f.top (f.left + f.width) (f.top + f.height)

unfoldable pub moves : {F : Type 0} → (ℕ → F) → List Step → List (Move F)
moves len [] = []
moves len (W w h ∷ l) = place (len w) (len h) ∷ moves len l
moves len (E ∷ l) = finish ∷ moves len l

abbrev pub mem_of : {F : Type 0} → (ℕ → F) → Memory → MemF F
mem_of len m = record { cols = map len m.cols; rows = map len m.rows }

module _ {F : Type 0} (pt len : ℕ → F) where
  abbrev pub engine_state : State → EngineState F
  engine_state s = record { col = s.col; row = s.row; x = pt s.x; y = pt s.y; cols = map len s.cols; rows = map len s.rows }

  abbrev pub given_of : Bool → Heading → Memory → Given F
  given_of b g m = record {
    sizing = b;
    left = pt g.left;
    min_w = len g.min_w;
    min_h = len g.min_h;
    gap_x = len g.gap_x;
    gap_y = len g.gap_y;
    cols = map len m.cols;
    rows = map len m.rows;
  }

  abbrev pub head_of : Heading → HeadF F
  head_of g = record {
    left = pt g.left;
    top = pt g.top;
    min_w = len g.min_w;
    min_h = len g.min_h;
    gap_x = len g.gap_x;
    gap_y = len g.gap_y;
    start = g.start;
  }

-- ---- of the domain

-- lengths, each at most b
pub data Upto (b : ℕ) : List ℕ → Type 0 where
  empty : Upto b []
  upto : {x : ℕ} {l : List ℕ} → x ≤ b → Upto b l → Upto b (x ∷ l)

pub upto-get_or : {b : ℕ} {l : List ℕ} (i d : ℕ) → d ≤ b → Upto b l → get_or l i d ≤ b
upto-get_or i d h empty = h
upto-get_or zero d h (upto p t) = p
upto-get_or (suc i) d h (upto p t) = upto-get_or i d h t

max-upto : {b x v : ℕ} → x ≤ b → v ≤ b → max x v ≤ b
max-upto p q = omega arith

upto-nil : (b i : ℕ) {v : ℕ} → v ≤ b → Upto b (lift [] i v)
unfolding lift
upto-nil b zero h = upto h empty
upto-nil b (suc i) h = upto (zero-le {n = b}) (upto-nil b i h)

pub upto-lift : {b : ℕ} {l : List ℕ} (i : ℕ) {v : ℕ} → v ≤ b → Upto b l → Upto b (lift l i v)
unfolding lift
upto-lift {b} i h empty = upto-nil b i h
upto-lift zero h (upto p t) = upto (max-upto p h) t
upto-lift (suc i) h (upto p t) = upto p (upto-lift i h t)

-- a sheet's controls
pub data Fits (B : ℕ) : List Step → Type 0 where
  none : Fits B []
  control : {w h : ℕ} {l : List Step} → w ≤ B → h ≤ B → Fits B l → Fits B (W w h ∷ l)
  end : {l : List Step} → Fits B l → Fits B (E ∷ l)

-- what H and G say
pub record FineHeading (B : ℕ) (g : Heading) : Type 0 where
  pub left : g.left ≤ 2 * B
  pub top : g.top ≤ 2 * B
  pub min_w : g.min_w ≤ B
  pub min_h : g.min_h ≤ B
  pub gap_x : g.gap_x ≤ B
  pub gap_y : g.gap_y ≤ B

-- frames
pub data Boxes (B : ℕ) : List Box → Type 0 where
  none : Boxes B []
  more : {f : Box} {l : List Box} → f.left + f.width ≤ 2 * B → f.top + f.height ≤ 2 * B → Boxes B l → Boxes B (f ∷ l)

-- a state
pub record FineState (B : ℕ) (s : State) : Type 0 where
  pub x : s.x ≤ 2 * B
  pub y : s.y ≤ 2 * B
  pub cols : Upto B s.cols
  pub rows : Upto B s.rows

pub begin-fine : (B : ℕ) (g : Heading) → FineHeading B g → FineState B (begin g)
unfolding begin
begin-fine B g fg = record { x = fg.left; y = fg.top; cols = empty; rows = empty }
