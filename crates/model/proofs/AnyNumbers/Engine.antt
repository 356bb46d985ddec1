-- The engine: passes over grids on any numbers, as layout.rs and grid.rs state them, with the least tests under which they follow
-- the passes in whole steps. `also` stands for whatever else a pass turns back. Assumes nothing.
use mathlib.Core.List.{List, [], ◌∷◌}
use mathlib.Core.Bool.{Bool, true, false, cond}
use Prim.Native.Nat.{ℕ, zero, suc}
use lib.ListN.{get_or}
use Rattle.model.proofs.AnyNumbers.EngineAnswers.{Answer, accepted, guard, on}

-- the numbers: zero, the greater, half, to whole steps, "within the limit"
pub record Ops (F : Type 0) : Type 0 where
  pub none : F
  pub add : F → F → F
  pub sub : F → F → F
  pub high : F → F → F
  pub half : F → F
  pub round : F → F
  pub inside : F → Bool
  pub le : F → F → Bool

pub record Edges (F : Type 0) : Type 0 where
  pub left : F
  pub top : F
  pub right : F
  pub bottom : F

-- a record: a control, or a row's end
pub data Move (F : Type 0) : Type 0 where
  place : F → F → Move F
  finish : Move F

-- what a pass gives: the frames and the widgets in the order of the controls, and the last state
pub record Out (F S : Type 0) : Type 0 where
  pub frames : List (Edges F)
  pub widgets : List (Edges F)
  pub last : S

abbrev pub more : {F S : Type 0} → Edges F → Edges F → Out F S → Out F S
more f v x = record { frames = f ∷ x.frames; widgets = v ∷ x.widgets; last = x.last }

abbrev pub put : {F S : Type 0} → Edges F → Edges F → Answer (Out F S) → Answer (Out F S)
put f v a = on a (λ x. accepted (more f v x))

-- ---- grids

-- where a pass is, and what it has met
pub record EngineState (F : Type 0) : Type 0 where
  pub col : ℕ
  pub row : ℕ
  pub x : F
  pub y : F
  pub cols : List F
  pub rows : List F

-- what a pass is given: initial_available's left edge, the minimum cell, the spacing, the memory
pub record Given (F : Type 0) : Type 0 where
  pub sizing : Bool
  pub left : F
  pub min_w : F
  pub min_h : F
  pub gap_x : F
  pub gap_y : F
  pub cols : List F
  pub rows : List F

module _ {F : Type 0} (o : Ops F) where
  -- set_min_col_width, set_min_row_height
  unfoldable pub raise : List F → ℕ → F → List F
  raise [] zero v = o.high o.none v ∷ []
  raise [] (suc i) v = o.none ∷ raise [] i v
  raise (x ∷ l) zero v = o.high x v ∷ l
  raise (x ∷ l) (suc i) v = x ∷ raise l i v

  -- align_size_within_rect, LEFT_CENTER
  unfoldable pub widget : Edges F → F → F → Edges F
  widget f w h = record {
    left = o.round f.left;
    top = o.round (o.sub (o.half (o.add f.top f.bottom)) (o.half h));
    right = o.round (o.add f.left w);
    bottom = o.round (o.add (o.sub (o.half (o.add f.top f.bottom)) (o.half h)) h);
  }

  module _ (g : Given F) where
    -- next_cell
    unfoldable pub next_cell : EngineState F → F → F → Edges F
    next_cell s w h = record {
      left = o.round s.x;
      top = o.round s.y;
      right = o.round (o.add s.x (o.high w (cond g.sizing o.none (get_or g.cols s.col o.none))));
      bottom = o.round (o.add s.y (o.high h (get_or g.rows s.row g.min_h)));
    }

    -- advance
    unfoldable pub advance : EngineState F → Edges F → EngineState F
    advance s v = record {
      col = suc s.col;
      row = s.row;
      x = o.add s.x (o.add (get_or g.cols s.col g.min_w) g.gap_x);
      y = s.y;
      cols = raise s.cols s.col (o.high (o.sub v.right v.left) g.min_w);
      rows = raise s.rows s.row (o.high (o.sub v.bottom v.top) g.min_h);
    }

    -- end_row
    unfoldable pub end_row : EngineState F → EngineState F
    end_row s = record {
      col = 0;
      row = suc s.row;
      x = g.left;
      y = o.add (o.add s.y g.gap_y) (get_or s.rows s.row g.min_h);
      cols = s.cols;
      rows = s.rows;
    }

    -- the records from a state on; n is the number of the first
    unfoldable pub run_f : (EngineState F → Move F → Bool) → EngineState F → ℕ → List (Move F) → Answer (Out F (EngineState F))
    run_f also s n [] = accepted (record { frames = []; widgets = []; last = s })
    run_f also s n (place w h ∷ l) =
        guard 8 n (also s (place w h))
        (let f = next_cell s w h in
        guard 9 n (o.inside f.right) (guard 9 n (o.inside f.bottom)
        (let v = widget f w h in
        let t = advance s v in guard 9 n (o.inside t.x) (put f v (run_f also t (suc n) l)))))
    run_f also s n (finish ∷ l) = guard 8 n (also s finish) (guard 9 n (o.inside (end_row s).y) (run_f also (end_row s) (suc n) l))

-- what H and G say of a grid: max_rect's corner, the minimum cell, the spacing, and the start row
pub record HeadF (F : Type 0) : Type 0 where
  pub left : F
  pub top : F
  pub min_w : F
  pub min_h : F
  pub gap_x : F
  pub gap_y : F
  pub start : ℕ

pub record MemF (F : Type 0) : Type 0 where
  pub cols : List F
  pub rows : List F

abbrev pub memory_f : {F : Type 0} → Out F (EngineState F) → MemF F
memory_f r = record { cols = r.last.cols; rows = r.last.rows }

abbrev pub given_f : {F : Type 0} → HeadF F → Bool → MemF F → Given F
given_f h b m = record { sizing = b; left = h.left; min_w = h.min_w; min_h = h.min_h; gap_x = h.gap_x; gap_y = h.gap_y; cols = m.cols; rows = m.rows }

abbrev pub begin_f : {F : Type 0} → HeadF F → EngineState F
begin_f h = record {
  col = 0;
  row = h.start;
  x = h.left;
  y = h.top;
  cols = [];
  rows = [];
}

module _ {F : Type 0} (o : Ops F) (also : Given F → EngineState F → Move F → Bool) (h : HeadF F) (l : List (Move F)) where
  -- one pass, sizing or not, with a memory; H and G are records 1 and 2
  unfoldable pub pass_f : Bool → MemF F → Answer (Out F (EngineState F))
  pass_f b m = run_f o (given_f h b m) (also (given_f h b m)) (begin_f h) 3 l

  -- the first is sizing, and without memory; the later ones have a memory; pass number n, from 0, has the memory of the one before it
  abbrev pub first_f : Answer (Out F (EngineState F))
  first_f = pass_f true (record { cols = []; rows = [] })

  abbrev pub later_f : MemF F → Answer (Out F (EngineState F))
  later_f m = pass_f false m
