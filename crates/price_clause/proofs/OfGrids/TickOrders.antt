-- The clause's order of frames in ticks is the model's, and so is where two lists of frames open. Assumes nothing.
use Prim.Native.Nat.{ℕ}
use mathlib.Core.List.{List, [], ◌∷◌, map, Forall₂, Forall₂-cons}
use lib.IntN.{ℤ}
use Rattle.emath.proofs.Whole.{order}
use Rattle.emath.specs.declared.Rect.{Rect}
use Rattle.model.proofs.AnyNumbers.Engine.{Edges}
use Rattle.model.proofs.InFloats.InTicks.{tick_of, ticks, Frame≤, After, Opened}
use Rattle.sheet.specs.Pass.{Cell}
use Rattle.sheet.specs.Ticks.{in_ticks}
use Rattle.price_clause.specs.Sheets.{FrameNoLess, CellNoLess}
use Rattle.pass_laws.specs.EachCell.{EachCell}
use Rattle.price_clause.proofs.Plates.{Start, Open}
use Rattle.price_clause.proofs.OfGrids.GridStates.{edges_of}

pub frame-no-less : (k : ℕ) (a b : Rect) → Frame≤ (ticks k (edges_of a)) (ticks k (edges_of b)) → FrameNoLess (in_ticks k a) (in_ticks k b)
unfolding tick_of
frame-no-less k a b h = record { left = order h.left; top = order h.top; width = order h.wide; height = order h.tall }

abbrev pub frame_ticks : ℕ → List Cell → List (Edges ℤ)
frame_ticks k cells = map (ticks k) (map (λ (x : Cell). edges_of x.frame) cells)

pub frames-no-less : (k : ℕ) (a b : List Cell) → Forall₂ Frame≤ (frame_ticks k a) (frame_ticks k b) → Forall₂ (CellNoLess k) a b
frames-no-less k [] [] h = Forall₂.nil
frames-no-less k [] (d ∷ b) h = elim h [ ]
frames-no-less k (c ∷ a) [] h = elim h [ ]
frames-no-less k (c ∷ a) (d ∷ b) h =
    let p = Forall₂-cons.0 h in
    Forall₂.cons (frame-no-less k c.frame d.frame p.0) (frames-no-less k a b p.1)

-- ---- where they open
frames-start : (k : ℕ) (x y : ℤ) (a : List Cell) → After x y (frame_ticks k a) → Start k x y a
unfolding tick_of
frames-start k x y [] h = EachCell.none
frames-start k x y (c ∷ a) (After.more left top rest) = EachCell.more (record { left = order left; top = order top }) (frames-start k x y a rest)

pub frames-open : (k : ℕ) (a b : List Cell) → Opened (frame_ticks k a) (frame_ticks k b) → Open k a b
unfolding tick_of
frames-open k [] [] h = Open.empty
frames-open k [] (d ∷ b) h = elim h [ ]
frames-open k (c ∷ a) [] h = elim h [ ]
frames-open k (c ∷ a) (d ∷ b) (Opened.both left top after after') = Open.both (record { left = left; top = top }) (frames-start k _ _ a after) (frames-start k _ _ b after')
