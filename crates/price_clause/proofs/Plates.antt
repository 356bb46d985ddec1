-- The plates of two lists of frames, the second's no less and both open at one corner: both plates have that corner, and the second holds
-- the first, so it is neither narrower nor less tall. For steps of 1 to 1/128 point. Assumes nothing.
use Prim.Native.Nat.{ℕ, ◌≤◌, ◌<◌}
use mathlib.Core.Path.{◌≡◌, sym, ◌∙◌}
use mathlib.Core.List.{List, [], ◌∷◌, Forall₂}
use native.Mathlib.Omega.{arith}
use lib.IntN.{ℤ}
use lib.ListN.{length}
use lib.Signed.{◌≤ℤ◌, ≤ℤ_refl}
use Rattle.emath.proofs.Whole.{diff, order, same, whole}
use Rattle.sheet.specs.Pass.{Cell, plate_of}
use Rattle.sheet.specs.Ticks.{Ticks, ticks, in_ticks}
use Rattle.pass_laws.specs.EachCell.{EachCell, none, more}
use Rattle.pass_laws.specs.Plates.{Holds, HoldsFrames, Smallest}
use Rattle.pass_laws.specs.WholeCells.{WholeCells}
use Rattle.pass_laws.proofs.SmallestPlates.{holds-itself, smallest}
use Rattle.price_clause.specs.Sheets.{FrameNoLess, CellNoLess, PlateNoLess, OneCorner, AtFirstFrames, first_frame}

-- ---- one corner
-- a frame starts neither further left than x nor higher than y
pub record Starts (x y : ℤ) (t : Ticks) : Type 0 where
  pub left : x ≤ℤ t.left
  pub top : y ≤ℤ t.top

abbrev pub Start : ℕ → ℤ → ℤ → List Cell → Type 0
Start k x y cells = EachCell (λ (c : Cell). Starts x y (in_ticks k c.frame)) cells

-- both first frames stand at one corner, and no later frame starts further left or higher
pub data Open (k : ℕ) : List Cell → List Cell → Type 0 where
  empty : Open k [] []
  both : {c d : Cell} {cs ds : List Cell} → OneCorner (in_ticks k c.frame) (in_ticks k d.frame)
      → Start k (ticks k c.frame.left) (ticks k c.frame.top) cs → Start k (ticks k d.frame.left) (ticks k d.frame.top) ds → Open k (c ∷ cs) (d ∷ ds)

-- ---- what is concluded
pub record PlatesGrow (k : ℕ) (cs ds : List Cell) : Type 0 where
  pub plate : PlateNoLess (in_ticks k (plate_of cs)) (in_ticks k (plate_of ds))
  pub holds : Holds (in_ticks k (plate_of ds)) (in_ticks k (plate_of cs))
  pub corner : 0 < length cs → AtFirstFrames (in_ticks k (plate_of cs)) (first_frame k cs) (in_ticks k (plate_of ds)) (first_frame k ds)

-- what is held is neither wider nor taller
held : {a b : Ticks} → Holds b a → PlateNoLess a b
held {a} {b} h = record {
  width = order (omega (arith, whole, diff a.right a.left, diff b.right b.left));
  height = order (omega (arith, whole, diff a.bottom a.top, diff b.bottom b.top));
}

low : {a b c : ℤ} → a ≡ b → c ≡ b → a ≤ℤ c
low e f = order (omega (arith, whole))

between : {a b : ℤ} → a ≤ℤ b → b ≤ℤ a → a ≡ b
between {a} {b} h k = same a b (omega (arith, whole))

-- ---- a plate stands where its first frame does
module _ (k : ℕ) where
  -- the plate's right and bottom beside another left and top
  fits : (x y : ℤ) (t : Ticks) {cs : List Cell} → Start k x y cs → HoldsFrames k t cs → HoldsFrames k (record { left = x; top = y; right = t.right; bottom = t.bottom }) cs
  fits x y t none none = none
  fits x y t (more s rest) (more h others) = more (record { left = s.left; top = s.top; right = h.right; bottom = h.bottom }) (fits x y t rest others)

  first-corner : (t : Ticks) (c : Cell) {cs : List Cell} → Smallest k t (c ∷ cs) → Start k (ticks k c.frame.left) (ticks k c.frame.top) cs → OneCorner t (in_ticks k c.frame)
  first-corner t c {cs} s starts = go s.holds
    where
      go : HoldsFrames k t (c ∷ cs) → OneCorner t (in_ticks k c.frame)
      go (more h others) =
          let least = s.least _ (fits _ _ t (more (record { left = ≤ℤ_refl _; top = ≤ℤ_refl _ }) starts) (more h others)) in
          record { left = between h.left least.left; top = between h.top least.top }

  -- ---- the second plate holds the first's frames
  in-second : {x y : ℤ} {t : Ticks} {cs ds : List Cell} → t.left ≤ℤ x → t.top ≤ℤ y → Forall₂ (CellNoLess k) cs ds
      → Start k x y cs → HoldsFrames k t ds → HoldsFrames k t cs
  in-second p q Forall₂.nil none none = none
  in-second {x} {y} {t} p q (Forall₂.cons {a = c} {b = d} n rest) (more s starts) (more h others) =
      more (inside (in_ticks k c.frame) (in_ticks k d.frame) n s h) (in-second p q rest starts others)
    where
      inside : (a b : Ticks) → FrameNoLess a b → Starts x y a → Holds t b → Holds t a
      inside a b n s h = record {
        left = order (omega (arith, whole));
        top = order (omega (arith, whole));
        right = order (omega (arith, whole, diff a.right a.left, diff b.right b.left));
        bottom = order (omega (arith, whole, diff a.bottom a.top, diff b.bottom b.top));
      }

  module _ (l : k ≤ 7) where
    pub plates-grow : {cs ds : List Cell} → WholeCells k cs → WholeCells k ds → Forall₂ (CellNoLess k) cs ds → Open k cs ds → PlatesGrow k cs ds
    plates-grow C D n empty = record { plate = held (holds-itself _); holds = holds-itself _; corner = λ h. absurd (omega (arith, h)) }
    plates-grow C D n (both {c = c} {d = d} {cs = cs} {ds = ds} e s t) =
        let S = smallest k l C (omega arith) in
        let T = smallest k l D (omega arith) in
        let p = first-corner _ c S s in
        let q = first-corner _ d T t in
        let h = S.least (in_ticks k (plate_of (d ∷ ds))) (in-second (low q.left e.left) (low q.top e.top) n (more (record { left = ≤ℤ_refl _; top = ≤ℤ_refl _ }) s) T.holds) in
        record {
          plate = held h;
          holds = h;
          corner = λ some. record { first = p; second = q; both = record { left = p.left ∙ e.left ∙ sym q.left; top = p.top ∙ e.top ∙ sym q.top } };
        }
