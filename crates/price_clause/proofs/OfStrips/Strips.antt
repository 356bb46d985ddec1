-- The price clause of strips (`strips` of PriceClause): for steps of 1 to 1/64 point, whatever memory and sizing flag. Assumes nothing.
use mathlib.Core.Path.{◌≡◌, refl, sym, ap, ◌∙◌}
use mathlib.Core.Bool.{Bool, true}
use mathlib.Core.List.{List, [], ◌∷◌, Forall₂}
use Prim.Native.Nat.{ℕ, ◌+◌, ◌≤◌}
use native.Mathlib.Omega.{arith}
use lib.IntN.{ℤ, pos, ◌+ℤ◌}
use lib.Signed.{≤ℤ_refl}
use lib.Ieee.{Float, le}
use Rattle.emath.specs.Rectangles.{zero_f}
use Rattle.emath.specs.Refusals.{rect_fault}
use Rattle.emath.specs.Steps.{val, Edge}
use Rattle.emath.proofs.Whole.{◌≤ᶻ◌, sum, diff, order, whole}
use Rattle.emath.proofs.Casts.{points-to-steps}
use Rattle.emath.proofs.Sums.{edge-small}
use Rattle.emath.specs.declared.Vec2.{Vec2}
use Rattle.emath.specs.declared.Align.{Align}
use Rattle.region.specs.Steps.{WholeRect, WholeSize}
use Rattle.layout.specs.Strips.{strip}
use Rattle.layout.proofs.Strips.{rect_in}
use Rattle.grid.specs.declared.Memory.{Memory}
use Rattle.placer.specs.Rules.{new_placer}
use Rattle.records.specs.declared.Heading.{Heading}
use Rattle.records.specs.declared.Step.{Step}
use Rattle.records.specs.declared.Step.TheVariants.{Widget, RowEnd}
use Rattle.sheet.specs.Pass.{Sheet, Cell, Ran, run_from, pass}
use Rattle.pass_laws.specs.WholeSheets.{WholeSteps, WholeSheet}
use Rattle.price_clause.specs.Sheets.{Grown, GrownSheet, NoNegativeSpacing, Strip, FrameNoLess, CellNoLess}
use Rattle.sheet.specs.Ticks.{Ticks, ticks, in_ticks}
use Rattle.sheet.proofs.Passes.{plain-pass}
use Rattle.pass_laws.specs.EachCell.{EachCell}
use Rattle.price_clause.proofs.Plates.{Starts, Start, Open}
use Rattle.price_clause.proofs.OfStrips.StripPlaces.{Place, placer_at, Few, Sound, le-steps, zero-steps, start_of, strip-starts}
use Rattle.price_clause.proofs.OfStrips.StripSteps.{past_control, Goes, ControlGoes, row-end-goes, control-goes}

-- ---- rectangles in steps, read in ticks
module _ (k : ℕ) (l : k ≤ 7) where
  pub ticks-is : (z : ℤ) → Few z → ticks k (val k z) ≡ z
  ticks-is z Z = (points-to-steps k (omega arith) z (omega arith)).1

  pub ticks-rect : (left top right bottom : ℤ) → Few left → Few top → Few right → Few bottom → in_ticks k (rect_in k left top right bottom) ≡ record { left = left; top = top; right = right; bottom = bottom }
  ticks-rect left top right bottom L Y R B = rw (ticks-is left L, ticks-is top Y, ticks-is right R, ticks-is bottom B)

-- ---- two strips, the second at least as far on
pub record Beside (o o' : Place) : Type 0 where
  pub left : o.left ≡ o'.left
  pub top : o.top ≡ o'.top
  pub x : o.x ≤ᶻ o'.x

beside-itself : (o : Place) → Beside o o
beside-itself o = record { left = refl; top = refl; x = omega arith }

past-beside : (o o' : Place) → Beside o o' → (s w h w' h' : ℤ) → w ≤ᶻ w' → Beside (past_control o s w h) (past_control o' s w' h')
past-beside o o' B s w h w' h' W = record {
  left = B.left;
  top = B.top;
  x = omega (arith, sum o.x w, sum o'.x w', sum (o.x +ℤ w) s, sum (o'.x +ℤ w') s);
}

frame-beside : (o o' : Place) → Beside o o' → (w h w' h' : ℤ) → w ≤ᶻ w' → h ≤ᶻ h'
    → FrameNoLess (record { left = o.x; top = o.top; right = o.x +ℤ w; bottom = o.top +ℤ h }) (record { left = o'.x; top = o'.top; right = o'.x +ℤ w'; bottom = o'.top +ℤ h' })
frame-beside o o' B w h w' h' W H = record {
  left = order B.x;
  top = order (omega (arith, whole));
  width = order (omega (arith, sum o.x w, sum o'.x w', diff (o.x +ℤ w) o.x, diff (o'.x +ℤ w') o'.x));
  height = order (omega (arith, sum o.top h, sum o'.top h', diff (o.top +ℤ h) o.top, diff (o'.top +ℤ h') o'.top));
}

same_start : (k : ℕ) {x x' y y' : ℤ} {cs : List Cell} → x ≡ x' → y ≡ y' → Start k x' y' cs → Start k x y cs
same_start k e f s = rw (e, f) s

-- ---- a record's lengths
control-whole : {k : ℕ} {w h : Float} {rest : List Step} → WholeSteps k (Widget w h ∷ rest) → Edge k w × Edge k h × WholeSteps k rest
control-whole (WholeSteps.control w h r) = (w, h, r)

row-end-whole : {k : ℕ} {rest : List Step} → WholeSteps k (RowEnd ∷ rest) → WholeSteps k rest
row-end-whole (WholeSteps.row_end r) = r

-- ---- two runs
-- from the places o and o': no frame of the second is less; none starts before min_rect's corner; and where the cursor is still there, the
-- first ones stand at it
pub record RanNoLess (k : ℕ) (o o' : Place) (r r' : Ran) : Type 0 where
  pub cells : Forall₂ (CellNoLess k) r.cells r'.cells
  pub starts : Start k o.left o.top r.cells
  pub starts' : Start k o'.left o'.top r'.cells
  pub opens : o.x ≡ o.left → o'.x ≡ o'.left → Open k r.cells r'.cells

module _ (k : ℕ) (l : k ≤ 6) (a : Align) (sp : Vec2) (s : ℤ) (gap : sp.x ≡ val k s) (S : Few s) (some : pos 0 ≤ᶻ s) where
  small : {x : Float} (e : Edge k x) → Few e.steps
  small e = edge-small k (omega arith) e

  edge-le : {x y : Float} (d : Edge k x) (e : Edge k y) → le x y ≡ true → d.steps ≤ᶻ e.steps
  edge-le {x} {y} d e h = le-steps k (omega arith) d.steps e.steps (small d) (small e) (rw (d.is, e.is) at h)

  frame_is : {n : ℕ} {o : Place} {w h : ℤ} {x : List Step} {r : Ran} → Sound o → (c : ControlGoes k a sp s n o w h x r)
      → in_ticks k c.cell.frame ≡ record { left = o.x; top = o.top; right = o.x +ℤ w; bottom = o.top +ℤ h }
  frame_is {o = o} {w = w} {h = h} O c = ap (in_ticks k) c.frame ∙ ticks-rect k (omega arith) o.x o.top (o.x +ℤ w) (o.top +ℤ h) O.x O.top c.right c.bottom

  frame-grows : {n : ℕ} {o o' : Place} {w h w' h' : ℤ} {x y : List Step} {r r' : Ran} → Sound o → Sound o' → Beside o o' → w ≤ᶻ w' → h ≤ᶻ h'
      → (c : ControlGoes k a sp s n o w h x r) (c' : ControlGoes k a sp s n o' w' h' y r') → CellNoLess k c.cell c'.cell
  frame-grows {o} {o'} {w} {h} {w'} {h'} O O' B W H c c' =
      rw (frame_is O c, frame_is O' c') (frame-beside o o' B w h w' h' W H)

  frame-starts : {n : ℕ} {o : Place} {w h : ℤ} {x : List Step} {r : Ran} → Sound o → (c : ControlGoes k a sp s n o w h x r) → Starts o.left o.top (in_ticks k c.cell.frame)
  frame-starts {o = o} O c = rw (frame_is O c) (record { left = order O.past; top = ≤ℤ_refl o.top })

  -- where what comes after a W or an E is no less, it is so with it
  after-control : {n : ℕ} {o o' : Place} {w h w' h' : ℤ} {x y : List Step} {r r' : Ran} → Sound o → Sound o' → Beside o o' → (c : ControlGoes k a sp s n o w h x r) (c' : ControlGoes k a sp s n o' w' h' y r')
      → CellNoLess k c.cell c'.cell
      → RanNoLess k (past_control o s w h) (past_control o' s w' h') (run_from k sp (n + 1) (placer_at k a (past_control o s w h)) x) (run_from k sp (n + 1) (placer_at k a (past_control o' s w' h')) y)
      → RanNoLess k o o' r r'
  after-control {o = o} {o' = o'} O O' B c c' f later = record {
    cells = rw (c.goes.cells, c'.goes.cells) (Forall₂.cons f later.cells);
    starts = rw c.goes.cells (EachCell.more (frame-starts O c) later.starts);
    starts' = rw c'.goes.cells (EachCell.more (frame-starts O' c') later.starts');
    opens = λ e e'.
        (let x = ap (λ (t : Ticks). t.left) (frame_is O c) in
        let x' = ap (λ (t : Ticks). t.left) (frame_is O' c') in
        let y = ap (λ (t : Ticks). t.top) (frame_is O c) in
        let y' = ap (λ (t : Ticks). t.top) (frame_is O' c') in
        rw (c.goes.cells, c'.goes.cells) (Open.both
        (record { left = x ∙ e ∙ B.left ∙ sym e' ∙ sym x'; top = y ∙ B.top ∙ sym y' })
        (same_start k (x ∙ e) y later.starts) (same_start k (x' ∙ e') y' later.starts')));
  }

  after-row-end : {n : ℕ} {o o' : Place} {x y : List Step} {r r' : Ran} → Goes k a sp n o [] x r → Goes k a sp n o' [] y r'
      → RanNoLess k o o' (run_from k sp (n + 1) (placer_at k a o) x) (run_from k sp (n + 1) (placer_at k a o') y) → RanNoLess k o o' r r'
  after-row-end g g' later = record {
    cells = rw (g.cells, g'.cells) later.cells;
    starts = rw g.cells later.starts;
    starts' = rw g'.cells later.starts';
    opens = λ e e'. rw (g.cells, g'.cells) (later.opens e e');
  }

  run-grows : {x y : List Step} → Grown x y → WholeSteps k x → WholeSteps k y → (n : ℕ) (o o' : Place) → Sound o → Sound o' → Beside o o'
      → (run_from k sp n (placer_at k a o) x).number ≡ 0 → (run_from k sp n (placer_at k a o') y).number ≡ 0 → RanNoLess k o o' (run_from k sp n (placer_at k a o) x) (run_from k sp n (placer_at k a o') y)
  run-grows Grown.none X Y n o o' O O' B e e' = unfold run_from in record { cells = Forall₂.nil; starts = EachCell.none; starts' = EachCell.none; opens = λ z z'. Open.empty }
  run-grows (Grown.control {a = x} {b = y} W H G) X Y n o o' O O' B e e' =
      let E = control-whole X in
      let E' = control-whole Y in
      let wider = edge-le E.0 E'.0 W in
      let taller = edge-le E.1 E'.1 H in
      let c = control-goes k a sp n o x l O s gap S some E.0 E.1 e in
      let c' = control-goes k a sp n o' y l O' s gap S some E'.0 E'.1 e' in
      let q = past_control o s E.0.steps E.1.steps in
      let q' = past_control o' s E'.0.steps E'.1.steps in
      let beside = past-beside o o' B s E.0.steps E.1.steps E'.0.steps E'.1.steps wider in
      after-control O O' B c c' (frame-grows O O' B wider taller c c')
      (run-grows G E.2 E'.2 (n + 1) q q' c.sound c'.sound beside c.goes.accepted c'.goes.accepted)
  run-grows (Grown.row_end {a = x} {b = y} G) X Y n o o' O O' B e e' =
      let g = row-end-goes k a sp n o x e in
      let g' = row-end-goes k a sp n o' y e' in
      after-row-end g g' (run-grows G (row-end-whole X) (row-end-whole Y) (n + 1) o o' O O' B g.accepted g'.accepted)

-- ---- two passes
abbrev run_of : ℕ → Heading → List Step → Ran
run_of k h steps = run_from k h.spacing (h.records + 1) (new_placer k h.max_rect h.layout) steps

headed-grows : (k : ℕ) → k ≤ 6 → (h : Heading) (a : Align) → h.layout ≡ strip a → WholeRect k h.max_rect → WholeSize k h.spacing → le zero_f h.spacing.x ≡ true → rect_fault h.max_rect ≡ 0
    → {x y : List Step} → Grown x y → WholeSteps k x → WholeSteps k y → (run_of k h x).number ≡ 0 → (run_of k h y).number ≡ 0 → Forall₂ (CellNoLess k) (run_of k h x).cells (run_of k h y).cells × Open k (run_of k h x).cells (run_of k h y).cells
headed-grows k l h a i W S some f {x} {y} G X Y e e' =
    let b = strip-starts k l a h.max_rect W f in
    let o = start_of k h.max_rect W in
    let start : new_placer k h.max_rect h.layout ≡ placer_at k a o = rw i b.is in
    let s = S.x.steps in
    let F = edge-small k (omega arith) S.x in
    let P = le-steps k (omega arith) (pos 0) s (omega arith) F (rw (zero-steps k (omega arith), S.x.is) at some) in
    let r = run-grows k l a h.spacing s S.x.is F P G X Y (h.records + 1) o o b.sound b.sound (beside-itself o) (rw start at e) (rw start at e') in
    rw start (r.cells, r.opens refl refl)

pub strips-grow : (k : ℕ) → k ≤ 6 → (a b : Sheet) → GrownSheet a b → WholeSheet k a → WholeSheet k b → Strip a → NoNegativeSpacing a
    → (known known' : Bool) (m m' : Memory) (sizing sizing' : Bool)
    → (pass k a known m sizing).number ≡ 0 → (pass k b known' m' sizing').number ≡ 0
    → Forall₂ (CellNoLess k) (pass k a known m sizing).cells (pass k b known' m' sizing').cells
    × Open k (pass k a known m sizing).cells (pass k b known' m' sizing').cells
strips-grow k l a b G A B S N known known' m m' sizing sizing' e e' =
    let P = plain-pass k a known m sizing S.no-grid e in
    let P' = plain-pass k b known' m' sizing' (ap (λ (h : Heading). h.has_grid) (sym G.heading) ∙ S.no-grid) e' in
    let i : run_of k b.heading b.steps ≡ run_of k a.heading b.steps = ap (λ (h : Heading). run_of k h b.steps) (sym G.heading) in
    let r = headed-grows k l a.heading S.align S.is A.rect A.spacing N.across P.rect G.steps A.steps B.steps P.run (rw i at P'.run) in
    rw (P.cells, P'.cells, i) r
