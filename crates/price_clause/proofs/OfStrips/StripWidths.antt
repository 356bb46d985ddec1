-- How wide the plate of a strip is (`strip-width` of UnitClause): from the first frame's left to the last one's right, which is where the
-- cursor comes to, less one spacing. For steps of 1 to 1/64 point. Assumes nothing.
use mathlib.Core.Path.{◌≡◌, refl, ap, ◌∙◌}
use mathlib.Core.Bool.{Bool}
use mathlib.Core.List.{List, [], ◌∷◌}
use Prim.Native.Nat.{ℕ, zero, suc, ◌+◌, ◌-◌, ◌≤◌, ◌<◌}
use native.Mathlib.Omega.{arith}
use native.Mathlib.Nat.{add-mul}
use lib.IntN.{ℤ, pos, ◌+ℤ◌, ◌-ℤ◌, ◌*ℤ◌}
use lib.ListN.{length, length-map}
use lib.Ieee.{Float}
use Rattle.emath.specs.Rectangles.{zero_f}
use Rattle.emath.specs.Steps.{val, Edge}
use Rattle.emath.proofs.Whole.{more, less, ◌≤ᶻ◌, sum, diff, same, order, whole}
use Rattle.emath.proofs.Sums.{edge-small}
use Rattle.emath.specs.declared.Vec2.{Vec2}
use Rattle.emath.specs.declared.Align.{Align}
use Rattle.records.specs.Units.{in_steps}
use Rattle.records.specs.Conversions.{total}
use Rattle.records.specs.Controls.{Size, Measures, Sized}
use Rattle.records.specs.declared.SizeUnit.{SizeUnit}
use Rattle.records.specs.declared.Step.{Step}
use Rattle.records.proofs.Hundredths.{more-times, less-times}
use Rattle.records.specs.Sheets.{widget_step}
use Rattle.records.specs.declared.Heading.{Heading}
use Rattle.region.specs.Refusals.{zero_rect}
use Rattle.placer.specs.Rules.{new_placer}
use Rattle.grid.specs.declared.Memory.{Memory}
use Rattle.emath.specs.declared.Rect.{Rect}
use Rattle.sheet.specs.Pass.{Sheet, Cell, run_from, pass}
use Rattle.sheet.specs.Slices.{controls}
use Rattle.sheet.proofs.Passes.{plain-pass}
use Rattle.sheet.proofs.Shown.{pass_all}
use Rattle.pass_laws.specs.WholeSheets.{WholeSheet}
use Rattle.pass_laws.proofs.WholeEdges.{plate-is-smallest, no-control}
use Rattle.price_clause.specs.Sheets.{NoNegativeSpacing, Strip}
use Rattle.sheet.specs.Ticks.{Ticks, ticks, in_ticks, width}
use Rattle.pass_laws.specs.EachCell.{EachCell}
use Rattle.pass_laws.specs.Plates.{Holds, HoldsFrames, Smallest}
use Rattle.price_clause.specs.UnitClause.{spacings, widths, step_widths}
use Rattle.price_clause.proofs.OfStrips.StripPlaces.{Place, placer_at, Few, Sound, le-steps, zero-steps, start_of, strip-starts}
use Rattle.price_clause.proofs.OfStrips.StripSteps.{past_control, row-end-goes, control-goes}
use Rattle.price_clause.proofs.OfStrips.Strips.{ticks-is, ticks-rect}

-- ---- where the cursor comes to from x, past controls of these widths with s after each
abbrev pub after : ℤ → ℤ → List ℤ → ℤ
after s x zs = x +ℤ (total zs +ℤ (pos (length zs) *ℤ s))

one_more : (n : ℕ) (s : ℤ) → pos (suc n) *ℤ s ≡ s +ℤ (pos n *ℤ s)
one_more n s =
    same (pos (suc n) *ℤ s) (s +ℤ (pos n *ℤ s))
    (omega (arith, sum s (pos n *ℤ s), more-times (suc n) s, less-times (suc n) s, more-times n s, less-times n s, add-mul 1 n (more s), add-mul 1 n (less s)))

after_none : (s x : ℤ) → after s x [] ≡ x
unfolding total
after_none s x =
    let t = pos 0 *ℤ s in
    same (after s x []) x (omega (arith, sum x (pos 0 +ℤ t), sum (pos 0) t, more-times 0 s, less-times 0 s))

after_more : (s x w : ℤ) (zs : List ℤ) → after s x (w ∷ zs) ≡ after s (x +ℤ w +ℤ s) zs
unfolding total
after_more s x w zs =
    let t = pos (length zs) *ℤ s in
    let T = total zs in
    rw (one_more (length zs) s)
    (same (x +ℤ ((w +ℤ T) +ℤ (s +ℤ t))) (x +ℤ w +ℤ s +ℤ (T +ℤ t))
    (omega (arith, sum x ((w +ℤ T) +ℤ (s +ℤ t)), sum (w +ℤ T) (s +ℤ t), sum w T, sum s t, sum (x +ℤ w +ℤ s) (T +ℤ t), sum (x +ℤ w) s, sum x w, sum T t)))

-- ---- the frames of a run: none starts before x, none ends after c - s; and what holds them all reaches both, where there is one
record Between (s x c : ℤ) (t : Ticks) : Type 0 where
  left : x ≤ᶻ t.left
  right : (t.right +ℤ s) ≤ᶻ c

record Reaches (s x c : ℤ) (t : Ticks) : Type 0 where
  left : t.left ≤ᶻ x
  right : c ≤ᶻ (t.right +ℤ s)

record Spans (k : ℕ) (s x c : ℤ) (cs : List Cell) : Type 0 where
  on : x ≤ᶻ c
  each : EachCell (λ (d : Cell). Between s x c (in_ticks k d.frame)) cs
  none : length cs ≡ 0 → c ≡ x
  some : (t : Ticks) → HoldsFrames k t cs → 0 < length cs → Reaches s x c t

further : (k : ℕ) {s x y c : ℤ} {cs : List Cell} → x ≤ᶻ y → EachCell (λ (d : Cell). Between s y c (in_ticks k d.frame)) cs → EachCell (λ (d : Cell). Between s x c (in_ticks k d.frame)) cs
further k l EachCell.none = EachCell.none
further k {x = x} {y = y} l (EachCell.more {c = d} b rest) = EachCell.more {c = d} (record { left = omega (arith, l.le, b.left.le); right = b.right }) (further k l rest)

-- a control of width w at x, before frames that span from x + w + s on
with-control : (k : ℕ) (s x w c : ℤ) (d : Cell) (cs : List Cell) (y z : ℤ) → pos 0 ≤ᶻ s → pos 0 ≤ᶻ w → in_ticks k d.frame ≡ record { left = x; top = y; right = x +ℤ w; bottom = z }
    → Spans k s (x +ℤ w +ℤ s) c cs → Spans k s x c (d ∷ cs)
with-control k s x w c d cs y z S W e later =
    let i : x ≤ᶻ (x +ℤ w +ℤ s) = omega (arith, sum x w, sum (x +ℤ w) s) in
    record {
      on = omega (arith, i.le, later.on.le);
      each = EachCell.more {c = d} {cs = cs} (rw e (record { left = omega arith; right = later.on })) (further k i later.each);
      none = λ n. absurd (omega (arith, n));
      some = λ t h n. go t h (length cs) refl;
    }
  where
    reaches : (t : Ticks) → Holds t (in_ticks k d.frame) → c ≤ᶻ (t.right +ℤ s) → Reaches s x c t
    reaches t h r = let g : Holds t (record { left = x; top = y; right = x +ℤ w; bottom = z }) = rw e at h in record { left = omega (arith, whole, g.left.le); right = r }

    go : (t : Ticks) → HoldsFrames k t (d ∷ cs) → (n : ℕ) → length cs ≡ n → Reaches s x c t
    go t (EachCell.more h rest) zero n =
        let g : Holds t (record { left = x; top = y; right = x +ℤ w; bottom = z }) = rw e at h in
        let f : c ≡ x +ℤ w +ℤ s = later.none n in
        reaches t h (rw f (omega (arith, whole, g.right.le, sum (x +ℤ w) s, sum t.right s)))
    go t (EachCell.more h rest) (suc m) n = reaches t h (later.some t rest (omega (arith, n))).right

-- ---- a run
module _ (k : ℕ) (l : k ≤ 6) (a : Align) (sp : Vec2) (s : ℤ) (gap : sp.x ≡ val k s) (S : Few s) (some : pos 0 ≤ᶻ s) where
  abbrev edge : {u : SizeUnit} {z : ℤ} {x : Float} → Measures k u z x → Edge k x
  edge {u} {z} m = record { steps = in_steps k u z; few = m.few; is = m.is }

  run-spans : {u : SizeUnit} {sizes : List Size} {steps : List Step} → Sized k u sizes steps → (n : ℕ) (o : Place) → Sound o → (run_from k sp n (placer_at k a o) steps).number ≡ 0
      → Spans k s o.x (after s o.x (step_widths k u sizes)) (run_from k sp n (placer_at k a o) steps).cells
  run-spans Sized.none n o O e =
      rw (after_none s o.x) (unfold run_from in record { on = omega arith; each = EachCell.none; none = λ h. refl; some = λ t h i. absurd (omega (arith, i)) })
  run-spans {u} (Sized.control {s = z} {sizes = sizes} {steps = x} W H rest) n o O e =
      let w = in_steps k u z.width in
      let h = in_steps k u z.height in
      let c = control-goes k a sp n o x l O s gap S some (edge W) (edge H) e in
      let f : in_ticks k c.cell.frame ≡ record { left = o.x; top = o.top; right = o.x +ℤ w; bottom = o.top +ℤ h }
      = ap (in_ticks k) c.frame ∙ ticks-rect k (omega arith) o.x o.top (o.x +ℤ w) (o.top +ℤ h) O.x O.top c.right c.bottom in
      let later = run-spans rest (n + 1) (past_control o s w h) c.sound c.goes.accepted in
      rw (c.goes.cells, after_more s o.x w (step_widths k u sizes)) (with-control k s o.x w _ c.cell _ o.top (o.top +ℤ h) some c.wide f later)
  run-spans (Sized.row_end {steps = x} rest) n o O e =
      let g = row-end-goes k a sp n o x e in
      rw g.cells (run-spans rest (n + 1) o O g.accepted)

-- ---- the plate, which is the smallest rectangle around the frames
module _ (k : ℕ) (s x : ℤ) (zs : List ℤ) (cs : List Cell) (t : Ticks) (S : Smallest k t cs) (span : Spans k s x (after s x zs) cs) (some : 0 < length cs) where
  abbrev c : ℤ
  c = after s x zs

  -- from x to c - s, as high as it is
  abbrev strip : Ticks
  strip = record { left = x; top = t.top; right = c -ℤ s; bottom = t.bottom }

  holds : (ds : List Cell) → EachCell (λ (d : Cell). Between s x c (in_ticks k d.frame)) ds → HoldsFrames k t ds → HoldsFrames k strip ds
  holds [] EachCell.none EachCell.none = EachCell.none
  holds (d ∷ ds) (EachCell.more b rest) (EachCell.more h others) =
      EachCell.more (inside (in_ticks k d.frame) b h) (holds ds rest others)
    where
      inside : (f : Ticks) → Between s x c f → Holds t f → Holds strip f
      inside f b h = record { left = order b.left; top = h.top; right = order (omega (arith, b.right.le, sum f.right s, diff c s)); bottom = h.bottom }

  wide : width t ≡ total zs +ℤ (pos (length zs) *ℤ s) -ℤ s
  wide =
      let r = span.some t S.holds some in
      let h = S.least strip (holds cs span.each S.holds) in
      let n = total zs +ℤ (pos (length zs) *ℤ s) in
      same (width t) (n -ℤ s)
      (omega (arith, whole, r.left.le, r.right.le, h.left.le, h.right.le, sum t.right s, diff c s, sum x n, diff n s, diff t.right t.left))

-- n controls have one spacing less than n
one_less : (T s : ℤ) (n : ℕ) → 0 < n → T +ℤ (pos n *ℤ s) -ℤ s ≡ T +ℤ spacings s n
one_less T s zero h = absurd (omega arith)
one_less T s (suc n) h =
    let e : suc n - 1 ≡ n = omega arith in
    let t = pos n *ℤ s in
    rw (e, one_more n s) (same (T +ℤ (s +ℤ t) -ℤ s) (T +ℤ t) (omega (arith, diff (T +ℤ (s +ℤ t)) s, sum T (s +ℤ t), sum s t, sum T t)))

-- ---- a pass
sized-count : {k : ℕ} {u : SizeUnit} {sizes : List Size} {steps : List Step} → Sized k u sizes steps → controls steps ≡ length sizes
unfolding controls widget_step
sized-count Sized.none = refl
sized-count (Sized.control W H rest) = omega (arith, sized-count rest)
sized-count (Sized.row_end rest) = omega (arith, sized-count rest)

step_count : (k : ℕ) (u : SizeUnit) (sizes : List Size) → length (step_widths k u sizes) ≡ length sizes
step_count k u sizes = length-map (widths sizes) (in_steps k u) ∙ length-map sizes (λ (z : Size). z.width)

no-width : (g : ℤ) (t : Rect) (k : ℕ) → t ≡ zero_rect → width (in_ticks k t) ≡ total [] +ℤ spacings g 0
unfolding total
no-width g t k e =
    let z = ticks k zero_f in
    rw e (same (z -ℤ z) (pos 0 +ℤ spacings g 0) (omega (arith, diff z z, sum (pos 0) (spacings g 0), more-times 0 g, less-times 0 g)))

pub strip-wide : (k : ℕ) → k ≤ 6 → (s : Sheet) → WholeSheet k s → Strip s → NoNegativeSpacing s → (u : SizeUnit) (sizes : List Size) → Sized k u sizes s.steps
    → (known : Bool) (m : Memory) (sizing : Bool) → (pass k s known m sizing).number ≡ 0
    → width (in_ticks k (pass k s known m sizing).plate) ≡ total (step_widths k u sizes) +ℤ spacings (ticks k s.heading.spacing.x) (length sizes)
strip-wide k l s W T N u sizes Z known m sizing e = go sizes refl
  where
    h : Heading
    h = s.heading

    go : (zs : List Size) → sizes ≡ zs → width (in_ticks k (pass k s known m sizing).plate) ≡ total (step_widths k u zs) +ℤ spacings (ticks k h.spacing.x) (length zs)
    go [] i = no-width (ticks k h.spacing.x) (pass k s known m sizing).plate k (no-control k s known m sizing (sized-count Z ∙ ap length i))
    go (z ∷ zs) i =
        let P = plain-pass k s known m sizing T.no-grid e in
        let b = strip-starts k l T.align h.max_rect W.rect P.rect in
        let o = start_of k h.max_rect W.rect in
        let start : new_placer k h.max_rect h.layout ≡ placer_at k T.align o = rw T.is b.is in
        let g = W.spacing.x.steps in
        let F = edge-small k (omega arith) W.spacing.x in
        let Q = le-steps k (omega arith) (pos 0) g (omega arith) F (rw (zero-steps k (omega arith), W.spacing.x.is) at N.across) in
        let r = run-spans k l T.align h.spacing g W.spacing.x.is F Q Z (h.records + 1) o b.sound (rw start at P.run) in
        let n : 0 < controls s.steps = omega (arith, sized-count Z, ap length i) in
        let some : 0 < length (pass k s known m sizing).cells = omega (arith, n, pass_all k s known m sizing e) in
        let c : (pass k s known m sizing).cells ≡ (run_from k h.spacing (h.records + 1) (placer_at k T.align o) s.steps).cells = P.cells ∙ rw start in
        let w = wide k g o.x (step_widths k u sizes) (pass k s known m sizing).cells (in_ticks k (pass k s known m sizing).plate) (plate-is-smallest k (omega arith) s known m sizing e n) (rw c r) some in
        let q : ticks k h.spacing.x ≡ g = ap (ticks k) W.spacing.x.is ∙ ticks-is k (omega arith) g F in
        let d = one_less (total (step_widths k u sizes)) g (length (step_widths k u sizes)) (omega (arith, step_count k u sizes, ap length i)) in
        let f : total (step_widths k u sizes) +ℤ spacings g (length (step_widths k u sizes)) ≡ total (step_widths k u sizes) +ℤ spacings (ticks k h.spacing.x) (length sizes) = rw (q, step_count k u sizes) in
        w ∙ d ∙ f ∙ ap (λ (ys : List Size). total (step_widths k u ys) +ℤ spacings (ticks k h.spacing.x) (length ys)) i
