-- Every number of a list has a text: whole ticks of the domain, and small counts. Assumes nothing.
use Rattle.std.proofs.Common.{ℕ, ◌≤◌, ◌<◌, ◌≡◌, refl, ap, ◌∙◌, true, List, [], ◌∷◌, ◌++◌, arith, lt-ltb, ℤ, pos, negsuc, nat_abs, Float}
use Rattle.emath.specs.Steps.{Edge}
use Rattle.emath.proofs.Casts.{points-to-steps}
use Rattle.emath.proofs.Sums.{edge-small}
use Rattle.emath.specs.declared.Rect.{Rect}
use Rattle.region.specs.Steps.{WholeRect}
use Rattle.text.specs.Fields.{has_text}
use Rattle.text.specs.Lines.{have_texts}
use Rattle.sheet.specs.Pass.{Cell}
use Rattle.sheet.specs.Ticks.{ticks, in_ticks}
use Rattle.sheet.specs.Slices.{edges, eight}

pub count-text : (n : ℕ) → n < 100000000 → has_text (pos n) ≡ true
unfolding has_text
count-text n h = lt-ltb n 100000000 h

few-text : (z : ℤ) → nat_abs z ≤ 2097152 → has_text z ≡ true
unfolding has_text
few-text (pos n) h = lt-ltb n 100000000 (omega arith)
few-text (negsuc n) h = lt-ltb n 9999999 (omega arith)

pub ticks-are : (x : Float) (e : Edge 5 x) → ticks 5 x ≡ e.steps
ticks-are x e =
    let E = edge-small 5 (omega arith) e in
    ap (λ (y : Float). ticks 5 y) e.is ∙ (points-to-steps 5 (omega arith) e.steps (omega (arith, E))).1

pub tick-text : (x : Float) → Edge 5 x → has_text (ticks 5 x) ≡ true
tick-text x e = ap (λ (z : ℤ). has_text z) (ticks-are x e) ∙ few-text e.steps e.few

-- ---- lines
pub one_more : (z : ℤ) (zs : List ℤ) → has_text z ≡ true → have_texts zs ≡ true → have_texts (z ∷ zs) ≡ true
unfolding have_texts
one_more z zs a b = rw (a, b)

pub none_left : have_texts [] ≡ true
unfolding have_texts
none_left = refl

pub edges-texts : (r : Rect) (zs : List ℤ) → WholeRect 5 r → have_texts zs ≡ true → have_texts (edges (in_ticks 5 r) ++ zs) ≡ true
edges-texts r zs w h =
    one_more _ _ (tick-text r.left w.left) (one_more _ _ (tick-text r.top w.top) (one_more _ _ (tick-text r.right w.right) (one_more _ _ (tick-text r.bottom w.bottom) h)))

pub widget-texts : (n : ℕ) (c : Cell) → n < 100000000 → WholeRect 5 c.frame → WholeRect 5 c.widget → have_texts (pos n ∷ eight c) ≡ true
widget-texts n c l f w = one_more _ _ (count-text n l) (edges-texts c.frame _ f (edges-texts c.widget [] w none_left))

pub entry-texts : (n : ℕ) (x : Float) → n < 100000000 → Edge 5 x → have_texts (pos n ∷ ticks 5 x ∷ []) ≡ true
entry-texts n x l e = one_more _ _ (count-text n l) (one_more _ _ (tick-text x e) none_left)

pub refusal-texts : (n at : ℕ) → n < 100000000 → at < 100000000 → have_texts (pos n ∷ pos at ∷ []) ≡ true
refusal-texts n at l m = one_more _ _ (count-text n l) (one_more _ _ (count-text at m) none_left)
