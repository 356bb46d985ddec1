-- A whole tick times 32 is a whole number that an i32 holds. Assumes nothing.
use Prim.Native.Nat.{ℕ, suc, ◌+◌, ◌≤◌}
use mathlib.Core.Path.{◌≡◌, refl, ap, sym, ◌∙◌}
use native.Mathlib.Omega.{arith}
use lib.Dec.{T}
use lib.IntN.{ℤ}
use lib.ListN.{set}
use lib.Seq.{sets}
use mathlib.Core.List.{List, [], ◌∷◌}
use mir.Syntax.{w32}
use mir.Val.{to_z, of_z}
use lib.Ieee.{Float, binary32, of_bits, mul, in_signed, to_signed}
use Rattle.emath.specs.Steps.{tick, two, Edge}
use Rattle.emath.proofs.Casts.{points-to-steps, back32}
use Rattle.emath.proofs.Sums.{edge-small}
use Rattle.sheet.specs.Ticks.{ticks}

thirty_two : of_bits binary32 1107296256 ≡ two tick
unfolding of_bits
thirty_two = refl

pub casts : (x : Float) → Edge tick x → T (in_signed binary32 31 (mul binary32 x (of_bits binary32 1107296256)))
casts x e =
    let E = edge-small tick (omega arith) e in
    rw (thirty_two, e.is) (points-to-steps tick (omega arith) e.steps (omega (arith, E))).0

pub steps-are : (k : ℕ) → k ≤ 7 → (x : Float) (e : Edge k x) → ticks k x ≡ e.steps
steps-are k l x e = ap (λ (y : Float). ticks k y) e.is ∙ (points-to-steps k (omega arith) e.steps (omega (arith, edge-small k l e))).1

pub ticks-are : (x : Float) (e : Edge tick x) → ticks tick x ≡ e.steps
ticks-are = steps-are tick (omega arith)

pub counted-in-ticks : (x : Float) → Edge tick x → to_z w32 (of_z w32 (to_signed 31 (mul binary32 x (of_bits binary32 1107296256)))) ≡ ticks tick x
counted-in-ticks x e =
    let v = ticks-are x e in
    ap (λ (y : Float). to_z w32 (of_z w32 (to_signed 31 (mul binary32 x y)))) thirty_two ∙ ap (λ (z : ℤ). to_z w32 (of_z w32 z)) v ∙ back32 (omega arith) (edge-small tick (omega arith) e) ∙ sym v

-- eight numbers one after the other
pub eight-put : (out : List ℤ) (at : ℕ) (a b c d e f g h : ℤ)
    → set (set (set (set (set (set (set (set out at a) (at + 1) b) (at + 2) c) (at + 3) d) (at + 4) e) (at + 5) f) (at + 6) g) (at + 7) h
    ≡ sets out at (a ∷ b ∷ c ∷ d ∷ e ∷ f ∷ g ∷ h ∷ [])
eight-put out at a b c d e f g h =
    let p1 : at + 1 ≡ suc at = omega arith in
    let p2 : at + 2 ≡ suc (suc at) = omega arith in
    let p3 : at + 3 ≡ suc (suc (suc at)) = omega arith in
    let p4 : at + 4 ≡ suc (suc (suc (suc at))) = omega arith in
    let p5 : at + 5 ≡ suc (suc (suc (suc (suc at)))) = omega arith in
    let p6 : at + 6 ≡ suc (suc (suc (suc (suc (suc at))))) = omega arith in
    let p7 : at + 7 ≡ suc (suc (suc (suc (suc (suc (suc at)))))) = omega arith in
    rw (p1, p2, p3, p4, p5, p6, p7)

-- a number that comes back from 32 bits as it went in
abbrev pub Same : ℤ → Type 0
Same z = to_z w32 (of_z w32 z) ≡ z

pub same-eight : (a b c d e f g h a' b' c' d' e' f' g' h' : ℤ) → a ≡ a' → b ≡ b' → c ≡ c' → d ≡ d' → e ≡ e' → f ≡ f' → g ≡ g' → h ≡ h'
    → ◌≡◌ {A = List ℤ} (a ∷ b ∷ c ∷ d ∷ e ∷ f ∷ g ∷ h ∷ []) (a' ∷ b' ∷ c' ∷ d' ∷ e' ∷ f' ∷ g' ∷ h' ∷ [])
same-eight a b c d e f g h a' b' c' d' e' f' g' h' p q r s t u v w = rw (p, q, r, s, t, u, v, w)
