-- Edges and lengths in whole steps as f32 numbers: `pt n` is the edge n steps from B steps before zero, `len n` the length of n steps. Their
-- sums, order and rounding are the whole numbers' up to 4 B, and every number of the domain rounds to such an edge. Assumes nothing.
use mathlib.Core.Path.{◌≡◌, sym, ◌∙◌, ap}
use Prim.Native.Nat.{ℕ, suc, ◌+◌, ◌-◌, ◌*◌, ◌/◌, ◌^◌, ◌≤◌, min, max}
use native.Mathlib.Omega.{arith}
use lib.Dec.{T}
use lib.IntN.{ℤ, pos, negsuc, neg_ℤ, ◌+ℤ◌, ◌-ℤ◌}
use lib.Pow.{pow_mono}
use lib.Ieee.{Float, binary32, of_bits, add, sub, div, le}
use Rattle.emath.specs.Rectangles.{near_up, max_f, two_f, centre_on, round_ui}
use Rattle.emath.specs.Domain.{within}
use Rattle.emath.specs.Steps.{val, round_z, most, Edge}
use Rattle.emath.proofs.Whole.{more, less, Within, unsigned_abs-within, within-unsigned_abs, sum, diff, more-neg, less-neg, whole, max_z, max-is, →le_z}
use Rattle.emath.proofs.Exact.{Small}
use Rattle.emath.proofs.Values.{val-add, val-sub, val-max, val-div, val-finer}
use Rattle.emath.proofs.Order.{val_mono}
use Rattle.emath.proofs.Rounding.{val-round, val-whole}
use Rattle.emath.proofs.Edges.{within-steps, steps-within, within-edge}
use Rattle.model.proofs.WholeSteps.Halves.{rounded, Halved, below, above, halved}

-- n steps from B steps before zero
unfoldable pub at : ℕ → ℕ → ℤ
at B n = neg_ℤ (pos B) +ℤ pos n

pub at-parts : (B n : ℕ) → more (at B n) + B ≡ n + less (at B n)
unfolding at
at-parts B n = omega (arith, sum (neg_ℤ (pos B)) (pos n), more-neg (pos B), less-neg (pos B))

abbrev pub pt : ℕ → ℕ → ℕ → Float
pt k B n = val k (at B n)

abbrev pub len : ℕ → ℕ → Float
len k n = val k (pos n)

module _ (k B : ℕ) (l : k ≤ 149) (cap : 4 * B ≤ 16777216) where
  pub small_at : (n : ℕ) → n ≤ 4 * B → Small (at B n)
  small_at n h = omega (arith, at-parts B n)

  small-len : (n : ℕ) → n ≤ 4 * B → Small (pos n)
  small-len n h = omega arith

  pub add-pt : (a b : ℕ) → a + b ≤ 4 * B → add binary32 (pt k B a) (len k b) ≡ pt k B (a + b)
  add-pt a b h =
      let e : at B a +ℤ pos b ≡ at B (a + b) = omega (arith, whole, sum (at B a) (pos b), at-parts B a, at-parts B (a + b)) in
      val-add k l (at B a) (pos b) (small_at a (omega arith)) (small-len b (omega arith)) ∙ ap (val k) e

  pub add-len : (a b : ℕ) → a + b ≤ 4 * B → add binary32 (len k a) (len k b) ≡ len k (a + b)
  add-len a b h = val-add k l (pos a) (pos b) (small-len a (omega arith)) (small-len b (omega arith))

  pub sub-pt : (a b : ℕ) → b ≤ a → a ≤ 4 * B → sub binary32 (pt k B a) (pt k B b) ≡ len k (a - b)
  sub-pt a b g h =
      let e : at B a -ℤ at B b ≡ pos (a - b) = omega (arith, whole, diff (at B a) (at B b), at-parts B a, at-parts B b) in
      val-sub k l (at B a) (at B b) (small_at a h) (small_at b (omega arith)) ∙ ap (val k) e

  -- an edge less a length
  pub back-pt : (a b : ℕ) → b ≤ a → a ≤ 4 * B → sub binary32 (pt k B a) (len k b) ≡ pt k B (a - b)
  back-pt a b g h =
      let e : at B a -ℤ pos b ≡ at B (a - b) = omega (arith, whole, diff (at B a) (pos b), at-parts B a, at-parts B (a - b)) in
      val-sub k l (at B a) (pos b) (small_at a h) (small-len b (omega arith)) ∙ ap (val k) e

  pub high-len : (a b : ℕ) → a ≤ 4 * B → b ≤ 4 * B → max_f (len k a) (len k b) ≡ len k (max a b)
  high-len a b g h =
      let e : max_z (pos a) (pos b) ≡ pos (max a b) = omega (arith, whole, max-is (pos a) (pos b)) in
      val-max k l (pos a) (pos b) (small-len a g) (small-len b h) ∙ ap (val k) e

  pub round-pt : (a : ℕ) → a ≤ 4 * B → round_ui k (pt k B a) ≡ pt k B a
  round-pt a h = val-whole k (at B a) l (small_at a h)

pub le-pt : (k B a b : ℕ) → a ≤ b → T (le (pt k B a) (pt k B b))
le-pt k B a b h = val_mono k (at B a) (at B b) (→le_z (at B a) (at B b) (omega (arith, at-parts B a, at-parts B b)))

pub le-len : (k a b : ℕ) → a ≤ b → T (le (len k a) (len k b))
le-len k a b h = val_mono k (pos a) (pos b) (→le_z (pos a) (pos b) (omega arith))

-- ---- half steps
one-sided : (z : ℤ) → min (more z) (less z) ≡ 0
one-sided (pos n) = omega arith
one-sided (negsuc n) = omega arith

away : (z : ℤ) → (more (round_z 1 z) ≡ (more z + 1) / 2) × (less (round_z 1 z) ≡ (less z + 1) / 2)
away (pos n) = omega arith
away (negsuc n) = omega (arith, more-neg (pos (near_up (suc n) (2 ^ 1))), less-neg (pos (near_up (suc n) (2 ^ 1))))

-- n half steps from B steps before zero, rounded
rounded-at : (B n : ℕ) → round_z 1 (at (2 * B) n) ≡ at B (rounded B n)
rounded-at B n = go (halved B n)
  where
    go : Halved B n → round_z 1 (at (2 * B) n) ≡ at B (rounded B n)
    go (below h e) = omega (arith, whole, away (at (2 * B) n), one-sided (at (2 * B) n), at-parts (2 * B) n, at-parts B (rounded B n))
    go (above h e) = omega (arith, whole, away (at (2 * B) n), one-sided (at (2 * B) n), at-parts (2 * B) n, at-parts B (rounded B n))

module _ (k B : ℕ) (l : k ≤ 100) (cap : 4 * B ≤ 16777216) where
  round-half : (n : ℕ) → n ≤ 4 * B → round_ui k (val (1 + k) (at (2 * B) n)) ≡ pt k B (rounded B n)
  round-half n h = val-round k 1 (at (2 * B) n) (omega arith) (omega (arith, at-parts (2 * B) n)) ∙ ap (val k) (rounded-at B n)

  -- where a control of height h starts, centred in a frame of height H at a, and where it ends
  module _ (a H h : ℕ) (le₁ : h ≤ H) (le₂ : a + H ≤ 2 * B) where
    abbrev start : Float
    start = sub binary32 (centre_on (pt k B a) (pt k B (a + H))) (div binary32 (len k h) two_f)

    start-at : start ≡ val (1 + k) (at (2 * B) (2 * a + (H - h)))
    unfolding of_bits
    start-at =
        let l' : k ≤ 149 = omega arith in
        let X : Small (at B a) = omega (arith, at-parts B a) in
        let Y : Small (at B (a + H)) = omega (arith, at-parts B (a + H)) in
        let S : Small (pos h) = omega arith in
        let M : Small (at B a +ℤ at B (a + H)) = omega (arith, sum (at B a) (at B (a + H)), at-parts B a, at-parts B (a + H)) in
        let e : at B a +ℤ at B (a + H) -ℤ pos h ≡ at (2 * B) (2 * a + (H - h))
        = omega (arith, whole, sum (at B a) (at B (a + H)), diff (at B a +ℤ at B (a + H)) (pos h), at-parts B a, at-parts B (a + H), at-parts (2 * B) (2 * a + (H - h))) in
        rw (
          val-add k l' (at B a) (at B (a + H)) X Y,
          val-div k 1 (at B a +ℤ at B (a + H)) M l',
          val-div k 1 (pos h) S l',
          val-sub (1 + k) (omega arith) (at B a +ℤ at B (a + H)) (pos h) M S,
        ) (ap (val (1 + k)) e)

    pub start_of : round_ui k start ≡ pt k B (rounded B (2 * a + (H - h)))
    start_of = ap (round_ui k) start-at ∙ round-half (2 * a + (H - h)) (omega arith)

    pub end_of : round_ui k (add binary32 start (len k h)) ≡ pt k B (rounded B (2 * a + (H - h) + 2 * h))
    end_of =
        let n = 2 * a + (H - h) in
        let f : len k h ≡ val (1 + k) (pos (h * 2)) = sym (val-finer k 1 (pos h)) in
        let X : Small (at (2 * B) n) = omega (arith, at-parts (2 * B) n) in
        let e : at (2 * B) n +ℤ pos (h * 2) ≡ at (2 * B) (n + 2 * h) = omega (arith, whole, sum (at (2 * B) n) (pos (h * 2)), at-parts (2 * B) n, at-parts (2 * B) (n + 2 * h)) in
        ap (round_ui k) (rw (start-at, f) (val-add (1 + k) (omega arith) (at (2 * B) n) (pos (h * 2)) X (omega arith) ∙ ap (val (1 + k)) e))
        ∙ round-half (n + 2 * h) (omega arith)

-- ---- the domain's test
pub cap : (k B : ℕ) → k ≤ 6 → B ≡ most k → 4 * B ≤ 16777216
cap k B l b = omega (arith, pow_mono {i = k} {j = 6} l)

-- a whole number of steps of the domain, counted
pub record Counted (k B : ℕ) (x : Float) : Type 0 where
  pub count : ℕ
  pub few : count ≤ 2 * B
  pub is : x ≡ pt k B count

module _ (k B : ℕ) (l : k ≤ 6) (b : B ≡ most k) where
  pub inside-pt : (n : ℕ) → n ≤ 4 * B → T (within (pt k B n)) → n ≤ 2 * B
  inside-pt n h t =
      let w : Within (most k) (at B n) = within-unsigned_abs (at B n) (within-steps k (omega arith) (at B n) (small_at k B (omega arith) (cap k B l b) n h) t) in
      omega (arith, at-parts B n)

  pub pt-inside : (n : ℕ) → n ≤ 2 * B → T (within (pt k B n))
  pt-inside n h =
      let w : Within (most k) (at B n) = omega (arith, at-parts B n) in
      steps-within k (omega arith) (at B n) (unsigned_abs-within w)

  pub edge-counted : {x : Float} → Edge k x → Counted k B x
  edge-counted {x} e =
      let z = e.steps in
      let w : Within (most k) z = within-unsigned_abs z e.few in
      let c : ℕ = B + more z - less z in
      let q : z ≡ at B c = omega (arith, whole, at-parts B c) in
      record { count = c; few = omega (arith, one-sided z); is = e.is ∙ ap (val k) q }

  -- any number of the domain, rounded
  pub some-pt : (x : Float) → T (within x) → Counted k B (round_ui k x)
  some-pt x t = edge-counted (within-edge k (omega arith) x t)
