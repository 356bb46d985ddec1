-- A control centred in a frame of whole steps: its rounded height is at least its own and at most the frame's. It may be one step more
-- than its own, where it straddles zero. For steps of 1 to 1/128 point. Assumes nothing.
use Rattle.std.proofs.Common.{◌≡◌, sym, ap, ◌∙◌, false, ℕ, zero, suc, ◌+◌, ◌-◌, ◌*◌, ◌/◌, ◌^◌, ◌≤◌, ◌<◌, arith, ℤ, pos, negsuc, neg_ℤ, ◌+ℤ◌, ◌-ℤ◌}
use Rattle.std.specs.Float.Ieee.{of_bits}
use Rattle.emath.specs.Rectangles.{align_on, aligned_to, centred, height, round_rect, align_within}
use Rattle.emath.specs.Steps.{val, round_z}
use Rattle.emath.proofs.Whole.{more, less, Within, ◌≤ᶻ◌, sum, diff}
use Rattle.emath.proofs.Exact.{Small}
use Rattle.emath.proofs.Values.{val-add, val-sub, val-div, val-finer, twice, eq-inf}
use Rattle.emath.proofs.Rounding.{val-round}
use Rattle.grid.specs.Grids.{align_size_within_rect}
use Rattle.emath.specs.declared.Rect.{Rect}
use Rattle.emath.specs.declared.Vec2.{Vec2}
use Rattle.emath.specs.declared.Align.TheVariants.{Center}

-- ---- halves away from zero, by the parts of a whole number
half-parts : (z : ℤ) → (more (round_z 1 z) ≡ (more z + 1) / 2) × (less (round_z 1 z) ≡ (less z + 1) / 2)
half-parts (pos n) = (omega arith, omega arith)
half-parts (negsuc n) = neg-parts ((suc n * 2 + 2 ^ 1) / (2 ^ 1 * 2)) (omega arith) (omega arith)
  where
    neg-parts : (m : ℕ) → 0 < m → m ≡ (suc n + 1) / 2 → (more (neg_ℤ (pos m)) ≡ (0 + 1) / 2) × (less (neg_ℤ (pos m)) ≡ (suc n + 1) / 2)
    neg-parts zero p e = absurd (omega arith)
    neg-parts (suc m) p e = (omega arith, omega arith)

-- from a on 2 h half-steps, where a lies c half-steps from a whole step t
bounds : (a e t : ℤ) (h c : ℕ) → more e + less a ≡ more a + less e + 2 * h → more a + 2 * less t ≡ less a + 2 * more t + c
    → (more (round_z 1 a) + less (round_z 1 e) + h ≤ more (round_z 1 e) + less (round_z 1 a)) × (more (round_z 1 e) + less (round_z 1 a) ≤ more (round_z 1 a) + less (round_z 1 e) + h + c)
bounds (pos a) (pos e) t h c p q = (omega (arith, half-parts (pos a), half-parts (pos e)), omega (arith, half-parts (pos a), half-parts (pos e)))
bounds (pos a) (negsuc e) t h c p q = absurd (omega arith)
bounds (negsuc a) (pos e) t h c p q = (omega (arith, half-parts (negsuc a), half-parts (pos e)), omega (arith, half-parts (negsuc a), half-parts (pos e)))
bounds (negsuc a) (negsuc e) t h c p q = (omega (arith, half-parts (negsuc a), half-parts (negsuc e)), omega (arith, half-parts (negsuc a), half-parts (negsuc e)))

-- ---- a control of h steps in a frame from t to b
module _ (k : ℕ) (l : k ≤ 7) (t b : ℤ) (T : Within 8388608 t) (B : Within 8388608 b) (h : ℕ) (few : h ≤ 8388608) (inside : t +ℤ pos h ≤ᶻ b) where
  abbrev first : ℤ
  first = t +ℤ b -ℤ pos h

  abbrev last : ℤ
  last = t +ℤ b -ℤ pos h +ℤ (pos h +ℤ pos h)

  first_small : Small first
  first_small = omega (arith, sum t b, diff (t +ℤ b) (pos h), sum t (pos h))

  last-small : Small last
  last-small = omega (arith, sum t b, diff (t +ℤ b) (pos h), sum t (pos h), sum (t +ℤ b -ℤ pos h) (pos h +ℤ pos h))

  aligned : align_on Center (val k t) (val k b) (val k (pos h)) ≡ record { min = val (1 + k) first; max = val (1 + k) last }
  unfolding align_on aligned_to centred of_bits
  aligned =
      let k9 : k ≤ 149 = omega arith in
      let H : Small (pos h) = omega (arith, sum t (pos h)) in
      let M : Small (t +ℤ b) = omega (arith, sum t b) in
      let D : Small (pos h +ℤ pos h) = omega (arith, sum t (pos h)) in
      let f : val k (pos h) ≡ val (1 + k) (pos h +ℤ pos h) = sym (ap (val (1 + k)) (twice (pos h)) ∙ val-finer k 1 (pos h)) in
      rw (
        eq-inf k k9 (pos h) H false,
        val-add k k9 t b (omega arith) (omega arith),
        val-div k 1 (t +ℤ b) M k9,
        val-div k 1 (pos h) H k9,
        val-sub (1 + k) (omega arith) (t +ℤ b) (pos h) M H,
        f,
        val-add (1 + k) (omega arith) first (pos h +ℤ pos h) first_small D,
      )

  -- the rounded edges, in steps
  pub widget-top : (s : Vec2) (r : Rect) → r.top ≡ val k t → r.bottom ≡ val k b → s.y ≡ val k (pos h) → (align_size_within_rect k s r).top ≡ val k (round_z 1 first)
  unfolding align_size_within_rect align_within round_rect
  widget-top s r p q e = rw (p, q, e, aligned) (val-round k 1 first (omega arith) first_small)

  pub widget-bottom : (s : Vec2) (r : Rect) → r.top ≡ val k t → r.bottom ≡ val k b → s.y ≡ val k (pos h) → (align_size_within_rect k s r).bottom ≡ val k (round_z 1 last)
  unfolding align_size_within_rect align_within round_rect
  widget-bottom s r p q e = rw (p, q, e, aligned) (val-round k 1 last (omega arith) last-small)

  -- ---- the widget's height, in steps: from the control's to the frame's
  abbrev pub tall : ℤ
  tall = round_z 1 last -ℤ round_z 1 first

  pub tall-in-bounds : (pos h ≤ᶻ tall) × (tall ≤ᶻ b -ℤ t)
  tall-in-bounds =
      let p = sum t b in
      let q = diff (t +ℤ b) (pos h) in
      let r = sum first (pos h +ℤ pos h) in
      let z = slack in
      let f = bounds first last t h z.0 (omega arith) (omega (arith, z.1)) in
      (omega (arith, f, diff (round_z 1 last) (round_z 1 first)), omega (arith, f, z.1, diff (round_z 1 last) (round_z 1 first), diff b t))
    where
      slack : (c : ℕ) × (more b + less t ≡ more t + less b + h + c)
      slack = (more b + less t - (more t + less b + h), omega (arith, sum t (pos h)))

  pub widget-height : (s : Vec2) (r : Rect) → r.top ≡ val k t → r.bottom ≡ val k b → s.y ≡ val k (pos h) → height (align_size_within_rect k s r) ≡ val k tall
  widget-height s r p q e =
      let F : Small (round_z 1 first) = omega (arith, half-parts first, first_small) in
      let L : Small (round_z 1 last) = omega (arith, half-parts last, last-small) in
      rw (widget-bottom s r p q e, widget-top s r p q e) (val-sub k (omega arith) (round_z 1 last) (round_z 1 first) L F)
