-- Hundredths of a millimetre in steps (RULES 6.25): the nearest, in order, with the sign. For every step. Assumes nothing.
use Rattle.std.proofs.Common.{ℕ, zero, suc, ◌+◌, ◌*◌, ◌≤◌, ◌<◌, ◌≡◌, refl, ap, sym, ◌∙◌, List, [], ◌∷◌, map, ◌⊎◌, inl, inr, arith, mul-add, mul-zero, mul-le-mul, mul-le-mul_left, ℤ, pos, negsuc, neg_ℤ, nat_abs, ◌+ℤ◌, ◌*ℤ◌, length, pow_mono, ◌≤ℤ◌, ◌<ℤ◌}
use Rattle.emath.specs.Steps.{tick}
use Rattle.emath.proofs.Whole.{more, less, within-unsigned_abs, unsigned_abs-within, ◌≤ᶻ◌, sum, more-neg, less-neg, same, same_parts, order, lt_z→, →lt_z, whole}
use Rattle.records.specs.declared.SizeUnit.{SizeUnit}
use Rattle.records.specs.declared.SizeUnit.TheVariants.{Steps, Hundredths}
use Rattle.records.specs.Units.{quarter_inch, nearest, from_hundredths, in_steps}
use Rattle.records.specs.Conversions.{Near, step_parts, hundredth_parts, total, Converts}

-- ---- whole numbers from zero on
pub near : (a : ℕ) → (635 * nearest a ≤ a + 317) × (a ≤ 635 * nearest a + 317)
unfolding nearest
near a = (omega arith, omega arith)

nearest-only : (a n : ℕ) → 635 * n ≤ a + 317 → a ≤ 635 * n + 317 → n ≡ nearest a
nearest-only a n h k = let e = near a in omega (arith, e.0, e.1)

nearest-order : (a b : ℕ) → a ≤ b → nearest a ≤ nearest b
nearest-order a b h = let e = near a in let f = near b in omega (arith, e.0, f.1)

nearest_zero : nearest 0 ≡ 0
unfolding nearest
nearest_zero = refl

not-even : (a b : ℕ) → 2 * a ≡ 2 * b + 1 → ⊥
not-even zero b h = omega arith
not-even (suc a) zero h = omega arith
not-even (suc a) (suc b) h = not-even a b (omega arith)

-- ---- the parts of a product
pub more-times : (a : ℕ) (z : ℤ) → more (pos a *ℤ z) ≡ a * more z
more-times a (pos n) = refl
more-times a (negsuc n) = more-neg (pos (a * suc n)) ∙ sym (mul-zero a)

pub less-times : (a : ℕ) (z : ℤ) → less (pos a *ℤ z) ≡ a * less z
less-times a (pos n) = sym (mul-zero a)
less-times a (negsuc n) = less-neg (pos (a * suc n))

pub near_parts : {n : ℕ} {a b : ℤ} → more a + less b ≤ more b + less a + n → more b + less a ≤ more a + less b + n → Near n a b
near_parts {n} {a} {b} h k = record { over = order (omega (arith, sum b (pos n))); under = order (omega (arith, sum a (pos n))) }

parts-near : {n : ℕ} {a b : ℤ} → Near n a b → (more a + less b ≤ more b + less a + n) × (more b + less a ≤ more a + less b + n)
parts-near {n} {a} {b} h = (omega (arith, whole, h.over.le, sum b (pos n)), omega (arith, whole, h.under.le, sum a (pos n)))

-- ---- below zero as above it
module _ (k : ℕ) where
  abbrev Q : ℕ
  Q = quarter_inch k

  nothing : nearest (Q * 0) ≡ 0
  nothing = ap nearest (mul-zero Q) ∙ nearest_zero

  pub more-from : (z : ℤ) → more (from_hundredths k z) ≡ nearest (Q * more z)
  unfolding from_hundredths
  more-from (pos n) = refl
  more-from (negsuc n) = more-neg (pos (nearest (Q * suc n))) ∙ sym nothing

  pub less-from : (z : ℤ) → less (from_hundredths k z) ≡ nearest (Q * less z)
  unfolding from_hundredths
  less-from (pos n) = sym nothing
  less-from (negsuc n) = less-neg (pos (nearest (Q * suc n)))

  is-near : (z : ℤ) → Near 317 (step_parts (from_hundredths k z)) (hundredth_parts k z)
  unfolding from_hundredths
  is-near (pos n) = let e = near (Q * n) in near_parts (omega (arith, e.0)) (omega (arith, e.1))
  is-near (negsuc n) =
      let q = nearest (Q * suc n) in
      let e = near (Q * suc n) in
      let a = more-times 635 (neg_ℤ (pos q)) in
      let b = less-times 635 (neg_ℤ (pos q)) in
      let c = more-neg (pos (Q * suc n)) in
      let d = less-neg (pos (Q * suc n)) in
      near_parts (omega (arith, e.1, a, b, c, d, more-neg (pos q), less-neg (pos q))) (omega (arith, e.0, a, b, c, d, more-neg (pos q), less-neg (pos q)))

  -- no other number of steps is so near
  by_parts : (a b : ℕ) (y : ℤ) → (a ≡ 0) ⊎ (b ≡ 0) → 635 * more y + b ≤ a + 635 * less y + 317 → a + 635 * less y ≤ 635 * more y + b + 317 → more y + nearest b ≡ nearest a + less y
  by_parts a b (pos n) (inl e) h l = let f = near b in omega (arith, f.0, f.1, e, ap nearest e, nearest_zero)
  by_parts a b (pos n) (inr e) h l = let f = nearest-only a n (omega arith) (omega arith) in omega (arith, f, ap nearest e, nearest_zero)
  by_parts a b (negsuc n) (inl e) h l = let f = nearest-only b (suc n) (omega arith) (omega arith) in omega (arith, f, ap nearest e, nearest_zero)
  by_parts a b (negsuc n) (inr e) h l = let f = near a in omega (arith, f.0, f.1, e, ap nearest e, nearest_zero)

  one-part : (z : ℤ) → (Q * more z ≡ 0) ⊎ (Q * less z ≡ 0)
  one-part (pos n) = inr (mul-zero Q)
  one-part (negsuc n) = inl (mul-zero Q)

  is-only : (z y : ℤ) → Near 317 (step_parts y) (hundredth_parts k z) → y ≡ from_hundredths k z
  is-only z y h =
      let p = parts-near h in
      let a = more-times 635 y in
      let b = less-times 635 y in
      let c = more-times Q z in
      let d = less-times Q z in
      let e = by_parts (Q * more z) (Q * less z) y (one-part z) (omega (arith, p.0, a, b, c, d)) (omega (arith, p.1, a, b, c, d)) in
      same y (from_hundredths k z) (omega (arith, e, more-from z, less-from z))

  no-half : (z y : ℤ) → (pos 2 *ℤ hundredth_parts k z ≡ step_parts (pos 2 *ℤ y +ℤ pos 1)) → ⊥
  no-half z y h =
      let odd = pos 2 *ℤ y +ℤ pos 1 in
      let a = hundredth_parts k z in
      let e = same_parts (pos 2 *ℤ a) (step_parts odd) h in
      not-even (more a + 635 * less y) (less a + 635 * more y + 317)
      (omega (arith, e, more-times 2 a, less-times 2 a, more-times 635 odd, less-times 635 odd, sum (pos 2 *ℤ y) (pos 1), more-times 2 y, less-times 2 y))

  in_order : (y z : ℤ) → y ≤ℤ z → from_hundredths k y ≤ℤ from_hundredths k z
  in_order y z h =
      let l : y ≤ᶻ z = omega (arith, whole, h.le) in
      let (a, b) = both y z l in
      order (omega (arith, more-from y, less-from y, more-from z, less-from z, nearest-order (Q * more y) (Q * more z) a, nearest-order (Q * less z) (Q * less y) b))
    where
      both : (y z : ℤ) → y ≤ᶻ z → (Q * more y ≤ Q * more z) × (Q * less z ≤ Q * less y)
      both (pos a) (pos b) h = (mul-le-mul_left Q (omega arith), omega arith)
      both (pos a) (negsuc b) h = absurd (omega arith)
      both (negsuc a) (pos b) h = (mul-le-mul_left Q (omega arith), mul-le-mul_left Q (omega arith))
      both (negsuc a) (negsuc b) h = (omega arith, mul-le-mul_left Q (omega arith))

  opposite : (z : ℤ) → from_hundredths k (neg_ℤ z) ≡ neg_ℤ (from_hundredths k z)
  opposite z =
      let f = from_hundredths k (neg_ℤ z) in
      let g = from_hundredths k z in
      let a : more f ≡ less g = more-from (neg_ℤ z) ∙ ap (λ (n : ℕ). nearest (Q * n)) (more-neg z) ∙ sym (less-from z) in
      let b : less f ≡ more g = less-from (neg_ℤ z) ∙ ap (λ (n : ℕ). nearest (Q * n)) (less-neg z) ∙ sym (more-from z) in
      same f (neg_ℤ g) (omega (arith, a, b, more-neg g, less-neg g))

  -- from a tick on a hundredth is more than half a step
  module _ (l : 5 ≤ k) where
    some : (n : ℕ) → 0 < n → 0 < nearest (Q * n)
    some n h =
        let q : 576 ≤ Q = omega (arith, pow_mono {i = 5} {j = k} l) in
        let e = near (Q * n) in
        omega (arith, e.1, mul-le-mul q h)

    above : (z : ℤ) → pos 0 <ℤ z → pos 0 <ℤ from_hundredths k z
    above (pos n) h = record { lt = →lt_z (pos 0) (from_hundredths k (pos n)) (omega (arith, more-from (pos n), less-from (pos n), nothing, some n (omega (arith, lt_z→ (pos 0) (pos n) h.lt)))) }
    above (negsuc n) h = absurd h.lt

    below : (z : ℤ) → z <ℤ pos 0 → from_hundredths k z <ℤ pos 0
    below (pos n) h = absurd (omega (arith, lt_z→ (pos n) (pos 0) h.lt))
    below (negsuc n) h = record { lt = →lt_z (from_hundredths k (negsuc n)) (pos 0) (omega (arith, more-from (negsuc n), less-from (negsuc n), nothing, some (suc n) (omega arith))) }

  -- ---- many lengths
  parts_add : (y z : ℤ) → Q * more (y +ℤ z) + (Q * less y + Q * less z) ≡ Q * more y + Q * more z + Q * less (y +ℤ z)
  parts_add y z =
      let e : Q * (more (y +ℤ z) + (less y + less z)) ≡ Q * (more y + more z + less (y +ℤ z)) = ap (λ (n : ℕ). Q * n) (sum y z) in
      omega (arith, e, mul-add Q (more (y +ℤ z)) (less y + less z), mul-add Q (less y) (less z), mul-add Q (more y + more z) (less (y +ℤ z)), mul-add Q (more y) (more z))

  all_near : (zs : List ℤ) → Near (317 * length zs) (step_parts (total (map (from_hundredths k) zs))) (hundredth_parts k (total zs))
  unfolding total
  all_near [] = near_parts (omega (arith, mul-zero Q)) (omega (arith, mul-zero Q))
  all_near (z ∷ zs) =
      let y = from_hundredths k z in
      let ys = total (map (from_hundredths k) zs) in
      let p = parts-near (is-near z) in
      let q = parts-near (all_near zs) in
      near_parts
      (omega (arith, p.0, q.0, more-times 635 y, less-times 635 y, more-times 635 ys, less-times 635 ys, more-times 635 (y +ℤ ys), less-times 635 (y +ℤ ys), sum y ys, more-times Q z, less-times Q z, more-times Q (total zs), less-times Q (total zs), more-times Q (z +ℤ total zs), less-times Q (z +ℤ total zs), parts_add z (total zs)))
      (omega (arith, p.1, q.1, more-times 635 y, less-times 635 y, more-times 635 ys, less-times 635 ys, more-times 635 (y +ℤ ys), less-times 635 (y +ℤ ys), sum y ys, more-times Q z, less-times Q z, more-times Q (total zs), less-times Q (total zs), more-times Q (z +ℤ total zs), less-times Q (z +ℤ total zs), parts_add z (total zs)))

pub converts : (k : ℕ) → Converts k
converts k = record {
  near = is-near k;
  only = is-only k;
  no-half = no-half k;
  order = in_order k;
  mirrored = opposite k;
  positive = above k;
  negative = below k;
  together = all_near k;
}

-- ---- in ticks
-- the converted length has no more steps than there were hundredths
pub few-steps : (z : ℤ) → nat_abs z ≤ 2097152 → nat_abs (from_hundredths tick z) ≤ 2097152
few-steps z h =
    let a = near (576 * more z) in
    let b = near (576 * less z) in
    let w = within-unsigned_abs z h in
    unsigned_abs-within {n = 2097152} {z = from_hundredths tick z} (omega (arith, more-from tick z, less-from tick z, a.0, a.1, b.0, b.1, w.over, w.under))

pub in-steps-few : (u : SizeUnit) (z : ℤ) → nat_abs z ≤ 2097152 → nat_abs (in_steps tick u z) ≤ 2097152
unfolding in_steps
in-steps-few Steps z h = h
in-steps-few Hundredths z h = few-steps z h
