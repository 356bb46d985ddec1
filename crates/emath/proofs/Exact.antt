-- The f32 whose value is z / 2 ^ k, and the operations on such values. Assumes nothing.
use Rattle.std.proofs.Common.{◌≡◌, ℕ, zero, suc, ◌+◌, ◌-◌, ◌*◌, ◌^◌, ◌<◌, ◌≤◌, Bool, true, false, cond, not, ◌&&◌, ◌||◌, T, eqb, ltb, leb, ◌⊎◌, ℤ, pos, negsuc, ◌+ℤ◌, ◌-ℤ◌, nat_abs, sym, refl, ap, ◌∙◌, subst, inl, inr, lt_of_lt_of_le, mul_assoc, mul_comm, lt_of_mul-lt-mul_right, eq-or-lt_of_le, mul-lt-mul_of_pos_right, mul-pos, one-mul, arith, lit<, le→leb, eqb→eq, ltb→lt, lt→ltb, leb→le, nltb→le, T_not, pow_pos, pow_mono, pow-add, shl_lt}
use native.Mathlib.Nat.{mul-sub, eq_of_mul-eq-mul_right}
use lib.Dec.{eqb_refl}
use lib.Signed.{lt_z, le_z}
use lib.Ieee.{Float, nan, inf, fin, binary32, up, down, round, sum, add, sub, neg, lt, le, eq, ne, below, level}
use lib.Ieee.Fits.{down_pos, and_i, and_l, and_r, eq→eqb}
use lib.Ieee.Exact.{HasValue, round_exact}
use lib.Ieee.Scale.{round_same}
use Rattle.emath.specs.Steps.{sgn, val}
use Rattle.emath.proofs.Tests.{or_split, or_l, or_r, bools, not-lt, is_lt}
use Rattle.emath.proofs.Whole.{Within, unsigned_abs-within}

-- every whole number up to here is an f32, at every k
abbrev pub Small : ℤ → Type 0
Small z = Within 16777216 z

-- x is finite and is z / 2 ^ k; a zero with the sign +
abbrev pub Is : Float → ℕ → ℤ → Type 0
Is x k z = HasValue x (sgn z) (nat_abs z) (2 ^ k)

abbrev pub eq_z : ℤ → ℤ → Bool
eq_z (pos a) (pos b) = eqb a b
eq_z (pos a) (negsuc b) = false
eq_z (negsuc a) (pos b) = false
eq_z (negsuc a) (negsuc b) = eqb a b

-- ---- exact
pub split : (k j : ℕ) → k ≤ j → 2 ^ (j - k) * 2 ^ k ≡ 2 ^ j
split k j h = sym (pow-add 2 (j - k) k) ∙ ap (λ (x : ℕ). 2 ^ x) (omega arith)

pub bounded : (n j : ℕ) → n < 2 ^ 24 → j ≤ 173 → n * 2 ^ j < 2 ^ (149 + 128)
bounded n j h l = lt_of_lt_of_le (shl_lt 24 j h) (pow_mono {i = 24 + j} {j = 277} (omega arith))

whole-power : (k : ℕ) → k ≤ 149 → 2 ^ 24 * 2 ^ 149 ≡ 1 * 2 ^ (24 + (149 - k)) * 2 ^ k
whole-power k l = ap (λ (x : ℕ). 2 ^ 24 * x) (sym (split k 149 l)) ∙ sym (mul_assoc (2 ^ 24) (2 ^ (149 - k)) (2 ^ k)) ∙ ap (λ (x : ℕ). x * 2 ^ k) (sym (pow-add 2 24 (149 - k)) ∙ sym (one-mul (2 ^ (24 + (149 - k)))))

pub exact : (s : Bool) (k n : ℕ) → k ≤ 149 → n ≤ 2 ^ 24 → HasValue (round binary32 s n (2 ^ k)) s n (2 ^ k)
exact s k n l h = go (eq-or-lt_of_le h)
  where
    go : (n ≡ 2 ^ 24) ⊎ (n < 2 ^ 24) → HasValue (round binary32 s n (2 ^ k)) s n (2 ^ k)
    go (inl e) = subst (λ (x : ℕ). HasValue (round binary32 s x (2 ^ k)) s x (2 ^ k)) (sym e) (round_exact binary32 s (2 ^ 24) (2 ^ k) 1 (24 + (149 - k)) (pow_pos k) (lit< tt) (bounded 1 (24 + (149 - k)) (lit< tt) (omega arith)) (whole-power k l))
    go (inr b) = round_exact binary32 s n (2 ^ k) n (149 - k) (pow_pos k) b (bounded n (149 - k) b (omega arith)) (ap (λ (x : ℕ). n * x) (sym (split k 149 l)) ∙ sym (mul_assoc n (2 ^ (149 - k)) (2 ^ k)))

pub val_is : (k : ℕ) (z : ℤ) → k ≤ 149 → Small z → Is (val k z) k z
unfolding val
val_is k z l h = exact (sgn z) k (nat_abs z) l (unsigned_abs-within h)

-- ---- tests on fractions with the same value: X / C is A / K, and Y / C is B / K
module _ (K C : ℕ) (K0 : 0 < K) (C0 : 0 < C) where
  lt-way : (X Y A B : ℕ) → X * K ≡ A * C → Y * K ≡ B * C → X < Y → A < B
  lt-way X Y A B p q h = lt_of_mul-lt-mul_right C (omega (arith, mul-lt-mul_of_pos_right h K0))

  eq-way : (X Y A B : ℕ) → X * K ≡ A * C → Y * K ≡ B * C → X ≡ Y → A ≡ B
  eq-way X Y A B p q h = eq_of_mul-eq-mul_right C C0 A B (sym p ∙ ap (λ (z : ℕ). z * K) h ∙ q)

module _ (K C : ℕ) (K0 : 0 < K) (C0 : 0 < C) (X Y A B : ℕ) (p : X * K ≡ A * C) (q : Y * K ≡ B * C) where
  ltb-same : ltb X Y ≡ ltb A B
  ltb-same = bools (ltb X Y) (ltb A B)
      (λ (t : T (ltb X Y)). lt→ltb A B (lt-way K C K0 C0 X Y A B p q (ltb→lt X Y t)))
      (λ (t : T (ltb A B)). lt→ltb X Y (lt-way C K C0 K0 A B X Y (sym p) (sym q) (ltb→lt A B t)))

  eqb_same : eqb X Y ≡ eqb A B
  eqb_same = bools (eqb X Y) (eqb A B)
      (λ (t : T (eqb X Y)). subst (λ (z : ℕ). T (eqb A z)) (eq-way K C K0 C0 X Y A B p q (eqb→eq X Y t)) (eqb_refl A))
      (λ (t : T (eqb A B)). subst (λ (z : ℕ). T (eqb X z)) (eq-way C K C0 K0 A B X Y (sym p) (sym q) (eqb→eq A B t)) (eqb_refl X))

  minus-same : (Y - X) * K ≡ (B - A) * C
  minus-same = mul_comm (Y - X) K ∙ mul-sub K Y X ∙ ap (λ (z : ℕ). z - K * X) (mul_comm K Y ∙ q ∙ mul_comm B C) ∙ ap (λ (z : ℕ). C * B - z) (mul_comm K X ∙ p ∙ mul_comm A C) ∙ sym (mul-sub C B A) ∙ mul_comm C (B - A)

  plus-same : (X + Y) * K ≡ (A + B) * C
  plus-same = omega arith

module _ (K C : ℕ) (K0 : 0 < K) (C0 : 0 < C) (X Y A B : ℕ) (p : X * K ≡ A * C) (q : Y * K ≡ B * C) (s t : Bool) where
  sum_same : sum binary32 s X t Y C ≡ sum binary32 s A t B K
  unfolding sum
  sum_same =
      rw (
        ltb-same K C K0 C0 X Y A B p q,
        ltb-same K C K0 C0 Y X B A q p,
        round_same binary32 s (X + Y) C (A + B) K C0 K0 (plus-same K C K0 C0 X Y A B p q),
        round_same binary32 t (Y - X) C (B - A) K C0 K0 (minus-same K C K0 C0 X Y A B p q),
        round_same binary32 (s && ltb B A) (X - Y) C (A - B) K C0 K0 (minus-same K C K0 C0 Y X B A q p),
      )

-- ---- two values at one k
-- X / C of a pair of finite values, where the first is A / K
cross : (m u d D A K : ℕ) → m * u * K ≡ A * d → m * u * D * K ≡ A * (d * D)
cross m u d D A K h = omega (arith, ap (λ (z : ℕ). z * D) h)

cross-r : (n u d D B K : ℕ) → n * u * K ≡ B * d → n * u * D * K ≡ B * (D * d)
cross-r n u d D B K h = omega (arith, ap (λ (z : ℕ). z * D) h)

pub add_at : (x y : Float) (s t : Bool) (A B k : ℕ) → HasValue x s A (2 ^ k) → HasValue y t B (2 ^ k) → add binary32 x y ≡ sum binary32 s A t B (2 ^ k)
unfolding add
add_at nan y s t A B k p q = absurd p
add_at (inf r) y s t A B k p q = absurd p
add_at (fin r m e) nan s t A B k p q = absurd q
add_at (fin r m e) (inf r') s t A B k p q = absurd q
add_at (fin r m e) (fin r' n d) s t A B k p q =
    rw (p.0, q.0) (sum_same (2 ^ k) (down e * down d) (pow_pos k) (mul-pos (down_pos e) (down_pos d)) (m * up e * down d) (n * up d * down e) A B
    (cross m (up e) (down e) (down d) A (2 ^ k) p.1) (cross-r n (up d) (down d) (down e) B (2 ^ k) q.1) s t)

-- the sign and the size of a sum
sum-val : (k : ℕ) (a b : ℤ) → sum binary32 (sgn a) (nat_abs a) (sgn b) (nat_abs b) (2 ^ k) ≡ val k (a +ℤ b)
unfolding sum val
sum-val k (pos a) (pos b) = refl
sum-val k (pos a) (negsuc b) = go (ltb a (suc b)) (ltb→lt a (suc b))
  where
    go : (t : Bool) → (T t → a < suc b) → cond t (round binary32 true (suc b - a) (2 ^ k)) (round binary32 false (a - suc b) (2 ^ k)) ≡ val k (cond t (negsuc (suc b - suc a)) (pos (a - suc b)))
    go true h = ap (λ (x : ℕ). round binary32 true x (2 ^ k)) (omega (arith, h tt))
    go false h = refl
sum-val k (negsuc a) (pos b) = go (ltb (suc a) b) (ltb b (suc a)) (ltb→lt (suc a) b) (nltb→le (suc a) b) (ltb→lt b (suc a)) (nltb→le b (suc a))
  where
    go : (t u : Bool) → (T t → suc a < b) → (T (not t) → b ≤ suc a) → (T u → b < suc a) → (T (not u) → suc a ≤ b)
        → cond t (round binary32 false (b - suc a) (2 ^ k)) (round binary32 (true && u) (suc a - b) (2 ^ k)) ≡ val k (cond u (negsuc (suc a - suc b)) (pos (b - suc a)))
    go true true h h' i i' = absurd (omega (arith, h tt, i tt))
    go true false h h' i i' = refl
    go false true h h' i i' = ap (λ (x : ℕ). round binary32 true x (2 ^ k)) (omega (arith, i tt))
    go false false h h' i i' = ap (λ (x : ℕ). round binary32 false x (2 ^ k)) (omega (arith, h' tt, i' tt))
sum-val k (negsuc a) (negsuc b) = ap (λ (x : ℕ). round binary32 true x (2 ^ k)) (omega arith)

-- ---- THE LAWS. Nothing is asked of the result: `val` rounds.
pub add_is : (x y : Float) (k : ℕ) (a b : ℤ) → Is x k a → Is y k b → add binary32 x y ≡ val k (a +ℤ b)
add_is x y k a b p q = add_at x y (sgn a) (sgn b) (nat_abs a) (nat_abs b) k p q ∙ sum-val k a b

-- a difference: y's opposite, which is -0 at a zero, and then the sum is x all the same
neg-at : (y : Float) (t : Bool) (B c : ℕ) → HasValue y t B c → HasValue (neg y) (not t) B c
unfolding neg
neg-at nan t B c p = absurd p
neg-at (inf s) t B c p = absurd p
neg-at (fin s m e) t B c p = (ap not p.0, p.1)

diff-val : (k : ℕ) (a b : ℤ) → sum binary32 (sgn a) (nat_abs a) (not (sgn b)) (nat_abs b) (2 ^ k) ≡ val k (a -ℤ b)
diff-val k a (pos (suc b)) = sum-val k a (negsuc b)
diff-val k a (negsuc b) = sum-val k a (pos (suc b))
diff-val k (pos a) (pos zero) = unfold sum val in rw (not-lt a 0 (omega arith)) (ap (λ (x : ℕ). round binary32 false x (2 ^ k)) (omega arith))
diff-val k (negsuc a) (pos zero) = unfold sum val in rw (is_lt 0 (suc a) (omega arith)) (ap (λ (x : ℕ). round binary32 true x (2 ^ k)) (omega arith))

pub sub_is : (x y : Float) (k : ℕ) (a b : ℤ) → Is x k a → Is y k b → sub binary32 x y ≡ val k (a -ℤ b)
unfolding sub
sub_is x y k a b p q = add_at x (neg y) (sgn a) (not (sgn b)) (nat_abs a) (nat_abs b) k p (neg-at y (sgn b) (nat_abs b) (2 ^ k) q) ∙ diff-val k a b

-- ---- comparisons
pub lt_at : (x y : Float) (s t : Bool) (A B k : ℕ) → HasValue x s A (2 ^ k) → HasValue y t B (2 ^ k) → lt x y ≡ below s A t B
unfolding lt
lt_at nan y s t A B k p q = absurd p
lt_at (inf r) y s t A B k p q = absurd p
lt_at (fin r m e) nan s t A B k p q = absurd q
lt_at (fin r m e) (inf r') s t A B k p q = absurd q
lt_at (fin r m e) (fin r' n d) s t A B k p q =
    rw (p.0, q.0) (below-same (2 ^ k) (down e * down d) (pow_pos k) (mul-pos (down_pos e) (down_pos d)) (m * up e * down d) (n * up d * down e) A B
    (cross m (up e) (down e) (down d) A (2 ^ k) p.1) (cross-r n (up d) (down d) (down e) B (2 ^ k) q.1) s t)
  where
    below-same : (K C : ℕ) (K0 : 0 < K) (C0 : 0 < C) (X Y A B : ℕ) (p : X * K ≡ A * C) (q : Y * K ≡ B * C) (s t : Bool) → below s X t Y ≡ below s A t B
    below-same K C K0 C0 X Y A B p q false false = ltb-same K C K0 C0 X Y A B p q
    below-same K C K0 C0 X Y A B p q false true = refl
    below-same K C K0 C0 X Y A B p q true false = ltb-same K C K0 C0 0 (X + Y) 0 (A + B) (omega arith) (plus-same K C K0 C0 X Y A B p q)
    below-same K C K0 C0 X Y A B p q true true = ltb-same K C K0 C0 Y X B A q p

eq-at : (x y : Float) (s t : Bool) (A B k : ℕ) → HasValue x s A (2 ^ k) → HasValue y t B (2 ^ k) → eq x y ≡ level s A t B
unfolding eq
eq-at nan y s t A B k p q = absurd p
eq-at (inf r) y s t A B k p q = absurd p
eq-at (fin r m e) nan s t A B k p q = absurd q
eq-at (fin r m e) (inf r') s t A B k p q = absurd q
eq-at (fin r m e) (fin r' n d) s t A B k p q =
    let K = 2 ^ k in
    let C = down e * down d in
    let C0 : 0 < C = mul-pos (down_pos e) (down_pos d) in
    let h : m * up e * down d * K ≡ A * C = cross m (up e) (down e) (down d) A (2 ^ k) p.1 in
    let i : n * up d * down e * K ≡ B * C = cross-r n (up d) (down d) (down e) B (2 ^ k) q.1 in
    rw (p.0, q.0, eqb_same K C (pow_pos k) C0 (m * up e * down d) (n * up d * down e) A B h i, eqb_same K C (pow_pos k) C0 (m * up e * down d) 0 A 0 h (omega arith))

pub lt-is : (x y : Float) (k : ℕ) (a b : ℤ) → Is x k a → Is y k b → lt x y ≡ lt_z a b
lt-is x y k a b p q = lt_at x y (sgn a) (sgn b) (nat_abs a) (nat_abs b) k p q ∙ go a b
  where
    go : (a b : ℤ) → below (sgn a) (nat_abs a) (sgn b) (nat_abs b) ≡ lt_z a b
    go (pos a) (pos b) = refl
    go (pos a) (negsuc b) = refl
    go (negsuc a) (pos b) = is_lt 0 (suc a + b) (omega arith)
    go (negsuc a) (negsuc b) = bools (ltb (suc b) (suc a)) (ltb b a) (λ (t : T (ltb (suc b) (suc a))). lt→ltb b a (omega (arith, ltb→lt (suc b) (suc a) t))) (λ (t : T (ltb b a)). lt→ltb (suc b) (suc a) (omega (arith, ltb→lt b a t)))

pub eq_is : (x y : Float) (k : ℕ) (a b : ℤ) → Is x k a → Is y k b → eq x y ≡ eq_z a b
eq_is x y k a b p q = eq-at x y (sgn a) (sgn b) (nat_abs a) (nat_abs b) k p q ∙ go a b
  where
    go : (a b : ℤ) → level (sgn a) (nat_abs a) (sgn b) (nat_abs b) ≡ eq_z a b
    go (pos a) (pos b) = bools (eqb a b && true) (eqb a b) (and_l (eqb a b) true) (λ (t : T (eqb a b)). and_i (eqb a b) true t tt)
    go (pos a) (negsuc b) = bools (eqb a (suc b) && eqb a 0) false (λ (t : T (eqb a (suc b) && eqb a 0)). absurd (omega (arith, eqb→eq a (suc b) (and_l (eqb a (suc b)) (eqb a 0) t), eqb→eq a 0 (and_r (eqb a (suc b)) (eqb a 0) t)))) (λ (t : ⊥). absurd t)
    go (negsuc a) (pos b) = bools (eqb (suc a) b && eqb (suc a) 0) false (λ (t : T (eqb (suc a) b && eqb (suc a) 0)). absurd (omega (arith, eqb→eq (suc a) 0 (and_r (eqb (suc a) b) (eqb (suc a) 0) t)))) (λ (t : ⊥). absurd t)
    go (negsuc a) (negsuc b) = bools (eqb (suc a) (suc b) && true) (eqb a b) (λ (t : T (eqb (suc a) (suc b) && true)). eq→eqb {a = a} {b = b} (omega (arith, eqb→eq (suc a) (suc b) (and_l (eqb (suc a) (suc b)) true t)))) (λ (t : T (eqb a b)). and_i (eqb (suc a) (suc b)) true (eq→eqb {a = suc a} {b = suc b} (ap suc (eqb→eq a b t))) tt)

pub le_is : (x y : Float) (k : ℕ) (a b : ℤ) → Is x k a → Is y k b → le x y ≡ le_z a b
unfolding le
le_is x y k a b p q = rw (lt-is x y k a b p q, eq_is x y k a b p q) (go a b)
  where
    join : (a b : ℕ) → ltb a b || eqb a b ≡ leb a b
    join a b = bools (ltb a b || eqb a b) (leb a b) (λ (t : T (ltb a b || eqb a b)). le→leb a b (elim (or_split (ltb a b) (eqb a b) t) [ inl u ↦ omega (arith, ltb→lt a b u) | inr u ↦ omega (arith, eqb→eq a b u) ]))
        (λ (t : T (leb a b)). elim (eq-or-lt_of_le (leb→le a b t)) [ inl u ↦ or_r (ltb a b) (eqb a b) (eq→eqb u) | inr u ↦ or_l (ltb a b) (eqb a b) (lt→ltb a b u) ])

    go : (a b : ℤ) → lt_z a b || eq_z a b ≡ le_z a b
    go (pos a) (pos b) = join a b
    go (pos a) (negsuc b) = refl
    go (negsuc a) (pos b) = refl
    go (negsuc a) (negsuc b) = bools (ltb b a || eqb a b) (leb b a) (λ (t : T (ltb b a || eqb a b)). le→leb b a (elim (or_split (ltb b a) (eqb a b) t) [ inl u ↦ omega (arith, ltb→lt b a u) | inr u ↦ omega (arith, eqb→eq a b u) ]))
        (λ (t : T (leb b a)). elim (eq-or-lt_of_le (leb→le b a t)) [ inl u ↦ or_r (ltb b a) (eqb a b) (eq→eqb (sym u)) | inr u ↦ or_l (ltb b a) (eqb a b) (lt→ltb b a u) ])

pub ne-is : (x : Float) (k : ℕ) (a : ℤ) → Is x k a → ne x x ≡ false
unfolding ne
ne-is x k a p = rw (eq_is x x k a a p p) (go a)
  where
    go : (a : ℤ) → not (eq_z a a) ≡ false
    go (pos a) = bools (not (eqb a a)) false (λ (t : T (not (eqb a a))). T_not (eqb a a) t (eqb_refl a)) (λ (t : ⊥). absurd t)
    go (negsuc a) = bools (not (eqb a a)) false (λ (t : T (not (eqb a a))). T_not (eqb a a) t (eqb_refl a)) (λ (t : ⊥). absurd t)
