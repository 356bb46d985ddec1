-- Signed whole numbers for omega: z is more z - less z, two naturals. An order, a sum, a difference and a max or min of ℤ is a linear fact on these parts.
use Rattle.std.proofs.Common.{◌≡◌, ℕ, zero, suc, ◌+◌, ◌-◌, ◌<◌, ◌≤◌, min, max, Bool, true, false, cond, not, T, ltb, ℤ, pos, negsuc, ◌+ℤ◌, ◌-ℤ◌, neg_ℤ, nat_abs, ◌≤ℤ◌, refl, ap, arith, le→leb, ltb→lt, lt→ltb, leb→le, nltb→le}
use lib.Dec.{nleb→lt}
use lib.IntN.{sub_ℕ}
use lib.Signed.{le_z, lt_z}

abbrev pub more : ℤ → ℕ
more (pos n) = n
more (negsuc n) = 0

abbrev pub less : ℤ → ℕ
less (pos n) = 0
less (negsuc n) = suc n

-- ---- the order: a record, so that the numbers can be inferred, whose field omega reads
infix 4 ◌≤ᶻ◌ ◌<ᶻ◌
pub record ◌≤ᶻ◌ (a b : ℤ) : Type 0 where
  pub le : more a + less b ≤ more b + less a

pub record ◌<ᶻ◌ (a b : ℤ) : Type 0 where
  pub lt : more a + less b < more b + less a

-- of magnitude at most n
pub record Within (n : ℕ) (z : ℤ) : Type 0 where
  pub over : more z ≤ n + less z
  pub under : less z ≤ n + more z

pub unsigned_abs-within : {n : ℕ} {z : ℤ} → Within n z → nat_abs z ≤ n
unsigned_abs-within {n} {z = pos a} h = omega arith
unsigned_abs-within {n} {z = negsuc a} h = omega arith

pub within-unsigned_abs : {n : ℕ} (z : ℤ) → nat_abs z ≤ n → Within n z
within-unsigned_abs (pos a) h = omega arith
within-unsigned_abs (negsuc a) h = omega arith

-- ---- the parts of a sum, a difference, an opposite
sub_parts : (a b : ℕ) → more (sub_ℕ a b) + b ≡ a + less (sub_ℕ a b)
sub_parts a b = go (ltb a b) (ltb→lt a b) (nltb→le a b)
  where
    go : (t : Bool) → (T t → a < b) → (T (not t) → b ≤ a) → more (cond t (negsuc (b - suc a)) (pos (a - b))) + b ≡ a + less (cond t (negsuc (b - suc a)) (pos (a - b)))
    go true h k = let x : a < b = h tt in omega arith
    go false h k = let x : b ≤ a = k tt in omega arith

pub sum : (a b : ℤ) → more (a +ℤ b) + (less a + less b) ≡ more a + more b + less (a +ℤ b)
sum (pos a) (pos b) = omega arith
sum (pos a) (negsuc b) = omega (arith, sub_parts a (suc b))
sum (negsuc a) (pos b) = omega (arith, sub_parts b (suc a))
sum (negsuc a) (negsuc b) = omega arith

pub more-neg : (a : ℤ) → more (neg_ℤ a) ≡ less a
more-neg (pos zero) = refl
more-neg (pos (suc n)) = refl
more-neg (negsuc n) = refl

pub less-neg : (a : ℤ) → less (neg_ℤ a) ≡ more a
less-neg (pos zero) = refl
less-neg (pos (suc n)) = refl
less-neg (negsuc n) = refl

pub diff : (a b : ℤ) → more (a -ℤ b) + (less a + more b) ≡ more a + less b + less (a -ℤ b)
diff a b = omega (arith, sum a (neg_ℤ b), more-neg b, less-neg b)

-- equal parts, equal numbers
pub same : (a b : ℤ) → more a + less b ≡ more b + less a → a ≡ b
same (pos a) (pos b) h = ap pos (omega arith)
same (pos a) (negsuc b) h = absurd (omega arith)
same (negsuc a) (pos b) h = absurd (omega arith)
same (negsuc a) (negsuc b) h = ap negsuc (omega arith)

pub same_parts : (a b : ℤ) → a ≡ b → more a + less b ≡ more b + less a
same_parts a b e = rw e

-- ---- the tests of lib.Signed
pub le_z→ : (a b : ℤ) → T (le_z a b) → more a + less b ≤ more b + less a
le_z→ (pos a) (pos b) t = omega (arith, leb→le a b t)
le_z→ (pos a) (negsuc b) t = absurd t
le_z→ (negsuc a) (pos b) t = omega arith
le_z→ (negsuc a) (negsuc b) t = omega (arith, leb→le b a t)

pub nle_z→ : (a b : ℤ) → T (not (le_z a b)) → more b + less a < more a + less b
nle_z→ (pos a) (pos b) t = omega (arith, nleb→lt a b t)
nle_z→ (pos a) (negsuc b) t = omega arith
nle_z→ (negsuc a) (pos b) t = absurd t
nle_z→ (negsuc a) (negsuc b) t = omega (arith, nleb→lt b a t)

-- facts that prove the tests
pub →le_z : (a b : ℤ) → more a + less b ≤ more b + less a → T (le_z a b)
→le_z (pos a) (pos b) h = le→leb a b (omega arith)
→le_z (pos a) (negsuc b) h = absurd (omega arith)
→le_z (negsuc a) (pos b) h = tt
→le_z (negsuc a) (negsuc b) h = le→leb b a (omega arith)

-- and its order
pub order : {a b : ℤ} → a ≤ᶻ b → a ≤ℤ b
order {a} {b} h = record { le = →le_z a b h.le }

pub →lt_z : (a b : ℤ) → more a + less b < more b + less a → T (lt_z a b)
→lt_z (pos a) (pos b) h = lt→ltb a b (omega arith)
→lt_z (pos a) (negsuc b) h = absurd (omega arith)
→lt_z (negsuc a) (pos b) h = tt
→lt_z (negsuc a) (negsuc b) h = lt→ltb b a (omega arith)

-- ---- max and min
abbrev pub max_z : ℤ → ℤ → ℤ
max_z a b = cond (lt_z a b) b a

abbrev pub min_z : ℤ → ℤ → ℤ
min_z a b = cond (lt_z b a) b a

pub lt_z→ : (a b : ℤ) → T (lt_z a b) → more a + less b < more b + less a
lt_z→ (pos a) (pos b) t = omega (arith, ltb→lt a b t)
lt_z→ (pos a) (negsuc b) t = absurd t
lt_z→ (negsuc a) (pos b) t = omega arith
lt_z→ (negsuc a) (negsuc b) t = omega (arith, ltb→lt b a t)

pub nlt_z→ : (a b : ℤ) → T (not (lt_z a b)) → more b + less a ≤ more a + less b
nlt_z→ (pos a) (pos b) t = omega (arith, nltb→le a b t)
nlt_z→ (pos a) (negsuc b) t = omega arith
nlt_z→ (negsuc a) (pos b) t = absurd t
nlt_z→ (negsuc a) (negsuc b) t = omega (arith, nltb→le b a t)

pub max-is : (a b : ℤ) → more (max_z a b) + (less a + less b) ≡ max (more a + less b) (more b + less a) + less (max_z a b)
max-is a b = go (lt_z a b) (lt_z→ a b) (nlt_z→ a b)
  where
    go : (t : Bool) → (T t → more a + less b < more b + less a) → (T (not t) → more b + less a ≤ more a + less b) → more (cond t b a) + (less a + less b) ≡ max (more a + less b) (more b + less a) + less (cond t b a)
    go true h k = omega (arith, h tt)
    go false h k = omega (arith, k tt)

pub min-is : (a b : ℤ) → more (min_z a b) + (less a + less b) ≡ min (more a + less b) (more b + less a) + less (min_z a b)
min-is a b = go (lt_z b a) (lt_z→ b a) (nlt_z→ b a)
  where
    go : (t : Bool) → (T t → more b + less a < more a + less b) → (T (not t) → more a + less b ≤ more b + less a) → more (cond t b a) + (less a + less b) ≡ min (more a + less b) (more b + less a) + less (cond t b a)
    go true h k = omega (arith, h tt)
    go false h k = omega (arith, k tt)

-- what omega is handed besides: `omega (arith, whole, sum a b)`
pub ruleset whole = (same, same_parts, le_z→, nle_z→, lt_z→, nlt_z→, →le_z, →lt_z)
