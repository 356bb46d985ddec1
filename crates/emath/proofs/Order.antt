-- What `round` gives keeps the order of the fractions, and so does `val` for any two whole numbers; opposites turn it. Assumes nothing.
use Rattle.std.proofs.Common.{◌≡◌, ℕ, zero, suc, ◌+◌, ◌-◌, ◌*◌, ◌/◌, ◌%◌, ◌^◌, ◌<◌, ◌≤◌, Bool, true, false, cond, not, ◌&&◌, ◌||◌, T, eqb, ltb, ℤ, pos, negsuc, nat_abs, sym, refl, ap, ◌∙◌, subst, inl, inr, mul-le-mul_right, eq-zero-or-pos, add_comm, arith, eqb→eq, ltb→lt, lt→ltb, leb→le, pow_pos}
use Prim.Native.Nat.{compare}
use native.Mathlib.Nat.{eq_of_mul-eq-mul_right}
use mathlib.Core.Bool.{beq}
use lib.Signed.{le_z}
use lib.Ieee.{Float, nan, inf, fin, Format, prec, emax, low, size, nearest, odd, units, binary32, up, down, round, neg, lt, le, eq, below, level}
use lib.Ieee.Fits.{and_i, and_l, and_r, eq→eqb}
use lib.Ieee.Order.{round_mono}
use lib.Ieee.Scale.{round_same}
use Rattle.emath.specs.Steps.{sgn, val}
use Rattle.emath.proofs.Tests.{or_split, or_l, or_r}
use Rattle.emath.proofs.Values.{neg-round}

-- ---- the order of two finite values over one denominator, by their signs
abbrev pub Before : Bool → ℕ → Bool → ℕ → Type 0
Before false X false Y = X ≤ Y
Before false X true Y = (X ≡ 0) × (Y ≡ 0)
Before true X false Y = Unit {0}
Before true X true Y = Y ≤ X

pub before : (s : Bool) (X : ℕ) (t : Bool) (Y : ℕ) → T (below s X t Y || level s X t Y) → Before s X t Y
before false X false Y t = elim (or_split (ltb X Y) (eqb X Y && true) t) [ inl u ↦ omega (arith, ltb→lt X Y u) | inr u ↦ omega (arith, eqb→eq X Y (and_l (eqb X Y) true u)) ]
before false X true Y t = let a : X ≡ Y = eqb→eq X Y (and_l (eqb X Y) (eqb X 0) t) in let b : X ≡ 0 = eqb→eq X 0 (and_r (eqb X Y) (eqb X 0) t) in (b, omega arith)
before true X false Y t = tt
before true X true Y t = elim (or_split (ltb Y X) (eqb X Y && true) t) [ inl u ↦ omega (arith, ltb→lt Y X u) | inr u ↦ omega (arith, eqb→eq X Y (and_l (eqb X Y) true u)) ]

-- both times p
pub before-times : (s : Bool) (X : ℕ) (t : Bool) (Y p : ℕ) → Before s X t Y → Before s (X * p) t (Y * p)
before-times false X false Y p h = mul-le-mul_right p h
before-times false X true Y p h = (rw h.0 (omega arith), rw h.1 (omega arith))
before-times true X false Y p h = tt
before-times true X true Y p h = mul-le-mul_right p h

-- ---- the sign of what `round` gives
abbrev pub Sign : Bool → Float → Type 0
Sign s nan = ⊥
Sign s (inf t) = t ≡ s
Sign s (fin t m e) = t ≡ s

sign-odd : (d : ℕ) (s : Bool) (q k l : ℕ) → Sign s (odd d s q k l)
unfolding odd
sign-odd d s zero k l = refl
sign-odd d s (suc q) k l = refl

sign-units : (f : Format) (s : Bool) (q k : ℕ) → Sign s (units f s q k)
unfolding units
sign-units f s q k = go (ltb (q * 2 ^ k) (2 ^ (low f + suc (emax f))))
  where
    go : (b : Bool) → Sign s (cond b (odd (suc (prec f)) s q k (low f)) (inf s))
    go true = sign-odd (suc (prec f)) s q k (low f)
    go false = refl

pub sign-round : (f : Format) (s : Bool) (n d : ℕ) → Sign s (round f s n d)
unfolding round
sign-round f s n d = sign-units f s (nearest (n * 2 ^ low f / (d * 2 ^ (size (n * 2 ^ low f / d) - prec f))) (compare (n * 2 ^ low f % (d * 2 ^ (size (n * 2 ^ low f / d) - prec f)) * 2) (d * 2 ^ (size (n * 2 ^ low f / d) - prec f)))) (size (n * 2 ^ low f / d) - prec f)

-- ---- a value that is not above zero, and one that is not below
pub apart : (X Y : ℕ) → T (ltb 0 (X + Y) || (eqb X Y && (false || eqb X 0)))
apart X Y = elim (eq-zero-or-pos (X + Y)) [
  | inl z ↦ let x : X ≡ 0 = omega arith in let y : Y ≡ 0 = omega arith in rw (x, y) tt
  | inr p ↦ or_l (ltb 0 (X + Y)) (eqb X Y && (false || eqb X 0)) (lt→ltb 0 (X + Y) p)
]

across : (x y : Float) → Sign true x → Sign false y → T (le x y)
unfolding le lt eq
across nan y p q = absurd p
across (inf s) nan p q = absurd q
across (inf s) (inf t) p q = rw (p, q) tt
across (inf s) (fin t n d) p q = rw p tt
across (fin s m e) nan p q = absurd q
across (fin s m e) (inf t) p q = rw q tt
across (fin s m e) (fin t n d) p q = rw (p, q) (apart (m * up e * down d) (n * up d * down e))

-- ---- opposites turn the order
turn_below : (s t : Bool) (X Y : ℕ) → below (not s) X (not t) Y ≡ below t Y s X
turn_below false false X Y = refl
turn_below false true X Y = ap (ltb 0) (add_comm X Y)
turn_below true false X Y = refl
turn_below true true X Y = refl

turn_level : (s t : Bool) (X Y : ℕ) → T (level t Y s X) → T (level (not s) X (not t) Y)
turn_level s t X Y h =
    let e : Y ≡ X = eqb→eq Y X (and_l (eqb Y X) (beq t s || eqb Y 0) h) in
    and_i (eqb X Y) (beq (not s) (not t) || eqb X 0) (eq→eqb (sym e)) (go s t (subst (λ (z : ℕ). T (beq t s || eqb z 0)) e (and_r (eqb Y X) (beq t s || eqb Y 0) h)))
  where
    go : (s t : Bool) → T (beq t s || eqb X 0) → T (beq (not s) (not t) || eqb X 0)
    go false false h = tt
    go false true h = h
    go true false h = h
    go true true h = tt

turn-inf : (s t : Bool) → T ((t && not s) || beq t s) → T ((not s && not (not t)) || beq (not s) (not t))
turn-inf false false h = tt
turn-inf false true h = tt
turn-inf true false h = h
turn-inf true true h = tt

twice-not : (t : Bool) → T (t || false) → T (not (not t) || false)
twice-not true h = tt
twice-not false h = h

pub turn : (x y : Float) → T (le y x) → T (le (neg x) (neg y))
unfolding le lt eq neg
turn nan nan h = absurd h
turn nan (inf t) h = absurd h
turn nan (fin t n d) h = absurd h
turn (inf s) nan h = absurd h
turn (inf s) (inf t) h = turn-inf s t h
turn (inf s) (fin t n d) h = h
turn (fin s m e) nan h = absurd h
turn (fin s m e) (inf t) h = twice-not t h
turn (fin s m e) (fin t n d) h =
    let X = m * up e * down d in
    let Y = n * up d * down e in
    elim (or_split (below t Y s X) (level t Y s X) h) [
      | inl u ↦ or_l (below (not s) X (not t) Y) (level (not s) X (not t) Y) (rw (turn_below s t X Y) u)
      | inr u ↦ or_r (below (not s) X (not t) Y) (level (not s) X (not t) Y) (turn_level s t X Y u)
    ]

-- a product is zero by its first factor where the second is not
pub factor-zero : (m d : ℕ) → 0 < d → m * d ≡ 0 → m ≡ 0
factor-zero m d D h = eq_of_mul-eq-mul_right d D m 0 (omega arith)

-- ---- what `round` gives keeps the order of the fractions
pub zero-round : (s : Bool) (c : ℕ) → 0 < c → round binary32 s 0 c ≡ fin s 0 (pos 0)
zero-round s c C = round_same binary32 s 0 c 0 1 C (omega arith) (omega arith) ∙ (unfold round in refl)

zeros-le : T (le (fin false 0 (pos 0)) (fin true 0 (pos 0)))
unfolding le lt eq
zeros-le = tt

pub round-le : (s t : Bool) (a c b d : ℕ) → 0 < c → 0 < d → Before s (a * d) t (b * c) → T (le (round binary32 s a c) (round binary32 t b d))
round-le false false a c b d C D h = round_mono binary32 a c b d C D h
round-le true false a c b d C D h = across (round binary32 true a c) (round binary32 false b d) (sign-round binary32 true a c) (sign-round binary32 false b d)
round-le false true a c b d C D h = rw (factor-zero a d D h.0, factor-zero b c C h.1, zero-round false c C, zero-round true d D) zeros-le
round-le true true a c b d C D h =
    rw (← (neg-round binary32 false a c), ← (neg-round binary32 false b d)) (turn (round binary32 false a c) (round binary32 false b d) (round_mono binary32 b d a c D C h))

-- ---- so does `val`, of any two whole numbers
le_z-before : (a b : ℤ) → T (le_z a b) → Before (sgn a) (nat_abs a) (sgn b) (nat_abs b)
le_z-before (pos a) (pos b) h = leb→le a b h
le_z-before (pos a) (negsuc b) h = absurd h
le_z-before (negsuc a) (pos b) h = tt
le_z-before (negsuc a) (negsuc b) h = omega (arith, leb→le b a h)

pub val_mono : (k : ℕ) (a b : ℤ) → T (le_z a b) → T (le (val k a) (val k b))
unfolding val
val_mono k a b h = round-le (sgn a) (sgn b) (nat_abs a) (2 ^ k) (nat_abs b) (2 ^ k) (pow_pos k) (pow_pos k) (before-times (sgn a) (nat_abs a) (sgn b) (nat_abs b) (2 ^ k) (le_z-before a b h))
