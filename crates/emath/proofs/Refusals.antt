-- Laws of the refusals: what is finite, what a fault of 0 says of the parts, and that edges within the limit have none. Assumes nothing.
use Rattle.std.proofs.Common.{◌≡◌, ap, ℕ, zero, suc, ◌*◌, ◌<◌, ◌≤◌, Bool, true, false, cond, not, ◌&&◌, T, eqb, ltb, ◌⊎◌, List, [], ◌∷◌, pos, sym, refl, ◌∙◌, subst, inl, inr, true≢false, mul-pos, arith, eqb→eq, ltb→lt, nltb→le, eq-eqb, eqb-true}
use native.Mathlib.Nat.{sub_self}
use lib.Ieee.{Float, nan, inf, fin, binary32, of_bits, up, down, round, sum, add, sub, neg, eq, lt, le}
use lib.Ieee.Fits.{down_pos}
use lib.Ieee.Scale.{round_same}
use Rattle.emath.specs.Rectangles.{zero_f}
use Rattle.emath.specs.Domain.{finite, limit, within, both_of, edges_of, inside_out}
use Rattle.std.specs.Prelude.{Option, None, Some, is_some}
use Rattle.std.specs.Bool.{then_some}
use Rattle.std.specs.Ordering.{ord_min}
use Rattle.emath.specs.contracts.RefusalOrd.TheImpl.{cmp-value}
use Rattle.std.specs.Option.{option_or, option_and}
use Rattle.emath.specs.Refusals.{when, lesser, least, or_else, length_fault, pair_fault, edges_fault, rect_fault, outside, number_of, fault_number, answered, answer, numbered, answer_number, answer_value, or_zeros}
use Rattle.emath.specs.Numbers as number
use Rattle.emath.specs.declared.Refusal.{Refusal}
use Rattle.emath.specs.declared.Refusal.TheVariants.{Malformed, Outside}
use Rattle.emath.specs.Implementation.NoNaN.{IsNumber, Numbers}
use Rattle.emath.proofs.Tests.{both, bools, not-lt, T_of}
use Rattle.emath.proofs.OrderLaws.{Number, nan-or-number}
use Rattle.emath.proofs.MinMax.{number-kept}
use Rattle.emath.proofs.Edges.{within-high}
use Rattle.emath.specs.declared.Rect.{Rect}

nought : (s : Bool) (c : ℕ) → 0 < c → round binary32 (s && false) 0 c ≡ fin false 0 (pos 0)
nought false c h = round_same binary32 false 0 c 0 1 h (omega arith) (omega arith) ∙ (unfold round in refl)
nought true c h = round_same binary32 false 0 c 0 1 h (omega arith) (omega arith) ∙ (unfold round in refl)

lost : (s : Bool) (a c : ℕ) → 0 < c → sum binary32 s a (not s) a c ≡ fin false 0 (pos 0)
unfolding sum
lost false a c h = rw (not-lt a a (omega arith), sub_self a) (nought false c h)
lost true a c h = rw (not-lt a a (omega arith), sub_self a) (nought true c h)

-- x - x is 0 for a finite x, and a NaN for any other
pub finite-is : (x : Float) → eq (sub binary32 x x) zero_f ≡ finite x
unfolding eq sub add neg finite of_bits
finite-is nan = refl
finite-is (inf true) = refl
finite-is (inf false) = refl
finite-is (fin s m e) = rw (lost s (m * up e * down e) (down e * down e) (mul-pos (down_pos e) (down_pos e)))

-- ---- no number: none of its parts has one
pub some : (n : ℕ) → eqb (suc n) 0 ≡ false
some n = bools (eqb (suc n) 0) false (λ (t : T (eqb (suc n) 0)). absurd (omega (arith, eqb→eq (suc n) 0 t))) (λ (t : ⊥). absurd t)

pick_some : (t : Bool) (a b : ℕ) → cond t (suc a) (suc b) ≡ 0 → ⊥
pick_some true a b h = omega arith
pick_some false a b h = omega arith

pub lesser-none : (a b : ℕ) → lesser a b ≡ 0 → (a ≡ 0) × (b ≡ 0)
unfolding lesser
lesser-none zero b h = (refl, h)
lesser-none (suc a) zero h = absurd (let z : suc a ≡ 0 = rw (some a) at h in omega arith)
lesser-none (suc a) (suc b) h = absurd (pick_some (ltb (suc a) (suc b)) a b (rw (some a, some b) at h))

-- ---- the lesser of two: 0 is none, and it does not matter which two are taken first
pub zero-lesser : (n : ℕ) → lesser 0 n ≡ n
unfolding lesser
zero-lesser n = refl

pub lesser-zero : (n : ℕ) → lesser n 0 ≡ n
unfolding lesser
lesser-zero zero = refl
lesser-zero (suc n) = rw (some n)

lesser-first : (a b : ℕ) → a ≤ b → lesser (suc a) (suc b) ≡ suc a
unfolding lesser
lesser-first a b h = rw (some a, some b) (go (ltb (suc a) (suc b)) (nltb→le (suc a) (suc b)))
  where
    go : (t : Bool) → (T (not t) → suc b ≤ suc a) → cond t (suc a) (suc b) ≡ suc a
    go true f = refl
    go false f = let l = f tt in omega arith

lesser-second : (a b : ℕ) → b ≤ a → lesser (suc a) (suc b) ≡ suc b
unfolding lesser
lesser-second a b h = rw (some a, some b, not-lt (suc a) (suc b) (omega arith))

either_way : (a b : ℕ) → (a ≤ b) ⊎ (b ≤ a)
either_way a b = go (ltb a b) (ltb→lt a b) (nltb→le a b)
  where
    go : (t : Bool) → (T t → a < b) → (T (not t) → b ≤ a) → (a ≤ b) ⊎ (b ≤ a)
    go true f g = let l = f tt in inl (omega arith)
    go false f g = inr (g tt)

pub lesser-assoc : (a b c : ℕ) → lesser a (lesser b c) ≡ lesser (lesser a b) c
lesser-assoc zero b c = rw (zero-lesser b) (zero-lesser (lesser b c))
lesser-assoc (suc a) zero c = rw (zero-lesser c, lesser-zero (suc a))
lesser-assoc (suc a) (suc b) zero = rw (lesser-zero (suc b), lesser-zero (lesser (suc a) (suc b)))
lesser-assoc (suc a) (suc b) (suc c) = elim (either_way a b) [
  | inl p ↦ elim (either_way b c) [ inl q ↦ rw (lesser-first b c q, lesser-first a b p, lesser-first a c (omega arith)) | inr q ↦ rw (lesser-second b c q, lesser-first a b p) ]
  | inr p ↦ elim (either_way b c) [ inl q ↦ rw (lesser-first b c q, lesser-second a b p, lesser-first b c q) | inr q ↦ rw (lesser-second b c q, lesser-second a b p, lesser-second b c q, lesser-second a c (omega arith)) ]
]

pub lesser-some : (a b : ℕ) → eqb a 0 ≡ false → eqb (lesser a b) 0 ≡ false
lesser-some a b h = go (eqb (lesser a b) 0) refl
  where
    go : (t : Bool) → eqb (lesser a b) 0 ≡ t → t ≡ false
    go true e = absurd (true≢false (sym (eq-eqb a 0 (lesser-none a b (eqb-true (lesser a b) 0 e)).0) ∙ h))
    go false e = refl

-- ---- of two in turn
pub or_some : (n m : ℕ) → eqb n 0 ≡ false → or_else n m ≡ n
unfolding or_else
or_some n m h = rw h

pub or-none : (n m : ℕ) → or_else n m ≡ 0 → (n ≡ 0) × (m ≡ 0)
unfolding or_else
or-none zero m h = (refl, h)
or-none (suc n) m h = absurd (let z : suc n ≡ 0 = rw (some n) at h in omega arith)

pub when-none : (b : Bool) (n : ℕ) → when (not b) (suc n) ≡ 0 → b ≡ true
when-none true n h = refl
when-none false n h = absurd (let z : suc n ≡ 0 = h in omega arith)

pub when-never : (b : Bool) (n : ℕ) → when b (suc n) ≡ 0 → b ≡ false
when-never true n h = absurd (let z : suc n ≡ 0 = h in omega arith)
when-never false n h = refl

-- and of all together, where none of them has one
pub least-none : (n : ℕ) (ns : List ℕ) → n ≡ 0 → least ns ≡ 0 → least (n ∷ ns) ≡ 0
unfolding least
least-none n [] e h = e
least-none n (m ∷ ms) e h = rw (e, zero-lesser) h

pub edges_fit : (r : Rect) → edges_fault r ≡ 0 → edges_of within r ≡ true
unfolding edges_fault least
edges_fit r h = when-none (edges_of within r) 4 (lesser-none (when (not (edges_of finite r)) 4) (when (not (edges_of within r)) 5) h).1

-- ---- the quick way: edges that are within the limit have no fault
pub within-finite : (x : Float) → within x ≡ true → finite x ≡ true
unfolding within finite le lt eq neg of_bits
within-finite nan h = absurd (true≢false (sym h))
within-finite (inf true) h = absurd (true≢false (sym h))
within-finite (inf false) h = absurd (true≢false (sym h))
within-finite (fin s m e) h = refl

pub no-fault : (r : Rect) → edges_of within r ≡ true → 0 ≡ edges_fault r
unfolding edges_fault least lesser edges_of
no-fault r h =
    let a = both (within r.left) (within r.top && (within r.right && within r.bottom)) h in
    let b = both (within r.top) (within r.right && within r.bottom) a.1 in
    let d = both (within r.right) (within r.bottom) b.1 in
    rw (a.0, b.0, d.0, d.1, within-finite r.left a.0, within-finite r.top b.0, within-finite r.right d.0, within-finite r.bottom d.1)

pub length-quick : (x : Float) → within x ≡ true → 0 ≡ length_fault x
unfolding length_fault least lesser
length-quick x h = rw (h, within-finite x h)

-- 4 and 5 come before 6
pub far-first : (b c : Bool) → lesser (when b number.not_finite) number.too_far ≡ lesser (lesser (when b number.not_finite) number.too_far) (when c number.negative)
unfolding lesser
far-first true true = refl
far-first true false = refl
far-first false true = refl
far-first false false = refl

pub pair-quick : (x y : Float) → both_of within x y ≡ true → 0 ≡ pair_fault x y
unfolding pair_fault least lesser both_of
pair-quick x y h = let a = both (within x) (within y) h in rw (a.0, a.1, within-finite x a.0, within-finite y a.1)

-- ---- what a fault says, and none
pub outside-some : (n : ℕ) → eqb n 0 ≡ false → outside n ≡ 9
unfolding outside
outside-some n h = rw h

pub outside-none : (n : ℕ) → outside n ≡ 0 → n ≡ 0
unfolding outside
outside-none zero h = refl
outside-none (suc n) h = absurd (let z : 9 ≡ 0 = rw (some n) at h in omega arith)

pub record AllWithin (r : Rect) : Type 0 where
  pub left : T (within r.left)
  pub top : T (within r.top)
  pub right : T (within r.right)
  pub bottom : T (within r.bottom)

pub edges-within : (r : Rect) → edges_fault r ≡ 0 → AllWithin r
edges-within r h =
    let e : within r.left && (within r.top && (within r.right && within r.bottom)) ≡ true = unfold edges_of in edges_fit r h in
    let a = both (within r.left) (within r.top && (within r.right && within r.bottom)) e in
    let b = both (within r.top) (within r.right && within r.bottom) a.1 in
    let d = both (within r.right) (within r.bottom) b.1 in
    record { left = T_of a.0; top = T_of b.0; right = T_of d.0; bottom = T_of d.1 }

-- what is within the limit is no NaN
pub no_nan : (x : Float) → T (within x) → IsNumber x
unfolding le
no_nan x t = go (nan-or-number x)
  where
    go : (x ≡ nan) ⊎ Number x → IsNumber x
    go (inl e) = absurd (subst (λ (y : Float). T (le y limit)) e (within-high x t))
    go (inr n) = number-kept x n

pub edges-numbers : (r : Rect) → edges_fault r ≡ 0 → Numbers r
edges-numbers r h = let w = edges-within r h in record { left = no_nan _ w.left; top = no_nan _ w.top; right = no_nan _ w.right; bottom = no_nan _ w.bottom }

pub rect-none : (r : Rect) → rect_fault r ≡ 0 → (edges_fault r ≡ 0) × (inside_out r ≡ false)
unfolding rect_fault least
rect-none r h = let p = lesser-none (edges_fault r) (when (inside_out r) 6) h in (p.0, when-never (inside_out r) 5 p.1)

-- ---- the number of a reason that may be none
pub when-number : (b : Bool) (e : Refusal) → fault_number (then_some b e) ≡ when b (number_of e)
when-number true e = refl
when-number false e = refl

pub or-number : (a b : Option Refusal) → fault_number (option_or a b) ≡ or_else (fault_number a) (fault_number b)
unfolding or_else
or-number None b = refl
or-number (Some Malformed) b = refl
or-number (Some e) b = refl

pub outside-number : (a : Option Refusal) → fault_number (option_and a (Some Outside)) ≡ outside (fault_number a)
unfolding outside
outside-number None = refl
outside-number (Some Malformed) = refl
outside-number (Some e) = refl

-- ---- an answer, by the number of what it was made of
pub numbered-answer : {A : Type 0} (f : Option Refusal) (x : A) → numbered (answered f x) ≡ answer (fault_number f) x
unfolding answer
numbered-answer None x = refl
numbered-answer (Some Malformed) x = refl
numbered-answer (Some e) x = refl

pub first-number : (x y : Refusal) → number_of (ord_min (cmp-value).it x y) ≡ lesser (number_of x) (number_of y)
unfolding lesser
first-number Malformed Malformed = refl
first-number Malformed y = refl
first-number x Malformed = refl
first-number x y = refl

pub answer-number : {A : Type 0} (n : ℕ) (x : A) → answer_number (answer n x) ≡ n
unfolding answer
answer-number zero x = refl
answer-number (suc n) x = rw (some n)

pub answer-value : {A : Type 0} (zeros : A) (n : ℕ) (x : A) → answer_value zeros (answer n x) ≡ or_zeros zeros n x
unfolding answer or_zeros
answer-value zeros zero x = refl
answer-value zeros (suc n) x = rw (some n)

-- what an answer says: the number it was made of, and the value that goes with it
pub says : {A : Type 0} (zeros : A) (n : ℕ) (x : A) → (answer_number (answer n x) ≡ n) × (answer_value zeros (answer n x) ≡ or_zeros zeros (answer_number (answer n x)) x)
says zeros n x = (answer-number n x, answer-value zeros n x ∙ ap (λ (m : ℕ). or_zeros zeros m x) (sym (answer-number n x)))

-- ---- a refusal's number is never 0
pub number-some : (e : Refusal) → eqb (number_of e) 0 ≡ false
number-some Malformed = refl
number-some e = refl

pub none-number : (f : Option Refusal) (b : Bool) → is_some f ≡ not b → eqb (fault_number f) 0 ≡ b
none-number None true h = refl
none-number None false h = absurd (true≢false (sym h))
none-number (Some e) true h = absurd (true≢false h)
none-number (Some e) false h = number-some e

pub number-none : (n : ℕ) (e : Refusal) → n ≡ number_of e → n ≡ 0 → ⊥
number-none n e h z = true≢false (sym (eq-eqb n 0 z) ∙ rw h (number-some e))

-- of two in turn, by their numbers
pub or-is : (a b r : Option Refusal) (n m : ℕ) → r ≡ option_or a b → fault_number a ≡ n → fault_number b ≡ m → fault_number r ≡ or_else n m
or-is a b r n m e p q = rw (e, ← p, ← q) (or-number a b)
