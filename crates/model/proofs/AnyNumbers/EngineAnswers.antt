-- What the engine answers, accepted or refused, one answer after the other; and what an accepted one says of its parts. Assumes nothing.
use mathlib.Core.Path.{◌≡◌, refl}
use mathlib.Core.Bool.{Bool, true, false}
use Prim.Native.Nat.{ℕ}
use native.Mathlib.Omega.{arith}
use lib.Dec.{T}

-- a pass is turned back, with a number and the record it was met at, or gives its result
pub data Answer (P : Type 0) : Type 0 where
  refused : ℕ → ℕ → Answer P
  accepted : P → Answer P

-- what is refused stays so
unfoldable pub on : {P Q : Type 0} → Answer P → (P → Answer Q) → Answer Q
on (refused n r) f = refused n r
on (accepted x) f = f x

-- a test that turns back with the number n at the record r
unfoldable pub guard : {P : Type 0} → ℕ → ℕ → Bool → Answer P → Answer P
guard n r true a = a
guard n r false a = refused n r

-- ---- what an acceptance says
pub accepted-same : {P : Type 0} {a b : P} → accepted a ≡ accepted b → a ≡ b
accepted-same e = cc

pub guard-yes : {P : Type 0} (n r : ℕ) (b : Bool) (a : Answer P) {x : P} → guard n r b a ≡ accepted x → T b × (a ≡ accepted x)
unfolding guard
guard-yes n r true a e = (tt, e)
guard-yes n r false a e = absurd (let z : ◌≡◌ {A = ℕ} 0 1 = cc in omega arith)

pub on-yes : {P Q : Type 0} (a : Answer P) (f : P → Answer Q) {y : Q} → on a f ≡ accepted y → (x : P) × (a ≡ accepted x) × (f x ≡ accepted y)
unfolding on
on-yes (refused n r) f e = absurd (let z : ◌≡◌ {A = ℕ} 0 1 = cc in omega arith)
on-yes (accepted x) f e = (x, refl, e)
