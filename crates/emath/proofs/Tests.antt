-- Facts on tests: an `and` has both sides, an `or` has one or neither, two that imply each other are equal, an order of naturals decides its test.
-- Assumes nothing.
use Rattle.std.proofs.Common.{◌≡◌, ℕ, ◌<◌, ◌≤◌, Bool, true, false, not, ◌&&◌, ◌||◌, T, ltb, ◌⊎◌, sym, refl, inl, inr, true≢false, arith, ltb→lt, lt→ltb}

pub both : (a b : Bool) → a && b ≡ true → (a ≡ true) × (b ≡ true)
both true b h = (refl, h)
both false b h = absurd (true≢false (sym h))

pub or_split : (a b : Bool) → T (a || b) → T a ⊎ T b
or_split true b t = inl tt
or_split false b t = inr t

pub or_l : (a b : Bool) → T a → T (a || b)
or_l true b t = tt
or_l false b t = absurd t

pub or_r : (a b : Bool) → T b → T (a || b)
or_r true b t = tt
or_r false b t = t

pub neither : (a b : Bool) → a || b ≡ false → (a ≡ false) × (b ≡ false)
neither true b h = absurd (true≢false h)
neither false b h = (refl, h)

pub bools : (a b : Bool) → (T a → T b) → (T b → T a) → a ≡ b
bools true true f g = refl
bools true false f g = absurd (f tt)
bools false true f g = absurd (g tt)
bools false false f g = refl

pub not-lt : (a b : ℕ) → b ≤ a → ltb a b ≡ false
not-lt a b h = bools (ltb a b) false (λ (t : T (ltb a b)). absurd (omega (arith, ltb→lt a b t))) (λ (t : ⊥). absurd t)

pub is_lt : (a b : ℕ) → a < b → ltb a b ≡ true
is_lt a b h = bools (ltb a b) true (λ (t : T (ltb a b)). tt) (λ (t : T true). lt→ltb a b h)

pub T_of : {b : Bool} → b ≡ true → T b
T_of {b} e = rw e tt

pub is-no : (b : Bool) → b ≡ false → T (not b)
is-no b e = rw e tt

pub is-yes : (b : Bool) → b ≡ true → T b
is-yes b e = rw e tt

pub T_true : (b : Bool) → T b → b ≡ true
T_true true t = refl
T_true false t = absurd t
