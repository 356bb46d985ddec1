-- RULES 8.2, 8.4, 8.5, 8.13: which numbers lengths, sizes and rectangles have of their own, which of several is the call's, and what the
-- call answers. 0 is none.
use Rattle.std.specs.Prelude.{ℕ, ◌≡◌, Bool, cond, not, List, [], ◌∷◌, ◌==◌, nat_lt, Float, Option, None, Some, Result, Ok, Err}
use Rattle.std.specs.Float.Ieee.{lt}
use Rattle.emath.specs.Rectangles.{zero_f}
use Rattle.emath.specs.Domain.{finite, within, both_of, edges_of, negative, inside_out}
use Rattle.emath.specs.Numbers as number
use Rattle.emath.specs.declared.Vec2.{Vec2}
use Rattle.emath.specs.declared.Rect.{Rect}
use Rattle.emath.specs.declared.Refusal.{Refusal}
use Rattle.emath.specs.declared.Refusal.TheVariants.{Malformed, TooLong, NoRoom, NotFinite, TooFar, Negative, NotInGrid, GridFull, Outside}

-- ---- RULES 8.2: of all the numbers that apply, the least
-- a number, where its condition holds
abbrev pub when : Bool → ℕ → ℕ
when b n = cond b n 0

-- the lesser of two numbers
unfoldable pub lesser : ℕ → ℕ → ℕ
lesser a b = cond (a == 0) b (cond (b == 0) a (cond (nat_lt a b) a b))

-- the least of some
unfoldable pub least : List ℕ → ℕ
least [] = 0
least (n ∷ []) = n
least (n ∷ m ∷ ns) = lesser n (least (m ∷ ns))

-- RULES 8.2: the first number, or else the second: the answer is looked at only if the arguments have no fault
unfoldable pub or_else : ℕ → ℕ → ℕ
or_else n m = cond (n == 0) m n

-- ---- RULES 8.5: the numbers of a value
-- 4 where it is not finite, 5 where it is beyond the limit: of a length, …
unfoldable pub length_fault : Float → ℕ
length_fault x = least (when (not (finite x)) number.not_finite ∷ when (not (within x)) number.too_far ∷ [])

-- … of a position, a spacing or another pair, …
unfoldable pub pair_fault : Float → Float → ℕ
pair_fault x y = least (when (not (both_of finite x y)) number.not_finite ∷ when (not (both_of within x y)) number.too_far ∷ [])

-- … and of four edges.
unfoldable pub edges_fault : Rect → ℕ
edges_fault r = least (when (not (edges_of finite r)) number.not_finite ∷ when (not (edges_of within r)) number.too_far ∷ [])

-- RULES 8.5: 6 too, where it is below zero: of a length that says how large something is, and of a size
unfoldable pub extent_fault : Float → ℕ
extent_fault x = least (length_fault x ∷ when (lt x zero_f) number.negative ∷ [])

unfoldable pub size_fault : Vec2 → ℕ
size_fault v = least (pair_fault v.x v.y ∷ when (negative v) number.negative ∷ [])

-- RULES 8.5: 6 too, where the rectangle is inside out
unfoldable pub rect_fault : Rect → ℕ
rect_fault r = least (edges_fault r ∷ when (inside_out r) number.negative ∷ [])

-- RULES 8.13: 9 for whatever number an answer has of its own
unfoldable pub outside : ℕ → ℕ
outside n = cond (n == 0) 0 number.outside

-- ---- RULES 8.1, 8.4: what the calls answer
-- RULES 8.1: the number of a refusal, …
abbrev pub number_of : Refusal → ℕ
number_of Malformed = number.malformed
number_of TooLong = number.too_long
number_of NoRoom = number.no_room
number_of NotFinite = number.not_finite
number_of TooFar = number.too_far
number_of Negative = number.negative
number_of NotInGrid = number.not_in_grid
number_of GridFull = number.grid_full
number_of Outside = number.outside

-- … and 0 where there is none
abbrev pub fault_number : Option Refusal → ℕ
fault_number None = 0
fault_number (Some e) = number_of e

-- RULES 8.4: a value, or the refusal
abbrev pub answered : {A : Type 0} → Option Refusal → A → Result A Refusal
answered None x = Ok x
answered (Some e) x = Err e

-- RULES 8.4: a value, or the refusal's number
unfoldable pub answer : {A : Type 0} → ℕ → A → Result A ℕ
answer n x = cond (n == 0) (Ok x) (Err n)

-- RULES 8.1, 8.4: an answer with the number for the refusal
abbrev pub numbered : {A : Type 0} → Result A Refusal → Result A ℕ
numbered (Ok x) = Ok x
numbered (Err e) = Err (number_of e)

-- RULES 8.4: an answer's number, 0 where it has a value; and its value, or zeros where it is refused
abbrev pub answer_number : {A : Type 0} → Result A ℕ → ℕ
answer_number (Ok x) = 0
answer_number (Err n) = n

abbrev pub answer_value : {A : Type 0} → A → Result A ℕ → A
answer_value zeros (Ok x) = x
answer_value zeros (Err n) = zeros

-- RULES 8.4: what a call of this number has for a value: the rule's where it is 0, else zeros
unfoldable pub or_zeros : {A : Type 0} → A → ℕ → A → A
or_zeros zeros n x = cond (n == 0) x zeros

-- RULES 8.4: what an answer says: this number, and this value with it
abbrev pub Says : {A : Type 0} → A → Result A ℕ → ℕ → A → Type 0
Says zeros a n x = (answer_number a ≡ n) × (answer_value zeros a ≡ or_zeros zeros (answer_number a) x)
