-- RULES 8.1: the numbers of the refusals, in the order in which they are looked for; 0 is none. Cited as number.NAME.
use Rattle.std.specs.Prelude.{ℕ}

-- ---- RULES 8.1, number by number
-- of a sheet's text: a record is malformed, out of its place or out of its range
abbrev pub malformed : ℕ
malformed = 1

-- there is more after the last record that a sheet may have
abbrev pub too_long : ℕ
too_long = 2

-- the slice is too short for the rectangles
abbrev pub no_room : ℕ
no_room = 3

-- of what a call is given: NaN, or an infinity where none may be
abbrev pub not_finite : ℕ
not_finite = 4

-- a length beyond the limit
abbrev pub too_far : ℕ
too_far = 5

-- a negative size, or a rectangle that is inside out
abbrev pub negative : ℕ
negative = 6

-- what a grid does not do: S, and the directions to the left and upward
abbrev pub not_in_grid : ℕ
not_in_grid = 7

-- no column or row is left
abbrev pub grid_full : ℕ
grid_full = 8

-- of what a call would answer: an edge outside the domain
abbrev pub outside : ℕ
outside = 9
