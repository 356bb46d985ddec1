-- RULES 7.10: where things stand on the page: the lines of the list, the plate's size, and how many ticks a picture's length is.
use Rattle.std.specs.Prelude.{ℕ, zero, suc, ◌+◌, ◌-◌, ◌*◌, ◌/◌, ◌%◌, ◌≤◌, ◌<◌, max, min, Bool, cond, ◌&&◌, List, leb, ltb, eqb, ℤ, pos, negsuc, length, get_or}
use Rattle.text.specs.Letters as letters
use Rattle.drawing.specs.Pieces.{field_of}
use Rattle.drawing.specs.declared.Page.{Page}

-- ---- RULES 7.10: the list
-- a number, counted from ten million before zero
unfoldable pub biased : ℤ → ℕ
biased (pos n) = 10000000 + n
biased (negsuc n) = 9999999 - n

unfoldable pub place_of : List ℕ → ℕ → ℕ → ℕ
place_of s line i = biased (field_of s line i)

-- from field i of a line to field j, 0 where that is backward
unfoldable pub span : List ℕ → ℕ → ℕ → ℕ → ℕ
span s line i j = place_of s line j - place_of s line i

-- a line of this letter and length begins at a place
unfoldable pub is_line : ℕ → ℕ → List ℕ → ℕ → Bool
is_line letter size s at = leb (at + size) (length s) && eqb (get_or s at 0) letter

-- how many such lines stand there one after the other, so many at the most
unfoldable pub lines_from : ℕ → ℕ → ℕ → List ℕ → ℕ → ℕ
lines_from zero letter size s at = 0
lines_from (suc most) letter size s at = cond (is_line letter size s at) (1 + lines_from most letter size s (at + size)) 0

-- ---- RULES 7.10: the page
-- A long plate is cut into bands, one for each 24 controls, but no more than make the picture as high as wide.
unfoldable pub bands_from : ℕ → ℕ → ℕ → ℕ
bands_from zero long short = 1
bands_from (suc n) long short = cond (leb (suc n * suc n * short) long) (suc n) (bands_from n long short)

abbrev pub bands_of : ℕ → ℕ → ℕ → ℕ
bands_of widgets long short = bands_from ((widgets + 23) / 24) long (max short 1)

-- a picture's length on the page; many controls have a larger picture
abbrev pub size_of : Bool → ℕ
size_of large = cond large 1600 800

-- so many ticks on the page, where a picture's length stands for `unit` ticks
unfoldable pub scaled : Bool → ℕ → ℕ → ℕ
scaled large unit d = d * size_of large / unit

abbrev pub step_of : ℕ → ℕ → ℕ
step_of long bands = long / bands + 1

unfoldable pub cut : ℕ → ℕ → ℕ → ℕ → ℕ → ℕ → Page
cut widgets columns rows width height bands = record {
  widgets = widgets;
  columns = columns;
  rows = rows;
  width = width;
  height = height;
  wide = leb height width;
  bands = bands;
  step = step_of (max width height) bands;
  unit = max (step_of (max width height) bands) 32;
  large = ltb 96 widgets;
  pitch = scaled (ltb 96 widgets) (max (step_of (max width height) bands) 32) (min width height) + 40;
}

unfoldable pub ruled : ℕ → ℕ → ℕ → ℕ → ℕ → Page
ruled widgets columns rows width height = cut widgets columns rows width height (bands_of widgets (max width height) (min width height))

-- W lines have 74 bytes, P 34, C and D 18
unfoldable pub columns_of : List ℕ → ℕ → ℕ
columns_of s widgets = lines_from 32 letters.C 18 s (74 * widgets + 34)

unfoldable pub rows_of : List ℕ → ℕ → ℕ → ℕ
rows_of s widgets columns = lines_from 128 letters.D 18 s (74 * widgets + 34 + 18 * columns)

unfoldable pub page_for : List ℕ → ℕ → Page
page_for s widgets = ruled widgets (columns_of s widgets) (rows_of s widgets (columns_of s widgets)) (span s (74 * widgets) 0 2) (span s (74 * widgets) 1 3)

-- no number of a page is too large to reckon with
pub record InBounds (p : Page) : Type 0 where
  pub widgets : p.widgets ≤ 512
  pub columns : p.columns ≤ 32
  pub rows : p.rows ≤ 128
  pub width : p.width ≤ 20000000
  pub height : p.height ≤ 20000000
  pub bands : p.bands ≤ 22
  pub step : p.step ≤ 20000001
  pub some : 0 < p.step
  pub unit : p.unit ≤ 20000001
  pub pitch : p.pitch ≤ 32000000040

-- ---- RULES 7.10: places
abbrev pub px : Page → ℕ → ℕ
px p d = scaled p.large p.unit d

-- a line of this thickness is one unit of the page thick: thousandths of a tick
unfoldable pub thickness : Page → ℕ
thickness p = p.unit * 1000 / size_of p.large

-- where the picture ends
unfoldable pub bottom : Page → ℕ
bottom p = 108 + cond p.wide (p.bands * p.pitch) (px p (min p.height p.step) + 40)

unfoldable pub page_width : Page → ℕ
page_width p = cond p.wide (size_of p.large + 240) (max (size_of p.large) (p.bands * p.pitch) + 240)

-- the list stands below, in two columns of so many rows
unfoldable pub per_column : Page → ℕ
per_column p = (p.widgets + p.columns + p.rows + 2) / 2

unfoldable pub row_across : Page → ℕ → ℕ
row_across p i = 40 + 500 * (i / per_column p)

unfoldable pub row_down : Page → ℕ → ℕ
row_down p i = bottom p + 72 + 14 * (i % per_column p)

unfoldable pub page_height : Page → ℕ
page_height p = bottom p + 100 + 14 * per_column p

-- the largest of 2^21, 2^20, … of which three are at most the picture's length
unfoldable pub bar_from : ℕ → ℕ → ℕ → ℕ
bar_from zero bar unit = bar
bar_from (suc n) bar unit = cond (leb (3 * bar) unit) bar (bar_from n (bar / 2) unit)
