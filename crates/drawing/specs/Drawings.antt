-- RULES 7.10: what is drawn: each element as its template, with the numbers of a line of the list and those of the page.
use Rattle.std.specs.Prelude.{ℕ, zero, suc, ◌+◌, ◌-◌, ◌*◌, ◌/◌, ◌%◌, Bool, true, false, cond, ◌&&◌, ◌||◌, List, [], ◌∷◌, ◌++◌, leb, ltb, eqb}
use Rattle.text.specs.Ascii.{ascii}
use Rattle.drawing.specs.Pieces.{filled}
use Rattle.drawing.specs.Pages.{place_of, span, px, thickness, row_across, row_down, size_of}
use Rattle.drawing.specs.declared.Page.{Page}
use Rattle.drawing.specs.declared.Layer.{Layer}
use Rattle.drawing.specs.declared.Layer.TheVariants as layer-of
use Rattle.drawing.specs.declared.Shared.{Shared}
use Rattle.drawing.specs.declared.Shared.TheVariants as shared_of

-- ---- RULES 7.10: controls
-- where the plate's line begins, and W line k
abbrev pub plate_at : Page → ℕ
plate_at p = 74 * p.widgets

-- a control's middle, from the plate's left edge and from its top
unfoldable pub middle : List ℕ → ℕ → ℕ → ℕ → ℕ → ℕ
middle s line i j from = ((place_of s line i - from) + (place_of s line j - from)) / 2

unfoldable pub across : Page → List ℕ → ℕ → ℕ
across p s k = middle s (74 * k) 5 7 (place_of s (plate_at p) 0)

unfoldable pub down : Page → List ℕ → ℕ → ℕ
down p s k = middle s (74 * k) 6 8 (place_of s (plate_at p) 1)

-- a control is at least so wide and tall on the page
unfoldable pub covers : Page → List ℕ → ℕ → ℕ → ℕ → Bool
covers p s k width height = leb width (px p (span s (74 * k) 5 7)) && leb height (px p (span s (74 * k) 6 8))

-- ---- RULES 7.10: what two controls share
abbrev pub distance : ℕ → ℕ → ℕ
distance a b = (a - b) + (b - a)

unfoldable pub near : Page → List ℕ → ℕ → ℕ → ℕ → ℕ → Bool
near p s j k width height = ltb (distance (px p (across p s j)) (px p (across p s k))) width && ltb (distance (px p (down p s j)) (px p (down p s k))) height

-- their labels would touch; those of two small controls are small
unfoldable pub touching : Page → List ℕ → ℕ → ℕ → Bool
touching p s j k = cond (covers p s j 22 11 || covers p s k 22 11) (near p s j k 20 10) (near p s j k 16 8)

unfoldable pub same_fields : List ℕ → ℕ → ℕ → ℕ → Bool
same_fields s j k i = eqb (place_of s (74 * j) i) (place_of s (74 * k) i) && eqb (place_of s (74 * j) (i + 2)) (place_of s (74 * k) (i + 2))

unfoldable pub shares : Shared → Page → List ℕ → ℕ → ℕ → Bool
shares shared_of.Column p s j k = same_fields s j k 1
shares shared_of.Row p s j k = same_fields s j k 2
shares shared_of.Place p s j k = touching p s j k

-- one of the first j controls shares it with control k
unfoldable pub seen : Shared → Page → List ℕ → ℕ → ℕ → Bool
seen what p s zero k = false
seen what p s (suc j) k = cond (shares what p s j k) true (seen what p s j k)

-- ---- RULES 7.10: lines, frames and controls, in ticks
unfoldable pub column_lines : Page → List ℕ → ℕ → List (List ℕ)
column_lines p s k = cond (seen shared_of.Column p s k k) [] (filled (ascii "<use href=\"#down\" x=\"$1\"/><use href=\"#down\" x=\"$3\"/>\n") s (74 * k) [])

unfoldable pub row_lines : Page → List ℕ → ℕ → List (List ℕ)
row_lines p s k = cond (seen shared_of.Row p s k k) [] (filled (ascii "<use href=\"#across\" y=\"$2\"/><use href=\"#across\" y=\"$4\"/>\n") s (74 * k) [])

-- a control without a width or a height is a thick line
unfoldable pub flat : List ℕ → ℕ → Bool
flat s k = eqb (span s (74 * k) 5 7) 0 || eqb (span s (74 * k) 6 8) 0

unfoldable pub control : Page → List ℕ → ℕ → List (List ℕ)
control p s k =
    cond (flat s k)
    (filled (ascii "<path class=\"flat\" stroke-width=\"~0e-3\" d=\"M$5 $6H$7V$8H$5Z\"/>\n") s (74 * k) ((4 * thickness p) ∷ []))
    (filled (ascii "<path class=\"control\" d=\"M$5 $6H$7V$8H$5Z\"/>\n") s (74 * k) [])

unfoldable pub outlines : Page → List ℕ → ℕ → List (List ℕ)
outlines p s k = filled (ascii "<path class=\"frame\" d=\"M$1 $2H$3V$4H$1Z\"/>\n") s (74 * k) [] ++ control p s k

-- ---- RULES 7.10: the plate on the page
unfoldable pub window : Page → List ℕ → ℕ → List (List ℕ)
window p s i =
    cond p.wide
    (filled (ascii "<svg x=\"60\" y=\"~0\" width=\"~1\" height=\"~1\" viewBox=\"$0 $1 ~2 ~2\"><use href=\"#plate\" x=\"-~3\"/></svg>\n") s (plate_at p) ((108 + i * p.pitch) ∷ size_of p.large ∷ p.unit ∷ (i * p.step) ∷ []))
    (filled (ascii "<svg x=\"~0\" y=\"108\" width=\"~1\" height=\"~1\" viewBox=\"$0 $1 ~2 ~2\"><use href=\"#plate\" y=\"-~3\"/></svg>\n") s (plate_at p) ((60 + i * p.pitch) ∷ size_of p.large ∷ p.unit ∷ (i * p.step) ∷ []))

unfoldable pub whole_window : Page → List ℕ → List (List ℕ)
whole_window p s = filled (ascii "<svg x=\"60\" y=\"108\" width=\"~0\" height=\"~0\" viewBox=\"$0 $1 ~1 ~1\" overflow=\"visible\"><use href=\"#plate\"/></svg>\n") s (plate_at p) (size_of p.large ∷ p.unit ∷ [])

unfoldable pub windows : Page → List ℕ → ℕ → List (List ℕ)
windows p s i = cond (eqb p.bands 1) (whole_window p s) (window p s i)

unfoldable pub captions : Page → List ℕ → ℕ → List (List ℕ)
captions p s i =
    cond p.wide
    (filled (ascii "<text class=\"row\" x=\"60\" y=\"~0\">from ~1 ticks on</text>\n") s 0 ((102 + i * p.pitch) ∷ (i * p.step) ∷ []))
    (filled (ascii "<text class=\"row\" x=\"~0\" y=\"102\">from ~1 ticks on</text>\n") s 0 ((60 + i * p.pitch) ∷ (i * p.step) ∷ []))

-- ---- RULES 7.10: labels
unfoldable pub label_across : Page → List ℕ → ℕ → ℕ
label_across p s k = cond p.wide (60 + px p (across p s k % p.step)) (60 + px p (across p s k) + down p s k / p.step * p.pitch)

unfoldable pub label_down : Page → List ℕ → ℕ → ℕ
label_down p s k = cond p.wide (108 + px p (down p s k) + across p s k / p.step * p.pitch) (108 + px p (down p s k % p.step))

-- a control's label is its record's number, as large as the control allows
unfoldable pub label : Page → List ℕ → ℕ → List (List ℕ)
label p s k =
    cond (covers p s k 34 18) (filled (ascii "<text class=\"large\" x=\"~0\" y=\"~1\">$0</text>\n") s (74 * k) (label_across p s k ∷ (label_down p s k + 5) ∷ []))
    (cond (covers p s k 22 11) (filled (ascii "<text class=\"small\" x=\"~0\" y=\"~1\">$0</text>\n") s (74 * k) (label_across p s k ∷ (label_down p s k + 4) ∷ []))
    (filled (ascii "<text class=\"tiny\" x=\"~0\" y=\"~1\">$0</text>\n") s (74 * k) (label_across p s k ∷ (label_down p s k + 3) ∷ [])))

-- it is left out where it would touch an earlier one's; the list below has them all
unfoldable pub labels : Page → List ℕ → ℕ → List (List ℕ)
labels p s k = cond (seen shared_of.Place p s k k) [] (label p s k)

-- ---- RULES 7.10: the list, below the picture
unfoldable pub widget_row : Page → List ℕ → ℕ → List (List ℕ)
widget_row p s k = filled (ascii "<text class=\"row\" xml:space=\"preserve\" x=\"~0\" y=\"~1\">W @0 @1 @2 @3 @4 @5 @6 @7 @8</text>\n") s (74 * k) (row_across p k ∷ row_down p k ∷ [])

unfoldable pub plate_row : Page → List ℕ → List (List ℕ)
plate_row p s = filled (ascii "<text class=\"row\" xml:space=\"preserve\" x=\"~0\" y=\"~1\">P @0 @1 @2 @3</text>\n") s (plate_at p) (row_across p p.widgets ∷ row_down p p.widgets ∷ [])

unfoldable pub column_row : Page → List ℕ → ℕ → List (List ℕ)
column_row p s k = filled (ascii "<text class=\"row\" xml:space=\"preserve\" x=\"~0\" y=\"~1\">C @0 @1</text>\n") s (plate_at p + 34 + 18 * k) ((row_across p (p.widgets + 1 + k)) ∷ (row_down p (p.widgets + 1 + k)) ∷ [])

unfoldable pub row_row : Page → List ℕ → ℕ → List (List ℕ)
row_row p s k = filled (ascii "<text class=\"row\" xml:space=\"preserve\" x=\"~0\" y=\"~1\">D @0 @1</text>\n") s (plate_at p + 34 + 18 * (p.columns + k)) ((row_across p (p.widgets + 1 + p.columns + k)) ∷ (row_down p (p.widgets + 1 + p.columns + k)) ∷ [])

-- ---- RULES 7.10: layer by layer
unfoldable pub one : Layer → Page → List ℕ → ℕ → List (List ℕ)
one layer-of.ColumnLines p s i = column_lines p s i
one layer-of.RowLines p s i = row_lines p s i
one layer-of.Outlines p s i = outlines p s i
one layer-of.Windows p s i = windows p s i
one layer-of.Captions p s i = captions p s i
one layer-of.Labels p s i = labels p s i
one layer-of.WidgetRows p s i = widget_row p s i
one layer-of.ColumnRows p s i = column_row p s i
one layer-of.RowRows p s i = row_row p s i

-- for so many, from i on
unfoldable pub each : Layer → Page → List ℕ → ℕ → ℕ → List (List ℕ)
each layer p s zero i = []
each layer p s (suc left) i = one layer p s i ++ each layer p s left (i + 1)
