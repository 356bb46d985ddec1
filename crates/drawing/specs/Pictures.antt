-- RULES 7.10, 7.12: the whole drawing of a list: the plate's picture, or the refusal in words; metric or not, which the list does not say.
use Rattle.std.specs.Prelude.{ℕ, ◌+◌, ◌-◌, ◌*◌, ◌/◌, ◌%◌, Bool, cond, List, [], ◌∷◌, ◌++◌, eqb, length}
use Rattle.std.proofs.lemmas.List.Edits.{sets}
use Rattle.text.specs.Letters as letters
use Rattle.text.specs.Ascii.{ascii}
use Rattle.drawing.specs.Pieces.{filled, joined}
use Rattle.drawing.specs.Pages.{place_of, is_line, lines_from, page_for, px, thickness, bottom, page_width, page_height, bar_from}
use Rattle.drawing.specs.Drawings.{plate_at, plate_row, each}
use Rattle.drawing.specs.declared.Page.{Page}
use Rattle.drawing.specs.declared.Layer.TheVariants.{ColumnLines, RowLines, Outlines, Windows, Captions, Labels, WidgetRows, ColumnRows, RowRows}

-- ---- RULES 7.10: the page's head
unfoldable pub style : List ℕ → List (List ℕ)
style s = filled (ascii "<style>\n.plate{fill:#f3e2b3;stroke:#6b4f10}\n.cells{stroke:#5b9bd5}\n.frame{fill:none;stroke:#a0522d}\n.control{fill:#fffdf5;fill-opacity:.55;stroke:#333}\n.flat{fill:none;stroke:#333}\n.plate,.cells,.frame,.control,.flat{stroke-linecap:square}\n.line{fill:none;stroke:#333}\ntext{fill:#111;font-size:13px}\n.title{font-size:18px;font-weight:bold}\n.large,.small,.tiny,.middle{text-anchor:middle}\n.large{font-size:14px;font-weight:bold}\n.small{font-size:10px;font-weight:bold}\n.tiny{font-size:8px;paint-order:stroke;stroke:#fff;stroke-width:2px}\n.row{font-family:monospace;font-size:9.5px}\n</style>\n<rect width=\"100%\" height=\"100%\" fill=\"#fff\"/>\n") s 0 []

unfoldable pub head : List ℕ → ℕ → ℕ → List (List ℕ)
head s width height = filled (ascii "<svg xmlns=\"http://www.w3.org/2000/svg\" width=\"~0\" height=\"~1\" viewBox=\"0 0 ~0 ~1\" font-family=\"sans-serif\">\n") s 0 (width ∷ height ∷ []) ++ style s

-- a length in points: whole ones, and what is left in 32nds
unfoldable pub points : List ℕ → ℕ → List (List ℕ)
points s n = cond (eqb (n % 32) 0) (filled (ascii "~0 pt") s 0 ((n / 32) ∷ [])) (filled (ascii "~0 ~1/32 pt") s 0 ((n / 32) ∷ (n % 32) ∷ []))

-- ---- RULES 7.12: millimetres
-- n steps, of which a point has so many, in hundredths of one: the nearest number, a half upward; 635 are 18 points
unfoldable pub hundredths : ℕ → ℕ → ℕ
hundredths per_point n = (635 * n + 9 * per_point) / (18 * per_point)

-- n ticks with two decimals
unfoldable pub millimetres : List ℕ → ℕ → List (List ℕ)
millimetres s n = filled (ascii "~0.~1~2 mm") s 0 ((hundredths 32 n / 100) ∷ (hundredths 32 n / 10 % 10) ∷ (hundredths 32 n % 10) ∷ [])

-- the plate's width and height, marked as rounded; only a metric sheet's are given
unfoldable pub size_in_millimetres : Page → List ℕ → List (List ℕ)
size_in_millimetres p s =
    filled (ascii " (") s 0 []
    ++ (millimetres s p.width
    ++ (filled (ascii " &#215; ") s 0 []
    ++ (millimetres s p.height
    ++ filled (ascii ", rounded)") s 0 [])))

unfoldable pub in_millimetres : Bool → Page → List ℕ → List (List ℕ)
in_millimetres metric p s = cond metric (size_in_millimetres p s) []

-- RULES 7.10, 7.12: the plate's width and height, in points, in millimetres and in ticks
unfoldable pub title : Bool → Page → List ℕ → List (List ℕ)
title metric p s =
    filled (ascii "<text class=\"title\" x=\"60\" y=\"34\">Plate ") s 0 []
    ++ (points s p.width
    ++ (filled (ascii " &#215; ") s 0 []
    ++ (points s p.height
    ++ (in_millimetres metric p s
    ++ filled (ascii "</text>\n<text x=\"60\" y=\"56\">~0 &#215; ~1 ticks; left $0, top $1, right $2, bottom $3; controls: ~2; a tick is 1/32 pt</text>\n") s (plate_at p) (p.width ∷ p.height ∷ p.widgets ∷ [])))))

-- ---- RULES 7.10: the picture
abbrev pub grid_widgets : Page → ℕ
grid_widgets p = cond (eqb p.columns 0) 0 p.widgets

unfoldable pub shapes : Page → List ℕ → List (List ℕ)
shapes p s =
    filled (ascii "<defs>\n<path id=\"down\" class=\"cells\" d=\"M0 $1V$3\"/>\n<path id=\"across\" class=\"cells\" d=\"M$0 0H$2\"/>\n<g id=\"plate\" stroke-width=\"~0e-3\">\n<path class=\"plate\" d=\"M$0 $1H$2V$3H$0Z\"/>\n") s (plate_at p) (thickness p ∷ [])
    ++ (each ColumnLines p s (grid_widgets p) 0
    ++ (each RowLines p s (grid_widgets p) 0
    ++ (each Outlines p s p.widgets 0
    ++ filled (ascii "</g>\n</defs>\n") s 0 [])))

unfoldable pub width_line : Page → List ℕ → List (List ℕ)
width_line p s =
    filled (ascii "<path class=\"line\" d=\"M60 88v12M60 94h~0m0 -6v12\"/>\n<text class=\"middle\" x=\"~1\" y=\"80\">") s 0 (px p p.width ∷ (60 + px p p.width / 2) ∷ [])
    ++ (points s p.width
    ++ filled (ascii " (~0 ticks)</text>\n") s 0 (p.width ∷ []))

unfoldable pub height_line : Page → List ℕ → List (List ℕ)
height_line p s =
    filled (ascii "<path class=\"line\" d=\"M~0 108h12m-6 0v~1m-6 0h12\"/>\n<text x=\"~2\" y=\"~3\">") s 0 ((70 + px p p.width) ∷ px p p.height ∷ (90 + px p p.width) ∷ (105 + px p p.height / 2) ∷ [])
    ++ (points s p.height
    ++ filled (ascii "</text>\n<text x=\"~0\" y=\"~1\">(~2 ticks)</text>\n") s 0 ((90 + px p p.width) ∷ (121 + px p p.height / 2) ∷ p.height ∷ []))

-- a plate in one piece has its sizes beside it, bands say where they begin
unfoldable pub dimensions : Page → List ℕ → List (List ℕ)
dimensions p s = cond (eqb p.bands 1) (width_line p s ++ height_line p s) (each Captions p s p.bands 0)

unfoldable pub scale_line : Page → List ℕ → ℕ → List (List ℕ)
scale_line p s bar =
    filled (ascii "<path class=\"line\" d=\"M60 ~0v12m0 -6h~1m0 -6v12\"/>\n<text x=\"~2\" y=\"~3\">scale: ") s 0 ((bottom p - 6) ∷ px p bar ∷ (72 + px p bar) ∷ (bottom p + 4) ∷ [])
    ++ (points s bar
    ++ filled (ascii " (~0 ticks)</text>\n") s 0 (bar ∷ []))

unfoldable pub scale : Page → List ℕ → List (List ℕ)
scale p s = scale_line p s (bar_from 21 2097152 p.unit)

unfoldable pub picture : Page → List ℕ → List (List ℕ)
picture p s = shapes p s ++ (each Windows p s p.bands 0 ++ (dimensions p s ++ (each Labels p s p.widgets 0 ++ scale p s)))

-- ---- RULES 7.10: the list below it
unfoldable pub key : Page → List ℕ → List (List ℕ)
key p s =
    filled (ascii "<text class=\"row\" x=\"40\" y=\"~0\">W record; frame left, top, right, bottom; control left, top, right, bottom. P plate left, top, right, bottom. C column, width. D row, height. In ticks.</text>\n") s 0 ((bottom p + 50) ∷ [])
    ++ (each WidgetRows p s p.widgets 0
    ++ (plate_row p s
    ++ (each ColumnRows p s p.columns 0
    ++ (each RowRows p s p.rows 0
    ++ filled (ascii "</svg>\n") s 0 []))))

unfoldable pub accepted : Bool → Page → List ℕ → List (List ℕ)
accepted metric p s = head s (page_width p) (page_height p) ++ (title metric p s ++ (picture p s ++ key p s))

-- ---- RULES 7.10: a refusal, in words
unfoldable pub reason : ℕ → List ℕ
reason n =
    cond (eqb n 1) (ascii "A record is malformed, out of its place, or has a field out of its range.")
    (cond (eqb n 2) (ascii "The sheet goes on after its 512th record.")
    (cond (eqb n 3) (ascii "There is too little room for the rectangles: each control takes eight places.")
    (cond (eqb n 4) (ascii "A value is not a number, or is infinite where it may not be.")
    (cond (eqb n 5) (ascii "A length is beyond 65,536 points.")
    (cond (eqb n 6) (ascii "A size or a remembered length is negative, or a rectangle is inside out.")
    (cond (eqb n 7) (ascii "A gap (S) stands in a grid, or a grid runs from right to left or upward.")
    (cond (eqb n 8) (ascii "The grid is full: it has at most 32 columns and 128 rows.")
    (cond (eqb n 9) (ascii "The result would lie outside the domain: beyond 65,536 points, or without end.")
    (ascii "This is no printed list of a sheet.")))))))))

-- the number of the X line at a place, 0 where there is none
unfoldable pub refusal_number : List ℕ → ℕ → ℕ
refusal_number s line = cond (is_line letters.X 18 s line) (place_of s line 0 - 10000000) 0

unfoldable pub refusal : List ℕ → ℕ → List (List ℕ)
refusal s line =
    head s 720 110
    ++ (filled (ascii "<text class=\"title\" x=\"40\" y=\"44\">Refused: number $0, at record $1</text>\n<text x=\"40\" y=\"76\">") s line []
    ++ (filled (reason (refusal_number s line)) s 0 []
    ++ filled (ascii "</text>\n</svg>\n") s 0 []))

-- ---- RULES 7.10: the drawing of a list, whose W lines come first
unfoldable pub drawn_from : Bool → List ℕ → ℕ → List (List ℕ)
drawn_from metric s widgets = cond (is_line letters.P 34 s (74 * widgets)) (accepted metric (page_for s widgets) s) (refusal s (74 * widgets))

unfoldable pub pieces : Bool → List ℕ → List (List ℕ)
pieces metric s = drawn_from metric s (lines_from 512 letters.W 74 s 0)

unfoldable pub drawing : Bool → List ℕ → List ℕ
drawing metric s = joined (pieces metric s)

-- its length, and a slice with the drawing from its start, every other place as it was
abbrev pub drawn_in : Bool → List ℕ → List ℕ → ℕ × List ℕ
drawn_in metric out s = (length (drawing metric s), sets out 0 (drawing metric s))
