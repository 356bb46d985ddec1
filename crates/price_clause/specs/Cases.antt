-- RULES 9.1 to 9.7, 9.10, 9.11: the cases that are proved, one table of what a text is answered with and what it has to be.
use Rattle.std.specs.Prelude.{ℕ, zero, suc, ◌*◌, Bool, true, false, ◌&&◌, eqb, List, [], ◌∷◌, ◌++◌, map, ℤ, pos, negsuc, length, replicate, Float}
use Rattle.emath.specs.Numbers as number
use Rattle.emath.specs.Rectangles.{round_ui, align_on}
use Rattle.emath.specs.Steps.{tick, val}
use Rattle.emath.specs.declared.Align.TheVariants.{Center}
use Rattle.grid.specs.Memories.{widths, heights}
use Rattle.records.specs.Writers.{H, M, G, W, S, N, E}
use Rattle.records.specs.Sheets.{records, widgets}
use Rattle.sheet.specs.Slices.{LaidOut, edges}
use Rattle.sheet.specs.Ticks.{Ticks, ticks, in_ticks}
use Rattle.listing.specs.Lists.{settled, list_of}
use Rattle.text.specs.Ascii.{ascii}

-- ---- RULES 9.1: what a text is answered with, as the pass that is printed leaves it over a slice of eight places for each W, in whole
-- numbers: the refusal's number and record (0: none), the plate's edges, the slice; how many columns there are, and their widths; how many
-- rows, and their heights; all in ticks
abbrev pub answered : List ℕ → LaidOut
answered text = settled text (replicate (8 * widgets (records text)) (pos 0))

abbrev pub counted : List Float → List ℤ
counted xs = pos (length xs) ∷ map (ticks tick) xs

abbrev pub reported : LaidOut → List ℤ
reported l =
    pos l.outcome.number ∷ pos l.outcome.at
    ∷ (edges (in_ticks tick l.outcome.plate) ++ (l.slice ++ (counted (widths l.outcome.memory) ++ counted (heights l.outcome.memory))))

-- RULES 9.1: what is found beside what it has to be
pub record Case : Type 0 where
  pub found : List ℤ
  pub expected : List ℤ

-- ---- RULES 9.1: the test: the same whole numbers
abbrev pub same_z : ℤ → ℤ → Bool
same_z (pos a) (pos b) = eqb a b
same_z (pos a) (negsuc b) = false
same_z (negsuc a) (pos b) = false
same_z (negsuc a) (negsuc b) = eqb a b

unfoldable pub same_all : List ℤ → List ℤ → Bool
same_all [] [] = true
same_all [] (y ∷ ys) = false
same_all (x ∷ xs) [] = false
same_all (x ∷ xs) (y ∷ ys) = same_z x y && same_all xs ys

-- ---- RULES 9.1: records as text
-- H: direction, wrap and main align, no justify, cross align 0, a max_rect from 0, the spacings; and G with start row 0
abbrev pub heading : ℤ → ℤ → ℤ → ℤ → ℤ → ℤ → ℤ → List ℕ
heading direction wrap align right bottom across down =
    H (direction ∷ wrap ∷ align ∷ pos 0 ∷ pos 0 ∷ pos 0 ∷ []) (pos 0 ∷ pos 0 ∷ right ∷ bottom ∷ []) (across ∷ down ∷ [])

abbrev pub grid : ℤ → ℤ → List ℕ
grid width height = G width height (pos 0)

unfoldable pub times : ℕ → List ℕ → List ℕ
times zero s = []
times (suc n) s = s ++ times n s

-- ---- RULES 9.1: rectangles in ticks, results
abbrev pub box : ℤ → ℤ → ℤ → ℤ → Ticks
box left top right bottom = record { left = left; top = top; right = right; bottom = bottom }

-- without a grid a W's widget is its frame in these cases
unfoldable pub twice_each : List Ticks → List ℤ
twice_each [] = []
twice_each (t ∷ rest) = edges t ++ (edges t ++ twice_each rest)

abbrev pub without-grid : List Ticks → Ticks → List ℤ
without-grid frames plate = pos 0 ∷ pos 0 ∷ (edges plate ++ (twice_each frames ++ (pos 0 ∷ pos 0 ∷ [])))

abbrev pub answer-to : List ℕ → List ℤ
answer-to text = reported (answered text)

-- RULES 9.1: a refusal's number and record
abbrev pub refusal-of : List ℕ → List ℤ
refusal-of text = (pos (answered text).outcome.number ∷ pos (answered text).outcome.at ∷ [])

abbrev pub refused : ℕ → ℕ → List ℤ
refused number at = (pos number ∷ pos at ∷ [])

-- ---- the table
-- RULES 9.1: the strip, as text
abbrev pub strip : List ℕ
strip = heading (pos 0) (pos 0) (pos 1) (pos 6400) (pos 3200) (pos 256) (pos 128) ++ (W (pos 640) (pos 320) ++ W (pos 320) (pos 480))

-- RULES 9.2: what it is answered with
abbrev pub the-strip : Case
the-strip = record {
  found = answer-to strip;
  expected = without-grid (box (pos 0) (pos 0) (pos 640) (pos 320) ∷ box (pos 896) (pos 0) (pos 1216) (pos 480) ∷ []) (box (pos 0) (pos 0) (pos 1216) (pos 480));
}

-- RULES 9.2: and the bytes of its text, and of its list
abbrev pub the-strip-written : Case
the-strip-written = record {
  found = map (λ (b : ℕ). pos b) strip;
  expected = map (λ (b : ℕ). pos b) (
      ascii "H       0       0       1       0       0       0       0       0    6400    3200     256     128\nW     640     320\nW     320     480\n"
      );
}

abbrev pub the-strip-printed : Case
the-strip-printed = record {
  found = map (λ (b : ℕ). pos b) (list_of strip);
  expected = map (λ (b : ℕ). pos b) (
      ascii "W       2       0       0     640     320       0       0     640     320\nW       3     896       0    1216     480     896       0    1216     480\nP       0       0    1216     480\n"
      );
}

-- RULES 9.3: a grid under that heading: two controls, a row end, one control
abbrev pub the-grid : Case
the-grid = record {
  found = answer-to
      (heading (pos 0) (pos 0) (pos 1) (pos 6400) (pos 3200) (pos 256) (pos 128) ++ (grid (pos 320) (pos 160) ++ (W (pos 640) (pos 160) ++ (W (pos 100) (pos 161) ++ (E ++ W (pos 200) (pos 50))))));
  expected = pos 0 ∷ pos 0 ∷ (edges (box (pos 0) (pos 0) (pos 1216) (pos 449))
      ++ (edges (box (pos 0) (pos 0) (pos 640) (pos 161)) ++ (edges (box (pos 0) (pos 1) (pos 640) (pos 161))
      ++ (edges (box (pos 896) (pos 0) (pos 1216) (pos 161)) ++ (edges (box (pos 896) (pos 0) (pos 996) (pos 161))
      ++ (edges (box (pos 0) (pos 289) (pos 640) (pos 449)) ++ (edges (box (pos 0) (pos 344) (pos 200) (pos 394))
      ++ (pos 2 ∷ pos 640 ∷ pos 320 ∷ pos 2 ∷ pos 161 ∷ pos 160 ∷ []))))))));
}

-- RULES 9.4: a control of one tick in the middle of two: each half tick rounds away from zero, so it fills them
abbrev pub one-tick-centred : Case
one-tick-centred = record {
  found = (ticks tick (round_ui tick (align_on Center (val tick (negsuc 0)) (val tick (pos 1)) (val tick (pos 1))).min) ∷ ticks tick (round_ui tick (align_on Center (val tick (negsuc 0)) (val tick (pos 1)) (val tick (pos 1))).max) ∷ []);
  expected = (negsuc 0 ∷ pos 1 ∷ []);
}

-- RULES 9.4: half a tick above zero and half a tick below it
abbrev pub half-a-tick : Case
half-a-tick = record { found = (ticks tick (round_ui tick (val 6 (pos 1))) ∷ []); expected = (pos 1 ∷ []) }

abbrev pub minus-half-a-tick : Case
minus-half-a-tick = record { found = (ticks tick (round_ui tick (val 6 (negsuc 0))) ∷ []); expected = (negsuc 0 ∷ []) }

-- RULES 9.5: with wrap, two controls that fill the width exactly stay in one row
abbrev pub twice : Case
twice = record {
  found = answer-to (heading (pos 0) (pos 1) (pos 0) (pos 640) (pos 3200) (pos 0) (pos 0) ++ (W (pos 320) (pos 100) ++ W (pos 320) (pos 100)));
  expected = without-grid (box (pos 0) (pos 0) (pos 320) (pos 100) ∷ box (pos 320) (pos 0) (pos 640) (pos 100) ∷ []) (box (pos 0) (pos 0) (pos 640) (pos 100));
}

-- RULES 9.5: with one tick more the second goes to the next
abbrev pub one_more : Case
one_more = record {
  found = answer-to (heading (pos 0) (pos 1) (pos 0) (pos 640) (pos 3200) (pos 0) (pos 0) ++ (W (pos 320) (pos 100) ++ W (pos 321) (pos 100)));
  expected = without-grid (box (pos 0) (pos 0) (pos 320) (pos 100) ∷ box (pos 0) (pos 100) (pos 321) (pos 200) ∷ []) (box (pos 0) (pos 0) (pos 321) (pos 200));
}

-- RULES 9.6: a control that ends at the last tick of the domain
abbrev pub at-the-limit : Case
at-the-limit = record {
  found = answer-to (heading (pos 0) (pos 0) (pos 0) (pos 0) (pos 0) (pos 0) (pos 0) ++ W (pos 2097152) (pos 0));
  expected = without-grid (box (pos 0) (pos 0) (pos 2097152) (pos 0) ∷ []) (box (pos 0) (pos 0) (pos 2097152) (pos 0));
}

-- RULES 9.6: and the cursor one tick beyond it
abbrev pub beyond-the-limit : Case
beyond-the-limit = record {
  found = refusal-of (heading (pos 0) (pos 0) (pos 0) (pos 0) (pos 0) (pos 1) (pos 0) ++ W (pos 2097152) (pos 0));
  expected = refused number.outside 2;
}

-- RULES 9.7: refusals 7 and 8: a grid that starts at the right, and one cell more than a row has
abbrev pub grid-from-the-right : Case
grid-from-the-right = record {
  found = refusal-of (heading (pos 1) (pos 0) (pos 0) (pos 0) (pos 0) (pos 0) (pos 0) ++ grid (pos 0) (pos 0));
  expected = refused number.not_in_grid 2;
}

abbrev pub one-cell-too-many : Case
one-cell-too-many = record {
  found = refusal-of (heading (pos 0) (pos 0) (pos 0) (pos 0) (pos 0) (pos 0) (pos 0) ++ (grid (pos 0) (pos 0) ++ times 33 (W (pos 0) (pos 0))));
  expected = refused number.grid_full 35;
}

-- RULES 9.10: plates that are the frames', and not min_rect, which N and a centred start take further
abbrev pub in-room : ℤ → List ℤ → List ℤ → List ℕ
in-room cross edges spacing = H (pos 0 ∷ pos 0 ∷ pos 0 ∷ pos 0 ∷ cross ∷ pos 0 ∷ []) edges spacing

abbrev pub no-spacing : List ℤ
no-spacing = (pos 0 ∷ pos 0 ∷ [])

abbrev pub wider-than-controls : Case
wider-than-controls = record {
  found = answer-to (in-room (pos 0) (edges (box (pos 0) (pos 0) (pos 640) (pos 640))) no-spacing ++ (N (pos 300) ++ W (pos 10) (pos 10)));
  expected = without-grid (box (pos 0) (pos 0) (pos 10) (pos 10) ∷ []) (box (pos 0) (pos 0) (pos 10) (pos 10));
}

abbrev pub centred-grid : Case
centred-grid = record {
  found = answer-to (in-room (pos 1) (edges (box (pos 0) (pos 0) (pos 640) (pos 640))) no-spacing ++ (grid (pos 0) (pos 0) ++ W (pos 10) (pos 10)));
  expected = pos 0 ∷ pos 0 ∷ (edges (box (pos 0) (pos 0) (pos 10) (pos 10)) ++ (twice_each (box (pos 0) (pos 0) (pos 10) (pos 10) ∷ []) ++ (pos 1 ∷ pos 10 ∷ pos 1 ∷ pos 10 ∷ [])));
}

-- RULES 9.10: a frame of no size counts
abbrev pub frame-of-no-size : Case
frame-of-no-size = record {
  found = answer-to (in-room (pos 0) (edges (box (pos 0) (pos 0) (pos 640) (pos 640))) (pos 10 ∷ pos 0 ∷ []) ++ (W (pos 5) (pos 5) ++ W (pos 0) (pos 0)));
  expected = without-grid (box (pos 0) (pos 0) (pos 5) (pos 5) ∷ box (pos 15) (pos 0) (pos 15) (pos 0) ∷ []) (box (pos 0) (pos 0) (pos 15) (pos 5));
}

-- RULES 9.10: a plate need not touch 0, 0; and without a W it is all zero, wherever there is room
abbrev pub plate-elsewhere : Case
plate-elsewhere = record {
  found = answer-to (in-room (pos 0) (edges (box (negsuc 499) (negsuc 299) (pos 640) (pos 640))) no-spacing ++ W (pos 10) (pos 20));
  expected = without-grid (box (negsuc 499) (negsuc 299) (negsuc 489) (negsuc 279) ∷ []) (box (negsuc 499) (negsuc 299) (negsuc 489) (negsuc 279));
}

abbrev pub no-control : Case
no-control = record {
  found = answer-to (in-room (pos 0) (edges (box (pos 100) (pos 100) (pos 640) (pos 640))) no-spacing ++ E);
  expected = without-grid [] (box (pos 0) (pos 0) (pos 0) (pos 0));
}

-- RULES 9.10: min_rect is held to the domain all the same
abbrev pub min-rect-beyond : Case
min-rect-beyond = record {
  found = refusal-of (in-room (pos 0) (edges (box (pos 2097152) (pos 0) (pos 2097152) (pos 0))) no-spacing ++ N (pos 1));
  expected = refused number.outside 2;
}

-- RULES 9.11: hundredths of a millimetre in the W, and ticks everywhere else
abbrev pub roomy : List ℕ
roomy = in-room (pos 0) (edges (box (pos 0) (pos 0) (pos 640) (pos 640))) no-spacing

abbrev pub metric-grid : Case
metric-grid = record {
  found = answer-to (roomy ++ (M ++ (grid (pos 635) (pos 635) ++ W (pos 635) (pos 1270))));
  expected = pos 0 ∷ pos 0 ∷ (edges (box (pos 0) (pos 0) (pos 635) (pos 1152)) ++ (edges (box (pos 0) (pos 0) (pos 635) (pos 1152)) ++ (edges (box (pos 0) (pos 0) (pos 576) (pos 1152)) ++ (pos 1 ∷ pos 635 ∷ pos 1 ∷ pos 1152 ∷ []))));
}

abbrev pub metric-space : Case
metric-space = record {
  found = answer-to (roomy ++ (M ++ (S (pos 635) ++ W (pos 635) (pos 635))));
  expected = without-grid (box (pos 635) (pos 0) (pos 1211) (pos 576) ∷ []) (box (pos 635) (pos 0) (pos 1211) (pos 576));
}

-- RULES 9.11: the largest field, and one more; the smallest below zero, whose sign stays
abbrev pub metric-largest : Case
metric-largest = record {
  found = answer-to (roomy ++ (M ++ W (pos 2097152) (pos 1)));
  expected = without-grid (box (pos 0) (pos 0) (pos 1902299) (pos 1) ∷ []) (box (pos 0) (pos 0) (pos 1902299) (pos 1));
}

abbrev pub metric-beyond : Case
metric-beyond = record { found = refusal-of (roomy ++ (M ++ W (pos 2097153) (pos 1))); expected = refused number.malformed 3 }

abbrev pub metric-negative : Case
metric-negative = record { found = refusal-of (roomy ++ (M ++ W (negsuc 0) (pos 0))); expected = refused number.negative 3 }

-- RULES 9.11: M is once, and right after H
abbrev pub unit-twice : Case
unit-twice = record { found = refusal-of (roomy ++ (M ++ M)); expected = refused number.malformed 3 }

abbrev pub unit-after-grid : Case
unit-after-grid = record { found = refusal-of (roomy ++ (grid (pos 0) (pos 0) ++ M)); expected = refused number.malformed 3 }

abbrev pub grid-after-control : Case
grid-after-control = record { found = refusal-of (roomy ++ (M ++ (W (pos 1) (pos 1) ++ grid (pos 0) (pos 0)))); expected = refused number.malformed 4 }

-- RULES 9.1: every entry of a table; and the entries
unfoldable pub all_hold : List Case → Bool
all_hold [] = true
all_hold (c ∷ rest) = same_all c.found c.expected && all_hold rest

abbrev pub table : List Case
table =
    the-strip ∷ the-strip-written ∷ the-strip-printed ∷ the-grid ∷ one-tick-centred ∷ half-a-tick ∷ minus-half-a-tick ∷ twice ∷ one_more ∷ at-the-limit ∷ beyond-the-limit ∷ grid-from-the-right
    ∷ one-cell-too-many ∷ wider-than-controls ∷ centred-grid ∷ frame-of-no-size ∷ plate-elsewhere ∷ no-control ∷ min-rect-beyond ∷ metric-grid ∷ metric-space
    ∷ metric-largest ∷ metric-beyond ∷ metric-negative ∷ unit-twice ∷ unit-after-grid ∷ grid-after-control ∷ []
