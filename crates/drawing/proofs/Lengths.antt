-- How long each part of a drawing can be, and so the whole: it has room in 300,000 bytes. Assumes nothing.
use Rattle.std.proofs.Common.{ℕ, zero, suc, ◌+◌, ◌*◌, ◌%◌, ◌≤◌, ◌≡◌, refl, ap, ◌∙◌, Bool, true, false, cond, List, [], ◌++◌, arith, mul-le-mul, T, leb, eqb, lit≤, length}
use Rattle.drawing.specs.Pieces.{Put, emits, marked, next, filled, joined}
use Rattle.drawing.specs.Pages.{InBounds, is_line, lines_from, page_for, page_width, page_height}
use Rattle.drawing.specs.Drawings.{column_lines, row_lines, control, outlines, window, whole_window, windows, captions, label, labels, widget_row, plate_row, column_row, row_row, one, each, seen, flat, covers}
use Rattle.drawing.specs.Pictures.{style, head, points, millimetres, size_in_millimetres, in_millimetres, title, grid_widgets, shapes, width_line, height_line, dimensions, scale_line, scale, picture, key, accepted, reason, refusal_number, refusal, drawn_from, pieces, drawing, drawn_in}
use Rattle.drawing.specs.declared.Page.{Page}
use Rattle.drawing.specs.declared.Layer.{Layer}
use Rattle.drawing.specs.declared.Layer.TheVariants.{ColumnLines, RowLines, Outlines, Windows, Captions, Labels, WidgetRows, ColumnRows, RowRows}
use Rattle.drawing.specs.declared.Shared.TheVariants.{Column, Row, Place}
use Rattle.drawing.proofs.Room.{size, size-append, emits-room}
use Rattle.drawing.proofs.Sizes.{taken, most, filled-size}
use Rattle.drawing.proofs.Ruling.{lines-few, page-in-bounds}

fill : (t s : List ℕ) (line : ℕ) (ns : List ℕ) {n : ℕ} → T (leb (most 0 t) n) → size (filled t s line ns) ≤ n
fill t s line ns {n} h = let l : most 0 t ≤ n = lit≤ h in omega (arith, filled-size 0 t s line ns)

both : (xs ys : List (List ℕ)) {m n : ℕ} → size xs ≤ m → size ys ≤ n → size (xs ++ ys) ≤ m + n
both xs ys a b = omega (arith, size-append xs ys)

nothing : (n : ℕ) → size [] ≤ n
unfolding joined
nothing n = omega arith

-- ---- a line or a band
abbrev share : Layer → ℕ
share ColumnLines = 65
share RowLines = 69
share Outlines = 172
share Windows = 148
share Captions = 69
share Labels = 62
share WidgetRows = 155
share ColumnRows = 92
share RowRows = 92

module _ (p : Page) (s : List ℕ) where
  column-size : (k : ℕ) (b : Bool) → seen Column p s k k ≡ b → size (column_lines p s k) ≤ 65
  unfolding column_lines most taken marked next
  column-size k true e = rw e (nothing 65)
  column-size k false e = rw e (fill _ _ _ _ tt)

  row-size : (k : ℕ) (b : Bool) → seen Row p s k k ≡ b → size (row_lines p s k) ≤ 69
  unfolding row_lines most taken marked next
  row-size k true e = rw e (nothing 69)
  row-size k false e = rw e (fill _ _ _ _ tt)

  control-size : (k : ℕ) (b : Bool) → flat s k ≡ b → size (control p s k) ≤ 99
  unfolding control most taken marked next
  control-size k true e = rw e (fill _ _ _ _ tt)
  control-size k false e = rw e (fill _ _ _ _ tt)

  outlines-size : (k : ℕ) → size (outlines p s k) ≤ 73 + 99
  unfolding outlines most taken marked next
  outlines-size k = both _ _ {m = 73} (fill _ _ _ _ tt) (control-size k _ refl)

  window-size : (i : ℕ) (b : Bool) → p.wide ≡ b → size (window p s i) ≤ 148
  unfolding window most taken marked next
  window-size i true e = rw e (fill _ _ _ _ tt)
  window-size i false e = rw e (fill _ _ _ _ tt)

  windows_size : (i : ℕ) (b : Bool) → eqb p.bands 1 ≡ b → size (windows p s i) ≤ 148
  unfolding windows whole_window most taken marked next
  windows_size i true e = rw e (fill _ _ _ _ tt)
  windows_size i false e = rw e (window-size i _ refl)

  caption-size : (i : ℕ) (b : Bool) → p.wide ≡ b → size (captions p s i) ≤ 69
  unfolding captions most taken marked next
  caption-size i true e = rw e (fill _ _ _ _ tt)
  caption-size i false e = rw e (fill _ _ _ _ tt)

  label-size : (k : ℕ) (b c : Bool) → covers p s k 34 18 ≡ b → covers p s k 22 11 ≡ c → size (label p s k) ≤ 62
  unfolding label most taken marked next
  label-size k true c e f = rw e (fill _ _ _ _ tt)
  label-size k false true e f = rw (e, f) (fill _ _ _ _ tt)
  label-size k false false e f = rw (e, f) (fill _ _ _ _ tt)

  labels-size : (k : ℕ) (b : Bool) → seen Place p s k k ≡ b → size (labels p s k) ≤ 62
  unfolding labels
  labels-size k true e = rw e (nothing 62)
  labels-size k false e = rw e (label-size k _ _ refl refl)

  rows-size : (k : ℕ) → (size (widget_row p s k) ≤ 155) × (size (column_row p s k) ≤ 92) × (size (row_row p s k) ≤ 92)
  unfolding widget_row column_row row_row most taken marked next
  rows-size k = (fill _ _ _ _ tt, fill _ _ _ _ tt, fill _ _ _ _ tt)

  one_size : (layer : Layer) (k : ℕ) → size (one layer p s k) ≤ share layer
  unfolding one
  one_size ColumnLines k = column-size k _ refl
  one_size RowLines k = row-size k _ refl
  one_size Outlines k = outlines-size k
  one_size Windows k = windows_size k _ refl
  one_size Captions k = caption-size k _ refl
  one_size Labels k = labels-size k _ refl
  one_size WidgetRows k = (rows-size k).0
  one_size ColumnRows k = (rows-size k).1
  one_size RowRows k = (rows-size k).2

  each-size : (layer : Layer) (left k : ℕ) → size (each layer p s left k) ≤ left * share layer
  unfolding each
  each-size layer zero k = nothing (0 * share layer)
  each-size layer (suc left) k = omega (arith, size-append (one layer p s k) (each layer p s left (k + 1)), one_size layer k, each-size layer left (k + 1))

  layer-size : (layer : Layer) (count bound : ℕ) → count ≤ bound → size (each layer p s count 0) ≤ bound * share layer
  layer-size layer count bound h = omega (arith, each-size layer count 0, mul-le-mul {m₁ = share layer} {m₂ = share layer} h (omega arith))

  -- ---- the page
  points-by : (n : ℕ) (b : Bool) → eqb (n % 32) 0 ≡ b → size (points s n) ≤ 23
  unfolding points most taken marked next
  points-by n true e = rw e (fill _ _ _ _ tt)
  points-by n false e = rw e (fill _ _ _ _ tt)

  points-size : (n : ℕ) → size (points s n) ≤ 23
  points-size n = points-by n _ refl

  head-size : (width height : ℕ) → size (head s width height) ≤ 133 + 700
  unfolding head style most taken marked next
  head-size width height = both _ _ {m = 133} {n = 700} (fill _ _ _ _ tt) (fill _ _ _ _ tt)

  millimetres-size : (n : ℕ) → size (millimetres s n) ≤ 28
  unfolding millimetres most taken marked next
  millimetres-size n = fill _ _ _ _ tt

  metric-size : size (size_in_millimetres p s) ≤ 2 + (28 + (8 + (28 + 10)))
  unfolding size_in_millimetres most taken marked next
  metric-size = both _ _ {m = 2} {n = 74} (fill _ _ _ _ tt) (both _ _ {m = 28} {n = 46} (millimetres-size _) (both _ _ {m = 8} {n = 38} (fill _ _ _ _ tt) (both _ _ {m = 28} {n = 10} (millimetres-size _) (fill _ _ _ _ tt))))

  in-millimetres-size : (metric : Bool) → size (in_millimetres metric p s) ≤ 76
  unfolding in_millimetres
  in-millimetres-size true = metric-size
  in-millimetres-size false = nothing 76

  title-size : (metric : Bool) → size (title metric p s) ≤ 40 + (23 + (8 + (23 + (76 + 167))))
  unfolding title most taken marked next
  title-size metric =
      both _ _ {m = 40} {n = 297} (fill _ _ _ _ tt)
      (both _ _ {m = 23} {n = 274} (points-size _)
      (both _ _ {m = 8} {n = 266} (fill _ _ _ _ tt)
      (both _ _ {m = 23} {n = 243} (points-size _)
      (both _ _ {m = 76} {n = 167} (in-millimetres-size metric) (fill _ _ _ _ tt)))))

  grid-widgets-few : p.widgets ≤ 512 → grid_widgets p ≤ 512
  grid-widgets-few h = go (eqb p.columns 0)
    where
      go : (b : Bool) → cond b 0 p.widgets ≤ 512
      go true = omega arith
      go false = h

  shapes-size : p.widgets ≤ 512 → size (shapes p s) ≤ 238 + (33280 + (35328 + (88064 + 13)))
  unfolding shapes most taken marked next
  shapes-size h =
      both _ _ {m = 238} {n = 156685} (fill _ _ _ _ tt)
      (both _ _ {m = 33280} {n = 123405} (layer-size ColumnLines _ 512 (grid-widgets-few h))
      (both _ _ {m = 35328} {n = 88077} (layer-size RowLines _ 512 (grid-widgets-few h))
      (both _ _ {m = 88064} {n = 13} (layer-size Outlines _ 512 h) (fill _ _ _ _ tt))))

  width-size : size (width_line p s) ≤ 99 + (23 + 25)
  unfolding width_line most taken marked next
  width-size = both _ _ {m = 99} {n = 48} (fill _ _ _ _ tt) (both _ _ {m = 23} {n = 25} (points-size _) (fill _ _ _ _ tt))

  height-size : size (height_line p s) ≤ 96 + (23 + 64)
  unfolding height_line most taken marked next
  height-size = both _ _ {m = 96} {n = 87} (fill _ _ _ _ tt) (both _ _ {m = 23} {n = 64} (points-size _) (fill _ _ _ _ tt))

  dimensions-size : p.bands ≤ 22 → (b : Bool) → eqb p.bands 1 ≡ b → size (dimensions p s) ≤ 1518
  unfolding dimensions
  dimensions-size h true e = let l : size (width_line p s ++ height_line p s) ≤ 147 + 183 = both _ _ width-size height-size in rw e (omega (arith, l))
  dimensions-size h false e = rw e (layer-size Captions _ 22 h)

  scale-size : size (scale p s) ≤ 102 + (23 + 25)
  unfolding scale scale_line most taken marked next
  scale-size = both _ _ {m = 102} {n = 48} (fill _ _ _ _ tt) (both _ _ {m = 23} {n = 25} (points-size _) (fill _ _ _ _ tt))

  picture-size : InBounds p → size (picture p s) ≤ 156923 + (3256 + (1518 + (31744 + 150)))
  unfolding picture
  picture-size f =
      both _ _ (shapes-size f.widgets)
      (both _ _ (layer-size Windows _ 22 f.bands)
      (both _ _ (dimensions-size f.bands _ refl)
      (both _ _ (layer-size Labels _ 512 f.widgets) scale-size)))

  key-size : InBounds p → size (key p s) ≤ 197 + (79360 + (110 + (2944 + (11776 + 7))))
  unfolding key plate_row most taken marked next
  key-size f =
      both _ _ {m = 197} {n = 94197} (fill _ _ _ _ tt)
      (both _ _ {m = 79360} {n = 14837} (layer-size WidgetRows _ 512 f.widgets)
      (both _ _ {m = 110} {n = 14727} (fill _ _ _ _ tt)
      (both _ _ {m = 2944} {n = 11783} (layer-size ColumnRows _ 32 f.columns)
      (both _ _ {m = 11776} {n = 7} (layer-size RowRows _ 128 f.rows) (fill _ _ _ _ tt)))))

  accepted-size : (metric : Bool) → InBounds p → size (accepted metric p s) ≤ 300000
  unfolding accepted
  accepted-size metric f =
      let l : size (head s (page_width p) (page_height p) ++ (title metric p s ++ (picture p s ++ key p s))) ≤ 833 + (337 + (193591 + 94394)) = both _ _ (head-size _ _) (both _ _ (title-size metric) (both _ _ (picture-size f) (key-size f))) in
      omega (arith, l)

-- ---- a refusal
-- the longest sentence has 78 bytes
either-words : (b : Bool) (x y : List ℕ) → most 0 x ≤ 78 → most 0 y ≤ 78 → most 0 (cond b x y) ≤ 78
either-words true x y h k = h
either-words false x y h k = k

words-most : (n : ℕ) → most 0 (reason n) ≤ 78
unfolding reason most taken marked next
words-most n =
    either-words (eqb n 1) _ _ (lit≤ tt)
    (either-words (eqb n 2) _ _ (lit≤ tt)
    (either-words (eqb n 3) _ _ (lit≤ tt)
    (either-words (eqb n 4) _ _ (lit≤ tt)
    (either-words (eqb n 5) _ _ (lit≤ tt)
    (either-words (eqb n 6) _ _ (lit≤ tt)
    (either-words (eqb n 7) _ _ (lit≤ tt)
    (either-words (eqb n 8) _ _ (lit≤ tt)
    (either-words (eqb n 9) _ _ (lit≤ tt)
    (lit≤ tt)))))))))

words_size : (s : List ℕ) (n : ℕ) → size (filled (reason n) s 0 []) ≤ 78
words_size s n = omega (arith, words-most n, filled-size 0 (reason n) s 0 [])

refusal-size : (s : List ℕ) (line : ℕ) → size (refusal s line) ≤ 833 + (106 + (78 + 15))
unfolding refusal most taken marked next
refusal-size s line =
    both _ _ {m = 833} {n = 199} (head-size (page_for s 0) s 720 110)
    (both _ _ {m = 106} {n = 93} (fill _ _ _ _ tt)
    (both _ _ {m = 78} {n = 15} (words_size s (refusal_number s line)) (fill _ _ _ _ tt)))

-- ---- the whole
drawn-by : (metric : Bool) (s : List ℕ) (w : ℕ) → InBounds (page_for s w) → (b : Bool) → is_line 80 34 s (74 * w) ≡ b → size (drawn_from metric s w) ≤ 300000
unfolding drawn_from
drawn-by metric s w f true e = rw e (accepted-size (page_for s w) s metric f)
drawn-by metric s w f false e = let l = refusal-size s (74 * w) in rw e (omega (arith, l))

-- a list has at most 512 W lines, and its page is in bounds
pub drawing-size : (metric : Bool) (s : List ℕ) → length (drawing metric s) ≤ 300000
unfolding drawing pieces
drawing-size metric s = drawn-by metric s (lines_from 512 87 74 s 0) (page-in-bounds s (lines_from 512 87 74 s 0) (lines-few 512 87 74 s 0)) _ refl

pub drawn-there : (metric : Bool) (s out o : List ℕ) (n w : ℕ) → length out ≡ 300000 → w ≡ lines_from 512 87 74 s 0
    → ◌≡◌ {A = Put} (record { at = n; out = o }) (emits (drawn_from metric s w) (record { at = 0; out = out }))
    → (◌≡◌ {A = ℕ × List ℕ} (n, o) (drawn_in metric out s)) × (n ≤ 300000)
unfolding drawing pieces
drawn-there metric s out o n w l e h =
    let z : length (drawing metric s) ≤ 300000 = drawing-size metric s in
    let r = (rw e at h) ∙ emits-room (pieces metric s) (record { at = 0; out = out }) (omega (arith, z)) in
    let f : n ≡ length (drawing metric s) = omega (arith, ap (λ (p : Put). p.at) r) in
    (rw (f, ap (λ (p : Put). p.out) r) refl, omega arith)
