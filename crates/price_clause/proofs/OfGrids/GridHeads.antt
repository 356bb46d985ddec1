-- Where an accepted pass of a grid begins is the engine's beginning, and in whole steps it is the model's: max_rect's corner, the minimum
-- cell, the spacing, and the start row. Assumes nothing.
use Prim.Native.Nat.{ℕ, ◌≤◌}
use mathlib.Core.Path.{◌≡◌, refl, ap, sym, ◌∙◌}
use mathlib.Core.Bool.{Bool, true, false, cond, true≢false}
use lib.Ieee.{Float, lt, ne}
use Rattle.emath.specs.Rectangles.{max_f, intersect}
use Rattle.emath.specs.Refusals.{size_fault}
use Rattle.emath.specs.Steps.{most}
use Rattle.emath.specs.declared.Rect.{Rect}
use Rattle.emath.specs.declared.Vec2.{Vec2}
use Rattle.layout.specs.Rules.{initial_cursor, region_from_max_rect}
use Rattle.region.specs.declared.Direction.{Direction}
use Rattle.region.specs.declared.Direction.TheVariants.{LeftToRight, RightToLeft, TopDown, BottomUp}
use Rattle.region.specs.declared.Region.{Region}
use Rattle.grid.specs.Memories.{widths, heights}
use Rattle.grid.specs.Grids.{known_memory, new_grid}
use Rattle.grid.specs.Refusals.{fits_grid}
use Rattle.grid.specs.declared.Memory.{Memory}
use Rattle.grid.specs.declared.GridLayout.{GridLayout}
use Rattle.placer.specs.Rules.{new_placer}
use Rattle.placer.proofs.Answers.{placer-grid}
use Rattle.model.proofs.WholeSteps.Model as model
use Rattle.model.proofs.AnyNumbers.Engine.{HeadF, given_f, begin_f}
use Rattle.model.proofs.AnyNumbers.Embedding.{head_of, FineHeading}
use Rattle.model.proofs.InFloats.Ticks.{pt, len, edge-counted}
use Rattle.sheet.specs.Pass.{Sheet}
use Rattle.pass_laws.specs.WholeSheets.{WholeSheet}
use Rattle.price_clause.specs.Sheets.{NoNegativeSpacing}
use Rattle.sheet.proofs.Passes.{GridPass, grid_start}
use Rattle.pass_laws.proofs.ColumnLaw.{not_negative_lem, least-cell}
use Rattle.price_clause.proofs.OfGrids.GridStates.{engine_state_at, engine_state_of, given_of}
use Rattle.price_clause.proofs.OfGrids.GridSteps.{grid-direction}
use Rattle.price_clause.proofs.OfGrids.GridCounts.{length-counted, gap-counted}

-- ---- a grid's directions start at max_rect's corner
corner-left : (d : Direction) (m : Rect) → fits_grid d ≡ true → (initial_cursor d m).left ≡ m.left
unfolding fits_grid initial_cursor
corner-left LeftToRight m h = refl
corner-left RightToLeft m h = absurd (true≢false (sym h))
corner-left TopDown m h = refl
corner-left BottomUp m h = absurd (true≢false (sym h))

corner-top : (d : Direction) (m : Rect) → fits_grid d ≡ true → (initial_cursor d m).top ≡ m.top
unfolding fits_grid initial_cursor
corner-top LeftToRight m h = refl
corner-top RightToLeft m h = absurd (true≢false (sym h))
corner-top TopDown m h = refl
corner-top BottomUp m h = absurd (true≢false (sym h))

max_self : (x : Float) → max_f x x ≡ x
unfolding max_f
max_self x = go (lt x x) (ne x x)
  where
    go : (a b : Bool) → cond a x (cond b x x) ≡ x
    go true b = refl
    go false true = refl
    go false false = refl

-- ---- a new grid in a region that starts at m's corner
module _ (m : Rect) (sp smallest : Vec2) (start : ℕ) where
  abbrev head : HeadF Float
  head = record {
    left = m.left;
    top = m.top;
    min_w = smallest.x;
    min_h = smallest.y;
    gap_x = sp.x;
    gap_y = sp.y;
    start = start;
  }

  module _ (g : Region) (known : Bool) (mem : Memory) (sizing : Bool) (largest : Vec2) (columns : ℕ) where
    abbrev grid : GridLayout
    grid = new_grid g known mem sizing sp smallest largest columns start

    new-state : g.cursor.left ≡ m.left → g.cursor.top ≡ m.top → engine_state_at grid g.cursor ≡ begin_f head
    unfolding new_grid
    new-state x y = rw (x, y)

    new-given : g.max_rect ≡ m → g.cursor.left ≡ m.left → given_of grid ≡ given_f head sizing (record { cols = widths (known_memory known mem); rows = heights (known_memory known mem) })
    unfolding new_grid intersect
    new-given e x = rw (e, x, max_self m.left)

-- ---- a sheet's
abbrev begins : ℕ → Sheet → Region
begins k s = region_from_max_rect k s.heading.layout s.heading.max_rect

abbrev pub head_of_sheet : ℕ → Sheet → HeadF Float
head_of_sheet k s =
    head s.heading.max_rect s.heading.spacing s.heading.options.min_cell_size s.heading.options.start_row

region-max : (k : ℕ) (s : Sheet) → (begins k s).max_rect ≡ s.heading.max_rect
unfolding region_from_max_rect
region-max k s = refl

region-cursor : (k : ℕ) (s : Sheet) → (begins k s).cursor ≡ initial_cursor s.heading.layout.main_dir s.heading.max_rect
unfolding region_from_max_rect
region-cursor k s = refl

-- what is asked of an accepted beginning
pub record Begun (k : ℕ) (s : Sheet) : Type 0 where
  pub direction : fits_grid s.heading.layout.main_dir ≡ true
  pub smallest : size_fault s.heading.options.min_cell_size ≡ 0

module _ (k : ℕ) (l : k ≤ 6) (s : Sheet) (known : Bool) (m : Memory) (sizing : Bool) where
  pub begun : GridPass k s known m sizing → Begun k s
  unfolding new_placer new_grid
  begun p =
      let q = grid_start k s known m sizing in
      record {
        direction = grid-direction q refl p.fault;
        smallest = least-cell q.grid (placer-grid q refl p.fault);
      }

  module _ (p : Begun k s) where
    left_is : (begins k s).cursor.left ≡ s.heading.max_rect.left
    left_is = ap (λ (r : Rect). r.left) (region-cursor k s) ∙ corner-left s.heading.layout.main_dir s.heading.max_rect p.direction

    top-is : (begins k s).cursor.top ≡ s.heading.max_rect.top
    top-is = ap (λ (r : Rect). r.top) (region-cursor k s) ∙ corner-top s.heading.layout.main_dir s.heading.max_rect p.direction

    pub begin-state : engine_state_of (grid_start k s known m sizing) ≡ begin_f (head_of_sheet k s)
    unfolding new_placer
    begin-state = new-state s.heading.max_rect s.heading.spacing s.heading.options.min_cell_size s.heading.options.start_row (begins k s) known m sizing s.heading.options.max_cell_size s.heading.options.num_columns left_is top-is

    pub begin-given : given_of (grid_start k s known m sizing).grid ≡ given_f (head_of_sheet k s) sizing (record { cols = widths (known_memory known m); rows = heights (known_memory known m) })
    unfolding new_placer
    begin-given = new-given s.heading.max_rect s.heading.spacing s.heading.options.min_cell_size s.heading.options.start_row (begins k s) known m sizing s.heading.options.max_cell_size s.heading.options.num_columns (region-max k s) left_is

-- ---- in whole steps
module _ (k B : ℕ) (l : k ≤ 6) (b : B ≡ most k) where
  pub record Headed (h : HeadF Float) : Type 0 where
    pub heading : model.Heading
    pub fine : FineHeading B heading
    pub is : h ≡ head_of (pt k B) (len k) heading

  heads : (g : model.Heading) (left top min_w min_h gap_x gap_y : Float) → left ≡ pt k B g.left → top ≡ pt k B g.top → min_w ≡ len k g.min_w → min_h ≡ len k g.min_h → gap_x ≡ len k g.gap_x
      → gap_y ≡ len k g.gap_y
      → record { left = left; top = top; min_w = min_w; min_h = min_h; gap_x = gap_x; gap_y = gap_y; start = g.start } ≡ head_of (pt k B) (len k) g
  heads g left top min_w min_h gap_x gap_y el et ew eh ex ey = rw (el, et, ew, eh, ex, ey)

  pub sheet-headed : (s : Sheet) → WholeSheet k s → NoNegativeSpacing s → Begun k s → Headed (head_of_sheet k s)
  sheet-headed s w n p =
      let left = edge-counted k B l b w.rect.left in
      let top = edge-counted k B l b w.rect.top in
      let a = not_negative_lem s.heading.options.min_cell_size p.smallest in
      let min_w = length-counted k B l b w.smallest.x a.0 in
      let min_h = length-counted k B l b w.smallest.y a.1 in
      let gap_x = gap-counted k B l b w.spacing.x n.across in
      let gap_y = gap-counted k B l b w.spacing.y n.down in
      let g : model.Heading = record {
        left = left.count;
        top = top.count;
        min_w = min_w.count;
        min_h = min_h.count;
        gap_x = gap_x.count;
        gap_y = gap_y.count;
        start = s.heading.options.start_row;
      } in
      record {
        heading = g;
        fine = record { left = left.few; top = top.few; min_w = min_w.few; min_h = min_h.few; gap_x = gap_x.few; gap_y = gap_y.few };
        is = heads g _ _ _ _ _ _ left.is top.is min_w.is min_h.is gap_x.is gap_y.is;
      }
