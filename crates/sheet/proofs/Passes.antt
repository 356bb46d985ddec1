-- An accepted pass: H is accepted, so is G where there is one, so is every record after them; and what the pass gives is what its run has:
-- the rectangles, their plate, and the last placer's memory. Assumes nothing.
use Prim.Native.Nat.{ℕ, zero, suc, ◌+◌, ◌<◌}
use mathlib.Core.Path.{◌≡◌, refl, ap, sym, ◌∙◌, subst}
use mathlib.Core.Bool.{Bool, true, false, cond}
use native.Mathlib.Omega.{arith}
use lib.Dec.{eqb}
use borrow.Author.Tests.{eqb-false}
use Rattle.emath.specs.Refusals.{rect_fault}
use Rattle.emath.proofs.Refusals.{or-none}
use Rattle.region.specs.Refusals.{zero_rect}
use Rattle.grid.specs.Grids.{new_grid}
use Rattle.grid.specs.Refusals.{grid_answer}
use Rattle.grid.specs.Operations.{checked_new as checked_new_grid}
use Rattle.grid.specs.declared.Memory.{Memory}
use Rattle.grid.specs.declared.GridLayout.{GridLayout}
use Rattle.placer.specs.Rules.{new_placer, set_grid, save_grid}
use Rattle.placer.specs.Refusals.{placer_fault, zero_placer}
use Rattle.placer.specs.Operations.{checked_new, checked_set_grid}
use Rattle.placer.proofs.Answers.{changed-accepted}
use Rattle.placer.specs.declared.Placer.{Placer}
use Rattle.records.specs.declared.Heading.{Heading}
use Rattle.sheet.specs.Pass.{Sheet, Ran, Outcome, called, followed, run_from, headed, grid_of, grid_set, plate_of, remembered, refused_at, outcome_of, begun, ran_with, pass}
use Rattle.sheet.proofs.Runs.{some, going}

-- ---- an outcome that is not refused
pub record Given (grid : Bool) (m : Memory) (r : Ran) (o : Outcome) : Type 0 where
  pub run : r.number ≡ 0
  pub cells : o.cells ≡ r.cells
  pub plate : o.plate ≡ plate_of r.cells
  pub memory : o.memory ≡ (remembered grid m r.placer).memory
  pub save : o.save ≡ (remembered grid m r.placer).save

pub given : (grid : Bool) (m : Memory) (r : Ran) → (outcome_of grid m r).number ≡ 0 → Given grid m r (outcome_of grid m r)
unfolding outcome_of
given grid m r h = go r.number refl
  where
    whole : Bool → Outcome
    whole b =
        cond b
        (record { number = 0; at = 0; cells = r.cells; plate = plate_of r.cells; memory = (remembered grid m r.placer).memory; save = (remembered grid m r.placer).save })
        (refused_at r.number r.at r.cells m)

    go : (n : ℕ) → r.number ≡ n → Given grid m r (whole (eqb r.number 0))
    go zero e =
        let g : Given grid m r (whole true) = record { run = e; cells = refl; plate = refl; memory = refl; save = refl } in
        subst (λ (n : ℕ). Given grid m r (whole (eqb n 0))) (sym e) g
    go (suc n) e = absurd (let f : suc n ≡ 0 = rw (some n) at (rw e at h) in omega arith)

-- ---- an outcome is accepted, at no record, with the plate of its frames, or has a plate of zeros
pub data Ended (o : Outcome) : Type 0 where
  well : o.number ≡ 0 → o.at ≡ 0 → o.plate ≡ plate_of o.cells → Ended o
  badly : 0 < o.number → o.plate ≡ zero_rect → Ended o

pub outcome-ends : (grid : Bool) (m : Memory) (r : Ran) → Ended (outcome_of grid m r)
unfolding outcome_of
outcome-ends grid m r = go (eqb r.number 0) refl
  where
    go : (b : Bool) → eqb r.number 0 ≡ b
        → Ended (cond b (record { number = 0; at = 0; cells = r.cells; plate = plate_of r.cells; memory = (remembered grid m r.placer).memory; save = (remembered grid m r.placer).save }) (refused_at r.number r.at r.cells m))
    go true e = well refl refl refl
    go false e = badly (omega (arith, eqb-false r.number 0 e)) refl

-- ---- H
pub headed-is : (k : ℕ) (h : Heading) → (headed k h).number ≡ 0
    → (rect_fault h.max_rect ≡ 0) × (placer_fault (new_placer k h.max_rect h.layout) ≡ 0) × ((headed k h).placer ≡ new_placer k h.max_rect h.layout)
unfolding headed checked_new
headed-is k h e = changed-accepted (rect_fault h.max_rect) (zero_placer h.layout) (new_placer k h.max_rect h.layout) e

-- ---- G
grid-accepted : (n : ℕ) (a b : GridLayout) → (grid_answer n a b).number ≡ 0 → (grid_answer n a b).grid ≡ b
unfolding grid_answer
grid-accepted n a b h = rw h

module _ (h : Heading) (known : Bool) (m : Memory) (sizing : Bool) (p : Placer) where
  abbrev pub new_one : GridLayout
  new_one = new_grid p.region known m sizing h.spacing h.options.min_cell_size h.options.max_cell_size h.options.num_columns h.options.start_row

  grid-of : (grid_of h known m sizing p).number ≡ 0 → (grid_of h known m sizing p).grid ≡ new_one
  unfolding grid_of checked_new_grid
  grid-of e = grid-accepted _ _ _ e

  pub grid-set-is : (grid_set h known m sizing p).number ≡ 0 → ((grid_set h known m sizing p).placer ≡ set_grid p new_one) × (placer_fault (set_grid p new_one) ≡ 0)
  unfolding grid_set checked_set_grid
  grid-set-is e =
      let a = or-none (grid_of h known m sizing p).number _ e in
      let g = grid-of a.0 in
      let c = changed-accepted _ p (set_grid p (grid_of h known m sizing p).grid) a.1 in
      (c.2 ∙ ap (λ (x : GridLayout). set_grid p x) g, ap (λ (x : GridLayout). placer_fault (set_grid p x)) (sym g) ∙ c.1)

-- ---- a pass of a grid sheet
module _ (k : ℕ) (s : Sheet) (known : Bool) (m : Memory) (sizing : Bool) where
  -- the placer after H, after G, and the run of the rest
  abbrev pub start : Placer
  start = new_placer k s.heading.max_rect s.heading.layout

  abbrev pub grid_start : Placer
  grid_start = set_grid start (new_one s.heading known m sizing start)

  pub record GridPass : Type 0 where
    pub rect : rect_fault s.heading.max_rect ≡ 0
    pub begin : placer_fault start ≡ 0
    pub is : (grid_set s.heading known m sizing (headed k s.heading).placer).placer ≡ grid_start
    pub fault : placer_fault grid_start ≡ 0
    pub run : (run_from k s.heading.spacing (s.heading.records + 1) grid_start s.steps).number ≡ 0
    pub cells : (pass k s known m sizing).cells ≡ (run_from k s.heading.spacing (s.heading.records + 1) grid_start s.steps).cells
    pub memory : (pass k s known m sizing).memory ≡ (save_grid (run_from k s.heading.spacing (s.heading.records + 1) grid_start s.steps).placer).memory

  abbrev last : Placer → Ran
  last p = run_from k s.heading.spacing (s.heading.records + 1) p s.steps

  with-grid : s.heading.has_grid ≡ true → (p : Placer)
      → ran_with k s known m sizing p ≡ followed s.heading.records (called (grid_set s.heading known m sizing p)) (last (grid_set s.heading known m sizing p).placer)
  unfolding ran_with begun
  with-grid g p = rw g

  -- the records from G on, after a placer p
  record FromGrid (p : Placer) (r : Ran) : Type 0 where
    pub is : (grid_set s.heading known m sizing p).placer ≡ set_grid p (new_one s.heading known m sizing p)
    pub fault : placer_fault (set_grid p (new_one s.heading known m sizing p)) ≡ 0
    pub run : (last (set_grid p (new_one s.heading known m sizing p))).number ≡ 0
    pub cells : r.cells ≡ (last (set_grid p (new_one s.heading known m sizing p))).cells
    pub placer : r.placer ≡ (last (set_grid p (new_one s.heading known m sizing p))).placer

  from-grid : s.heading.has_grid ≡ true → (p : Placer) → (ran_with k s known m sizing p).number ≡ 0 → FromGrid p (ran_with k s known m sizing p)
  from-grid g p h =
      let e = with-grid g p in
      let a = going s.heading.records (called (grid_set s.heading known m sizing p)) (last (grid_set s.heading known m sizing p).placer) (ap (λ (r : Ran). r.number) (sym e) ∙ h) in
      let b = grid-set-is s.heading known m sizing p a.this in
      record {
        is = b.0;
        fault = b.1;
        run = ap (λ (q : Placer). (last q).number) (sym b.0) ∙ a.rest;
        cells = ap (λ (r : Ran). r.cells) e ∙ a.cells ∙ ap (λ (q : Placer). (last q).cells) b.0;
        placer = ap (λ (r : Ran). r.placer) e ∙ a.placer ∙ ap (λ (q : Placer). (last q).placer) b.0;
      }

  -- the records from H on
  record FromHead (r : Ran) : Type 0 where
    pub rect : rect_fault s.heading.max_rect ≡ 0
    pub begin : placer_fault start ≡ 0
    pub placed : (headed k s.heading).placer ≡ start
    pub run : (ran_with k s known m sizing start).number ≡ 0
    pub cells : r.cells ≡ (ran_with k s known m sizing start).cells
    pub placer : r.placer ≡ (ran_with k s known m sizing start).placer

  abbrev whole : Ran
  whole = begun 1 (headed k s.heading) (ran_with k s known m sizing (headed k s.heading).placer)

  from-head : whole.number ≡ 0 → FromHead whole
  unfolding begun
  from-head h =
      let a = going 1 (called (headed k s.heading)) (ran_with k s known m sizing (headed k s.heading).placer) h in
      let b = headed-is k s.heading a.this in
      record {
        rect = b.0;
        begin = b.1;
        placed = b.2;
        run = ap (λ (q : Placer). (ran_with k s known m sizing q).number) (sym b.2) ∙ a.rest;
        cells = a.cells ∙ ap (λ (q : Placer). (ran_with k s known m sizing q).cells) b.2;
        placer = a.placer ∙ ap (λ (q : Placer). (ran_with k s known m sizing q).placer) b.2;
      }

  pass-given : (pass k s known m sizing).number ≡ 0 → Given s.heading.has_grid m whole (pass k s known m sizing)
  unfolding pass
  pass-given h = given s.heading.has_grid m whole h

  pub pass-plate : (pass k s known m sizing).number ≡ 0 → (pass k s known m sizing).plate ≡ plate_of (pass k s known m sizing).cells
  pass-plate h = let a = pass-given h in a.plate ∙ ap plate_of (sym a.cells)

  saved : (g : Bool) (p : Placer) → g ≡ true → (remembered g m p).memory ≡ (save_grid p).memory
  unfolding remembered
  saved g p e = rw e

  pub grid-pass : s.heading.has_grid ≡ true → (pass k s known m sizing).number ≡ 0 → GridPass
  grid-pass g h =
      let a = pass-given h in
      let b = from-head a.run in
      let c = from-grid g start b.run in
      let q = b.placer ∙ c.placer in
      record {
        rect = b.rect;
        begin = b.begin;
        is = ap (λ (q : Placer). (grid_set s.heading known m sizing q).placer) b.placed ∙ c.is;
        fault = c.fault;
        run = c.run;
        cells = a.cells ∙ b.cells ∙ c.cells;
        memory = a.memory ∙ saved s.heading.has_grid whole.placer g ∙ ap (λ (x : Placer). (save_grid x).memory) q;
      }

  -- a pass of a sheet without a grid
  pub record PlainPass : Type 0 where
    pub rect : rect_fault s.heading.max_rect ≡ 0
    pub begin : placer_fault start ≡ 0
    pub run : (run_from k s.heading.spacing (s.heading.records + 1) start s.steps).number ≡ 0
    pub cells : (pass k s known m sizing).cells ≡ (run_from k s.heading.spacing (s.heading.records + 1) start s.steps).cells

  without-grid : s.heading.has_grid ≡ false → (p : Placer) → ran_with k s known m sizing p ≡ run_from k s.heading.spacing (s.heading.records + 1) p s.steps
  unfolding ran_with
  without-grid g p = rw g

  pub plain-pass : s.heading.has_grid ≡ false → (pass k s known m sizing).number ≡ 0 → PlainPass
  plain-pass g h =
      let a = pass-given h in
      let b = from-head a.run in
      let e = without-grid g start in
      record {
        rect = b.rect;
        begin = b.begin;
        run = ap (λ (r : Ran). r.number) (sym e) ∙ b.run;
        cells = a.cells ∙ b.cells ∙ ap (λ (r : Ran). r.cells) e;
      }
