-- The memory that is printed holds whole ticks, within its arrays. Assumes nothing.
use Rattle.std.proofs.Common.{ℕ, ◌≡◌, refl, sym, subst, Bool, true, false, cond, List, [], ◌∷◌, map, arith, eqb, pos}
use Rattle.emath.specs.Steps.{most}
use Rattle.grid.specs.Memories.{empty_memory}
use Rattle.grid.specs.declared.Memory.{Memory}
use Rattle.model.proofs.AnyNumbers.Embedding.{Upto, empty, upto}
use Rattle.model.proofs.InFloats.Ticks.{len}
use Rattle.sheet.specs.Pass.{Sheet, Ran, begun, headed, ran_with, plate_of, remembered, refused_at, outcome_of, pass}
use Rattle.sheet.specs.Passes.{passes}
use Rattle.pass_laws.specs.WholeSheets.{WholeSheet}
use Rattle.pass_laws.proofs.Listed.{Listed, listed-empty, listed-sound}
use Rattle.pass_laws.proofs.FurtherPasses.{first-gives-back, memory_kept}
use Rattle.listing.specs.Implementation.ListWriter.{Whole, none, more, WholeMemory}

ticks-whole : (ns : List ℕ) → Upto (most 5) ns → Whole (map (len 5) ns)
ticks-whole [] empty = none
ticks-whole (n ∷ ns) (upto b u) = more (record { steps = pos n; few = b; is = refl }) (ticks-whole ns u)

listed-whole : (cs rs : List ℕ) (m : Memory) → Listed 5 cs rs m → WholeMemory m
listed-whole cs rs m h =
    let s = listed-sound 5 cs rs m h in
    record {
      cols = s.cols-few;
      rows = s.rows_few;
      widths = subst Whole (sym h.cols.are) (ticks-whole cs h.cols.few);
      heights = subst Whole (sym h.rows.are) (ticks-whole rs h.rows.few);
    }

pub empty-whole : WholeMemory empty_memory
empty-whole = listed-whole [] [] empty_memory (listed-empty 5)

-- ---- with a grid
module _ (s : Sheet) (w : WholeSheet 5 s) (g : s.heading.has_grid ≡ true) (one : (passes 5 s empty_memory 0).number ≡ 0) where
  pub first-whole : WholeMemory (passes 5 s empty_memory 0).memory
  first-whole = let b = first-gives-back 5 (omega arith) s w g empty_memory one in listed-whole _ b.0 _ b.2

  pub second-whole : (passes 5 s empty_memory 1).number ≡ 0 → WholeMemory (passes 5 s empty_memory 1).memory
  second-whole two = subst WholeMemory (sym (memory_kept 5 (omega arith) s w g empty_memory one two)) first-whole

-- ---- without one the memory is the one given
given_back : (m : Memory) (r : Ran) → (outcome_of false m r).memory ≡ m
unfolding outcome_of remembered
given_back m r = go (eqb r.number 0)
  where
    go : (b : Bool) → (cond b (record { number = 0; at = 0; cells = r.cells; plate = plate_of r.cells; memory = (remembered false m r.placer).memory; save = (remembered false m r.placer).save }) (refused_at r.number r.at r.cells m)).memory ≡ m
    go true = refl
    go false = refl

outcome-memory : (grid : Bool) (m : Memory) (r : Ran) → grid ≡ false → (outcome_of grid m r).memory ≡ m
outcome-memory grid m r e = rw e (given_back m r)

pub plain-memory : (k : ℕ) (s : Sheet) (known : Bool) (m : Memory) (sizing : Bool) → s.heading.has_grid ≡ false → (pass k s known m sizing).memory ≡ m
unfolding pass
plain-memory k s known m sizing g = outcome-memory s.heading.has_grid m (begun 1 (headed k s.heading) (ran_with k s known m sizing (headed k s.heading).placer)) g
