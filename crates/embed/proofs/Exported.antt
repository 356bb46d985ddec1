-- What a pass gives can be exported: its plate is in whole ticks, refused or not. Assumes nothing.
use Prim.Native.Nat.{ℕ}
use mathlib.Core.Path.{◌≡◌, ap, sym, ◌∙◌, subst}
use mathlib.Core.Bool.{Bool, true, false, cond, ◌&&◌}
use mathlib.Core.List.{List}
use native.Mathlib.Omega.{arith}
use lib.Dec.{eqb}
use lib.IntN.{ℤ}
use lib.ListN.{length}
use Rattle.region.specs.Steps.{WholeRect}
use Rattle.grid.specs.Memories.{empty_memory}
use Rattle.grid.specs.declared.Memory.{Memory}
use Rattle.records.specs.Sheets.{checked}
use Rattle.records.specs.Sheets.{Checked}
use Rattle.records.specs.Sheets as checked-of
use Rattle.sheet.specs.Ticks.{in_ticks}
use Rattle.sheet.specs.Texts.{sheet_in}
use Rattle.sheet.specs.Slices.{edges, laid_number, laid_record, LaidOut, after_check, laid, Returns}
use Rattle.sheet.specs.Slices.{Passed}
use Rattle.sheet.proofs.Plates.{zero-rect}
use Rattle.pass_laws.proofs.WholeEdges.{whole-pass}
use Rattle.listing.specs.Lists.{settled_from, settled}
use Rattle.embed.specs.Calls.{Exported, exported}

pub laid-plate : (text : List ℕ) (known : Bool) (m : Memory) (sizing : Bool) (out : List ℤ) → WholeRect 5 (laid text known m sizing out).outcome.plate
unfolding laid after_check
laid-plate text known m sizing out = go (checked text (length out))
  where
    go : (c : Checked) → WholeRect 5 (after_check c text known m sizing out).outcome.plate
    go (checked-of.Refused n at) = zero-rect 5
    go (checked-of.Accepted r w) = (whole-pass 5 (omega arith) (sheet_in text) known m sizing).plate

pub settled-plate : (text : List ℕ) (out : List ℤ) → WholeRect 5 (settled text out).outcome.plate
unfolding settled settled_from
settled-plate text out = go (eqb first.outcome.number 0 && (sheet_in text).heading.has_grid)
  where
    first : LaidOut
    first = laid text false empty_memory true out

    go : (b : Bool) → WholeRect 5 (cond b (laid text true first.outcome.memory false first.slice) first).outcome.plate
    go true = laid-plate text true first.outcome.memory false first.slice
    go false = laid-plate text false empty_memory true out

module _ (l : LaidOut) (p : Passed) (exit : List ℤ) (r : Returns l p exit) where
  pub plate-whole : WholeRect 5 l.outcome.plate → WholeRect 5 p.plate
  plate-whole w = subst (λ (q : Passed). WholeRect 5 q.plate) (sym r.answer) w

  pub exported-is : (n at : ℕ) (plate : List ℤ) (m : Memory) → n ≡ laid_number p.laid → at ≡ laid_record p.laid → plate ≡ edges (in_ticks 5 p.plate) → m ≡ p.memory
      → ◌≡◌ {A = Exported} (record { number = n; at = at; places = exit; plate = plate; memory = m }) (exported l)
  exported-is n at plate m e₁ e₂ e₃ e₄ =
      let d : plate ≡ edges (in_ticks 5 l.outcome.plate) = e₃ ∙ ap (λ (q : Passed). edges (in_ticks 5 q.plate)) r.answer in
      let g : m ≡ l.outcome.memory = e₄ ∙ ap (λ (q : Passed). q.memory) r.answer in
      rw (e₁ ∙ r.number, e₂ ∙ r.at, r.slice, d, g)

-- with the save flag
pub with-save : (a b : Exported) (c d : Bool) → a ≡ b → c ≡ d → ◌≡◌ {A = Exported × Bool} (a, c) (b, d)
with-save a b c d e f = rw (e, f)
