-- What an accepted or refused call of a placer says. Assumes nothing.
use Rattle.std.proofs.Common.{◌≡◌, refl, true, ℕ, suc, List}
use Rattle.std.specs.Prelude.{Option, None, Some, Float}
use Rattle.emath.specs.Refusals.{outside, least, fault_number, answered}
use Rattle.emath.specs.declared.Refusal.{Refusal}
use Rattle.emath.specs.declared.Refusal.TheVariants.{Malformed}
use Rattle.emath.proofs.Refusals.{some, or-none, outside-none, lesser-none}
use Rattle.region.specs.Refusals.{region_fault}
use Rattle.grid.specs.Refusals.{grid_fault, direction_fault}
use Rattle.placer.specs.Refusals.{grid_part, placer_fault, placer_answer, placer_outcome, changed_placer}
use Rattle.placer.specs.Implementation.Lent.{placer_of, answer_of}
use Rattle.placer.specs.declared.Placer.{Placer}
use Rattle.placer.specs.declared.PlacerSettings.{PlacerSettings}
use Rattle.placer.specs.declared.PassState.{PassState}

-- ---- an answer, by the number of what it was made of
pub placer-outcome : (given : Placer) (f : Option Refusal) (new : Placer) → placer_outcome given (answered f new) ≡ placer_answer (fault_number f) given new
unfolding placer_answer
placer-outcome given None new = refl
placer-outcome given (Some Malformed) new = refl
placer-outcome given (Some e) new = refl

pub state-outcome : (p : PlacerSettings) (s : PassState) (f : Option Refusal) (new : PassState) (pw ph ws hs : List Float)
    → answer_of p s (answered f new) pw ph ws hs ≡ placer_answer (fault_number f) (placer_of p s pw ph ws hs) (placer_of p new pw ph ws hs)
unfolding placer_answer
state-outcome p s None new pw ph ws hs = refl
state-outcome p s (Some Malformed) new pw ph ws hs = refl
state-outcome p s (Some e) new pw ph ws hs = refl

-- ---- a refused call gives the placer back as it was given
pub placer-refused : (n : ℕ) (given new : Placer) → (placer_answer (suc n) given new).placer ≡ given
unfolding placer_answer
placer-refused n given new = rw (some n)

-- ---- an accepted one: no argument has a fault, nor has the new placer
pub changed-accepted : (n : ℕ) (given new : Placer) → (changed_placer n given new).number ≡ 0 → (n ≡ 0) × (placer_fault new ≡ 0) × ((changed_placer n given new).placer ≡ new)
unfolding changed_placer placer_answer
changed-accepted n given new h =
    let p = or-none n (outside (placer_fault new)) h in
    (p.0, outside-none (placer_fault new) p.1, rw h)

-- ---- a placer without fault
pub placer-region : (p : Placer) → placer_fault p ≡ 0 → region_fault p.layout.main_dir p.region ≡ 0
unfolding placer_fault least
placer-region p h = (lesser-none (region_fault p.layout.main_dir p.region) (grid_part p) h).0

part-grid : (p : Placer) → p.has_grid ≡ true → grid_part p ≡ 0 → grid_fault p.grid ≡ 0
unfolding grid_part least
part-grid p g h = (lesser-none (grid_fault p.grid) (direction_fault p.layout.main_dir) (rw g at h)).0

pub placer-grid : (p : Placer) → p.has_grid ≡ true → placer_fault p ≡ 0 → grid_fault p.grid ≡ 0
unfolding placer_fault least
placer-grid p g h = part-grid p g (lesser-none (region_fault p.layout.main_dir p.region) (grid_part p) h).1
