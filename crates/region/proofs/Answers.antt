-- What an answer says of a state, and what an accepted call's parts are. Assumes nothing.
use Rattle.std.proofs.Common.{◌≡◌, refl, ℕ, suc, [], ◌∷◌}
use Rattle.std.specs.Prelude.{Option, None, Some}
use Rattle.emath.specs.Refusals.{outside, edges_fault, rect_fault, least, fault_number, answered}
use Rattle.emath.specs.declared.Refusal.{Refusal}
use Rattle.emath.specs.declared.Refusal.TheVariants.{Malformed}
use Rattle.emath.proofs.Refusals.{some, or-none, outside-none, lesser-none}
use Rattle.region.specs.Refusals.{cursor_fault, region_fault, region_answer, cursor_answer, region_outcome, cursor_outcome}
use Rattle.region.specs.Operations.{placed_number, changed_region}
use Rattle.emath.specs.declared.Rect.{Rect}
use Rattle.region.specs.declared.Direction.{Direction}
use Rattle.region.specs.declared.Region.{Region}

-- ---- an answer, by the number of what it was made of
pub region-outcome : (given : Region) (f : Option Refusal) (new : Region) → region_outcome given (answered f new) ≡ region_answer (fault_number f) given new
unfolding region_answer
region-outcome given None new = refl
region-outcome given (Some Malformed) new = refl
region-outcome given (Some e) new = refl

pub cursor-outcome : (given : Rect) (f : Option Refusal) (new : Rect) → cursor_outcome given (answered f new) ≡ cursor_answer (fault_number f) given new
unfolding cursor_answer
cursor-outcome given None new = refl
cursor-outcome given (Some Malformed) new = refl
cursor-outcome given (Some e) new = refl

-- ---- a refused call gives the state back as it was given
pub region-refused : (n : ℕ) (given new : Region) → (region_answer (suc n) given new).region ≡ given
unfolding region_answer
region-refused n given new = rw (some n)

pub cursor-refused : (n : ℕ) (given new : Rect) → (cursor_answer (suc n) given new).cursor ≡ given
unfolding cursor_answer
cursor-refused n given new = rw (some n)

-- ---- an accepted call: the arguments have no fault, nor has the answer, which is what the rule gives
pub placed-accepted : (n : ℕ) (r : Rect) → placed_number n r ≡ 0 → (n ≡ 0) × (edges_fault r ≡ 0)
unfolding placed_number
placed-accepted n r h = let p = or-none n (outside (edges_fault r)) h in (p.0, outside-none (edges_fault r) p.1)

pub changed-accepted : (d : Direction) (n : ℕ) (given new : Region) → (changed_region d n given new).number ≡ 0 → (n ≡ 0) × (region_fault d new ≡ 0) × ((changed_region d n given new).region ≡ new)
unfolding changed_region region_answer
changed-accepted d n given new h =
    let p = or-none n (outside (region_fault d new)) h in
    (p.0, outside-none (region_fault d new) p.1, rw h)

-- ---- a region without fault
pub region-none : (d : Direction) (g : Region) → region_fault d g ≡ 0 → (rect_fault g.min_rect ≡ 0) × (rect_fault g.max_rect ≡ 0) × (cursor_fault d g.cursor ≡ 0)
unfolding region_fault least
region-none d g h =
    let p = lesser-none (rect_fault g.min_rect) (least (rect_fault g.max_rect ∷ cursor_fault d g.cursor ∷ [])) h in
    let q = lesser-none (rect_fault g.max_rect) (cursor_fault d g.cursor) p.1 in
    (p.0, q.0, q.1)
