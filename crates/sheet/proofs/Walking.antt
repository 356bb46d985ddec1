-- A run over a text, a record at a time: one turn of the loop, what each return answers, and that the slice has room for each W, whose
-- rectangles are in whole ticks. Assumes nothing.
use mathlib.Core.Bool.{cond}
use Prim.Native.Nat.{ℕ, zero, suc, ◌+◌, ◌-◌, ◌*◌, ◌≤◌, ◌<◌}
use mathlib.Core.Path.{◌≡◌, refl, ap, sym, ◌∙◌, subst}
use mathlib.Core.List.{List, [], ◌∷◌}
use native.Mathlib.Omega.{arith}
use lib.Dec.{eqb}
use borrow.Author.Tests.{eq-eqb, ne_eqb}
use lib.IntN.{ℤ}
use lib.ListN.{length, drop, length-drop, drop_of_length-le}
use Rattle.emath.specs.Steps.{tick}
use Rattle.emath.specs.declared.Rect.{Rect}
use Rattle.emath.specs.declared.Vec2.{Vec2}
use Rattle.region.specs.Steps.{WholeRect}
use Rattle.placer.specs.Refusals.{placer_fault}
use Rattle.placer.specs.declared.Placer.{Placer}
use Rattle.records.specs.declared.SizeUnit.{SizeUnit}
use Rattle.records.specs.Records.{record_of, record_at, rest, next_at}
use Rattle.records.specs.Sheets.{records_from, widget, widget_step, widgets}
use Rattle.records.proofs.Places.{next-is-rest}
use Rattle.records.proofs.Reached.{records-step}
use Rattle.records.specs.declared.Step.{Step}
use Rattle.records.specs.declared.Step.TheVariants.{Widget, Space, RowHeight, MaxWidth, MaxHeight, MinWidth, MinHeight, RowEnd}
use Rattle.records.specs.Records.{Record}
use Rattle.std.specs.Prelude.{None, Some}
use Rattle.sheet.specs.Pass.{cell_of}
use Rattle.sheet.specs.Implementation.Calls.{CallResult, placement, step_result, record_result}
use Rattle.sheet.specs.Implementation.Walks.{put_at, plate_with}
use Rattle.sheet.proofs.Walks.{Walk, done, walked}
use Rattle.sheet.proofs.Runs.{widget-placed}
use Rattle.sheet.proofs.Stepping.{moved_none}
use Rattle.sheet.proofs.PlacedCells.{cell-whole}

-- ---- a record that is a W has eight places, and no other has any
step-placed : (p : Placer) (sp : Vec2) (st : Step) → (step_result p sp st).placed ≡ widget_step st
unfolding step_result placement widget_step
step-placed p sp (Widget w h) = refl
step-placed p sp (Space a) = refl
step-placed p sp (RowHeight h) = refl
step-placed p sp (MaxWidth w) = refl
step-placed p sp (MaxHeight h) = refl
step-placed p sp (MinWidth w) = refl
step-placed p sp (MinHeight h) = refl
step-placed p sp RowEnd = refl

pub result-placed : (p : Placer) (sp : Vec2) (r : Record) → (record_result p sp r).placed ≡ widget r
unfolding record_result widget
result-placed p sp (Some st) = step-placed p sp st
result-placed p sp None = refl

abbrev pub Whole : CallResult → Type 0
Whole m = WholeRect tick m.frame × WholeRect tick m.widget

step-whole : (p : Placer) (sp : Vec2) (st : Step) → (step_result p sp st).number ≡ 0 → 0 < (step_result p sp st).placed → Whole (step_result p sp st)
unfolding step_result placement
step-whole p sp (Widget w h) n l = let c = cell-whole tick (omega arith) sp p (record { x = w; y = h }) (widget-placed sp p (record { x = w; y = h }) (cell_of tick sp p (record { x = w; y = h })) n) in (c.frame, c.widget)
step-whole p sp (Space a) n l = absurd (omega (arith, l))
step-whole p sp (RowHeight h) n l = absurd (omega (arith, l))
step-whole p sp (MaxWidth w) n l = absurd (omega (arith, l))
step-whole p sp (MaxHeight h) n l = absurd (omega (arith, l))
step-whole p sp (MinWidth w) n l = absurd (omega (arith, l))
step-whole p sp (MinHeight h) n l = absurd (omega (arith, l))
step-whole p sp RowEnd n l = absurd (omega (arith, l))

pub result-whole : (p : Placer) (sp : Vec2) (r : Record) → (record_result p sp r).number ≡ 0 → 0 < (record_result p sp r).placed → Whole (record_result p sp r)
unfolding record_result
result-whole p sp (Some st) n l = step-whole p sp st n l
result-whole p sp None n l = absurd (omega (arith, l))

one-or-none : (st : Step) → widget_step st ≤ 1
unfolding widget_step
one-or-none (Widget w h) = omega arith
one-or-none (Space a) = omega arith
one-or-none (RowHeight h) = omega arith
one-or-none (MaxWidth w) = omega arith
one-or-none (MaxHeight h) = omega arith
one-or-none (MinWidth w) = omega arith
one-or-none (MinHeight h) = omega arith
one-or-none RowEnd = omega arith

pub at_most_one : (r : Record) → widget r ≤ 1
unfolding widget
at_most_one (Some st) = one-or-none st
at_most_one None = omega arith

-- ---- one turn
front : (m : SizeUnit) (left : ℕ) (sp : Vec2) (n : ℕ) (p : Placer) (u : List ℕ) (out : List ℤ) (w : ℕ) (plate : Rect) → 0 < left → 0 < length u
    → walked m left sp n p u out w plate
    ≡ cond (eqb (record_result p sp (record_of m u)).number 0)
    (walked m (left - 1) sp (n + 1) (record_result p sp (record_of m u)).placer (rest u) (put_at out w (record_result p sp (record_of m u)).placed (record_result p sp (record_of m u)).frame (record_result p sp (record_of m u)).widget) (w + (record_result p sp (record_of m u)).placed) (plate_with plate w (record_result p sp (record_of m u)).placed (record_result p sp (record_of m u)).frame))
    (record { run = record { number = (record_result p sp (record_of m u)).number; at = n; placer = (record_result p sp (record_of m u)).placer; plate = plate }; slice = out })
unfolding walked
front m zero sp n p u out w plate h l = absurd (omega arith)
front m (suc left) sp n p [] out w plate h l = absurd (omega arith)
front m (suc left) sp n p (b ∷ u) out w plate h l = let e : suc left - 1 ≡ left = omega arith in rw e

ended-walk : (m : SizeUnit) (left : ℕ) (sp : Vec2) (n : ℕ) (p : Placer) (out : List ℤ) (w : ℕ) (plate : Rect) → walked m left sp n p [] out w plate ≡ done p out plate
unfolding walked
ended-walk m zero sp n p out w plate = refl
ended-walk m (suc left) sp n p out w plate = refl

full-walk : (m : SizeUnit) (left : ℕ) (sp : Vec2) (n : ℕ) (p : Placer) (u : List ℕ) (out : List ℤ) (w : ℕ) (plate : Rect) → left ≤ 0 → walked m left sp n p u out w plate ≡ done p out plate
unfolding walked
full-walk m zero sp n p u out w plate h = refl
full-walk m (suc left) sp n p u out w plate h = absurd (omega arith)

-- what a turn gives that reads a record: m, what the record gives
pub record Turn (u : SizeUnit) (text : List ℕ) (sp : Vec2) (left n at w : ℕ) (p : Placer) (out : List ℤ) (plate : Rect) (r : Walk) (m : CallResult) : Type 0 where
  pub stops : (m.number ≡ 0 → ⊥) → record { run = record { number = m.number; at = n; placer = m.placer; plate = plate }; slice = out } ≡ r
  pub goes_on : m.number ≡ 0 → walked u (left - 1) sp (n + 1) m.placer (drop (next_at text at) text) (put_at out w m.placed m.frame m.widget) (w + m.placed) (plate_with plate w m.placed m.frame) ≡ r
  -- the slice has room for the W that are left
  pub room : 8 * (w + widgets (records_from u left (drop at text))) ≤ length out → 8 * (w + m.placed + widgets (records_from u (left - 1) (drop (next_at text at) text))) ≤ length out
  pub few : m.placed ≤ 1
  pub in-ticks : m.number ≡ 0 → 0 < m.placed → Whole m
  pub unfaulted : m.number ≡ 0 → placer_fault m.placer ≡ 0

module _ (u : SizeUnit) (text : List ℕ) (sp : Vec2) (left n at w : ℕ) (p : Placer) (out : List ℤ) (plate : Rect) (r : Walk) (inv : walked u left sp n p (drop at text) out w plate ≡ r) where
  pub walk_ends : length text ≤ at → done p out plate ≡ r
  walk_ends h = sym (ended-walk u left sp n p out w plate) ∙ ap (λ (s : List ℕ). walked u left sp n p s out w plate) (sym (drop_of_length-le text h)) ∙ inv

  pub walk-is-full : left ≤ 0 → done p out plate ≡ r
  walk-is-full h = sym (full-walk u left sp n p (drop at text) out w plate h) ∙ inv

  module _ (more : 0 < left) (here : at < length text) (m : CallResult) (em : m ≡ record_result p sp (record_at u text at)) where
    next : cond (eqb m.number 0) (walked u (left - 1) sp (n + 1) m.placer (drop (next_at text at) text) (put_at out w m.placed m.frame m.widget) (w + m.placed) (plate_with plate w m.placed m.frame))
        (record { run = record { number = m.number; at = n; placer = m.placer; plate = plate }; slice = out }) ≡ r
    unfolding record_at
    next =
        let l : 0 < length (drop at text) = omega (arith, length-drop at text) in
        rw (em, next-is-rest text at) (sym (front u left sp n p (drop at text) out w plate more l) ∙ inv)

    placed-here : m.placed ≡ widget (record_at u text at)
    placed-here = ap (λ (x : CallResult). x.placed) em ∙ result-placed p sp (record_at u text at)

    room-left : 8 * (w + widgets (records_from u left (drop at text))) ≤ length out → 8 * (w + m.placed + widgets (records_from u (left - 1) (drop (next_at text at) text))) ≤ length out
    unfolding widgets
    room-left h =
        let e : widgets (records_from u left (drop at text)) ≡ widget (record_at u text at) + widgets (records_from u (left - 1) (drop (next_at text at) text)) = ap (λ (rs : List Record). widgets rs) (records-step u left text at more here) in
        omega (arith, h, e, placed-here)

    accepted-here : m.number ≡ 0 → (record_result p sp (record_at u text at)).number ≡ 0
    accepted-here h = ap (λ (x : CallResult). x.number) (sym em) ∙ h

    pub turn : Turn u text sp left n at w p out plate r m
    turn = record {
      stops = λ h. rw (ne_eqb m.number 0 h) at next;
      goes_on = λ h. rw (eq-eqb m.number 0 h) at next;
      room = room-left;
      few = omega (arith, placed-here, at_most_one (record_at u text at));
      in-ticks = λ h l. subst Whole (sym em) (result-whole p sp (record_at u text at) (accepted-here h) (subst (λ (x : CallResult). 0 < x.placed) em l));
      unfaulted = λ h. subst (λ (x : CallResult). placer_fault x.placer ≡ 0) (sym em) (moved_none p sp (record_at u text at) (accepted-here h));
    }
