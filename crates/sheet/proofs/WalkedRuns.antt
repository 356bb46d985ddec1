-- The code's run over a text is the rule's over the steps that the text holds, and the slice then holds the rectangles of its W.
-- Assumes nothing.
use Prim.Native.Nat.{ℕ, zero, suc, ◌+◌, ◌*◌, ◌<◌}
use mathlib.Core.Path.{◌≡◌, refl, ap, sym, ◌∙◌, subst}
use mathlib.Core.Bool.{Bool, true, false, cond}
use mathlib.Core.List.{List, [], ◌∷◌, ◌++◌}
use native.Mathlib.Omega.{arith}
use native.Mathlib.Nat.{add-zero}
use lib.Dec.{eqb}
use borrow.Author.Tests.{le-ltb}
use lib.IntN.{ℤ}
use lib.ListN.{length, set}
use lib.Seq.{sets}
use Rattle.emath.specs.Steps.{tick}
use Rattle.emath.specs.Rectangles.{union}
use Rattle.emath.specs.declared.Rect.{Rect}
use Rattle.emath.specs.declared.Vec2.{Vec2}
use Rattle.region.specs.Refusals.{zero_rect}
use Rattle.placer.specs.declared.Placer.{Placer}
use Rattle.records.specs.declared.SizeUnit.{SizeUnit}
use Rattle.records.specs.Records.{record_of, rest}
use Rattle.records.specs.Sheets.{records_from}
use Rattle.records.specs.declared.Step.{Step}
use Rattle.records.specs.declared.Step.TheVariants.{Widget, Space, RowHeight, MaxWidth, MaxHeight, MinWidth, MinHeight, RowEnd}
use Rattle.records.specs.Records.{Record}
use Rattle.std.specs.Prelude.{Some}
use Rattle.sheet.specs.Pass.{Cell, Stepped, Ran, widget_step, stepped, followed, run_from, around, plate_of}
use Rattle.sheet.specs.Texts.{steps_of}
use Rattle.sheet.specs.Slices.{eight, written}
use Rattle.sheet.specs.Implementation.Calls.{CallResult, placement, step_result, record_result}
use Rattle.sheet.specs.Implementation.Walks.{put_at, joined, plate_with, Run, Walked, OnlySteps, more}
use Rattle.sheet.proofs.Walks.{Walk, done, walked}

-- ---- stores one after the other
sets-append : (xs ys l : List ℤ) (i : ℕ) → sets l i (xs ++ ys) ≡ sets (sets l i xs) (i + length xs) ys
sets-append [] ys l i = ap (λ (k : ℕ). sets l k ys) (sym (add-zero i))
sets-append (a ∷ xs) ys l i =
    let e : suc i + length xs ≡ i + suc (length xs) = omega arith in
    sets-append xs ys (set l i a) (suc i) ∙ ap (λ (k : ℕ). sets (sets (set l i a) (suc i) xs) k ys) e

-- ---- frames that join a plate one after the other: W number w and the later ones
unfoldable joined_all : Rect → ℕ → List Cell → Rect
joined_all plate w [] = plate
joined_all plate w (c ∷ cs) = joined_all (joined plate w c.frame) (w + 1) cs

not_first : (w : ℕ) (plate frame : Rect) → 0 < w → joined plate w frame ≡ union plate frame
unfolding joined
not_first w plate frame l = rw (le-ltb w 1 (omega arith))

later-join : (w : ℕ) (plate : Rect) (cs : List Cell) → 0 < w → joined_all plate w cs ≡ around plate cs
unfolding joined_all around
later-join w plate [] l = refl
later-join w plate (c ∷ cs) l = ap (λ (r : Rect). joined_all r (w + 1) cs) (not_first w plate c.frame l) ∙ later-join (w + 1) (union plate c.frame) cs (omega arith)

all-joined : (cs : List Cell) → joined_all zero_rect 0 cs ≡ plate_of cs
unfolding joined_all joined plate_of
all-joined [] = refl
all-joined (c ∷ cs) = later-join 1 c.frame cs (omega arith)

-- ---- a step's answer is the rule's, and what it writes are its cells, whose frames join the plate
record AsRule (m : CallResult) (a : Stepped) (out : List ℤ) (w : ℕ) (plate : Rect) : Type 0 where
  pub number : m.number ≡ a.number
  pub placer : m.placer ≡ a.placer
  pub puts : (cs : List Cell) → sets (put_at out w m.placed m.frame m.widget) (8 * (w + m.placed)) (written cs) ≡ sets out (8 * w) (written (a.cells ++ cs))
  pub joins : (cs : List Cell) → joined_all (plate_with plate w m.placed m.frame) (w + m.placed) cs ≡ joined_all plate w (a.cells ++ cs)

no_place : (out : List ℤ) (w : ℕ) (cs : List Cell) → sets out (8 * (w + 0)) (written cs) ≡ sets out (8 * w) (written cs)
no_place out w cs = ap (λ (k : ℕ). sets out (8 * k) (written cs)) (add-zero w)

one_place : (out : List ℤ) (w : ℕ) (c : Cell) (cs : List Cell) → sets (sets out (8 * w) (eight c)) (8 * (w + 1)) (written cs) ≡ sets out (8 * w) (written (c ∷ cs))
unfolding written
one_place out w c cs =
    let e : 8 * (w + 1) ≡ 8 * w + 8 = omega arith in
    ap (λ (k : ℕ). sets (sets out (8 * w) (eight c)) k (written cs)) e ∙ sym (sets-append (eight c) (written cs) out (8 * w))

no-frame : (plate : Rect) (w : ℕ) (cs : List Cell) → joined_all plate (w + 0) cs ≡ joined_all plate w cs
no-frame plate w cs = ap (λ (k : ℕ). joined_all plate k cs) (add-zero w)

as-rule : (p : Placer) (sp : Vec2) (st : Step) (out : List ℤ) (w : ℕ) (plate : Rect) → AsRule (step_result p sp st) (stepped tick sp p st) out w plate
unfolding step_result placement stepped widget_step put_at plate_with joined_all
as-rule p sp (Widget x y) out w plate = record { number = refl; placer = refl; puts = λ cs. one_place out w _ cs; joins = λ cs. refl }
as-rule p sp (Space a) out w plate = record { number = refl; placer = refl; puts = λ cs. no_place out w cs; joins = λ cs. no-frame plate w cs }
as-rule p sp (RowHeight h) out w plate = record { number = refl; placer = refl; puts = λ cs. no_place out w cs; joins = λ cs. no-frame plate w cs }
as-rule p sp (MaxWidth v) out w plate = record { number = refl; placer = refl; puts = λ cs. no_place out w cs; joins = λ cs. no-frame plate w cs }
as-rule p sp (MaxHeight v) out w plate = record { number = refl; placer = refl; puts = λ cs. no_place out w cs; joins = λ cs. no-frame plate w cs }
as-rule p sp (MinWidth v) out w plate = record { number = refl; placer = refl; puts = λ cs. no_place out w cs; joins = λ cs. no-frame plate w cs }
as-rule p sp (MinHeight v) out w plate = record { number = refl; placer = refl; puts = λ cs. no_place out w cs; joins = λ cs. no-frame plate w cs }
as-rule p sp RowEnd out w plate = record { number = refl; placer = refl; puts = λ cs. no_place out w cs; joins = λ cs. no-frame plate w cs }

-- ---- the run
abbrev walk_of : List ℤ → ℕ → Rect → Ran → Walk
walk_of out w plate r = record { run = record { number = r.number; at = r.at; placer = r.placer; plate = joined_all plate w r.cells }; slice = sets out (8 * w) (written r.cells) }

one-record : (n : ℕ) (m : CallResult) (a : Stepped) (out : List ℤ) (w : ℕ) (plate : Rect) (later : Ran) (next : Walk) → AsRule m a out w plate
    → next ≡ walk_of (put_at out w m.placed m.frame m.widget) (w + m.placed) (plate_with plate w m.placed m.frame) later
    → cond (eqb m.number 0) next (record { run = record { number = m.number; at = n; placer = m.placer; plate = plate }; slice = out }) ≡ walk_of out w plate (followed n a later)
unfolding followed written joined_all
one-record n m a out w plate later next s e = rw (s.number, s.placer) (go (eqb a.number 0) refl)
  where
    go : (b : Bool) → eqb a.number 0 ≡ b → cond (eqb a.number 0) next (record { run = record { number = a.number; at = n; placer = a.placer; plate = plate }; slice = out }) ≡ walk_of out w plate (followed n a later)
    go true z = rw z (e ∙ rw (s.puts later.cells, s.joins later.cells))
    go false z = rw z

pub first_step : {r : Record} {rs : List Record} → OnlySteps (r ∷ rs) → (st : Step) × (r ≡ Some st) × OnlySteps rs
first_step (more {st = st} t) = (st, refl, t)

-- a record, and the run from there on
unfoldable turn-of : SizeUnit → ℕ → Vec2 → ℕ → Placer → List ℕ → List ℤ → ℕ → Rect → Record → Walk
turn-of v left sp n p u out w plate r =
    cond (eqb (record_result p sp r).number 0)
    (walked v left sp (n + 1) (record_result p sp r).placer u (put_at out w (record_result p sp r).placed (record_result p sp r).frame (record_result p sp r).widget) (w + (record_result p sp r).placed) (plate_with plate w (record_result p sp r).placed (record_result p sp r).frame))
    (record { run = record { number = (record_result p sp r).number; at = n; placer = (record_result p sp r).placer; plate = plate }; slice = out })

step-turn : (v : SizeUnit) (left : ℕ) (sp : Vec2) (n : ℕ) (p : Placer) (u : List ℕ) (out : List ℤ) (w : ℕ) (plate : Rect) (st : Step) (rs : List Record)
    → ((n : ℕ) (p : Placer) (out : List ℤ) (w : ℕ) (plate : Rect) → walked v left sp n p u out w plate ≡ walk_of out w plate (run_from tick sp n p (steps_of rs)))
    → turn-of v left sp n p u out w plate (Some st) ≡ walk_of out w plate (run_from tick sp n p (steps_of (Some st ∷ rs)))
unfolding turn-of record_result steps_of run_from
step-turn v left sp n p u out w plate st rs ih =
    let a = as-rule p sp st out w plate in
    let later = run_from tick sp (n + 1) (step_result p sp st).placer (steps_of rs) in
    let same : later ≡ run_from tick sp (n + 1) (stepped tick sp p st).placer (steps_of rs) = ap (λ (q : Placer). run_from tick sp (n + 1) q (steps_of rs)) a.placer in
    one-record n (step_result p sp st) (stepped tick sp p st) out w plate later _ a (ih (n + 1) (step_result p sp st).placer _ _ _) ∙ ap (λ (r : Ran). walk_of out w plate (followed n (stepped tick sp p st) r)) same

front-turn : (v : SizeUnit) (left : ℕ) (sp : Vec2) (n : ℕ) (p : Placer) (b : ℕ) (s : List ℕ) (out : List ℤ) (w : ℕ) (plate : Rect)
    → walked v (suc left) sp n p (b ∷ s) out w plate ≡ turn-of v left sp n p (rest (b ∷ s)) out w plate (record_of v (b ∷ s))
unfolding walked turn-of
front-turn v left sp n p b s out w plate = refl

no_walk : (out : List ℤ) (w n : ℕ) (plate : Rect) (p : Placer) (sp : Vec2) → done p out plate ≡ walk_of out w plate (run_from tick sp n p (steps_of []))
unfolding run_from steps_of written joined_all
no_walk out w n plate p sp = refl

walked-is-run : (v : SizeUnit) (left : ℕ) (sp : Vec2) (n : ℕ) (p : Placer) (s : List ℕ) (out : List ℤ) (w : ℕ) (plate : Rect) → OnlySteps (records_from v left s)
    → walked v left sp n p s out w plate ≡ walk_of out w plate (run_from tick sp n p (steps_of (records_from v left s)))
unfolding walked records_from
walked-is-run v zero sp n p s out w plate o = no_walk out w n plate p sp
walked-is-run v (suc left) sp n p [] out w plate o = no_walk out w n plate p sp
walked-is-run v (suc left) sp n p (b ∷ s) out w plate o =
    let f = first_step o in
    let t = step-turn v left sp n p (rest (b ∷ s)) out w plate f.0 (records_from v left (rest (b ∷ s))) (λ n p out w plate. walked-is-run v left sp n p (rest (b ∷ s)) out w plate f.2) in
    front-turn v left sp n p b s out w plate ∙ subst (λ (r : Record). turn-of v left sp n p (rest (b ∷ s)) out w plate r ≡ walk_of out w plate (run_from tick sp n p (steps_of (r ∷ records_from v left (rest (b ∷ s)))))) (sym f.1) t

-- so is what the loop comes to
pub as-walked : (v : SizeUnit) (most : ℕ) (sp : Vec2) (n : ℕ) (p : Placer) (s : List ℕ) (out : List ℤ) (r : Run) (exit : List ℤ) → OnlySteps (records_from v most s)
    → record { run = r; slice = exit } ≡ walked v most sp n p s out 0 zero_rect → Walked sp n p (steps_of (records_from v most s)) out r exit
as-walked v most sp n p s out r exit o e =
    let all = run_from tick sp n p (steps_of (records_from v most s)) in
    let x : record { run = r; slice = exit } ≡ walk_of out 0 zero_rect all = e ∙ walked-is-run v most sp n p s out 0 zero_rect o in
    let y : r ≡ record { number = all.number; at = all.at; placer = all.placer; plate = joined_all zero_rect 0 all.cells } = ap (λ (w : Walk). w.run) x in
    record { run = rw y; plate = ap (λ (q : Run). q.plate) y ∙ all-joined all.cells; slice = ap (λ (w : Walk). w.slice) x }
