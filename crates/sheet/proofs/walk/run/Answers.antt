use Rattle.std.proofs.Common.{◌≡◌, ◌+◌, ◌-◌, ◌≤◌, ◌<◌, refl, ap, sym, ◌∙◌, arith}
use Rattle.emath.proofs.Refusals.{number-none}
use Rattle.emath.specs.Steps.{tick}
use Rattle.placer.specs.Implementation.Lent.{placer_of}
use Rattle.records.specs.Records.{Record}
use Rattle.records.proofs.Places.{next-within}
use Rattle.records.proofs.SizeCache.{cached-here, still-cached}
use Rattle.sheet.specs.Implementation.Calls.{record_result}
use Rattle.sheet.proofs.Plates.{zero-rect, rect-numbers, with-whole}
use Rattle.sheet.proofs.WalkedRuns.{as-walked}
use Rattle.sheet.proofs.Walking.{walk_ends, walk-is-full, turn}
use Rattle.sheet.proofs.walk.run.Goals as goal

pub returns-then-text-at : goal.returns-then-text-at
returns-then-text-at c =
    let a = c.args in
    let l = c.loop-n in
    let p = placer_of a.placer l.s a.prev_widths.now a.prev_heights.now l.widths l.heights in
    (record { number = 0; at = 0; placer = p; plate = l.plate }, refl, as-walked _ _ _ _ _ _ _ _ _ c.requires.only_steps.0 (walk_ends _ a.text.now a.spacing _ l.n l.at l.w p l.out l.plate _ l.invariant.4 c.if-text-at.true))

pub cached_record-record-requires : goal.cached_record-record-requires
cached_record-record-requires c =
    let a = c.args in
    let l = c.loop-n in
    let more : 0 < a.first + a.most - l.n = omega (arith, c.loop-n-test.true) in
    record { n_bound = omega (arith, c.loop-n-test.true, c.requires.from_in_bounds.1); cached = cached-here _ a.text.now a.sizes.now l.at l.n _ l.invariant.5 more c.if-text-at.false }

pub run_record-requires : goal.run_record-requires
run_record-requires c = c.loop-n.invariant.3

pub shape_of-widths-in-Err : goal.shape_of-widths-in-Err
shape_of-widths-in-Err c = c.run_record.auto.widths ∙ c.loop-n.invariant.3.cols ∙ sym c.requires.ready.cols

pub shape_of-heights-in-Err : goal.shape_of-heights-in-Err
shape_of-heights-in-Err c = c.run_record.auto.heights ∙ c.loop-n.invariant.3.rows ∙ sym c.requires.ready.rows

pub returns-in-Err : goal.returns-in-Err
returns-in-Err c =
    let a = c.args in
    let l = c.loop-n in
    let p = placer_of a.placer l.s a.prev_widths.now a.prev_heights.now l.widths l.heights in
    let m = record_result p a.spacing c.cached_record-record.result in
    let g = rw c.in-Err.is at c.run_record.ensures in
    let more : 0 < a.first + a.most - l.n = omega (arith, c.loop-n-test.true) in
    let t = turn a.unit a.text.now a.spacing _ l.n l.at l.w p l.out l.plate _ l.invariant.4 more c.if-text-at.false m (ap (λ (x : Record). record_result p a.spacing x) c.cached_record-record.ensures) in
    (record { number = m.number; at = l.n; placer = m.placer; plate = l.plate }, (g.0, refl, (l.s, g.1)), as-walked _ _ _ _ _ _ _ _ _ c.requires.only_steps.0 (t.stops (number-none _ _ g.0)))

pub plate_with-plate-requires : goal.plate_with-plate-requires
plate_with-plate-requires c = rect-numbers c.loop-n.invariant.6

pub put-w-requires : goal.put-w-requires
put-w-requires c =
    let a = c.args in
    let l = c.loop-n in
    let p = placer_of a.placer l.s a.prev_widths.now a.prev_heights.now l.widths l.heights in
    let g = rw c.in-Ok.is at c.run_record.ensures in
    let em = sym g ∙ ap (λ (x : Record). record_result p a.spacing x) c.cached_record-record.ensures in
    let more : 0 < a.first + a.most - l.n = omega (arith, c.loop-n-test.true) in
    let t = turn a.unit a.text.now a.spacing _ l.n l.at l.w p l.out l.plate _ l.invariant.4 more c.if-text-at.false _ em in
    let r = t.room l.invariant.2 in
    record { placed_in_bounds = omega (arith, r); whole_rect = t.in-ticks refl }

pub loop-n-preserved : goal.loop-n-preserved
loop-n-preserved c =
    let a = c.args in
    let l = c.loop-n in
    let p = placer_of a.placer l.s a.prev_widths.now a.prev_heights.now l.widths l.heights in
    let g = rw c.in-Ok.is at c.run_record.ensures in
    let em = sym g ∙ ap (λ (x : Record). record_result p a.spacing x) c.cached_record-record.ensures in
    let more : 0 < a.first + a.most - l.n = omega (arith, c.loop-n-test.true) in
    let t = turn a.unit a.text.now a.spacing _ l.n l.at l.w p l.out l.plate _ l.invariant.4 more c.if-text-at.false _ em in
    let one : a.first + a.most - (l.n + 1) ≡ a.first + a.most - l.n - 1 = omega (arith, c.loop-n-test.true) in
    let e = c.next_record-at.ensures in
    let u = c.put-w.ensures in
    let k = c.put-w.auto.out in
    let r = t.room l.invariant.2 in
    (k ∙ l.invariant.0, rw e (next-within a.text.now l.at), rw (e, u.0, one) (omega (arith, r, k)), record { none = t.unfaulted refl; cols = c.run_record.auto.widths ∙ l.invariant.3.cols; rows = c.run_record.auto.heights ∙ l.invariant.3.rows }, rw (e, u.0, u.1, c.plate_with-plate.ensures, one) (t.goes_on refl), rw (e, one) (still-cached _ a.text.now a.sizes.now l.at l.n _ l.invariant.5), rw c.plate_with-plate.ensures (with-whole l.w _ l.invariant.6 (λ i. (t.in-ticks refl i).0)))

pub returns : goal.returns
returns c =
    let a = c.args in
    let l = c.loop-n in
    let p = placer_of a.placer l.s a.prev_widths.now a.prev_heights.now l.widths l.heights in
    let full : a.first + a.most - l.n ≤ 0 = omega (arith, c.loop-n-test.false) in
    (record { number = 0; at = 0; placer = p; plate = l.plate }, refl, as-walked _ _ _ _ _ _ _ _ _ c.requires.only_steps.0 (walk-is-full _ a.text.now a.spacing _ l.n l.at l.w p l.out l.plate _ l.invariant.4 full))

pub loop-n-init : goal.loop-n-init
loop-n-init c =
    let a = c.args in
    let e : a.first + a.most - a.first ≡ a.most = omega arith in
    let q = c.requires.only_steps in
    (refl, c.requires.from_in_bounds.0, rw e (omega (arith, q.1)), c.requires.ready, rw e, rw e q.2, zero-rect tick)
