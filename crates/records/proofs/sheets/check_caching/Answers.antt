use Rattle.std.proofs.Common.{◌≡◌, ◌+◌, ◌-◌, ◌≤◌, ◌<◌, refl, ap, sym, ◌∙◌, arith, None, Some}
use Rattle.records.specs.declared.Heading.{Heading}
use Rattle.records.specs.Records.{record_at}
use Rattle.records.specs.Sheets.{widget}
use Rattle.records.proofs.Reached.{is_step, Reached, start-at, next, on-heading, misplaced-answer, too_many, ended-answer}
use Rattle.records.proofs.Places.{next-within, heading-within}
use Rattle.records.specs.Implementation.SizeCache.{stored}
use Rattle.records.proofs.SizeCache.{not-cached, cached-start, cached-next, cached-ended, cached-full, cached-stopped}
use Rattle.records.proofs.sheets.check_caching.Goals as goal

pub returns-in-Some : goal.returns-in-Some
returns-in-Some c =
    let f = c.in-Some.ensures in
    let some : c.in-Some.fault ≡ 0 → ⊥ = λ z. omega (arith, f.1) in
    (c.refused.ensures ∙ on-heading _ _ _ f.0 some, not-cached _ _ _ f.0 some)

pub loop-k-init : goal.loop-k-init
loop-k-init c =
    let e = c.read_heading-h.ensures.0 in
    (omega arith, rw e (heading-within _), start-at _ _ e, cached-start _ _ _ c.in_default.ensures e)

pub returns-then-text-at : goal.returns-then-text-at
returns-then-text-at c =
    let l = c.loop-k in
    (ended-answer _ _ c.in_default.ensures _ _ _ _ l.invariant.2 c.if-text-at.true _ c.ended.ensures, cached-ended _ _ _ _ _ _ _ l.invariant.3 c.if-text-at.true)

pub returns-in_default-read_record : goal.returns-in_default-read_record
unfolding is_step
returns-in_default-read_record c =
    let s = c.args.text.now in
    let l = c.loop-k in
    let more : 0 < 512 - l.k = omega (arith, c.loop-k-test.true) in
    let here = c.if-text-at.false in
    let er = sym c.in_default-read_record.is ∙ c.read_record.ensures ∙ ap (λ (h : Heading). record_at h.unit s l.at) c.read_heading-h.ensures.0 in
    (c.refused-in_default-read_record.ensures ∙ misplaced-answer _ _ c.in_default.ensures _ _ _ _ l.invariant.2 more here None er _ refl refl, cached-stopped _ _ _ _ _ _ _ l.invariant.3 more here None er refl)

pub loop-k-preserved : goal.loop-k-preserved
unfolding stored widget is_step
loop-k-preserved c =
    let s = c.args.text.now in
    let l = c.loop-k in
    let e = c.next_record-at.ensures in
    let u = c.store.ensures in
    let w = c.widget_step-w.ensures in
    let more : 0 < 512 - l.k = omega (arith, c.loop-k-test.true) in
    let one : 512 - (l.k + 1) ≡ 512 - l.k - 1 = omega arith in
    let here = c.if-text-at.false in
    let st = c.in-Some-read_record.st in
    let er = sym c.in-Some-read_record.is ∙ c.read_record.ensures ∙ ap (λ (h : Heading). record_at h.unit s l.at) c.read_heading-h.ensures.0 in
    let n : Reached s _ _ _ _ = next s _ _ _ _ l.invariant.2 more here (Some st) er _ refl w.0 in
    (omega (arith, l.invariant.0, w.1), rw e (next-within s _), rw (e, one) n, rw (e, u, one) (cached-next _ s _ _ _ _ _ l.invariant.3 more here (Some st) er refl))

pub returns-then-at-text : goal.returns-then-at-text
returns-then-at-text c =
    let l = c.loop-k in
    let full : 512 - l.k ≤ 0 = omega (arith, c.loop-k-test.false) in
    (c.refused-then-at-text.ensures ∙ too_many _ _ c.in_default.ensures _ _ _ _ l.invariant.2 full c.if-at-text.true, cached-full _ _ _ _ _ _ l.invariant.3 full)

pub returns : goal.returns
returns c =
    let l = c.loop-k in
    let last : l.k ≡ 512 = omega (arith, c.loop-k-test.false, c.read_heading-h.ensures.1) in
    (ended-answer _ _ c.in_default.ensures _ l.k _ _ l.invariant.2 c.if-at-text.false _ (rw last c.ended-2.ensures), cached-ended _ _ _ _ _ _ _ l.invariant.3 c.if-at-text.false)
