use Rattle.std.proofs.Common.{refl, ap, sym}
use Rattle.emath.proofs.Refusals.{or-is, number-none}
use Rattle.placer.specs.Implementation.Lent.{placer_of}
use Rattle.placer.proofs.Unfaulted.{region-numbers}
use Rattle.sheet.specs.Implementation.Calls.{CallResult}
use Rattle.sheet.proofs.Stepping.{placement-refused, placement-accepted}
use Rattle.sheet.proofs.steps.place.Goals as goal

pub region_past-region-requires : goal.region_past-region-requires
region_past-region-requires c = region-numbers _ c.requires.none

pub returns-in-Some : goal.returns-in-Some
returns-in-Some c =
    let a = c.args in
    let pw = a.prev_widths.now in
    let ph = a.prev_heights.now in
    let ws = a.widths.now in
    let hs = a.heights.now in
    let n = or-is _ _ _ _ _ c.or.ensures (c.given_fault-given.ensures pw ph ws hs) c.answered_fault.ensures in
    let k = rw (c.in-Some.is, c.past_fault-past.ensures pw ph, c.region_past-region.ensures ph ws hs) at n in
    let e = placement-refused (placer_of a.placer a.state pw ph ws hs) a.spacing a.size c.requires.none c.requires.cols c.requires.rows _ _ (c.next_space-frame.ensures ws hs) (c.justify_and_align-widget.ensures pw ph ws hs) _ k (number-none _ _ refl) in
    (ap (λ (x : CallResult). x.number) (sym e), ap (λ (x : CallResult). x.placer) (sym e))

pub advance-s-requires : goal.advance-s-requires
advance-s-requires c = (c.requires.cols, c.requires.rows)

pub returns : goal.returns
returns c =
    let a = c.args in
    let pw = a.prev_widths.now in
    let ph = a.prev_heights.now in
    let ws = a.widths.now in
    let hs = a.heights.now in
    let r = c.region_past-region.ensures ph ws hs in
    let n = or-is _ _ _ _ _ c.or.ensures (c.given_fault-given.ensures pw ph ws hs) c.answered_fault.ensures in
    let k = rw (c.in_default.is, c.past_fault-past.ensures pw ph, r) at n in
    sym (placement-accepted (placer_of a.placer a.state pw ph ws hs) a.spacing a.size c.requires.none c.requires.cols c.requires.rows _ _ (c.next_space-frame.ensures ws hs) (c.justify_and_align-widget.ensures pw ph ws hs) _ k _ refl (c.advance-s.ensures pw ph _ a.spacing r))
