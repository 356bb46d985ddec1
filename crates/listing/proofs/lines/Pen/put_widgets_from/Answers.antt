use Rattle.std.proofs.Common.{◌≡◌, ◌+◌, ◌-◌, ◌≤◌, ◌<◌, arith}
use Rattle.listing.proofs.Puts.{widgets-line, widgets-none, widgets-end, widgets-full}
use Rattle.listing.proofs.lines.Pen.put_widgets_from.Goals.{then-text-at-eq87, else-text-at-eq87}
use Rattle.listing.proofs.lines.Pen.put_widgets_from.Goals as goal

pub returns-then-text-at : goal.returns-then-text-at
returns-then-text-at c = let l = c.loop-n in l.invariant.1 _ (widgets-end c.args.text.now c.args.cells.now _ l.n l.k l.next c.if-text-at.true)

pub returns : goal.returns
returns c =
    let l = c.loop-n in
    let full : c.args.first + c.args.most - l.n ≤ 0 = omega arith in
    l.invariant.1 _ (widgets-full c.args.text.now c.args.cells.now _ l.n l.k l.next full)

pub loop-n-preserved : goal.loop-n-preserved
loop-n-preserved c =
    let a = c.args in
    let l = c.loop-n in
    let more : 0 < a.first + a.most - l.n = omega arith in
    let e : a.first + a.most - (l.n + 1) ≡ a.first + a.most - l.n - 1 = omega arith in
    elim c.if-text-at-eq87.branch [
      | then-text-at-eq87 w ↦ (omega (arith, l.invariant.0, w.k-is), λ q h. l.invariant.1 q (widgets-line a.text.now a.cells.now _ l.n l.k l.next more c.if-text-at.false w.if-text-at-eq87.true w.put_widget.ensures (rw (w.k-is, w.self-is, c.next_record-next.ensures, e) at h)))
      | else-text-at-eq87 w ↦ (omega (arith, l.invariant.0, w.k-is), λ q h. l.invariant.1 q (widgets-none a.text.now a.cells.now _ l.n l.k l.next more c.if-text-at.false w.if-text-at-eq87.false (rw (w.k-is, w.self-is, c.next_record-next.ensures, e) at h)))
    ]
