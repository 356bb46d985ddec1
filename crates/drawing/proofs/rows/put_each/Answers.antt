use Rattle.std.proofs.Common.{◌≡◌, ◌+◌, ◌-◌, arith}
use Rattle.drawing.proofs.Layers.{each-end, each_turn}
use Rattle.drawing.proofs.Pens.{after, nothing}
use Rattle.drawing.proofs.rows.put_each.Goals as goal

pub loop-i-init : goal.loop-i-init
loop-i-init c = λ q h. let e : c.args.count - 0 ≡ c.args.count = omega arith in rw e at h

pub loop-i-preserved : goal.loop-i-preserved
loop-i-preserved c = λ q h.
    let e : c.args.count - (c.loop-i.i + 1) ≡ c.args.count - c.loop-i.i - 1 = omega arith in
    c.loop-i.invariant q (rw (each_turn _ _ _ (c.args.count - c.loop-i.i) c.loop-i.i (omega arith)) (after c.put_one.ensures (rw e at h)))

pub returns : goal.returns
returns c = c.loop-i.invariant _ (rw (each-end _ _ _ (c.args.count - c.loop-i.i) c.loop-i.i (omega arith)) (nothing _))
