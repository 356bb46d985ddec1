use Rattle.std.proofs.Common.{◌∙◌, arith, rules, length-append}
use Rattle.std.specs.Float.{nan}
use Rattle.std.proofs.lemmas.Slice.Zip.{zip_turn, zip_end}
use Rattle.grid.proofs.Turns.{same-turn, same-end, not-same}
use Rattle.grid.proofs.entries.same_entries.Goals as goal

pub returns-then-xs-ys : goal.returns-then-xs-ys
returns-then-xs-ys c = not-same _ _ c.if-xs-ys.true

pub loop-x-preserved : goal.loop-x-preserved
loop-x-preserved c =
    let z = zip_turn c.args.xs.now c.args.ys.now c.loop-x.yielded _ _ c.next.new.self _ (search rules) (search rules) c.loop-x.yielded_by _ c.in-Some.is c.next.ensures.steps in
    simp length-append (same-turn _ _ _ _ _ _ z.0 z.1 (z.2 nan) (z.3 nan) ∙ c.loop-x.invariant)

pub returns : goal.returns
returns c =
    let z = zip_end c.args.xs.now c.args.ys.now c.loop-x.yielded _ _ c.next.new.self _ (search rules) (search rules) c.loop-x.yielded_by c.in-None.is c.next.ensures.steps in
    same-end c.args.xs.now c.args.ys.now _ _ (omega (arith, z, c.if-xs-ys.false)) (omega (arith, z, c.if-xs-ys.false)) ∙ c.loop-x.invariant
