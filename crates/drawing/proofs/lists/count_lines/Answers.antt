use Rattle.std.proofs.Common.{◌≡◌, ◌∙◌, sym, ◌+◌, ◌-◌, ◌*◌, arith}
use Rattle.drawing.proofs.Ruling.{line-fits, lines-none, lines-stop, lines-turn, lines_end}
use Rattle.drawing.proofs.lists.count_lines.Goals as goal

pub loop-n-init : goal.loop-n-init
loop-n-init c = record { inside = omega arith; counted = lines-none _ _ _ _ _ }

pub returns-then-not-is_line : goal.returns-then-not-is_line
returns-then-not-is_line c = (lines-stop _ _ _ _ (c.args.most - c.loop-n.n) c.loop-n.n _ c.loop-n.invariant.counted (sym c.is_line.ensures ∙ c.if-not-is_line.true), omega arith)

pub loop-n-preserved : goal.loop-n-preserved
loop-n-preserved c =
    let t = sym c.is_line.ensures ∙ c.if-not-is_line.false in
    let f = line-fits _ _ _ _ t in
    let e : c.args.most - (c.loop-n.n + 1) ≡ c.args.most - c.loop-n.n - 1 = omega arith in
    let g : c.args.from + c.args.size * (c.loop-n.n + 1) ≡ c.args.from + c.args.size * c.loop-n.n + c.args.size = grind arith in
    record {
      inside = omega arith;
      counted = rw (e, g) (lines-turn _ _ _ _ (c.args.most - c.loop-n.n) c.loop-n.n _ c.loop-n.invariant.counted (omega arith) t);
    }

pub returns : goal.returns
returns c =
    let e : c.loop-n.n ≡ c.args.most = omega arith in
    (sym e ∙ lines_end _ _ _ _ (c.args.most - c.loop-n.n) c.loop-n.n _ c.loop-n.invariant.counted (omega arith), omega arith)
