use Rattle.std.proofs.Common.{◌≡◌, length, rules}
use Rattle.drawing.proofs.Lengths.{drawn-there}
use Rattle.drawing.proofs.picture.draw.Goals as goal

pub returns : goal.returns
returns c = let l : length c.args.out.now ≡ 300000 = search rules in drawn-there _ _ _ _ _ _ l c.count_lines.ensures.0 c.put_drawn.ensures.pieces
