use Rattle.std.proofs.Common.{◌≡◌, arith, to_z, pos, w32}
use mir.Facts.{to_z_pos}
use Rattle.drawing.proofs.Pieces.{numeral-shown}
use Rattle.drawing.proofs.writing.numeral.Goals as goal

pub returns : goal.returns
returns c = let e : to_z w32 c.min.result ≡ pos c.min.result = to_z_pos w32 (omega arith) in rw (e, c.min.ensures) (numeral-shown c.args.n)
