use lib.Ieee.{binary32, of_bits, add, sub, le, eq}
use lib.Ieee.Fits.{and_l, and_r}
use Rattle.emath.specs.Implementation.Shifting.{shift}
use Rattle.emath.proofs.Tests.{T_of}
use Rattle.emath.proofs.Shifted.{least, shifted_back}
use Rattle.emath.proofs.gui_rounding.is_whole.Goals as goal

pub returns : goal.returns
unfolding of_bits
returns c h =
    let y = c.args.y in
    let far = le least (add binary32 y shift) in
    let same = eq (sub binary32 (add binary32 y shift) shift) y in
    shifted_back y (and_l far same (T_of h)) (and_r far same (T_of h))
