use Rattle.sheet.specs.Slices.{laid_number, laid_record}
use mathlib.Core.Path.{refl}
use Rattle.embed.proofs.exports.put_laid.Goals as goal

pub returns-in-Ok : goal.returns-in-Ok
unfolding laid_number laid_record
returns-in-Ok c = rw c.in-Ok.is (refl, refl)

pub returns-in-Err : goal.returns-in-Err
unfolding laid_number laid_record
returns-in-Err c = rw c.in-Err.is (c.number.ensures, refl)
