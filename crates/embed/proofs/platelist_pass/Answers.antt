use mathlib.Core.Path.{ap}
use Rattle.sheet.specs.Slices.{Passed}
use Rattle.embed.proofs.Exported.{laid-plate, plate-whole, exported-is, with-save}
use Rattle.embed.proofs.platelist_pass.Goals as goal

pub put_passed-requires : goal.put_passed-requires
put_passed-requires c = plate-whole _ _ _ c.pass-p.ensures (laid-plate _ _ _ _ _)

pub returns : goal.returns
returns c =
    let s = rw c.memory_of-memory.ensures at c.pass-p.ensures in
    let q = c.put_passed.ensures in
    with-save _ _ _ _ (exported-is _ _ _ s _ _ _ _ q.0.0 q.0.1 q.1.0 q.1.1) (ap (λ (p : Passed). p.save) s.answer)
