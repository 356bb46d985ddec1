use Rattle.embed.proofs.Exported.{settled-plate, plate-whole, exported-is}
use Rattle.embed.proofs.platelist_settle.Goals as goal

pub put_passed-requires : goal.put_passed-requires
put_passed-requires c = plate-whole _ _ _ c.settle-p.ensures (settled-plate _ _)

pub returns : goal.returns
returns c =
    let q = c.put_passed.ensures in
    exported-is _ _ _ c.settle-p.ensures _ _ _ _ q.0.0 q.0.1 q.1.0 q.1.1
