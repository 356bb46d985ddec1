use Rattle.text.proofs.Signs.{Same}
use Rattle.std.proofs.Common.{rules}
use Rattle.drawing.proofs.Pieces.{text-over}
use Rattle.drawing.proofs.writing.Pen.put_plain.Goals as goal

pub returns : goal.returns
returns c = let e : Same c.args.z = search rules in rw (text-over _ _ _ c.requires (rw e at c.write_field.ensures)) at c.put_inked.ensures
