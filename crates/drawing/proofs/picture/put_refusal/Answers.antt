use Rattle.drawing.specs.Pictures.{refusal}
use Rattle.drawing.proofs.Pens.{after}
use Rattle.drawing.proofs.picture.put_refusal.Goals as goal

pub returns : goal.returns
unfolding refusal
returns c = rw (← c.refusal_number.ensures, ← c.reason.ensures) (after c.put_head.ensures (after c.put_filled.ensures (after c.put_words.ensures c.put_words-2.ensures)))
