use Rattle.emath.proofs.Shifted.{all_back}
use Rattle.emath.proofs.Rect.is_in_ticks.Goals as goal

pub returns : goal.returns
returns c h = all_back _ _ _ _ _ c.is_in_ticks.ensures c.is_in_ticks-2.ensures c.is_in_ticks-3.ensures c.is_in_ticks-4.ensures h
