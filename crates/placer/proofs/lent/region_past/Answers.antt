use Rattle.placer.specs.Implementation.Lent.{placer_of}
use Rattle.placer.proofs.Parts.{region-past}
use Rattle.placer.proofs.lent.region_past.Goals as goal

-- the cursor is no part of it
pub expand_with_rect-requires : goal.expand_with_rect-requires
expand_with_rect-requires c = rw c.with_cursor.ensures c.requires

pub returns : goal.returns
returns c ph ws hs = let a = c.args in rw (c.expand_with_rect.ensures, c.with_cursor.ensures, c.cursor_past-c.ensures ph ws hs) (region-past (placer_of a.placer a.state a.prev_widths.now ph ws hs) a.frame_rect a.widget_rect a.item_spacing)
