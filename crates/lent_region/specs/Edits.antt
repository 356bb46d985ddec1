-- RULES 2.27: the two calls one after the other: what each answers, the second of the first's region.
use Rattle.std.specs.Prelude.{Float}
use Rattle.emath.specs.Refusals.{numbered, answer_number}
use Rattle.emath.specs.declared.Vec2.{Vec2}
use Rattle.layout.specs.declared.Layout.{Layout}
use Rattle.region.specs.declared.Region.{Region}
use Rattle.region.specs.declared.RegionAnswer.{RegionAnswer}
use Rattle.layout.specs.Operations.{checked_advance_cursor, checked_end_row}
use Rattle.lent_region.specs.declared.Outcome.{Outcome}
use Rattle.lent_region.specs.declared.Edited.{Edited}

-- RULES 2.27: what each answers
pub record EditedAnswer : Type 0 where
  pub advanced : RegionAnswer
  pub ended : RegionAnswer

-- RULES 2.27: advance_cursor, then end_row
unfoldable pub edited : Layout → Region → Float → Vec2 → EditedAnswer
edited l g amount spacing = record {
  advanced = checked_advance_cursor l g amount;
  ended = checked_end_row l (checked_advance_cursor l g amount).region spacing;
}

-- RULES 2.27, 8.1, 8.4: what an answer says with the region as it was left, …
abbrev pub edit_outcome : Outcome → RegionAnswer
edit_outcome o = record { number = answer_number (numbered o.answer); region = o.region }

-- RULES 2.27: … and the two of them
abbrev pub edited_outcome : Edited → EditedAnswer
edited_outcome e = record { advanced = edit_outcome e.advanced; ended = edit_outcome e.ended }
