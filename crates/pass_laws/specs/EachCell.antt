-- RULES 8.14: something that is said of the cells of a pass, one by one.
use Rattle.std.specs.Prelude.{List, [], ◌∷◌}
use Rattle.sheet.specs.Pass.{Cell}

-- RULES 8.14: P holds of each
pub data EachCell (P : Cell → Type 0) : List Cell → Type 0 where
  none : EachCell P []
  more : {c : Cell} {cs : List Cell} → P c → EachCell P cs → EachCell P (c ∷ cs)
