-- A run over a text in the loop's order: from the front of the text on, record by record.
use Prim.Native.Nat.{ℕ, zero, suc, ◌+◌}
use mathlib.Core.Bool.{cond}
use mathlib.Core.List.{List, [], ◌∷◌}
use lib.IntN.{ℤ}
use lib.Dec.{eqb}
use Rattle.emath.specs.declared.Rect.{Rect}
use Rattle.emath.specs.declared.Vec2.{Vec2}
use Rattle.placer.specs.declared.Placer.{Placer}
use Rattle.records.specs.declared.SizeUnit.{SizeUnit}
use Rattle.records.specs.Records.{record_of, rest}
use Rattle.sheet.specs.Implementation.Calls.{record_result}
use Rattle.sheet.specs.Implementation.Walks.{put_at, plate_with, Run}

pub record Walk : Type 0 where
  pub run : Run
  pub slice : List ℤ

abbrev pub done : Placer → List ℤ → Rect → Walk
done p out plate = record { run = record { number = 0; at = 0; placer = p; plate = plate }; slice = out }

-- record n is at the front of the text, w W with this plate came before it, and there may be so many records more
unfoldable pub walked : SizeUnit → ℕ → Vec2 → ℕ → Placer → List ℕ → List ℤ → ℕ → Rect → Walk
walked u zero sp n p s out w plate = done p out plate
walked u (suc left) sp n p [] out w plate = done p out plate
walked u (suc left) sp n p (b ∷ s) out w plate =
    let m = record_result p sp (record_of u (b ∷ s)) in
    cond (eqb m.number 0)
    (walked u left sp (n + 1) m.placer (rest (b ∷ s)) (put_at out w m.placed m.frame m.widget) (w + m.placed) (plate_with plate w m.placed m.frame))
    (record { run = record { number = m.number; at = n; placer = m.placer; plate = plate }; slice = out })
