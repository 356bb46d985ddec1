-- For the contracts of src/writing.rt and what draws with it: what a pen has written.
use Rattle.std.specs.Prelude.{ℕ, ◌≡◌, List}
use Rattle.drawing.specs.Pieces.{Put, emits}
use Rattle.drawing.specs.declared.writing.Pen.{Pen}

abbrev pub put : Pen → Put
put p = record { at = p.at; out = p.out.now }

-- the pieces follow what was written, in the same slice
pub record Writes (xs : List (List ℕ)) (p q : Pen) : Type 0 where
  pub same_slice : q.out.ghost_name ≡ p.out.ghost_name
  pub pieces : put q ≡ emits xs (put p)
