-- For the contracts of src/lines.rt and src/printing.rt: what a pen has written.
use Rattle.std.specs.Prelude.{◌≡◌}
use Rattle.listing.specs.Implementation.ListWriter.{Put}
use Rattle.listing.specs.declared.lines.Pen.{Pen}

abbrev pub put : Pen → Put
put p = record { at = p.at; out = p.out.now }

-- the lines follow what was written, in the same slice
pub record Writes (lines : Put → Put) (p q : Pen) : Type 0 where
  pub same_slice : q.out.ghost_name ≡ p.out.ghost_name
  pub written : put q ≡ lines (put p)
