use Rattle.std.specs.Float.Ieee.{of_bits}
use Rattle.records.specs.Parts.{maximum_value}
use Rattle.records.proofs.parts.maximum_value.Goals as goal

pub returns-in-Blank : goal.returns-in-Blank
unfolding maximum_value of_bits
returns-in-Blank c = rw (c.in-Blank.is)
