-- RULES 10.3: a strip's layout, the word of the laws in proofs/Strips.antt.
use Rattle.std.specs.Prelude.{false}
use Rattle.emath.specs.declared.Align.{Align}
use Rattle.emath.specs.declared.Align.TheVariants.{Min}
use Rattle.region.specs.declared.Direction.TheVariants.{LeftToRight}
use Rattle.layout.specs.declared.Layout.{Layout}

-- RULES 10.3: a row from left to right that does not wrap, nothing justified, aligned at the top; the main align is any
abbrev pub strip : Align → Layout
strip a = record { main_dir = LeftToRight; main_wrap = false; main_align = a; main_justify = false; cross_align = Min; cross_justify = false }
