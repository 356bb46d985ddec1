use Rattle.std.proofs.Common.{sym, ◌∙◌, arith, eqb-true}
use Rattle.text.proofs.ShortReads.{four-skipped}
use Rattle.text.proofs.short.four_spaces.Goals as goal

pub returns : goal.returns
returns c e = four-skipped c.args.f.now (omega arith) c.fits-f (sym c.from_le_bytes.ensures ∙ eqb-true _ _ e ∙ c.from_le_bytes-2.ensures)
