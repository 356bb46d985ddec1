use Rattle.std.proofs.Common.{◌∙◌, arith}
use Rattle.text.proofs.Scanned.{scanned}
use Rattle.text.proofs.ShortReads.{short-read}
use Rattle.text.proofs.fields.read_columns.Goals as goal

pub returns-in_default : goal.returns-in_default
returns-in_default c =
    let f = c.args.f.now in
    c.plus.ensures ∙ short-read f c.args.limit _ c.in_default.not-None c.short_number.ensures ∙ scanned c.args.limit f (omega arith)
