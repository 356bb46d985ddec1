use Rattle.std.proofs.Common.{◌≡◌, ◌-◌, take, drop, ap, sym, ◌∙◌, arith, length-drop, take_all}
use Rattle.text.specs.Implementation.Scanning.{signed}
use Rattle.text.proofs.ScanTurns.{scan-begin, from-begin}
use Rattle.text.proofs.Scanned.{scanned}
use Rattle.text.proofs.fields.read_long.Goals as goal

pub returns-in-Some : goal.returns-in-Some
returns-in-Some c =
    let f = c.args.f.now in
    let i = c.in-Some.i in
    let e : take (8 - i) (drop i f) ≡ drop i f = take_all _ _ (simp length-drop (omega arith)) in
    c.signed.ensures ∙ ap (signed c.args.limit) e ∙ ap (from-begin c.args.limit f) (sym c.in-Some.is ∙ c.begin.ensures) ∙ scan-begin c.args.limit f ∙ scanned c.args.limit f (omega arith)

pub returns-in-None : goal.returns-in-None
returns-in-None c =
    let f = c.args.f.now in
    ap (from-begin c.args.limit f) (sym c.in-None.is ∙ c.begin.ensures) ∙ scan-begin c.args.limit f ∙ scanned c.args.limit f (omega arith)
