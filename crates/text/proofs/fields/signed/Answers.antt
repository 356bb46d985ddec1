use Rattle.std.proofs.Common.{◌≡◌, ◌-◌, length, take, drop, ap, ◌∙◌, arith, length-drop, take_all}
use Rattle.text.specs.Implementation.Scanning.{unsigned, plus, minus}
use Rattle.text.proofs.ScanTurns.{minus-first, no_columns, no_minus}
use Rattle.text.proofs.fields.signed.Goals as goal

pub returns-in-empty : goal.returns-in-empty
returns-in-empty c = no_columns _ _ (omega arith)

pub returns-in-45 : goal.returns-in-45
returns-in-45 c =
    let f = c.args.f.now in
    let e : take (length f - 1) (drop 1 f) ≡ drop 1 f = take_all _ _ (simp length-drop (omega arith)) in
    c.minus.ensures ∙ ap (minus c.args.limit) (c.unsigned.ensures.value ∙ ap unsigned e) ∙ minus-first f c.args.limit (omega arith) (omega arith)

pub returns-in_default : goal.returns-in_default
returns-in_default c =
    c.plus.ensures ∙ ap (plus c.args.limit) c.unsigned-in_default.ensures.value ∙ no_minus _ _ (omega arith) (λ e. omega arith)
