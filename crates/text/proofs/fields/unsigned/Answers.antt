use Rattle.std.proofs.Common.{sym, ◌∙◌, arith, length-drop, length-take, eqb-true, false-eqb}
use Rattle.text.proofs.ScanTurns.{no-digits, zero-alone, zero-first, digits-first}
use Rattle.text.proofs.fields.unsigned.Goals as goal

pub returns-in-empty-clause-value : goal.returns-in-empty-clause-value
returns-in-empty-clause-value c = no-digits c.args.digits.now (omega arith)

pub returns-then-is_empty-clause-value : goal.returns-then-is_empty-clause-value
returns-then-is_empty-clause-value c =
    let h = eqb-true _ _ (sym c.is_empty.ensures ∙ c.if-is_empty.true) in
    zero-alone c.args.digits.now (omega arith) (omega (arith, simp (length-take, length-drop) at h)) (omega arith)

pub returns-else-is_empty-clause-value : goal.returns-else-is_empty-clause-value
returns-else-is_empty-clause-value c =
    let h = false-eqb _ _ (sym c.if-is_empty.false ∙ c.is_empty.ensures) in
    zero-first c.args.digits.now (omega (arith, simp (length-take, length-drop) at h)) (omega arith)

pub returns-in_default-clause-value : goal.returns-in_default-clause-value
returns-in_default-clause-value c = digits-first c.args.digits.now _ (omega arith) (λ e. omega arith) c.value.ensures.value
