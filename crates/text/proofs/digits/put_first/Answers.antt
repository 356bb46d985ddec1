use Rattle.std.proofs.Common.{ℕ, ◌-◌, List, ap, sym, ◌∙◌}
use Rattle.text.proofs.Writing.{one-first, two-first}
use Rattle.text.proofs.digits.put_first.Goals as goal

pub returns-then-n-lt10 : goal.returns-then-n-lt10
returns-then-n-lt10 c = sym (one-first _ _ _ c.if-n-lt10.true)

pub returns-else-n-lt10 : goal.returns-else-n-lt10
returns-else-n-lt10 c =
    let a = c.args in
    ap (λ (o : List ℕ). (a.end - 2, o)) c.put_pair.ensures ∙ sym (two-first a.out.now a.end a.n c.if-n-lt10.false)
