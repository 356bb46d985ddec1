use Rattle.std.proofs.Common.{ap, List, ℕ, drop, ◌++◌}
use native.Mathlib.Omega.{arith}
use Rattle.embed.proofs.Copied.{copied}
use Rattle.embed.proofs.exports.copy_whole.Goals as goal

pub returns-then-n-out : goal.returns-then-n-out
returns-then-n-out c =
    let a = c.args in
    copied a.n a.from.now a.out.now _ (omega arith) c.if-n-out.true (ap (λ (l : List ℕ). l ++ drop a.n a.out.now) c.copy_from_slice.ensures.after)
