use Rattle.std.proofs.Common.{◌≡◌, ◌-◌, ◌*◌, ◌/◌, ◌%◌, arith}
use Rattle.text.specs.Implementation.Writing.{pair_put}
use Rattle.text.proofs.digits.put_pair.Goals as goal

pub returns : goal.returns
unfolding pair_put
returns c =
    let n = c.args.n in
    let e : n - n / 10 * 10 ≡ n % 10 = omega arith in
    rw e
