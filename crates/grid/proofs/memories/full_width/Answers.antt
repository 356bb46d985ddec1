use Rattle.std.proofs.Common.{◌≡◌, ◌≤◌, length, take, length-take, arith, rules}
use Rattle.grid.specs.Memories.{full_width}
use Rattle.grid.proofs.Counts.{float-count}
use Rattle.grid.proofs.memories.full_width.Goals as goal

pub int_to_float-result : goal.int_to_float-result
int_to_float-result c =
    let room : length c.args.memory.col_widths ≡ 32 = search rules in
    let few : length (take c.args.memory.cols c.args.memory.col_widths) ≤ 32 = simp length-take (omega arith) in
    rw (c.saturating_sub.ensures, c.counted-widths.ensures) (float-count _ (omega arith))

pub returns : goal.returns
unfolding full_width
returns c = rw (c.total_of.ensures, c.saturating_sub.ensures, c.counted-widths.ensures)
