use Rattle.std.proofs.Common.{◌≡◌, arith, rules}
use Rattle.placer.specs.Implementation.Lent.{placer_of}
use Rattle.sheet.proofs.WalkedPasses.{run-answers}
use Rattle.sheet.proofs.passing.go_on.Goals as goal

pub overflow_add-heading : goal.overflow_add-heading
overflow_add-heading c = omega (arith, c.requires.room.few)

pub overflow_sub-heading : goal.overflow_sub-heading
overflow_sub-heading c = omega (arith, c.requires.room.few)

pub run-r-requires : goal.run-r-requires
run-r-requires c =
    let q = c.args.placer in
    let r = c.requires.room in
    let e : placer_of c.settings-b.result c.state.result q.grid.prev_state.col_widths q.grid.prev_state.row_heights q.grid.curr_state.col_widths q.grid.curr_state.row_heights ≡ q = rw (c.state.ensures, c.settings-b.ensures) in
    record { ready = record { none = rw e c.requires.placer_value; cols = search rules; rows = search rules }; from_in_bounds = (r.begins, omega (arith, r.few)); only_steps = (r.only, r.fits, r.cached) }

pub returns : goal.returns
returns c =
    let w = c.run-r.ensures in
    let e = rw (c.state.ensures, c.settings-b.ensures) at w.2 in
    run-answers _ _ _ _ _ _ _ _ _ _ e (c.finish.ensures w.0 _ w.1)
