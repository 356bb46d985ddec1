use Rattle.sheet.specs.Implementation.Calls.{step_result}
use Rattle.sheet.proofs.steps.run_step.Goals as goal

pub place-requires : goal.place-requires
place-requires c = c.requires

pub returns-in-Widget : goal.returns-in-Widget
unfolding step_result
returns-in-Widget c = rw c.in-Widget.is c.place.ensures

pub returns-in-Space : goal.returns-in-Space
unfolding step_result
returns-in-Space c = rw (c.in-Space.is, ← c.advance_cursor.ensures _ _ _ _ c.requires.none) (c.called.ensures c.args.placer c.args.state _ _ _ _)

pub returns-in-RowHeight : goal.returns-in-RowHeight
unfolding step_result
returns-in-RowHeight c = rw (c.in-RowHeight.is, ← c.set_row_height.ensures _ _ _ _ c.requires.none) (c.called-in-RowHeight.ensures c.args.placer c.args.state _ _ _ _)

pub returns-in-MaxWidth : goal.returns-in-MaxWidth
unfolding step_result
returns-in-MaxWidth c = rw (c.in-MaxWidth.is, ← c.set_max_width.ensures _ _ _ _ c.requires.none) (c.called-in-MaxWidth.ensures c.args.placer c.args.state _ _ _ _)

pub returns-in-MaxHeight : goal.returns-in-MaxHeight
unfolding step_result
returns-in-MaxHeight c = rw (c.in-MaxHeight.is, ← c.set_max_height.ensures _ _ _ _ c.requires.none) (c.called-in-MaxHeight.ensures c.args.placer c.args.state _ _ _ _)

pub returns-in-MinWidth : goal.returns-in-MinWidth
unfolding step_result
returns-in-MinWidth c = rw (c.in-MinWidth.is, ← c.set_min_width.ensures _ _ _ _ c.requires.none) (c.called-in-MinWidth.ensures c.args.placer c.args.state _ _ _ _)

pub returns-in-MinHeight : goal.returns-in-MinHeight
unfolding step_result
returns-in-MinHeight c = rw (c.in-MinHeight.is, ← c.set_min_height.ensures _ _ _ _ c.requires.none) (c.called-in-MinHeight.ensures c.args.placer c.args.state _ _ _ _)

pub returns-in-RowEnd : goal.returns-in-RowEnd
unfolding step_result
returns-in-RowEnd c = rw (c.in-RowEnd.is, ← c.end_row.ensures _ _ _ c.requires.none) (c.called-in-RowEnd.ensures c.args.placer c.args.state _ _ _ _)
