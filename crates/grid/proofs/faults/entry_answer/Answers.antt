use Rattle.grid.specs.Refusals.{entry_answer}
use Rattle.grid.proofs.faults.entry_answer.Goals as goal

pub returns : goal.returns
unfolding entry_answer
returns c = rw (c.answer_by_number.ensures, c.then_some.ensures)
