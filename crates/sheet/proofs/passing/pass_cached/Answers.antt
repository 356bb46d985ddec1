use Rattle.sheet.proofs.WalkedPasses.{as_called}
use Rattle.sheet.proofs.passing.pass_cached.Goals as goal

pub from_heading-requires : goal.from_heading-requires
from_heading-requires c = rw c.read_heading.ensures.0 c.requires.ready

pub returns : goal.returns
returns c = as_called _ _ _ _ _ _ _ _ _ _ c.requires.accepted c.read_heading.ensures.0 c.from_heading.ensures
