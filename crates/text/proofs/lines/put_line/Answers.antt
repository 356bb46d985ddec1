use Rattle.text.proofs.LineTexts.{line-put}
use Rattle.text.proofs.lines.put_line.Goals as goal

pub returns : goal.returns
returns c = line-put _ _ _ _ _ c.put_texts.ensures
