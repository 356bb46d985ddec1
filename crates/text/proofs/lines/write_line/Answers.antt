use Rattle.std.proofs.Common.{sym, ◌∙◌, arith}
use Rattle.text.proofs.LineTexts.{no-room-for-line, no-texts, line-there, all-have}
use Rattle.text.proofs.lines.write_line.Goals as goal
use Rattle.text.proofs.lines.write_line.Goals.{then-m-lt2-via-then-m-lt2, then-m-lt2-via-else-m-lt2+then-m-at, then-m-lt2-via-else-m-lt2+else-m-at+then-m-at-2, then-m-lt2-via-else-m-lt2+else-m-at+else-m-at-2+then-not-have_texts}

pub returns-then-m-lt2 : goal.returns-then-m-lt2
returns-then-m-lt2 c =
    let zs = c.args.numbers.now in
    elim c.then-m-lt2.branch [
      | then-m-lt2-via-then-m-lt2 w ↦ no-room-for-line _ _ _ zs (omega arith)
      | then-m-lt2-via-else-m-lt2+then-m-at w ↦ no-room-for-line _ _ _ zs (omega arith)
      | then-m-lt2-via-else-m-lt2+else-m-at+then-m-at-2 w ↦ no-room-for-line _ _ _ zs (omega arith)
      | then-m-lt2-via-else-m-lt2+else-m-at+else-m-at-2+then-not-have_texts w ↦ no-texts _ _ _ zs (omega arith) (sym (all-have zs) ∙ sym w.have_texts.ensures ∙ w.if-not-have_texts.true)
    ]

pub put_line-requires-clause-numbers_value : goal.put_line-requires-clause-numbers_value
put_line-requires-clause-numbers_value c = sym (all-have c.args.numbers.now) ∙ sym c.have_texts.ensures ∙ c.if-not-have_texts.false

pub returns : goal.returns
returns c = line-there _ _ _ c.args.numbers.now _ (omega arith) (sym (all-have c.args.numbers.now) ∙ sym c.have_texts.ensures ∙ c.if-not-have_texts.false) c.put_line.ensures
