use Rattle.std.proofs.Common.{◌≡◌, ◌+◌, ◌*◌, true, drop}
use Rattle.std.proofs.lemmas.List.Edits.{sets}
use Rattle.text.specs.Lines.{have_texts, texts}
use Rattle.text.proofs.lines.put_texts.Given as goal

abbrev pub invariant-loop-i : goal.invariant-loop-i
invariant-loop-i l = record {
  have : have_texts (drop l.i l.numbers) ≡ true;
  rest : sets l.out (l.at + 8 * l.i) (texts (drop l.i l.numbers)) ≡ sets l.initial.out l.at (texts l.numbers);
}
