use Rattle.std.proofs.Common.{◌≡◌, ◌+◌, ◌*◌, ℕ, pos, ℤ, get_or, drop, ap, ◌∙◌, arith, to_z, of_z, w32, rules}
use Rattle.std.proofs.lemmas.List.Edits.{sets}
use Rattle.text.specs.Fields.{text}
use Rattle.text.specs.Lines.{texts}
use Rattle.text.proofs.LineTexts.{have-this, have-rest, put-more, put-none}
use Rattle.text.proofs.Signs.{has-text-small}
use Rattle.text.proofs.lines.put_texts.Goals as goal

pub put_signed-requires : goal.put_signed-requires
put_signed-requires c =
    let zs = c.args.numbers.now in
    let i = c.loop-i.i in
    let e : to_z w32 (of_z w32 (get_or zs i (pos 0))) ≡ get_or zs i (pos 0) = search rules in
    (omega arith, rw e (has-text-small (get_or zs i (pos 0)) (have-this zs i c.loop-i-test.true c.loop-i.invariant.have)))

pub loop-i-preserved : goal.loop-i-preserved
loop-i-preserved c =
    let zs = c.args.numbers.now in
    let i = c.loop-i.i in
    let inv = c.loop-i.invariant in
    let more = c.loop-i-test.true in
    let e : to_z w32 (of_z w32 (get_or zs i (pos 0))) ≡ get_or zs i (pos 0) = search rules in
    let q : c.args.at + 8 * (i + 1) ≡ c.args.at + 8 * i + 8 = omega arith in
    record {
      have = have-rest zs i more inv.have;
      rest = ap (λ (k : ℕ). sets c.put_signed.new.out k (texts (drop (i + 1) zs))) q
          ∙ put-more zs i more inv.have c.loop-i.out _ _ _ inv.rest (c.put_signed.ensures ∙ ap (λ (z : ℤ). sets c.loop-i.out (c.args.at + 8 * i) (text z)) e);
    }

pub returns : goal.returns
returns c = put-none c.args.numbers.now c.loop-i.i _ _ _ c.loop-i-test.false c.loop-i.invariant.rest
