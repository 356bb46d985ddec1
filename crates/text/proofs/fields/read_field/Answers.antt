use Rattle.std.proofs.Common.{◌≡◌, ap, ◌∙◌, take, drop, arith, length-drop, take_all}
use Rattle.text.specs.Fields.{field}
use Rattle.text.proofs.Outcomes.{few, found}
use Rattle.text.proofs.fields.read_field.Goals as goal

pub returns-in_default : goal.returns-in_default
returns-in_default c = few _ _ _ (grind (arith, c.in_default.ensures.lookup))

pub returns-in-None : goal.returns-in-None
returns-in-None c = few _ _ _ (omega (arith, c.in-None.ensures.cases, c.in-Some.ensures.lookup.0))

pub returns-in-Some-first_chunk : goal.returns-in-Some-first_chunk
returns-in-Some-first_chunk c =
    let text = c.args.text.now in
    let rest = c.in-Some.ensures.lookup in
    let chunk = c.in-Some-first_chunk.ensures.cases in
    let e : c.in-Some.rest.now ≡ drop c.args.at text = rest.0.2 ∙ take_all _ _ (simp length-drop (omega arith)) in
    found _ _ _ _ (omega (arith, chunk.enough, rest.0.3)) (c.read_columns.ensures ∙ ap (field c.args.limit) (chunk.same ∙ ap (take 8) e))
