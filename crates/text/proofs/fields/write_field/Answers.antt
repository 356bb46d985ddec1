use Rattle.std.proofs.Common.{ℤ, arith, ap, sym, ◌∙◌, to_z-of_z}
use Rattle.text.proofs.Outcomes.{no_room_lem, no_text, put-there}
use Rattle.text.proofs.Signs.{has-text-small}
use Rattle.std.proofs.lemmas.List.Edits.{sets}
use Rattle.text.specs.Fields.{has_text, text}
use Rattle.text.proofs.fields.write_field.Goals as goal
use Rattle.text.proofs.fields.write_field.Goals.{then-out-lt8-via-then-out-lt8, then-out-lt8-via-else-out-lt8+then-out-at, then-out-lt8-via-else-out-lt8+else-out-at+then-not-has_text}

pub returns-then-out-lt8 : goal.returns-then-out-lt8
returns-then-out-lt8 c =
    elim c.then-out-lt8.branch [
      | then-out-lt8-via-then-out-lt8 w ↦ no_room_lem _ _ _ (omega arith)
      | then-out-lt8-via-else-out-lt8+then-out-at w ↦ no_room_lem _ _ _ (omega arith)
      | then-out-lt8-via-else-out-lt8+else-out-at+then-not-has_text w ↦ no_text _ _ _ (omega arith) (sym (ap has_text (to_z-of_z c.ranges.z)) ∙ sym w.has_text.ensures ∙ w.if-not-has_text.true)
    ]

pub put_signed-requires : goal.put_signed-requires
put_signed-requires c = (omega arith, has-text-small _ (sym c.has_text.ensures ∙ c.if-not-has_text.false))

pub returns : goal.returns
returns c =
    let e = to_z-of_z c.ranges.z in
    put-there _ _ _ _ (omega arith) (sym (ap has_text e) ∙ sym c.has_text.ensures ∙ c.if-not-has_text.false) (c.put_signed.ensures ∙ ap (λ (z : ℤ). sets c.args.out.now c.args.at (text z)) e)
