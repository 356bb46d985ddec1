use Rattle.std.proofs.Common.{◌≡◌, to_z, of_z, w32, rules}
use Rattle.records.specs.Parts.{measured}
use Rattle.records.proofs.Lengths.{few-ticks, size_is}
use Rattle.records.proofs.parts.size.Goals as goal

pub in_steps-requires : goal.in_steps-requires
in_steps-requires c =
    let e : to_z w32 (of_z w32 c.in-Number.z) ≡ c.in-Number.z = search rules in
    rw e (few-ticks _ _ _ c.read_field.ensures _ c.in-Number.is)

pub points-requires : goal.points-requires
points-requires c =
    let f : to_z w32 (of_z w32 c.in_steps.result) ≡ c.in_steps.result = search rules in
    rw f c.in_steps.ensures.1

pub returns-in-Blank : goal.returns-in-Blank
unfolding measured
returns-in-Blank c = size_is _ _ _ c.read_field.ensures _ _ c.in-Blank.is

pub returns-in-Number : goal.returns-in-Number
unfolding measured
returns-in-Number c =
    let e : to_z w32 (of_z w32 c.in-Number.z) ≡ c.in-Number.z = search rules in
    let f : to_z w32 (of_z w32 c.in_steps.result) ≡ c.in_steps.result = search rules in
    rw (c.points.ensures, f, c.in_steps.ensures.0, e) (size_is _ _ _ c.read_field.ensures _ _ c.in-Number.is)

pub returns-in-Wrong : goal.returns-in-Wrong
unfolding measured
returns-in-Wrong c = size_is _ _ _ c.read_field.ensures _ _ c.in-Wrong.is
