use Rattle.std.proofs.Common.{◌≡◌, ◌^◌, ◌<◌, drop}
use Rattle.text.specs.Implementation.Scanning.{value_from}
use Rattle.text.proofs.fields.value.Given as goal

abbrev pub invariant-loop-b : goal.invariant-loop-b
invariant-loop-b l = record { few : l.n < 10 ^ l.b-index; rest : value_from l.n (drop l.b-index l.digits) ≡ value_from 0 l.digits }
