use Rattle.std.proofs.Common.{sym, ◌∙◌}
use Rattle.records.specs.Records.{record_at}
use Rattle.records.proofs.Places.{letter_at}
use Rattle.records.proofs.size_cache.cached_record.Goals as goal

pub returns-then-byte-eq87 : goal.returns-then-byte-eq87
unfolding record_at
returns-then-byte-eq87 c = sym (c.requires.cached (letter_at c.args.text.now c.args.at ∙ sym c.byte.ensures ∙ c.if-byte-eq87.true))
