-- RULES 6.24, 6.25: the unit of a W's fields, and hundredths of a millimetre in steps of 1 / 2 ^ k point.
use Rattle.std.specs.Prelude.{ℕ, suc, ◌+◌, ◌*◌, ◌/◌, ◌^◌, ℤ, pos, negsuc, neg_ℤ}
use Rattle.records.specs.declared.SizeUnit.{SizeUnit}
use Rattle.records.specs.declared.SizeUnit.TheVariants.{Steps, Hundredths}

-- ---- RULES 6.25: hundredths of a millimetre
-- 635 of them are a quarter of an inch, which is 18 points: so many steps
abbrev pub quarter_inch : ℕ → ℕ
quarter_inch k = 18 * 2 ^ k

-- the nearest whole number to a / 635
unfoldable pub nearest : ℕ → ℕ
nearest a = (a + 317) / 635

-- z of them in steps; below zero as above it, with the sign
unfoldable pub from_hundredths : ℕ → ℤ → ℤ
from_hundredths k (pos n) = pos (nearest (quarter_inch k * n))
from_hundredths k (negsuc n) = neg_ℤ (pos (nearest (quarter_inch k * suc n)))

-- ---- RULES 6.24: what the field of a W says, in steps
unfoldable pub in_steps : ℕ → SizeUnit → ℤ → ℤ
in_steps k Steps z = z
in_steps k Hundredths z = from_hundredths k z
