-- For speed: the check caches the size of each W by its record's number, so that the fields of a W are read once.
use Rattle.std.specs.Prelude.{ℕ, zero, suc, ◌+◌, ◌≡◌, List, [], ◌∷◌, cond, eqb, get_or, set, drop, Float}
use Rattle.std.specs.Float.{nan}
use Rattle.text.specs.Letters as letters
use Rattle.records.specs.declared.Step.{Step}
use Rattle.records.specs.declared.Step.TheVariants.{Widget, Space, RowHeight, MaxWidth, MaxHeight, MinWidth, MinHeight, RowEnd}
use Rattle.records.specs.Records.{Record}
use Rattle.std.specs.Prelude.{Some as Steps, None as Wrong}
use Rattle.records.specs.declared.SizeUnit.{SizeUnit}
use Rattle.records.specs.Parts.{letter}
use Rattle.records.specs.Records.{record_of, rest}
use Rattle.records.specs.Headings.{heading_in, heading_fault}
use Rattle.records.specs.Sheets.{steps_left, records}

-- record n's width is in place n and its height in place 513 + n, where it is a W
unfoldable pub stored_step : List Float → ℕ → Step → List Float
stored_step ss n (Widget x y) = set (set ss n x) (513 + n) y
stored_step ss n (Space x) = ss
stored_step ss n (RowHeight x) = ss
stored_step ss n (MaxWidth x) = ss
stored_step ss n (MaxHeight x) = ss
stored_step ss n (MinWidth x) = ss
stored_step ss n (MinHeight x) = ss
stored_step ss n RowEnd = ss

-- of a record that may be no step
unfoldable pub stored : List Float → ℕ → Record → List Float
stored ss n (Steps st) = stored_step ss n st
stored ss n Wrong = ss

-- the array after these records, the first of them record n: every W before one that is no step is in its places
unfoldable pub cached_from : ℕ → List Record → List Float → List Float
cached_from n [] ss = ss
cached_from n (Steps st ∷ rs) ss = cached_from (n + 1) rs (stored_step ss n st)
cached_from n (Wrong ∷ rs) ss = ss

-- the array as the check of a text leaves it, accepted or not; with a malformed heading nothing is stored
unfoldable pub cached_by : List ℕ → List Float → List Float
cached_by s ss = cond (eqb (heading_fault s) 0) (cached_from ((heading_in s).records + 1) (records s) ss) ss

-- where record n, at the front of the text, is a W, its places hold its size
abbrev pub IsCached : SizeUnit → List ℕ → List Float → ℕ → Type 0
IsCached u s ss n = letter s ≡ letters.W → record_of u s ≡ Steps (Widget (get_or ss n nan) (get_or ss (513 + n) nan))

-- the same of each of at most `left` records from there on
unfoldable pub AreCached : SizeUnit → ℕ → List ℕ → List Float → ℕ → Type 0
AreCached u zero s ss n = Unit {0}
AreCached u (suc left) [] ss n = Unit {0}
AreCached u (suc left) (b ∷ s) ss n = IsCached u (b ∷ s) ss n × AreCached u left (rest (b ∷ s)) ss (n + 1)

-- the same of each record of a text after its heading
abbrev pub CachedIn : List ℕ → List Float → Type 0
CachedIn s ss = AreCached (heading_in s).unit (steps_left s) (drop (heading_in s).next s) ss ((heading_in s).records + 1)
