-- The first fault of a heading, test by test. Assumes nothing.
use Rattle.std.proofs.Common.{ℕ, ◌≡◌, sym, List, Bool, true, false, cond}
use Rattle.records.specs.Records.{heading_fits}
use Rattle.records.specs.Headings.{heading_in, unit_fits, options_fit, heading_fault}

pub no-heading : (s : List ℕ) (b : Bool) → b ≡ heading_fits s → b ≡ false → 1 ≡ heading_fault s
unfolding heading_fault
no-heading s b e h = rw (← e, h)

module _ (s : List ℕ) (b c : Bool) (e : b ≡ heading_fits s) (h : b ≡ true) (f : c ≡ unit_fits s) where
  pub no-unit : c ≡ false → 2 ≡ heading_fault s
  unfolding heading_fault
  no-unit z = rw (← e, h, ← f, z)

  module _ (i : c ≡ true) (d : Bool) (g : d ≡ options_fit s) where
    by-options : heading_fault s ≡ cond d 0 (heading_in s).records
    unfolding heading_fault
    by-options = rw (← e, h, ← f, i, ← g)

    pub no-options : d ≡ false → (heading_in s).records ≡ heading_fault s
    no-options z = rw z at (sym by-options)

    pub all_fit : d ≡ true → 0 ≡ heading_fault s
    all_fit z = rw z at (sym by-options)
