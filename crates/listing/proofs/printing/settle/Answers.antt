use Rattle.std.proofs.Common.{refl}
use Rattle.listing.proofs.Settled.{again, known-again, once, laid-ok}
use Rattle.listing.proofs.printing.settle.Goals as goal

pub pass_cached-requires : goal.pass_cached-requires
pass_cached-requires c = let s = rw c.empty_memory-none.ensures at c.pass_caching-first.ensures in rw s.1 (known-again _ _ _ _ s.0 _ refl c.pass_caching-first.auto.out (rw (c.is_ok.ensures.value, ← laid-ok c.pass_caching-first.result.laid, c.has_grid.ensures) at c.if-is_ok-has_grid.true))

pub returns-then-is_ok-has_grid : goal.returns-then-is_ok-has_grid
returns-then-is_ok-has_grid c = let s = rw c.empty_memory-none.ensures at c.pass_caching-first.ensures in let d = c.pass_cached.ensures in again _ _ _ _ s.0 _ _ d (rw (c.is_ok.ensures.value, ← laid-ok c.pass_caching-first.result.laid, c.has_grid.ensures) at c.if-is_ok-has_grid.true)

pub returns : goal.returns
returns c = let s = rw c.empty_memory-none.ensures at c.pass_caching-first.ensures in once _ _ _ _ s.0 (rw (c.is_ok.ensures.value, ← laid-ok c.pass_caching-first.result.laid, c.has_grid.ensures) at c.if-is_ok-has_grid.false)
