-- The price clause holds: of every sheet whose lengths are whole steps of 1 to 1/64 point, and so of every sheet that is read from a text.
-- Assumes nothing.
use Prim.Native.Nat.{ℕ, suc, ◌+◌, ◌≤◌}
use mathlib.Core.Path.{◌≡◌, sym, subst}
use mathlib.Core.Bool.{Bool, true, false}
use mathlib.Core.List.{Forall₂}
use native.Mathlib.Omega.{arith}
use Rattle.grid.specs.declared.Memory.{Memory}
use Rattle.sheet.specs.Pass.{Sheet, Outcome, plate_of, pass}
use Rattle.sheet.specs.Passes.{passes}
use Rattle.sheet.proofs.Passes.{pass-plate}
use Rattle.pass_laws.specs.WholeCells.{WholeCells}
use Rattle.pass_laws.specs.WholeSheets.{WholeSheet}
use Rattle.price_clause.specs.Sheets.{CellNoLess}
use Rattle.price_clause.specs.PriceClause.{NoLess, PriceClause, OfText}
use Rattle.price_clause.proofs.Plates.{Open, plates-grow}
use Rattle.price_clause.proofs.OfStrips.Strips.{strips-grow}
use Rattle.price_clause.proofs.OfGrids.Grids.{grids-grow}
use Rattle.pass_laws.proofs.ColumnLaw.{column-law}
use Rattle.pass_laws.proofs.FurtherPasses.{further-passes}
use Rattle.pass_laws.proofs.WholeTops.{always-on-steps, without-K}
use Rattle.pass_laws.proofs.WholeEdges.{pass-cells, whole-pass, plate-is-smallest, no-control}
use Rattle.pass_laws.proofs.TextTicks.{text-whole}

-- of any kind of sheets whose lengths are whole steps
pub clause-of : (k : ℕ) → k ≤ 6 → (Is : Sheet → Type 0) → ((s : Sheet) → Is s → WholeSheet k s) → PriceClause k Is
clause-of k l Is w = record {
  strips = λ a b x y g s n known known' m m' sizing sizing' p q. (let r = strips-grow k l a b g (w a x) (w b y) s n known known' m m' sizing sizing' p q in no_less (pass-plate k a known m sizing p) (pass-plate k b known' m' sizing' q) (cells_of a known m sizing) (cells_of b known' m' sizing') r.0 r.1);
  grids = λ a b x y g h n m m' p q p' q'. (let r = grids-grow k l a b m m' g (w a x) (w b y) h n p q p' q' in no_less (second-plate a m q) (second-plate b m' q') (second-cells a m) (second-cells b m') r.0 r.1);
  columns = λ s x g known m sizing p c h. column-law k (omega arith) s known m sizing (w s x) g p c h;
  further = λ s x g m p q t u n. again s x g m p q n;
  without-K = λ s x g n known m sizing p. without-K k l s (w s x) known m sizing g p n;
  always = λ s x g known m sizing p. always-on-steps k l s (w s x) known m sizing g p;
  all-further = again;
  smallest = λ s x known m sizing p some. plate-is-smallest k (omega arith) s known m sizing p some;
  without-W = λ s x known m sizing none. no-control k s known m sizing none;
  whole = λ s x known m sizing. (let r = whole-pass k (omega arith) s known m sizing in (r.cells, r.plate));
}
  where
    no_less : {a b : Outcome} → a.plate ≡ plate_of a.cells → b.plate ≡ plate_of b.cells → WholeCells k a.cells → WholeCells k b.cells
        → Forall₂ (CellNoLess k) a.cells b.cells → Open k a.cells b.cells → NoLess k a b
    no_less e f C D n o = let p = plates-grow k (omega arith) C D n o in record { frames = n; plate = rw (e, f) p.plate; holds = rw (e, f) p.holds; corner = λ some. rw (e, f) (p.corner some) }

    cells_of : (s : Sheet) (known : Bool) (m : Memory) (sizing : Bool) → WholeCells k (pass k s known m sizing).cells
    cells_of s known m sizing = pass-cells k (omega arith) s known m sizing

    second-cells : (s : Sheet) (m : Memory) → WholeCells k (passes k s m 1).cells
    second-cells s m = unfold passes in cells_of s true (passes k s m 0).memory false

    second-plate : (s : Sheet) (m : Memory) → (passes k s m 1).number ≡ 0 → (passes k s m 1).plate ≡ plate_of (passes k s m 1).cells
    second-plate s m h = unfold passes in pass-plate k s true (passes k s m 0).memory false h

    two-more : (n : ℕ) → suc (suc n) ≡ n + 2
    two-more n = omega arith

    again : (s : Sheet) → Is s → s.heading.has_grid ≡ true → (m : Memory) → (passes k s m 0).number ≡ 0 → (passes k s m 1).number ≡ 0 → (n : ℕ) → passes k s m (n + 2) ≡ passes k s m 1
    again s x g m p q n = subst (λ (i : ℕ). passes k s m i ≡ passes k s m 1) (two-more n) (further-passes k l s (w s x) g m p q (suc n))

-- at any step down to 1/64 point
pub price-clause-in-steps : (k : ℕ) → k ≤ 6 → PriceClause k (WholeSheet k)
price-clause-in-steps k l = clause-of k l (WholeSheet k) (λ s w. w)

-- of texts, in ticks
pub price-clause : PriceClause 5 OfText
price-clause = clause-of 5 (omega arith) OfText (λ s t. subst (WholeSheet 5) (sym t.is) (text-whole t.text))
