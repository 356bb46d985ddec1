use lib.ListN.{length-set}
use native.Mathlib.Omega.{arith}
use Rattle.sheet.proofs.Ticking.{Same, eight-put, same-eight}
use mathlib.Core.Path.{ap, ◌∙◌}
use mathlib.Core.List.{List}
use lib.IntN.{ℤ}
use lib.Seq.{sets}
use borrow.Author.Rules.{rules}
use Rattle.sheet.proofs.cells.write_cell.Goals as goal

pub returns : goal.returns
returns c =
    let s1 : Same c.tick.result = search rules in
    let s2 : Same c.tick-2.result = search rules in
    let s3 : Same c.tick-3.result = search rules in
    let s4 : Same c.tick-4.result = search rules in
    let s5 : Same c.tick-5.result = search rules in
    let s6 : Same c.tick-6.result = search rules in
    let s7 : Same c.tick-7.result = search rules in
    let s8 : Same c.tick-8.result = search rules in
    rw (s1, s2, s3, s4, s5, s6, s7, s8)
    (eight-put c.args.out.now c.args.at _ _ _ _ _ _ _ _ ∙ ap (λ (l : List ℤ). sets c.args.out.now c.args.at l) (same-eight _ _ _ _ _ _ _ _ _ _ _ _ _ _ _ _ c.tick.ensures c.tick-2.ensures c.tick-3.ensures c.tick-4.ensures c.tick-5.ensures c.tick-6.ensures c.tick-7.ensures c.tick-8.ensures))

pub bounds-out-at-2 : goal.bounds-out-at-2
bounds-out-at-2 c = simp length-set (omega arith)

pub bounds-out-at-3 : goal.bounds-out-at-3
bounds-out-at-3 c = simp length-set (omega arith)

pub bounds-out-at-4 : goal.bounds-out-at-4
bounds-out-at-4 c = simp length-set (omega arith)

pub bounds-out-at-5 : goal.bounds-out-at-5
bounds-out-at-5 c = simp length-set (omega arith)

pub bounds-out-at-6 : goal.bounds-out-at-6
bounds-out-at-6 c = simp length-set (omega arith)

pub bounds-out-at-7 : goal.bounds-out-at-7
bounds-out-at-7 c = simp length-set (omega arith)

pub bounds-out-at-8 : goal.bounds-out-at-8
bounds-out-at-8 c = simp length-set (omega arith)

pub shape_of-out : goal.shape_of-out
shape_of-out c = simp length-set
