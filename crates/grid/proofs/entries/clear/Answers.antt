use Rattle.std.proofs.Common.{◌≡◌, ◌-◌, ◌∙◌, sym, ap, refl, ℕ, length, drop, take, replicate, arith, length-take, length-drop}
use Rattle.std.proofs.lemmas.List.{length-replicate}
use Rattle.std.proofs.lemmas.Slice.{put_mid-paste}
use Rattle.emath.specs.Rectangles.{zero_f}
use Rattle.grid.specs.Entries.{cleared}
use Rattle.grid.proofs.Turns.{cleared-paste}
use Rattle.grid.proofs.entries.clear.Goals as goal

pub returns-then-from-to : goal.returns-then-from-to
returns-then-from-to c =
    let xs = c.args.xs.now in
    let a = c.args.from in
    let n = c.args.to - c.args.from in
    let k : length (take n (drop a xs)) ≡ n = simp (length-take, length-drop) (omega arith) in
    put_mid-paste a n xs c.fill.new.self (replicate n zero_f) n (c.fill.ensures.after (λ y h. h) ∙ ap (λ (j : ℕ). replicate j zero_f) k) refl (sym (length-replicate _ _)) ∙ cleared-paste xs a n (omega arith)

pub returns-else-from-to : goal.returns-else-from-to
unfolding cleared
returns-else-from-to c = let none : c.args.to - c.args.from ≡ 0 = omega arith in rw none
