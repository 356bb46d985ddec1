use Rattle.std.proofs.Common.{rules, ◌≡◌, ℕ, ◌+◌, ◌-◌, ◌≤◌, List, ◌++◌, length, take, sym, ap, ◌∙◌, subst, le_refl, take-add, drop_at, length-take-le}
use Rattle.std.proofs.lemmas.Slice.{take-put_mid_below}
use Rattle.std.specs.Io.KnownBytes.{Consumes}
use Rattle.std.proofs.KnownBytes.{Consumes-trans}
use borrow.Rule.Slice.PartMut.{put_mid, post_of}
use Rattle.std.proofs.lemmas.List.{take-append-le}
use Rattle.reading.proofs.read_full.Goals as goal

-- what a read puts behind the bytes that stand there already
next_bytes : (at room n : ℕ) (old got : List ℕ) → at ≤ length old → n ≤ length got → take (at + n) (put_mid at room old got) ≡ take at old ++ take n got
next_bytes at room n old got within fits =
    let front : take at (put_mid at room old got) ≡ take at old = take-put_mid_below _ _ _ _ _ (le_refl _) within in
    let after = post_of at room old in
    let behind = ap (take n) (drop_at (take at old) (got ++ after) at (length-take-le at old within)) ∙ take-append-le n got after fits in
    take-add at n (put_mid at room old got) ∙ (λ i. front i ++ behind i)

pub loop-done-preserved : goal.loop-done-preserved
loop-done-preserved g c =
    let room = length c.loop-done.buffer - c.loop-done.done in
    let next = next_bytes c.loop-done.done room c.in-Ok.n c.loop-done.buffer c.read.new.buf c.loop-done.invariant.1 c.in-Ok.ensures.bound.0 in
    (search rules, search rules, subst (Consumes _ _) (sym next) (Consumes-trans _ _ _ _ _ c.loop-done.invariant.2 c.in-Ok.ensures.bytes.0))
