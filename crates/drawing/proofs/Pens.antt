-- What a pen writes: a byte, a number, and one thing after another. Assumes nothing.
use Rattle.std.proofs.Common.{refl, ap, ◌∙◌, ℕ, List, [], ◌++◌}
use Rattle.drawing.specs.Pieces.{Put, emits}
use Rattle.drawing.specs.Implementation.Pens.{put, Writes}
use Rattle.drawing.specs.declared.writing.Pen.{Pen}
use Rattle.drawing.proofs.Pieces.{emits-append}

pub nothing : (p : Pen) → Writes [] p p
unfolding emits
nothing p = record { same_slice = refl; pieces = refl }

pub after : {xs ys : List (List ℕ)} {p q r : Pen} → Writes xs p q → Writes ys q r → Writes (xs ++ ys) p r
after {xs} {ys} {p} {q} {r} h k = record {
  same_slice = k.same_slice ∙ h.same_slice;
  pieces = k.pieces ∙ ap (λ (a : Put). emits ys a) h.pieces ∙ rw (emits-append xs ys (put p));
}
