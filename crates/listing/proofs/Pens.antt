-- What a pen writes, one thing after another. Assumes nothing.
use Rattle.std.proofs.Common.{refl, ap, ◌∙◌}
use Rattle.listing.specs.Implementation.ListWriter.{Put}
use Rattle.listing.specs.Implementation.Pens.{Writes}
use Rattle.listing.specs.declared.lines.Pen.{Pen}

pub nothing : (p : Pen) → Writes (λ a. a) p p
nothing p = record { same_slice = refl; written = refl }

pub after : {f g : Put → Put} {p q r : Pen} → Writes f p q → Writes g q r → Writes (λ a. g (f a)) p r
after {f} {g} {p} {q} {r} h k = record {
  same_slice = k.same_slice ∙ h.same_slice;
  written = k.written ∙ ap g h.written;
}
