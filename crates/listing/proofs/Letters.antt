-- A record that is not malformed is a W exactly if its letter is W. Assumes nothing.
use Rattle.std.proofs.Common.{ℕ, ◌≡◌, refl, sym, Bool, true, false, cond, true≢false, List, [], ◌∷◌}
use Rattle.records.specs.Records.{record_of}
use Rattle.records.specs.Controls.{only_controls}
use Rattle.records.specs.Sheets.{widget, widget_step}
use Rattle.records.proofs.Reached.{is_step}
use Rattle.records.specs.declared.SizeUnit.{SizeUnit}
use Rattle.records.specs.declared.Step.{Step}
use Rattle.records.specs.declared.Step.TheVariants.{Widget, Space, RowHeight, MaxWidth, MaxHeight, MinWidth, MinHeight, RowEnd}
use Rattle.records.specs.Records.{Record}
use Rattle.records.proofs.Controls.{Read, read}
use Rattle.listing.specs.Implementation.ListWriter.{mark}

-- a step that no sheet of controls has is no W
other_none : (st : Step) → ((rest : List Step) → only_controls (st ∷ rest) ≡ false) → 0 ≡ widget_step st
unfolding widget_step
other_none (Widget w h) breaks = absurd (true≢false (unfold only_controls in breaks []))
other_none (Space a) breaks = refl
other_none (RowHeight h) breaks = refl
other_none (MaxWidth w) breaks = refl
other_none (MaxHeight h) breaks = refl
other_none (MinWidth w) breaks = refl
other_none (MinHeight h) breaks = refl
other_none RowEnd breaks = refl

marked : {u : SizeUnit} {s : List ℕ} {w : Bool} {r : Record} → Read u s w r → is_step r ≡ true → cond w 1 0 ≡ widget r
unfolding is_step widget widget_step
marked (Read.widget x y) h = refl
marked Read.row_end h = refl
marked (Read.other {st = st} breaks) h = other_none st breaks
marked Read.wrong h = absurd (true≢false (sym h))

pub mark-is : (u : SizeUnit) (s : List ℕ) → is_step (record_of u s) ≡ true → mark s ≡ widget (record_of u s)
unfolding mark
mark-is u s h = marked (read u s) h
