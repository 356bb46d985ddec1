-- RULES 6.23: a record is made of its first 98 bytes, which H has; so it is the same in a prefix that has as many. Assumes nothing.
use Rattle.std.proofs.Common.{ℕ, zero, suc, ◌+◌, ◌-◌, ◌*◌, ◌≤◌, ◌≡◌, refl, ap, sym, ◌∙◌, List, [], ◌∷◌, Bool, true, false, arith, leb-true, leb-false, le-leb, leb, eqb, length, take, drop, length-take, get_or-take, take-take}
use Rattle.std.proofs.Math.Seq.{take-nil}
use Rattle.std.proofs.lemmas.Bool.{lt-leb}
use Rattle.text.specs.Fields.{field_at}
use Rattle.records.specs.declared.SizeUnit.{SizeUnit}
use Rattle.records.specs.declared.SizeUnit.TheVariants.{Steps}
use Rattle.records.specs.Parts.{letter, ends, length_in, size_in, count_in}
use Rattle.records.specs.Records.{pair_fits, pair_in, layout_fits, layout_in, rect_in, heading_fits, maxima_fit, maxima_in, options_in, grid_fits, step_record, widget_record, single_record, record_of, field_count, size}
use Rattle.records.specs.declared.Step.{Step}

pub drop-take : (n m : ℕ) (l : List ℕ) → drop n (take m l) ≡ take (m - n) (drop n l)
drop-take zero m l = let e : m - 0 ≡ m = omega arith in rw e
drop-take (suc n) m [] = ap (λ (l : List ℕ). drop (suc n) l) (take-nil m) ∙ sym (take-nil (m - suc n))
drop-take (suc n) zero (b ∷ l) = let e : 0 - suc n ≡ 0 = omega arith in rw e
drop-take (suc n) (suc m) (b ∷ l) = let e : suc m - suc n ≡ m - n = omega arith in rw e (drop-take n m l)

-- ---- a field within the prefix
module _ (m : ℕ) (s : List ℕ) where
  reaches : (n : ℕ) → n ≤ m → leb n (length (take m s)) ≡ leb n (length s)
  reaches n h = go (leb n (length s)) refl
    where
      go : (b : Bool) → leb n (length s) ≡ b → leb n (length (take m s)) ≡ b
      go true e = le-leb n (length (take m s)) (simp length-take (omega (arith, leb-true n (length s) e)))
      go false e = lt-leb n (length (take m s)) (simp length-take (omega (arith, leb-false n (length s) e)))

  same-field : (limit at : ℕ) → at + 8 ≤ m → field_at limit (take m s) at ≡ field_at limit s at
  unfolding field_at
  same-field limit at h = rw (reaches (at + 8) h, drop-take at m s, take-take 8 (m - at) (drop at s) (omega arith))

-- ---- a record within the prefix
module _ (m : ℕ) (h : 98 ≤ m) (s : List ℕ) where
  abbrev t : List ℕ
  t = take m s

  pub same-letter : letter t ≡ letter s
  same-letter = get_or-take m s 0 0 (omega arith)

  pub same_ends : (n : ℕ) → n ≤ 12 → ends t n ≡ ends s n
  unfolding ends
  same_ends n l = rw (get_or-take m s (1 + 8 * n) 0 (omega arith))

  same_size : (u : SizeUnit) (i : ℕ) → i ≤ 11 → size_in u t i ≡ size_in u s i
  unfolding size_in
  same_size u i l = rw (same-field m s 2097152 (1 + 8 * i) (omega arith))

  same_length : (i : ℕ) → i ≤ 11 → length_in t i ≡ length_in s i
  unfolding length_in
  same_length i l = same_size Steps i l

  same_count : (i most : ℕ) → i ≤ 11 → count_in t i most ≡ count_in s i most
  unfolding count_in
  same_count i most l = same-field m s most (1 + 8 * i) (omega arith)

  same-pair-fits : (i : ℕ) → i ≤ 10 → pair_fits t i ≡ pair_fits s i
  unfolding pair_fits
  same-pair-fits i l = rw (same_length i (omega arith), same_length (i + 1) (omega arith))

  pub same-pair : (i : ℕ) → i ≤ 10 → pair_in t i ≡ pair_in s i
  unfolding pair_in
  same-pair i l = rw (same_length i (omega arith), same_length (i + 1) (omega arith))

  same-layout-fits : layout_fits t ≡ layout_fits s
  unfolding layout_fits
  same-layout-fits = rw (same_count 0 3 (omega arith), same_count 1 1 (omega arith), same_count 2 2 (omega arith), same_count 3 1 (omega arith), same_count 4 2 (omega arith), same_count 5 1 (omega arith))

  pub same_layout : layout_in t ≡ layout_in s
  unfolding layout_in
  same_layout = rw (same_count 0 3 (omega arith), same_count 1 1 (omega arith), same_count 2 2 (omega arith), same_count 3 1 (omega arith), same_count 4 2 (omega arith), same_count 5 1 (omega arith))

  pub same-rect : rect_in t ≡ rect_in s
  unfolding rect_in
  same-rect = rw (same-pair 6 (omega arith), same-pair 8 (omega arith))

  pub same-heading-fits : heading_fits t ≡ heading_fits s
  unfolding heading_fits
  same-heading-fits = rw (same-letter, same-layout-fits, same-pair-fits 6 (omega arith), same-pair-fits 8 (omega arith), same-pair-fits 10 (omega arith), same_ends 12 (omega arith))

  same-maxima-fit : maxima_fit t ≡ maxima_fit s
  unfolding maxima_fit
  same-maxima-fit = rw (same_length 2 (omega arith), same_length 3 (omega arith))

  pub same-options : options_in t ≡ options_in s
  unfolding options_in maxima_in
  same-options = rw (same-pair 0 (omega arith), same_length 2 (omega arith), same_length 3 (omega arith), same_count 4 32 (omega arith), same_count 5 127 (omega arith))

  pub same-grid-fits : grid_fits t ≡ grid_fits s
  unfolding grid_fits
  same-grid-fits = rw (same-pair-fits 0 (omega arith), same-maxima-fit, same_count 4 32 (omega arith), same_count 5 127 (omega arith), same_ends 6 (omega arith))

  same_step : (n : ℕ) → n ≤ 12 → (fits : Bool) (step : Step) → step_record t n fits step ≡ step_record s n fits step
  unfolding step_record
  same_step n l fits step = rw (same_ends n l)

  same-widget : (u : SizeUnit) → widget_record u t ≡ widget_record u s
  unfolding widget_record step_record
  same-widget u = rw (same_size u 0 (omega arith), same_size u 1 (omega arith), same_ends 2 (omega arith))

  same-single : (b : ℕ) → single_record t b ≡ single_record s b
  unfolding single_record step_record
  same-single b = rw (same_length 0 (omega arith), same_ends 1 (omega arith))

  pub same-record : (u : SizeUnit) → record_of u t ≡ record_of u s
  unfolding record_of
  same-record u = rw (same-letter, same-widget u, same_step 0 (omega arith), same-single (letter s))

-- ---- a record has at most 98 bytes
few-fields : (l : ℕ) → field_count l ≤ 12
unfolding field_count
few-fields l = go (eqb l 72) (eqb l 71) (eqb l 87) (eqb l 83) (eqb l 82) (eqb l 76) (eqb l 75) (eqb l 78) (eqb l 84) refl refl refl refl refl refl refl refl refl
  where
    go : (a b c d e f g h i : Bool) → eqb l 72 ≡ a → eqb l 71 ≡ b → eqb l 87 ≡ c → eqb l 83 ≡ d → eqb l 82 ≡ e → eqb l 76 ≡ f → eqb l 75 ≡ g → eqb l 78 ≡ h → eqb l 84 ≡ i → field_count l ≤ 12
    go true _ _ _ _ _ _ _ _ e0 _ _ _ _ _ _ _ _ = rw (e0) (omega arith)
    go false true _ _ _ _ _ _ _ e0 e1 _ _ _ _ _ _ _ = rw (e0, e1) (omega arith)
    go false false true _ _ _ _ _ _ e0 e1 e2 _ _ _ _ _ _ = rw (e0, e1, e2) (omega arith)
    go false false false true _ _ _ _ _ e0 e1 e2 e3 _ _ _ _ _ = rw (e0, e1, e2, e3) (omega arith)
    go false false false false true _ _ _ _ e0 e1 e2 e3 e4 _ _ _ _ = rw (e0, e1, e2, e3, e4) (omega arith)
    go false false false false false true _ _ _ e0 e1 e2 e3 e4 e5 _ _ _ = rw (e0, e1, e2, e3, e4, e5) (omega arith)
    go false false false false false false true _ _ e0 e1 e2 e3 e4 e5 e6 _ _ = rw (e0, e1, e2, e3, e4, e5, e6) (omega arith)
    go false false false false false false false true _ e0 e1 e2 e3 e4 e5 e6 e7 _ = rw (e0, e1, e2, e3, e4, e5, e6, e7) (omega arith)
    go false false false false false false false false true e0 e1 e2 e3 e4 e5 e6 e7 e8 = rw (e0, e1, e2, e3, e4, e5, e6, e7, e8) (omega arith)
    go false false false false false false false false false e0 e1 e2 e3 e4 e5 e6 e7 e8 = rw (e0, e1, e2, e3, e4, e5, e6, e7, e8) (omega arith)

pub small_size : (s : List ℕ) → size s ≤ 98
small_size s = omega (arith, few-fields (letter s))
