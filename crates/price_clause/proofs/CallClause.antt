-- The price list's claims hold of the call that runs. Calls in turn are passes in turn (`nths`), so what the rule's passes have is what they
-- answer and leave in the slice. Assumes nothing.
use Prim.Native.Nat.{ℕ, zero, suc, ◌+◌, ◌*◌, ◌<◌}
use mathlib.Core.Path.{◌≡◌, refl, ap, sym, ◌∙◌, subst}
use mathlib.Core.Bool.{Bool, true, false}
use mathlib.Core.List.{List, [], ◌∷◌, ◌++◌, Forall₂}
use native.Mathlib.Omega.{arith}
use lib.IntN.{ℤ, pos}
use lib.ListN.{length, drop, get_or}
use lib.Seq.{drop_at}
use lib.Ieee.{Float}
use Rattle.emath.specs.Steps.{val, Edge}
use Rattle.emath.specs.declared.Rect.{Rect}
use Rattle.region.specs.Refusals.{zero_rect}
use Rattle.region.specs.Steps.{WholeRect}
use Rattle.grid.specs.declared.Memory.{Memory}
use Rattle.records.specs.Sheets.{checked}
use Rattle.records.specs.Sheets.{Checked}
use Rattle.records.specs.Sheets as checked-of
use Rattle.records.proofs.Checks.{some_number}
use Rattle.sheet.specs.Slices.{Accepted}
use Rattle.sheet.specs.Slices.{Passed}
use Rattle.sheet.specs.Pass.{Cell, Outcome, pass}
use Rattle.sheet.specs.Ticks.{Ticks, ticks, in_ticks}
use Rattle.sheet.specs.Texts.{sheet_in}
use Rattle.sheet.specs.Slices.{eight, written, passed_of, after_check, laid, Called, controls}
use Rattle.sheet.proofs.Ticking.{ticks-are}
use Rattle.sheet.proofs.Slices.{written-length, laid-length, slice_is, pass-few}
use Rattle.sheet.proofs.Shown.{Shown, shown, pass_all, no_number}
use Rattle.sheet.specs.Passes.{passes}
use Rattle.price_clause.specs.Sheets.{FrameNoLess, CellNoLess, first_frame}
use Rattle.pass_laws.specs.EachCell.{EachCell}
use Rattle.pass_laws.specs.Plates.{Holds, HoldsFrames}
use Rattle.pass_laws.specs.WholeCells.{WholeCells, more}
use Rattle.price_clause.specs.PriceClause.{NoLess, OfText}
use Rattle.price_clause.specs.CallClause.{place, frame_in, widget_in, InTurn, NoLessIn, SmallestIn, SecondAgain, IsTicks, RectIsTicks, WrittenWhole, CallClause}
use Rattle.sheet.proofs.Plates.{zero-rect}
use Rattle.price_clause.proofs.PriceClause.{price-clause}

-- ---- the frames in two slices
next_place : (c : Cell) (xs : List ℤ) (k i : ℕ) → place (eight c ++ xs) (suc k) i ≡ place xs k i
next_place c xs k i =
    let e : 8 * suc k + i ≡ suc (suc (suc (suc (suc (suc (suc (suc (8 * k + i)))))))) = omega arith in
    ap (λ (n : ℕ). get_or (eight c ++ xs) n (pos 0)) e

next-frame : (c : Cell) (xs : List ℤ) (k : ℕ) → frame_in (eight c ++ xs) (suc k) ≡ frame_in xs k
next-frame c xs k = let e = next_place c xs k in rw (e 0, e 1, e 2, e 3)

frames-in : (cs ds : List Cell) (xs ys : List ℤ) → Forall₂ (CellNoLess 5) cs ds
    → (k : ℕ) → k < length cs → FrameNoLess (frame_in (written cs ++ xs) k) (frame_in (written ds ++ ys) k)
unfolding written
frames-in [] [] xs ys Forall₂.nil k l = absurd (omega arith)
frames-in [] (d ∷ ds) xs ys r k l = elim r [ ]
frames-in (c ∷ cs) [] xs ys r k l = elim r [ ]
frames-in (c ∷ cs) (d ∷ ds) xs ys (Forall₂.cons r rs) zero l = r
frames-in (c ∷ cs) (d ∷ ds) xs ys (Forall₂.cons r rs) (suc k) l =
    rw (next-frame c (written cs ++ xs) k, next-frame d (written ds ++ ys) k) (frames-in cs ds xs ys rs k (omega arith))

-- ---- the first frame, and rectangles around all of them
first-in : (cs : List Cell) (xs : List ℤ) → 0 < length cs → frame_in (written cs ++ xs) 0 ≡ first_frame 5 cs
unfolding written
first-in [] xs some = absurd (omega arith)
first-in (c ∷ cs) xs some = refl

as_many : {R : Cell → Cell → Type 0} {cs ds : List Cell} → Forall₂ R cs ds → length cs ≡ length ds
as_many Forall₂.nil = refl
as_many (Forall₂.cons r rs) = omega (arith, as_many rs)

holds-in : (t : Ticks) (cs : List Cell) (xs : List ℤ) → HoldsFrames 5 t cs → (k : ℕ) → k < length cs → Holds t (frame_in (written cs ++ xs) k)
unfolding written
holds-in t [] xs h k l = absurd (omega arith)
holds-in t (c ∷ cs) xs (EachCell.more h rest) zero l = h
holds-in t (c ∷ cs) xs (EachCell.more h rest) (suc k) l = rw (next-frame c (written cs ++ xs) k) (holds-in t cs xs rest k (omega arith))

in-holds : (t : Ticks) (cs : List Cell) (xs : List ℤ) → ((k : ℕ) → k < length cs → Holds t (frame_in (written cs ++ xs) k)) → HoldsFrames 5 t cs
unfolding written
in-holds t [] xs h = EachCell.none
in-holds t (c ∷ cs) xs h = EachCell.more (h 0 (omega arith)) (in-holds t cs xs (λ k l. subst (Holds t) (next-frame c (written cs ++ xs) k) (h (suc k) (omega arith))))

-- ---- a rectangle in whole ticks is what its places say
is-ticks : (x : Float) → Edge 5 x → IsTicks x (ticks 5 x)
is-ticks x e = let t = ticks-are x e in record { is = e.is ∙ ap (val 5) (sym t); few = rw t e.few }

rect-is-ticks : {r : Rect} → WholeRect 5 r → RectIsTicks r (in_ticks 5 r)
rect-is-ticks w = record { left = is-ticks _ w.left; top = is-ticks _ w.top; right = is-ticks _ w.right; bottom = is-ticks _ w.bottom }

next-widget : (c : Cell) (xs : List ℤ) (k : ℕ) → widget_in (eight c ++ xs) (suc k) ≡ widget_in xs k
next-widget c xs k = let e = next_place c xs k in rw (e 4, e 5, e 6, e 7)

written-whole : (cs : List Cell) (xs : List ℤ) → WholeCells 5 cs → (k : ℕ) → k < length cs → WrittenWhole cs (written cs ++ xs) k
unfolding written
written-whole [] xs w k l = absurd (omega arith)
written-whole (c ∷ cs) xs (more f g w) zero l = record { frame = rect-is-ticks f; widget = rect-is-ticks g }
written-whole (c ∷ cs) xs (more f g w) (suc k) l =
    let r = written-whole cs xs w k (omega arith) in
    record { frame = rw (next-frame c (written cs ++ xs) k) r.frame; widget = rw (next-widget c (written cs ++ xs) k) r.widget }

-- ---- two calls
no-less-in : (a b : List ℕ) (known known' : Bool) (m m' : Memory) (sizing sizing' : Bool) (p q : Passed) (exit exit' : List ℤ)
    → Shown a known m sizing p exit → Shown b known' m' sizing' q exit' → NoLess 5 (pass 5 (sheet_in a) known m sizing) (pass 5 (sheet_in b) known' m' sizing')
    → NoLessIn (controls (sheet_in a).steps) p q exit exit'
no-less-in a b known known' m m' sizing sizing' p q exit exit' s t n = record {
  frames = λ k l. rw (s.slice, t.slice) (frames-in _ _ s.others t.others n.frames k (omega (arith, l, pass_all 5 (sheet_in a) known m sizing s.number)));
  plate = rw (s.plate, t.plate) n.plate;
  holds = rw (s.plate, t.plate) n.holds;
  corner = λ some.
      (let l : 0 < length (pass 5 (sheet_in a) known m sizing).cells = omega (arith, some, pass_all 5 (sheet_in a) known m sizing s.number) in
      let e = ap (λ (o : List ℤ). frame_in o 0) s.slice ∙ first-in _ s.others l in
      let f = ap (λ (o : List ℤ). frame_in o 0) t.slice ∙ first-in _ t.others (rw (as_many n.frames) at l) in
      rw (s.plate, t.plate, e, f) (n.corner l));
}

of-text : (text : List ℕ) → OfText (sheet_in text)
of-text text = record { text = text; is = refl }

-- ---- calls in turn are passes in turn
module _ (text : List ℕ) (m : Memory) where
  abbrev nth : ℕ → Outcome
  nth n = passes 5 (sheet_in text) m n

  -- what call n answered, and what it left of the slice before it
  record Nth (n : ℕ) (p : Passed) (out exit : List ℤ) : Type 0 where
    pub answer : p ≡ passed_of (nth n)
    pub slice : exit ≡ written (nth n).cells ++ drop (8 * length (nth n).cells) out
    pub long : length exit ≡ length out

  -- a text that is not turned back is laid out by the rule
  by-rule : (r w : ℕ) (n : ℕ) (known : Bool) (given : Memory) (sizing : Bool) (out exit : List ℤ) (p : Passed) → checked text (length out) ≡ checked-of.Accepted r w
      → Called text known given sizing out p exit → pass 5 (sheet_in text) known given sizing ≡ nth n → Nth n p out exit
  unfolding laid after_check
  by-rule r w n known given sizing out exit p k c e =
      let x : (laid text known given sizing out).outcome ≡ pass 5 (sheet_in text) known given sizing = rw k in
      record {
        answer = c.answer ∙ ap passed_of (x ∙ e);
        slice = c.slice ∙ slice_is text known given sizing out r w k ∙ ap (λ (o : Outcome). written o.cells ++ drop (8 * length o.cells) out) e;
        long = ap length c.slice ∙ laid-length text known given sizing out;
      }

  module _ (count : ℕ) (p : ℕ → Passed) (out : ℕ → List ℤ) (t : InTurn text m count p out) where
    next : (n : ℕ) → suc n < count → Called text true (p n).memory false (out (suc n)) (p (suc n)) (out (suc (suc n)))
    next n l =
        let a : n + 1 ≡ suc n = omega arith in
        let b : n + 2 ≡ suc (suc n) = omega arith in
        rw (a, b) at (t.later n (omega arith))

    module _ (r w : ℕ) (k : checked text (length (out 0)) ≡ checked-of.Accepted r w) where
      nths : (n : ℕ) → n < count → Nth n (p n) (out n) (out (suc n)) × (length (out (suc n)) ≡ length (out 0))
      unfolding passes
      nths zero l = let x = by-rule r w 0 _ m true (out 0) (out 1) (p 0) k (t.first l) refl in (x, x.long)
      nths (suc n) l =
          let x = nths n (omega arith) in
          let y = by-rule r w (suc n) true (p n).memory false (out (suc n)) (out (suc (suc n))) (p (suc n)) (ap (checked text) x.1 ∙ k) (next n l) (ap (λ (q : Passed). pass 5 (sheet_in text) true q.memory false) x.0.answer) in
          (y, y.long ∙ x.1)

      -- the rectangles are written where they stand already
      module _ (same : (n : ℕ) → nth (suc n) ≡ nth 1) where
        left_alone : (xs : List ℤ) → written (nth 1).cells ++ drop (8 * length (nth 1).cells) (written (nth 1).cells ++ xs) ≡ written (nth 1).cells ++ xs
        left_alone xs = let e = drop_at (written (nth 1).cells) xs in rw (← written-length (nth 1).cells, e)

        slices-same : (n : ℕ) → suc n < count → out (suc (suc n)) ≡ out 2
        slices-same zero l = refl
        slices-same (suc n) l =
            let x = (nths (suc (suc n)) l).0.slice in
            let y = (nths 1 (omega arith)).0.slice in
            x ∙ ap (λ (o : Outcome). written o.cells ++ drop (8 * length o.cells) (out (suc (suc n)))) (same (suc n))
            ∙ ap (λ (o : List ℤ). written (nth 1).cells ++ drop (8 * length (nth 1).cells) o) (slices-same n (omega arith) ∙ y) ∙ left_alone _ ∙ sym y

        second-again : (n : ℕ) → (p 1).laid ≡ Accepted → suc (suc n) < count → SecondAgain p out (suc (suc n))
        second-again n a l =
            let e : p (suc (suc n)) ≡ p 1 = (nths (suc (suc n)) l).0.answer ∙ ap passed_of (same (suc n)) ∙ sym (nths 1 (omega arith)).0.answer in
            let f : suc (suc n) + 1 ≡ suc (suc (suc n)) = omega arith in
            record { accepted = ap (λ (q : Passed). q.laid) e ∙ a; answer = e; slice = rw f (slices-same (suc n) l) }

-- ---- an accepted call is over a text that is not turned back
module _ (text : List ℕ) (known : Bool) (m : Memory) (sizing : Bool) (out : List ℤ) (p : Passed) (exit : List ℤ) (c : Called text known m sizing out p exit) where
  pub not-turned-back : p.laid ≡ Accepted → (r : ℕ) × (w : ℕ) × (checked text (length out) ≡ checked-of.Accepted r w)
  unfolding laid after_check
  not-turned-back a = go (checked text (length out)) refl (no_number _ _ (ap (λ (x : Passed). x.laid) (sym c.answer) ∙ a))
    where
      go : (k : Checked) → checked text (length out) ≡ k → (after_check k text known m sizing out).outcome.number ≡ 0 → (r : ℕ) × (w : ℕ) × (checked text (length out) ≡ checked-of.Accepted r w)
      go (checked-of.Refused n at) e h = absurd (omega (arith, h, some_number text (length out) n at e))
      go (checked-of.Accepted r w) e h = (r, w, e)

  -- ---- the plate
  smallest-in : p.laid ≡ Accepted → 0 < controls (sheet_in text).steps → SmallestIn (controls (sheet_in text).steps) (in_ticks 5 p.plate) exit
  smallest-in a some =
      let s = shown text known m sizing out p exit c a in
      let cs = (pass 5 (sheet_in text) known m sizing).cells in
      let all = pass_all 5 (sheet_in text) known m sizing s.number in
      let few = pass-few 5 (sheet_in text) known m sizing in
      let q = price-clause.smallest (sheet_in text) (of-text text) known m sizing s.number some in
      rw (s.plate, s.slice) (record {
        holds = λ k l. holds-in _ cs s.others q.holds k (omega (arith, l, all));
        least = λ t h. q.least t (in-holds t cs s.others (λ k l. h k (omega (arith, l, few))));
      })

  plate-of-none : controls (sheet_in text).steps ≡ 0 → p.plate ≡ zero_rect
  unfolding laid after_check
  plate-of-none none = ap (λ (q : Passed). q.plate) c.answer ∙ go (checked text (length out))
    where
      go : (x : Checked) → (after_check x text known m sizing out).outcome.plate ≡ zero_rect
      go (checked-of.Refused n at) = refl
      go (checked-of.Accepted r w) = price-clause.without-W (sheet_in text) (of-text text) known m sizing none

  -- ---- whole ticks
  whole-written : (k : ℕ) → k < length (laid text known m sizing out).outcome.cells → WrittenWhole (laid text known m sizing out).outcome.cells exit k
  unfolding laid after_check
  whole-written k l = go (checked text (length out)) refl
    where
      go : (x : Checked) → checked text (length out) ≡ x → WrittenWhole (laid text known m sizing out).outcome.cells exit k
      go (checked-of.Refused n at) e = absurd (let z : k < length (after_check (checked-of.Refused n at) text known m sizing out).outcome.cells = rw e at l in omega arith)
      go (checked-of.Accepted r w) e =
          let cs = (pass 5 (sheet_in text) known m sizing).cells in
          let z : k < length cs = rw e at l in
          let y : exit ≡ written cs ++ drop (8 * length cs) out = c.slice ∙ slice_is text known m sizing out r w e in
          rw (e, y) (written-whole cs _ (price-clause.whole (sheet_in text) (of-text text) known m sizing).0 k z)

  plate-whole : RectIsTicks p.plate (in_ticks 5 p.plate)
  unfolding laid after_check
  plate-whole = rect-is-ticks (subst (λ (q : Passed). WholeRect 5 q.plate) (sym c.answer) (go (checked text (length out))))
    where
      go : (x : Checked) → WholeRect 5 (after_check x text known m sizing out).outcome.plate
      go (checked-of.Refused n at) = zero-rect 5
      go (checked-of.Accepted r w) = (price-clause.whole (sheet_in text) (of-text text) known m sizing).1

-- ---- all further calls
all-further : (text : List ℕ) → (sheet_in text).heading.has_grid ≡ true → (m : Memory) (count : ℕ) (p : ℕ → Passed) (out : ℕ → List ℤ)
    → InTurn text m count p out → (p 0).laid ≡ Accepted → (p 1).laid ≡ Accepted → (n : ℕ) → n + 2 < count → SecondAgain p out (n + 2)
all-further text g m count p out t a b n l =
    let (r, w, k) = not-turned-back text false m true (out 0) (p 0) (out 1) (t.first (omega arith)) a in
    let accepted : (i : ℕ) → i < count → (p i).laid ≡ Accepted → (passes 5 (sheet_in text) m i).number ≡ 0
    = λ i few z. no_number _ _ (ap (λ (x : Passed). x.laid) (sym (nths text m count p out t r w k i few).0.answer) ∙ z) in
    let two : n + 2 ≡ suc (suc n) = omega arith in
    rw two (second-again text m count p out t r w k (same (accepted 0 (omega arith) a) (accepted 1 (omega arith) b)) n b (omega arith))
  where
    same : (passes 5 (sheet_in text) m 0).number ≡ 0 → (passes 5 (sheet_in text) m 1).number ≡ 0 → (i : ℕ) → passes 5 (sheet_in text) m (suc i) ≡ passes 5 (sheet_in text) m 1
    same x y zero = refl
    same x y (suc i) =
        let e : i + 2 ≡ suc (suc i) = omega arith in
        rw e at (price-clause.all-further (sheet_in text) (of-text text) g m x y i)

-- ---- the second of two calls in turn, both accepted
second-shown : (text : List ℕ) (m : Memory) (p : ℕ → Passed) (out : ℕ → List ℤ) → InTurn text m 2 p out → (p 0).laid ≡ Accepted → (p 1).laid ≡ Accepted
    → ((passes 5 (sheet_in text) m 0).number ≡ 0) × Shown text true (passes 5 (sheet_in text) m 0).memory false (p 1) (out 2)
unfolding passes
second-shown text m p out t a b =
    let s = shown text false m true (out 0) (p 0) (out 1) (t.first (omega arith)) a in
    let c = subst (λ (x : Memory). Called text true x false (out 1) (p 1) (out 2)) s.memory (t.later 0 (omega arith)) in
    (s.number, shown text true _ false (out 1) (p 1) (out 2) c b)

pub call-clause : CallClause
unfolding passes
call-clause = record {
  strips = λ a b g s n known known' m m' sizing sizing' out out' exit exit' p q c d l r.
      (let x = shown a known m sizing out p exit c l in
      let y = shown b known' m' sizing' out' q exit' d r in
      no-less-in a b known known' m m' sizing sizing' p q exit exit' x y (price-clause.strips (sheet_in a) (sheet_in b) (of-text a) (of-text b) g s n known known' m m' sizing sizing' x.number y.number));
  grids = λ a b g h n m m' p q out out' c d p₀ p₁ q₀ q₁.
      (let x = second-shown a m p out c p₀ p₁ in
      let y = second-shown b m' q out' d q₀ q₁ in
      no-less-in a b true true _ _ false false (p 1) (q 1) (out 2) (out' 2) x.1 y.1 (price-clause.grids (sheet_in a) (sheet_in b) (of-text a) (of-text b) g h n m m' x.0 x.1.number y.0 y.1.number));
  columns = λ text g known m sizing out exit p c a i h.
      (let s = shown text known m sizing out p exit c a in
      rw s.memory (price-clause.columns (sheet_in text) (of-text text) g known m sizing s.number i h));
  further = λ text g m count p out t a b x y n l. all-further text g m count p out t a b n l;
  without-K = λ text g k known m sizing out exit p c a. price-clause.without-K (sheet_in text) (of-text text) g k known m sizing (shown text known m sizing out p exit c a).number;
  all-further = all-further;
  smallest = λ text known m sizing out exit p c a some. smallest-in text known m sizing out p exit c a some;
  without-W = λ text known m sizing out exit p c none. plate-of-none text known m sizing out p exit c none;
  whole = λ text known m sizing out exit p c. (whole-written text known m sizing out p exit c, plate-whole text known m sizing out p exit c);
}
