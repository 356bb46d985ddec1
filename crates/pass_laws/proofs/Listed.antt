-- A memory in whole steps is two lists of whole numbers, with zeros beyond them: what a W notes lifts one entry of each, and two memories
-- of the same lists are the same. Assumes nothing.
use Prim.Native.Nat.{ℕ, suc, ◌+◌, ◌≤◌, ◌<◌, max}
use mathlib.Core.Path.{◌≡◌, refl, ap, sym, ◌∙◌}
use mathlib.Core.Bool.{Bool, true, false}
use mathlib.Core.List.{List, [], ◌∷◌, map}
use native.Mathlib.Omega.{arith}
use lib.Dec.{ltb}
use borrow.Author.Tests.{ltb-true, ltb-false}
use lib.ListN.{length, take, get_or, length-take}
use lib.Seq.{get_or-take}
use lib.Ieee.{Float, nan}
use Rattle.emath.specs.Rectangles.{zero_f, max_f, width, height}
use Rattle.emath.specs.Steps.{most}
use Rattle.emath.proofs.Tests.{is_lt}
use Rattle.emath.specs.declared.Rect.{Rect}
use Rattle.grid.specs.Entries.{raised}
use Rattle.grid.specs.Memories.{empty_memory, raised_count, set_min_col_width, set_min_row_height}
use Rattle.grid.specs.Grids.{noted}
use Rattle.grid.proofs.Remembered.{Beyond, zeros-beyond, raised-beyond, length-raised}
use Rattle.grid.proofs.Advances.{Sound}
use Rattle.placer.proofs.Carried.{empty-sound}
use Rattle.grid.specs.declared.Memory.{Memory}
use Rattle.grid.specs.declared.GridLayout.{GridLayout}
use Rattle.model.proofs.WholeSteps.Model.{lift}
use Rattle.model.proofs.AnyNumbers.Embedding.{Upto, empty, upto-lift}
use Rattle.model.proofs.AnyNumbers.Recorded.{raised_is}
use Rattle.model.proofs.InFloats.Ticks.{len}
use Rattle.model.proofs.InFloats.Floats.{exact}
use Rattle.pass_laws.proofs.Lists.{count-max, list-raised}

-- an array with a count is the list c
pub record Counted (k : ℕ) (xs : List Float) (n : ℕ) (c : List ℕ) : Type 0 where
  pub within : n ≤ length xs
  pub are : take n xs ≡ map (len k) c
  pub few : Upto (most k) c
  pub beyond : Beyond xs n

pub record Listed (k : ℕ) (cs rs : List ℕ) (m : Memory) : Type 0 where
  pub cols-room : length m.col_widths ≡ 32
  pub rows-room : length m.row_heights ≡ 128
  pub cols : Counted k m.col_widths m.cols cs
  pub rows : Counted k m.row_heights m.rows rs

pub listed-sound : (k : ℕ) (cs rs : List ℕ) (m : Memory) → Listed k cs rs m → Sound m
listed-sound k cs rs m h = record {
  cols-room = h.cols-room;
  rows-room = h.rows-room;
  cols-few = omega (arith, h.cols.within, h.cols-room);
  rows_few = omega (arith, h.rows.within, h.rows-room);
}

pub listed-empty : (k : ℕ) → Listed k [] [] empty_memory
listed-empty k = record {
  cols-room = empty-sound.cols-room;
  rows-room = empty-sound.rows-room;
  cols = record { within = omega arith; are = refl; few = empty; beyond = zeros-beyond 32 0 };
  rows = record { within = omega arith; are = refl; few = empty; beyond = zeros-beyond 128 0 };
}

-- ---- an entry raised
module _ (k : ℕ) (l : k ≤ 6) where
  raised-counted : (xs : List Float) (n i : ℕ) (c : List ℕ) (x m : Float) (v d : ℕ) → Counted k xs n c → i < length xs → x ≡ len k v → m ≡ len k d → v ≤ most k → d ≤ most k
      → Counted k (raised xs n i (max_f x m)) (raised_count n (i + 1)) (lift c i (max v d))
  raised-counted xs n i c x m v d h I ex em v_b d_b =
      let N = h.within in
      let L = length-raised xs n i (max_f x m) N I in
      record {
        within = omega (arith, L, count-max n (i + 1));
        are = list-raised k xs n i (max_f x m) N I ∙ raised_is (exact k (most k) l refl) (take n xs) c i x m v d h.are ex em v_b d_b h.few;
        few = upto-lift i (omega arith) h.few;
        beyond = raised-beyond xs n i (max_f x m) N I h.beyond;
      }

  -- ---- what a W notes
  module _ (g : GridLayout) (v : Rect) (cs rs : List ℕ) (w t mw mh : ℕ) (h : Listed k cs rs g.curr_state) (i : g.col < 32) (j : g.row < 128)
      (ew : width v ≡ len k w) (et : height v ≡ len k t) (emw : g.min_cell_size.x ≡ len k mw) (emh : g.min_cell_size.y ≡ len k mh)
      (w_b : w ≤ most k) (t_b : t ≤ most k) (mw_b : mw ≤ most k) (mh_b : mh ≤ most k) where
    pub noted-listed : Listed k (lift cs g.col (max w mw)) (lift rs g.row (max t mh)) (noted g v)
    unfolding noted set_min_col_width set_min_row_height
    noted-listed =
        let m = g.curr_state in
        let a = raised-counted m.col_widths m.cols g.col cs (width v) g.min_cell_size.x w mw h.cols (omega (arith, h.cols-room)) ew emw w_b mw_b in
        let b = raised-counted m.row_heights m.rows g.row rs (height v) g.min_cell_size.y t mh h.rows (omega (arith, h.rows-room)) et emh t_b mh_b in
        rw (is_lt g.col 32 i, is_lt g.row 128 j)
        (record {
          cols-room = length-raised m.col_widths m.cols g.col _ h.cols.within (omega (arith, h.cols-room)) ∙ h.cols-room;
          rows-room = length-raised m.row_heights m.rows g.row _ h.rows.within (omega (arith, h.rows-room)) ∙ h.rows-room;
          cols = a;
          rows = b;
        })

-- ---- the same lists, the same memory
zero-beyond : (xs : List Float) (n : ℕ) → Beyond xs n → (j : ℕ) → n ≤ j → j < length xs → get_or xs j nan ≡ zero_f
unfolding Beyond
zero-beyond xs n h = h

same_entries_lem : (xs ys : List Float) → length xs ≡ length ys → ((j : ℕ) → j < length xs → get_or xs j nan ≡ get_or ys j nan) → xs ≡ ys
same_entries_lem [] [] e f = refl
same_entries_lem [] (y ∷ ys) e f = absurd (omega arith)
same_entries_lem (x ∷ xs) [] e f = absurd (omega arith)
same_entries_lem (x ∷ xs) (y ∷ ys) e f =
    let h : x ≡ y = f 0 (omega arith) in
    let t : xs ≡ ys = same_entries_lem xs ys (omega arith) (λ j l. f (suc j) (omega (arith, l))) in
    rw (h, t)

module _ (k : ℕ) (xs ys : List Float) (n m : ℕ) (c : List ℕ) (a : Counted k xs n c) (b : Counted k ys m c) (e : length xs ≡ length ys) where
  pub same_count : n ≡ m
  same_count =
      let f : length (take n xs) ≡ length (take m ys) = ap (λ (z : List Float). length z) (a.are ∙ sym b.are) in
      omega (arith, simp length-take at f, a.within, b.within)

  pub same-array : xs ≡ ys
  same-array = same_entries_lem xs ys e each
    where
      each : (j : ℕ) → j < length xs → get_or xs j nan ≡ get_or ys j nan
      each j l = go (ltb j n) refl
        where
          go : (t : Bool) → ltb j n ≡ t → get_or xs j nan ≡ get_or ys j nan
          go true z =
              sym (get_or-take n xs j nan (ltb-true j n z)) ∙ ap (λ (u : List Float). get_or u j nan) (a.are ∙ sym b.are)
              ∙ get_or-take m ys j nan (omega (arith, ltb-true j n z, same_count))
          go false z =
              zero-beyond xs n a.beyond j (ltb-false j n z) l
              ∙ sym (zero-beyond ys m b.beyond j (omega (arith, ltb-false j n z, same_count)) (omega (arith, l, e)))

pub same_memory_lem : (k : ℕ) (cs rs : List ℕ) (a b : Memory) → Listed k cs rs a → Listed k cs rs b → a ≡ b
same_memory_lem k cs rs a b p q =
    let w = same-array k a.col_widths b.col_widths a.cols b.cols cs p.cols q.cols (p.cols-room ∙ sym q.cols-room) in
    let h = same-array k a.row_heights b.row_heights a.rows b.rows rs p.rows q.rows (p.rows-room ∙ sym q.rows-room) in
    let n = same_count k a.col_widths b.col_widths a.cols b.cols cs p.cols q.cols (p.cols-room ∙ sym q.cols-room) in
    let m = same_count k a.row_heights b.row_heights a.rows b.rows rs p.rows q.rows (p.rows-room ∙ sym q.rows-room) in
    whole a.col_widths b.col_widths a.cols b.cols a.row_heights b.row_heights a.rows b.rows w n h m
  where
    whole : (w w' : List Float) (n n' : ℕ) (h h' : List Float) (m m' : ℕ) → w ≡ w' → n ≡ n' → h ≡ h' → m ≡ m'
        → ◌≡◌ {A = Memory} (record { col_widths = w; cols = n; row_heights = h; rows = m }) (record { col_widths = w'; cols = n'; row_heights = h'; rows = m' })
    whole w w' n n' h h' m m' e f g i = rw (e, f, g, i)
