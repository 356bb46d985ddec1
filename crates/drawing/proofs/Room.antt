-- Where there is room for all pieces, they are written one after the other, and nothing else is. Assumes nothing.
use Rattle.std.proofs.Common.{ℕ, ◌+◌, ◌≤◌, ◌≡◌, refl, ap, sym, ◌∙◌, List, [], ◌∷◌, ◌++◌, append_assoc, arith, add-zero, le-leb, length, length-append}
use lib.Seq.{sets, length-sets}
use Rattle.text.proofs.LineTexts.{sets-append}
use Rattle.drawing.specs.Pieces.{Put, emit, emits, joined}

abbrev pub size : List (List ℕ) → ℕ
size xs = length (joined xs)

joined-append : (xs ys : List (List ℕ)) → joined (xs ++ ys) ≡ joined xs ++ joined ys
unfolding joined
joined-append [] ys = refl
joined-append (x ∷ xs) ys = ap (λ (l : List ℕ). x ++ l) (joined-append xs ys) ∙ sym (append_assoc x (joined xs) (joined ys))

pub size-append : (xs ys : List (List ℕ)) → size (xs ++ ys) ≡ size xs + size ys
size-append xs ys = ap length (joined-append xs ys) ∙ length-append (joined xs) (joined ys)

abbrev after : List ℕ → Put → Put
after bs p = record { at = p.at + length bs; out = sets p.out p.at bs }

emit-room : (b : List ℕ) (p : Put) → p.at + length b ≤ length p.out → emit b p ≡ after b p
unfolding emit
emit-room b p h = rw (le-leb (p.at + length b) (length p.out) h)

after-after : (b c : List ℕ) (p : Put) → after c (after b p) ≡ after (b ++ c) p
after-after b c p =
    let e : p.at + length b + length c ≡ p.at + length (b ++ c) = omega (arith, length-append b c) in
    rw (e, sym (sets-append b c p.out p.at))

pub emits-room : (xs : List (List ℕ)) (p : Put) → p.at + size xs ≤ length p.out → emits xs p ≡ after (joined xs) p
unfolding emits joined
emits-room [] p h = rw add-zero
emits-room (b ∷ xs) p h =
    let l : length (b ++ joined xs) ≡ length b + size xs = length-append b (joined xs) in
    let e : emit b p ≡ after b p = emit-room b p (omega (arith, l)) in
    let m : length (sets p.out p.at b) ≡ length p.out = length-sets p.out p.at b in
    rw e (emits-room xs (after b p) (omega (arith, l, m)) ∙ after-after b (joined xs) p)
