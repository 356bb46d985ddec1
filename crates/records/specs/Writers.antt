-- RULES 9.1: records as text, for sheets that definitions spell out. Lengths are in ticks, but for those of W after M.
use Rattle.std.specs.Prelude.{List, [], ◌∷◌, ◌++◌, ℕ, ℤ, replicate}
use Rattle.text.specs.Letters as letters
use Rattle.text.specs.Lines.{line, texts}

-- ---- RULES 9.1: one function for each letter
-- the layout's six numbers, max_rect's edges, the spacings
abbrev pub H : List ℤ → List ℤ → List ℤ → List ℕ
H layout edges spacing = line letters.H (layout ++ (edges ++ spacing))

-- hundredths of a millimetre in the W
abbrev pub M : List ℕ
M = line letters.M []

-- the minimum cell and the start row; the other fields are blank
abbrev pub G : ℤ → ℤ → ℤ → List ℕ
G width height row = letters.G ∷ (texts (width ∷ height ∷ []) ++ (replicate 24 32 ++ (texts (row ∷ []) ++ (letters.LF ∷ []))))

abbrev pub W : ℤ → ℤ → List ℕ
W width height = line letters.W (width ∷ height ∷ [])

abbrev pub S : ℤ → List ℕ
S amount = line letters.S (amount ∷ [])

abbrev pub N : ℤ → List ℕ
N width = line letters.N (width ∷ [])

abbrev pub E : List ℕ
E = line letters.E []
