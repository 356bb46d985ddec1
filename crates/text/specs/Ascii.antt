-- The bytes of a text of ASCII, for texts that a definition spells out (RULES 7.10, 9.2).
use Rattle.std.specs.Prelude.{ℕ, zero, suc, ◌+◌, List, [], ◌∷◌}
use Prim.Native.String.{String, len, char_at}
use Prim.Native.Char.{code}

-- so many characters, from the i-th on; and all of them
abbrev pub ascii_from : ℕ → ℕ → String → List ℕ
ascii_from zero i s = []
ascii_from (suc k) i s = code (char_at s i) ∷ ascii_from k (i + 1) s

abbrev pub ascii : String → List ℕ
ascii s = ascii_from (len s) 0 s
