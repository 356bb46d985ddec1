-- RULES 6.1, 7.2: the bytes of a sheet and of a list: the letters of records and lines, the byte that ends both, and what fields are made
-- of. Cited as letters.NAME.
use Rattle.std.specs.Prelude.{ℕ}

-- RULES 6.1: what comes before the steps
abbrev pub H : ℕ
H = 72

abbrev pub M : ℕ
M = 77

abbrev pub G : ℕ
G = 71

-- RULES 6.1: the steps
abbrev pub W : ℕ
W = 87

abbrev pub S : ℕ
S = 83

abbrev pub E : ℕ
E = 69

abbrev pub R : ℕ
R = 82

abbrev pub L : ℕ
L = 76

abbrev pub K : ℕ
K = 75

abbrev pub N : ℕ
N = 78

abbrev pub T : ℕ
T = 84

-- RULES 7.2: lines of a list, beside W: the plate, a column, a row, a refusal
abbrev pub P : ℕ
P = 80

abbrev pub C : ℕ
C = 67

abbrev pub D : ℕ
D = 68

abbrev pub X : ℕ
X = 88

-- RULES 6.1: what ends a record and a line
abbrev pub LF : ℕ
LF = 10

-- RULES 6.2: fields: a blank column, the minus, the first and the last digit
abbrev pub SPACE : ℕ
SPACE = 32

abbrev pub MINUS : ℕ
MINUS = 45

abbrev pub ZERO : ℕ
ZERO = 48

abbrev pub NINE : ℕ
NINE = 57
