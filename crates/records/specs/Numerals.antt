-- Numbers as a file writes them.
use Rattle.std.specs.Prelude.{◌≡◌, ℕ, ◌^◌, ◌<◌, List, decimal}

-- the most digits of a number
abbrev pub most_digits : ℕ
most_digits = 13

-- the word writes the number n: at most 13 digits, with no needless leading 0
abbrev pub Writes : List ℕ → ℕ → Type 0
Writes word n = (n < 10 ^ most_digits) × (word ≡ decimal n)

-- the word writes no number
abbrev pub IsNoNumber : List ℕ → Type 0
IsNoNumber word = (n : ℕ) → Writes word n → ⊥
