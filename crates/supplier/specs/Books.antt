-- What a book means: its orders, the newest first.
use Rattle.std.specs.Prelude.{◌≡◌, ℕ, ◌+◌, ◌≤◌, List, ◌++◌, take, drop}
use Rattle.supplier.specs.declared.book.Book.{Book}

-- the ring read from the newest order on, round to its start
unfoldable pub unrolled : List ℕ → ℕ → List ℕ
unrolled ring newest = drop newest ring ++ take newest ring

abbrev pub orders_of : Book → List ℕ
orders_of b = unrolled b.ring b.newest

-- the place before the newest of a ring of n, round to its end
pub record BeforeNewest (n newest place : ℕ) : Type 0 where
  pub stepped : 1 ≤ newest → place + 1 ≡ newest
  pub round : newest ≡ 0 → place + 1 ≡ n
