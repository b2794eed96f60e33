use Rattle.std.proofs.Common.{◌≡◌, ◌+◌, ◌∷◌}
use Rattle.figures.specs.Days.{for_days, window}
use Rattle.supplier.specs.Books.{orders_of}
use Rattle.supplier.specs.Windows.{Clear}
use Rattle.supplier.proofs.book.Book.first_broken.Given as goal

-- the sum is that of the next window, and no window before it is broken
abbrev pub invariant-loop-i : goal.invariant-loop-i
invariant-loop-i l =
    (l.sum ≡ window (l.i + 1) (l.q ∷ orders_of l.self))
    × Clear (for_days l.limits.bounds) (orders_of l.self) l.q (l.i + 1)
