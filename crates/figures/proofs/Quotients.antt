-- How quotients grow.
use Rattle.std.proofs.Common.{ℕ, ◌/◌, ◌<◌, ◌≤◌, div-mul-le_self, arith}
use Rattle.std.proofs.lemmas.Nat.{le-div}

pub div_grows : (a b k : ℕ) → 0 < k → a ≤ b → a / k ≤ b / k
div_grows a b k p h = le-div (a / k) b k p (let e = div-mul-le_self a k in omega arith)
