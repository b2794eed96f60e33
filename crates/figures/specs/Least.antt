-- The least number of a stretch that passes a test.
use Rattle.std.specs.Prelude.{ℕ, zero, suc, Bool, cond, Some, None, Option}

-- the least of the n numbers from k on that passes, or none
abbrev pub least : (ℕ → Bool) → ℕ → ℕ → Option ℕ
least test k zero = None
least test k (suc n) = cond (test k) (Some k) (least test (suc k) n)
