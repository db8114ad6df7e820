-- What digits stand for.
use Rattle.std.specs.Prelude.{if◌then◌else◌, ℕ, ◌+◌, ◌-◌, ◌*◌, ◌/◌, ◌%◌, List, [], ◌∷◌, fold, nat_lt}

-- the hex digit of a value below 16, as a capital
abbrev pub capital : ℕ → ℕ
capital v = if nat_lt v 10 then 48 + v else 55 + v

-- the same, as a small letter
abbrev pub small : ℕ → ℕ
small v = if nat_lt v 10 then 48 + v else 87 + v

-- the number that decimal digits spell
abbrev pub spelled : List ℕ → ℕ
spelled bytes = fold (λ n b. 10 * n + (b - 48)) 0 bytes

-- the last four decimal digits of a number
abbrev pub padded : ℕ → List ℕ
padded n = (48 + n / 1000 % 10) ∷ (48 + n / 100 % 10) ∷ (48 + n / 10 % 10) ∷ (48 + n % 10) ∷ []
