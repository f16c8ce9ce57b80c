-- Document 02, 2026-11: what each of those who claim a page pays for its 16 cells. Assumes nothing.
use Rattle.std.specs.Prelude.{ℕ, ◌+◌, ◌*◌, ◌/◌, ◌%◌, ◌<◌, ◌≡◌, eqb}
use Rattle.capabilities.specs.Lists.{pick}
use Rattle.claims.specs.Claims.{Claims, count_of, one, sum}

-- "A page with n claiming principals": of the 32, 1 for each that counts the page above 0, however often it claims.
unfoldable pub claimants : Claims → ℕ → ℕ
claimants c page = sum 32 (λ p. one (count_of c p page))

-- What each pays, and what is left over.
pub record Cost : Type 0 where
  pub share : ℕ
  pub remainder : ℕ

abbrev pub cost : ℕ → ℕ → Cost
cost share remainder = record { share = share; remainder = remainder }

-- "16 = n × share + remainder, with remainder below n. With no claimant the share is 0 and the remainder 16."
pub record Shares (n : ℕ) (c : Cost) : Type 0 where
  pub whole : 16 ≡ n * c.share + c.remainder
  pub below : 0 < n → c.remainder < n
  pub none : n ≡ 0 → (c.share ≡ 0) × (c.remainder ≡ 16)

-- The share and the remainder, computed: they are what that sentence says, and no others are (`claims:Paying.shares`, `claims:Paying.determined`).
unfoldable pub cost_of : ℕ → Cost
cost_of n = pick (eqb n 0) (cost 0 16) (cost (16 / n) (16 % n))
