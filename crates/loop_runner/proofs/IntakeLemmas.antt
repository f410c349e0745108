-- Keys of intakes.
use Rattle.loop_runner.proofs.Below.{◌≡◌, ℕ, true, arith, nat_tests, nat_cmp, is_at}

-- a query finds its own key alone
pub at_key : (conn key : ℕ) → is_at (nat_cmp conn) key ≡ true → conn ≡ key
at_key conn key e = grind (arith, nat_tests)
