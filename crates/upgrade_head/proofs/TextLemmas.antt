-- Texts that are put together piece by piece.
use Rattle.upgrade_head.proofs.Below.{◌≡◌, ℕ, Bool, false, List, [], ◌++◌, arith, if◌then◌else◌, common_steps}

three : (old a b c p q r : List ℕ) → p ≡ old ++ a → q ≡ p ++ b → r ≡ q ++ c → r ≡ old ++ (a ++ b ++ c)
three old a b c p q r e f g = grind (arith, common_steps)

-- three parts behind the old text, where the test does not leave them out
pub three_unless : (test : Bool) (old a b c p q r : List ℕ) → test ≡ false → p ≡ old ++ a → q ≡ p ++ b → r ≡ q ++ c → r ≡ old ++ (if test then [] else a ++ b ++ c)
three_unless test old a b c p q r is e f g = rw is (three old a b c p q r e f g)
