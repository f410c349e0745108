use Rattle.schedule_text.proofs.All.{List, ℕ, take, subst, sym, arith, AllDigits, count_le, front_digits}
use Rattle.schedule_text.proofs.cursor.Cursor.number.Goals as goal

pub split_at-requires : goal.split_at-requires
split_at-requires c = omega (arith, count_le c.args.self.now.rest.now, c.digit_count-count.ensures)

pub number_of-requires : goal.number_of-requires
number_of-requires c =
    subst (λ (digits : List ℕ). AllDigits 10 digits) (sym c.split_at.ensures.front)
    (subst (λ (count : ℕ). AllDigits 10 (take count c.args.self.now.rest.now)) (sym c.digit_count-count.ensures) (front_digits c.args.self.now.rest.now))
