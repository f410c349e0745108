-- Phases, and what hub and notes show of them.
use Rattle.run_told.proofs.Below.{◌≡◌, Option, Some, None, true, false, not, is_some, refl, Phase, Head, Open, Leaving, Ending, Gone, clash, closing, is_gone_phase, is_open, is_away, unless_gone, is_gone, is_early}

pub open_is : (p : Option Phase) → is_open p ≡ true → p ≡ Some Open
open_is None e = clash false refl e
open_is (Some Head) e = clash false refl e
open_is (Some Open) e = refl
open_is (Some Leaving) e = clash false refl e
open_is (Some Ending) e = clash false refl e
open_is (Some Gone) e = clash false refl e

pub early_shown : (p : Option Phase) → is_early (unless_gone p) ≡ is_early p
early_shown None = refl
early_shown (Some Head) = refl
early_shown (Some Open) = refl
early_shown (Some Leaving) = refl
early_shown (Some Ending) = refl
early_shown (Some Gone) = refl

pub late_closing : (p : Option Phase) → is_early p ≡ false → is_early (closing p) ≡ false
late_closing None e = refl
late_closing (Some Head) e = e
late_closing (Some Open) e = refl
late_closing (Some Leaving) e = refl
late_closing (Some Ending) e = refl
late_closing (Some Gone) e = refl

-- who is away shows no phase, and who is an entry that is not gone shows one
pub away_shown : (p : Option Phase) → is_away p ≡ not (is_some (unless_gone p))
away_shown None = refl
away_shown (Some Head) = refl
away_shown (Some Open) = refl
away_shown (Some Leaving) = refl
away_shown (Some Ending) = refl
away_shown (Some Gone) = refl

pub present_shown : (p : Phase) → is_some (unless_gone (Some p)) ≡ not (is_gone p)
present_shown Head = refl
present_shown Open = refl
present_shown Leaving = refl
present_shown Ending = refl
present_shown Gone = refl

-- who is not away is known, and not gone
pub here_known : (p : Option Phase) → is_away p ≡ false → (is_some p ≡ true) × (is_gone_phase p ≡ false)
here_known None e = clash true e refl
here_known (Some Head) e = (refl, refl)
here_known (Some Open) e = (refl, refl)
here_known (Some Leaving) e = (refl, refl)
here_known (Some Ending) e = (refl, refl)
here_known (Some Gone) e = clash true e refl
