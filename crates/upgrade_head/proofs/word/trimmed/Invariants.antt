use Rattle.upgrade_head.proofs.Below.{◌≡◌, ◌-◌, ◌≤◌, length, reverse, slice_range, skip_ows, trim_ows}
use Rattle.upgrade_head.proofs.word.trimmed.Given as goal

abbrev pub invariant-front : goal.invariant-front
invariant-front l =
    (l.start ≤ l.end)
    × (skip_ows l.octets ≡ skip_ows (slice_range l.octets l.start l.end))

abbrev pub decreases-front : goal.decreases-front
decreases-front l = l.end - l.start

abbrev pub invariant-back : goal.invariant-back
invariant-back l =
    (l.start ≤ l.end) × (l.end ≤ length l.octets)
    × (trim_ows l.octets ≡ reverse (skip_ows (reverse (slice_range l.octets l.start l.end))))

abbrev pub decreases-back : goal.decreases-back
decreases-back l = l.end - l.start
