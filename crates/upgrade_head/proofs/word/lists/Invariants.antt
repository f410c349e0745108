use Rattle.upgrade_head.proofs.Below.{◌≡◌, ◌≤◌, drop, slice_range, list_any, is_element, lists, parts_after}
use Rattle.upgrade_head.proofs.word.lists.Given as goal

abbrev pub invariant-loop-i : goal.invariant-loop-i
invariant-loop-i l = record {
  ordered : l.start ≤ l.i;
  same : lists l.letters l.word l.value ≡ list_any (is_element l.letters l.word) (parts_after (slice_range l.value l.start l.i) (drop l.i l.value));
}
