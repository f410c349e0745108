use Rattle.mem_net.proofs.All.{◌≡◌, ◌<◌, ◌+◌, ◌-◌, ◌++◌, length, take, drop, min, sym, ap, ◌∙◌, arith, drop-drop, piece_waits, waits_long, read_more}
use Rattle.mem_net.proofs.mem_link.MemLink.read.Goals as goal

pub returns-then-self : goal.returns-then-self
returns-then-self c =
    let octets = c.self.inside.octets.items in
    let read = c.self.inside.read in
    let came = c.self.inside.came in
    let n = c.copy_front-count.result in
    let room = c.copy_front-count.new.room in
    let waiting = drop read (take came octets) in
    let whole : c.deref.result.now ≡ octets = c.deref.ensures.value in
    let piece : take (came - read) (drop read c.deref.result.now) ≡ waiting = rw whole (piece_waits octets read came c.self.invariant.0) in
    let long : length waiting ≡ came - read = waits_long octets read came c.self.invariant.1 in
    let some : 0 < length waiting = omega arith in
    let same : length room ≡ length c.args.room.now = c.copy_front-count.auto.room in
    let count : n ≡ min (length room) (length waiting) = rw same (c.copy_front-count.ensures.count ∙ ap (λ l. min (length c.args.room.now) (length l)) piece) in
    let front : take n room ≡ take n waiting = c.copy_front-count.ensures.front ∙ ap (take n) piece in
    let moved : take (read + n) octets ≡ take read octets ++ take n waiting = read_more octets read n came (omega arith) in
    let left : drop (read + n) (take came octets) ≡ drop n waiting = sym (drop-drop n read (take came octets)) in
    rw (← c.self.view_is) (some, count, front, rw (moved, left))
