use Rattle.frame_reader.proofs.All.{◌≡◌, ◌+◌, ◌-◌, ◌++◌, ℕ, List, ap, sym, ◌∙◌, arith, take, drop, length-drop, unmasked, events_from, reads, is_text_open, middle_of, coming, middle_front, took, middle_at, held_and_rest, text_test}
use Rattle.frame_reader.proofs.reader.Reader.take_payload.Goals as goal

pub returns-clause-tells : goal.returns-clause-tells
returns-clause-tells c = λ more.
    let r = c.args.self.now in
    let f = c.args.frame in
    let count = c.min-count.result in
    let span : c.args.self.now.start + c.min-count.result - c.args.self.now.start ≡ c.min-count.result = omega arith in
    let part = drop c.args.self.now.start c.args.self.now.raw.items in
    let all : c.append_unmasked.new.message.items ≡ c.args.self.now.message.items ++ unmasked c.args.frame.key c.args.frame.place (take c.min-count.result (drop c.args.self.now.start c.args.self.now.raw.items)) =
    c.append_unmasked.ensures.items
    ∙ ap (λ (l : List ℕ). c.args.self.now.message.items ++ unmasked c.args.frame.key c.args.frame.place (take (c.args.self.now.start + c.min-count.result - c.args.self.now.start) (drop c.args.self.now.start l))) c.deref.ensures.value
    ∙ ap (λ (n : ℕ). c.args.self.now.message.items ++ unmasked c.args.frame.key c.args.frame.place (take n (drop c.args.self.now.start c.args.self.now.raw.items))) span in
    let next = c.after-next.ensures in
    let same : middle_of c.args.kind c.after-next.result c.append_unmasked.new.message.items
    ≡ middle_at (middle_of c.args.kind c.args.frame c.args.self.now.message.items) c.append_unmasked.new.message.items (c.args.frame.left - c.min-count.result) c.after-next.result.place =
    λ i. record { final = next.is_final i; kind = c.args.kind; all = c.append_unmasked.new.message.items; left = next.left i; key = next.key i; place = c.after-next.result.place } in
    ap (λ s. coming c.args.self.now.max_message s c.args.self.now.message.items (drop c.args.self.now.start c.args.self.now.raw.items ++ more)) c.requires
    ∙ ap (events_from (reads c.args.self.now.max_message))
    (took (middle_of c.args.kind c.args.frame c.args.self.now.message.items) c.args.self.now.raw.items c.append_unmasked.new.message.items c.args.self.now.start c.min-count.result c.after-next.result.place
    (omega arith) (omega (arith, length-drop c.args.self.now.start c.args.self.now.raw.items)) all (omega (arith, next.place)) more
    ∙ ap (λ m. middle_front m (drop (c.args.self.now.start + c.min-count.result) c.args.self.now.raw.items ++ more)) (sym same))

pub returns-clause-text : goal.returns-clause-text
returns-clause-text c =
    let r = c.args.self.now in
    let full = c.args.self.now.message.ok.0 in
    text_test c.args.kind _ c.append_unmasked.new.message.items _
    (held_and_rest c.args.self.now.message.items _ c.append_unmasked.new.message.items c.deref-2.result.now c.len-held.result c.append_unmasked.ensures.items (omega (arith, c.len-held.ensures)) c.deref-2.ensures.value)
    (c.check_text-text.ensures.text c.args.self.now.message.items (λ t. c.args.self.now.text_checked (ap is_text_open c.requires ∙ t)))
