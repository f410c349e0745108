use Rattle.frame_reader.proofs.All.{◌≤◌, ◌++◌, ◌+◌, ◌-◌, ◌∙◌, [], ◌∷◌, sym, ap, arith, refl, length, List, ℕ, subst, take, drop, length-drop, Event, ping, pong, last, CloseIs, raw_of, is_end, begun_of, coming_at_start, payload_awaited, unmasked_part, pings, pongs, closes, close_event}
use Rattle.frame_reader.proofs.reader.Reader.parse_control_frame.Goals as goal

pub returns-then-len-to-clause-parsed : goal.returns-then-len-to-clause-parsed
returns-then-len-to-clause-parsed c =
    let r = c.args.self.now in
    let six = c.requires.header.control c.requires.control in
    let full = c.args.self.now.raw.ok.0 in (
      λ more. refl,
      record {
        all = coming_at_start c.args.self.now.max_message c.args.self.now.state c.args.open_kind c.args.self.now.message.items (raw_of c.args.self.now ++ []) c.requires.state
            ∙ payload_awaited c.args.self.now.max_message (begun_of c.args.open_kind c.args.self.now.message.items) c.args.self.now.raw.items c.args.self.now.start c.args.header c.requires.header c.requires.control
            (omega (arith, c.len.ensures));
        few = omega (arith, c.len.ensures, length-drop c.args.self.now.start c.args.self.now.raw.items);
        goes_on = ap is_end c.requires.state;
      },
    )

pub returns-in-Ping-clause-parsed : goal.returns-in-Ping-clause-parsed
returns-in-Ping-clause-parsed c =
    let full = c.args.self.now.raw.ok.0 in
    let fits : c.args.self.now.start + c.args.header.length + c.args.header.size ≤ length c.args.self.now.raw.items = omega (arith, c.len.ensures) in
    record {
      tells = λ more.
          coming_at_start c.args.self.now.max_message c.args.self.now.state c.args.open_kind c.args.self.now.message.items (raw_of c.args.self.now ++ more) c.requires.state
          ∙ pings c.args.self.now.max_message (begun_of c.args.open_kind c.args.self.now.message.items) c.args.self.now.raw.items c.unmask_part.new.octets.items c.args.self.now.start c.args.header c.requires.header fits c.in-Ping.is
          (unmasked_part c.args.header.key c.args.self.now.raw.items c.unmask_part.new.octets.items (c.args.self.now.start + c.args.header.length) c.args.header.size fits c.unmask_part.ensures.items) more
          ∙ sym (ap (λ (es : List Event). ping (last c.args.header.size (c.args.self.now.start + c.args.header.length + c.args.header.size) c.unmask_part.new.octets.items) ∷ es)
          (coming_at_start c.args.self.now.max_message c.args.self.now.state c.args.open_kind c.args.self.now.message.items (drop (c.args.self.now.start + c.args.header.length + c.args.header.size) c.unmask_part.new.octets.items ++ more) c.requires.state));
      lent = omega arith;
      ended = ap is_end c.requires.state;
    }

pub returns-in-Pong-clause-parsed : goal.returns-in-Pong-clause-parsed
returns-in-Pong-clause-parsed c =
    let full = c.args.self.now.raw.ok.0 in
    let fits : c.args.self.now.start + c.args.header.length + c.args.header.size ≤ length c.args.self.now.raw.items = omega (arith, c.len.ensures) in
    record {
      tells = λ more.
          coming_at_start c.args.self.now.max_message c.args.self.now.state c.args.open_kind c.args.self.now.message.items (raw_of c.args.self.now ++ more) c.requires.state
          ∙ pongs c.args.self.now.max_message (begun_of c.args.open_kind c.args.self.now.message.items) c.args.self.now.raw.items c.unmask_part.new.octets.items c.args.self.now.start c.args.header c.requires.header fits c.in-Pong.is
          (unmasked_part c.args.header.key c.args.self.now.raw.items c.unmask_part.new.octets.items (c.args.self.now.start + c.args.header.length) c.args.header.size fits c.unmask_part.ensures.items) more
          ∙ sym (ap (λ (es : List Event). pong (last c.args.header.size (c.args.self.now.start + c.args.header.length + c.args.header.size) c.unmask_part.new.octets.items) ∷ es)
          (coming_at_start c.args.self.now.max_message c.args.self.now.state c.args.open_kind c.args.self.now.message.items (drop (c.args.self.now.start + c.args.header.length + c.args.header.size) c.unmask_part.new.octets.items ++ more) c.requires.state));
      lent = omega arith;
      ended = ap is_end c.requires.state;
    }

pub returns-in_default-clause-parsed : goal.returns-in_default-clause-parsed
returns-in_default-clause-parsed c =
    let full = c.args.self.now.raw.ok.0 in
    let fits : c.args.self.now.start + c.args.header.length + c.args.header.size ≤ length c.args.self.now.raw.items = omega (arith, c.len.ensures) in
    let u = unmasked_part c.args.header.key c.args.self.now.raw.items c.unmask_part.new.octets.items (c.args.self.now.start + c.args.header.length) c.args.header.size fits c.unmask_part.ensures.items in
    let long = u.long in
    let e = close_event c.close_span.result c.unmask_part.new.octets.items (c.args.self.now.start + c.args.header.length) (c.args.self.now.start + c.args.header.length + c.args.header.size) (omega arith) (omega arith)
    (subst (λ (l : List ℕ). CloseIs c.close_span.result (take (c.args.self.now.start + c.args.header.length + c.args.header.size - (c.args.self.now.start + c.args.header.length)) (drop (c.args.self.now.start + c.args.header.length) l))) c.deref.ensures.value c.close_span.ensures)
    c.args.self.now.message.items in
    record {
      tells = λ more.
          coming_at_start c.args.self.now.max_message c.args.self.now.state c.args.open_kind c.args.self.now.message.items (raw_of c.args.self.now ++ more) c.requires.state
          ∙ closes c.args.self.now.max_message (begun_of c.args.open_kind c.args.self.now.message.items) c.args.self.now.raw.items c.unmask_part.new.octets.items c.args.self.now.start c.args.header c.requires.header fits
          c.requires.control (λ p. c.in_default.not-Ping p) (λ p. c.in_default.not-Pong p)
          (unmasked_part c.args.header.key c.args.self.now.raw.items c.unmask_part.new.octets.items (c.args.self.now.start + c.args.header.length) c.args.header.size fits c.unmask_part.ensures.items) more
          ∙ ap (λ (e : Event). e ∷ []) e.0;
      lent = e.1;
      ended = sym e.2;
    }
