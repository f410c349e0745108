use Rattle.frame_reader.proofs.All.{◌≡◌, ◌++◌, ◌+◌, ◌∙◌, ap, arith, refl, length-drop, raw_of, weight, coming_at_start, enters}
use Rattle.frame_reader.proofs.reader.Reader.enter.Goals as goal

pub returns-clause-parsed : goal.returns-clause-parsed
returns-clause-parsed c =
    let r = c.args.self.now in
    let some = c.requires.header.some in
    let within = c.requires.header.within in
    let before : weight c.args.self.now.state ≡ 1 = ap weight c.requires.state in (
      λ more. coming_at_start c.args.self.now.max_message c.args.self.now.state c.args.open_kind c.args.self.now.message.items (raw_of c.args.self.now ++ more) c.requires.state
          ∙ enters c.args.self.now.max_message c.args.open_kind c.args.self.now.message.items c.go_on_with.new.message.items c.args.self.now.raw.items c.args.self.now.start c.args.header c.args.kind c.new.result
          c.requires.header c.requires.kind c.go_on_with.ensures.items c.new.ensures.is_final c.new.ensures.left c.new.ensures.key c.new.ensures.place more,
      omega (arith, length-drop c.args.self.now.start c.args.self.now.raw.items, length-drop (c.args.self.now.start + c.args.header.length) c.args.self.now.raw.items),
      refl,
    )
