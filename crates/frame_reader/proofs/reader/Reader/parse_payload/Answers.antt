use Rattle.frame_reader.proofs.All.{◌++◌, ◌∙◌, ap, arith, refl, not, is_front, middle_of, raw_of, coming_in_frame, text_fails}
use Rattle.frame_reader.proofs.reader.Reader.parse_payload.Goals as goal

pub returns-in-Bad-clause-parsed : goal.returns-in-Bad-clause-parsed
returns-in-Bad-clause-parsed c = record {
  tells = λ more.
      c.take_payload-text.ensures.tells more
      ∙ coming_in_frame c.take_payload-text.new.self.max_message c.take_payload-text.new.self.state c.args.kind c.take_payload-text.result.0 c.take_payload-text.new.self.message.items (raw_of c.take_payload-text.new.self ++ more) c.take_payload-text.ensures.state
      ∙ text_fails c.take_payload-text.new.self.max_message (middle_of c.args.kind c.take_payload-text.result.0 c.take_payload-text.new.self.message.items) (raw_of c.take_payload-text.new.self ++ more)
      (c.take_payload-text.ensures.text ∙ ap (λ t. not (is_front t)) c.in-Bad.is);
  lent = omega arith;
  ended = refl;
}
