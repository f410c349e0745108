use Rattle.frame_reader.proofs.All.{◌≤◌, ◌++◌, ◌∙◌, [], ap, subst, arith, refl, length, List, ℕ, failed, more, ends, raw_of, is_end, begun_of, coming_at_start, refused_at, awaited_at, same_front_at}
use Rattle.frame_reader.proofs.reader.Reader.parse_header.Goals as goal

pub returns-in-More-clause-parsed : goal.returns-in-More-clause-parsed
returns-in-More-clause-parsed c =
    let said = c.in-More.ensures (begun_of c.args.open_kind c.args.self.now.message.items) c.message_state-message.ensures.describes in (
      λ more. refl,
      record {
        all = coming_at_start c.args.self.now.max_message c.args.self.now.state c.args.open_kind c.args.self.now.message.items (raw_of c.args.self.now ++ []) c.requires.state
            ∙ awaited_at c.args.self.now.max_message (begun_of c.args.open_kind c.args.self.now.message.items) (raw_of c.args.self.now)
            (same_front_at c.message_state-message.result.max_message c.args.self.now.max_message (begun_of c.args.open_kind c.args.self.now.message.items) c.raw.result.now (raw_of c.args.self.now) more c.message_state-message.ensures.max c.raw.ensures.raw said.0);
        few = subst (λ (l : List ℕ). length l ≤ 130) c.raw.ensures.raw (omega (arith, said.1));
        goes_on = ap is_end c.requires.state;
      },
    )

pub returns-in-Refused-clause-parsed : goal.returns-in-Refused-clause-parsed
returns-in-Refused-clause-parsed c =
    let said = c.in-Refused.ensures (begun_of c.args.open_kind c.args.self.now.message.items) c.message_state-message.ensures.describes in
    record {
      tells = λ behind_it.
          coming_at_start c.args.self.now.max_message c.args.self.now.state c.args.open_kind c.args.self.now.message.items (raw_of c.args.self.now ++ behind_it) c.requires.state
          ∙ refused_at c.args.self.now.max_message (begun_of c.args.open_kind c.args.self.now.message.items) (raw_of c.args.self.now) c.in-Refused.code
          (same_front_at c.message_state-message.result.max_message c.args.self.now.max_message (begun_of c.args.open_kind c.args.self.now.message.items) c.raw.result.now (raw_of c.args.self.now) (ends (failed c.in-Refused.code)) c.message_state-message.ensures.max c.raw.ensures.raw said)
          behind_it;
      lent = omega arith;
      ended = refl;
    }
