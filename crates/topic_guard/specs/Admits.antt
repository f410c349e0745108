-- Which topics a rule admits.
use Rattle.std.specs.Prelude.{ℕ, List, Bool, true, not, nat_eq}
use Rattle.std.specs.List.{starts_with}
use Rattle.topic_guard.specs.declared.rule.TopicRule.{TopicRule}
use Rattle.topic_guard.specs.declared.rule.TopicRule.TheVariants.{All, Only, Except}

-- the rule admits the topic: every one, only those whose text begins with the name, or all except those
abbrev pub admits : TopicRule → List ℕ → Bool
admits All topic = true
admits (Only name) topic = starts_with nat_eq topic name.items
admits (Except name) topic = not (starts_with nat_eq topic name.items)
