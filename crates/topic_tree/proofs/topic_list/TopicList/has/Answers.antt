use Rattle.topic_tree.proofs.All.{◌∙◌, ap, sym, list_any, bytes_eq, any_mapped}
use Rattle.topic_tree.proofs.topic_list.TopicList.has.Goals as goal

pub returns : goal.returns
returns c =
    rw (← c.self.view_is) (c.is_among.ensures ∙ ap (list_any (λ name. bytes_eq c.args.topic.now name.items)) c.deref.ensures.value ∙ sym (any_mapped (bytes_eq c.args.topic.now) (λ name. name.items) c.self.inside.topics.items))
