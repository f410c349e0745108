use Rattle.topic_tree.proofs.All.{rules, ◌∙◌, sym, ap, map, not, bytes_eq, filter_same, filter_mapped}
use Rattle.topic_tree.proofs.topic_list.TopicList.remove.Goals as goal

pub returns : goal.returns
returns c =
    let kept = filter_same _ (λ name. not (bytes_eq c.args.topic.now name.items)) _ (λ x b f' t. search rules) _ _ c.retain.ensures.filtered in
    rw (← c.self.view_is) (ap (map (λ name. name.items)) kept ∙ sym (filter_mapped (λ topic. not (bytes_eq c.args.topic.now topic)) (λ name. name.items) c.self.inside.topics.items))
