use Rattle.hub_tellings.proofs.All.{rules, answers_always, searched_rows}
use Rattle.hub_tellings.proofs.tellings.search.Goals as goal

pub returns : goal.returns
returns c =
    let facts = c.binary_search_by_key.ensures in
    let by_key = facts.position (λ row. row.conn) (answers_always _ _ _ (λ f a r g called. search rules)) in
    searched_rows _ c.requires c.args.conn.0 _ facts.bound by_key
