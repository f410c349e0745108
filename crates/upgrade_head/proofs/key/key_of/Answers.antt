use Rattle.upgrade_head.proofs.All.{refl, ◌∙◌, whole_chunk, key_is}
use Rattle.upgrade_head.proofs.key.key_of.Goals as goal

pub returns : goal.returns
returns c =
    let value = c.in_ok-value.value.now in
    whole_chunk c.first_chunk.result value 24 c.first_chunk.ensures.cases (c.if-not-is_key.ensures.size refl)
    ∙ key_is value _ c.in_ok-value.ensures c.if-not-is_key.ensures.value
