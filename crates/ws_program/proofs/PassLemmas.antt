-- Octets that pass through those held: a front is written, and the rest is held.
use Rattle.ws_program.proofs.Below.{◌≡◌, ℕ, List, [], ◌++◌, Option, None, Some, sym, ap, subst, ◌∙◌, append_assoc, append-nil, Appends-nil, Appends-trans, TellsAlike, AppendsFront, Passes}

pub tells_alike_same : (told : Option (List ℕ)) → TellsAlike told told
tells_alike_same None = tt
tells_alike_same (Some octets) = tt

pub tells_alike_unmoved : (old new : Option (List ℕ)) → new ≡ old → TellsAlike old new
tells_alike_unmoved old new same = subst (TellsAlike old) (sym same) (tells_alike_same old)

-- ---- what passes

pub passes_nothing : (written : Option (List ℕ)) (held : List ℕ) → Passes written written held held []
passes_nothing written held = ([], Appends-nil written, append-nil held)

pub passes_then : (w v u : Option (List ℕ)) (held mid held' first second : List ℕ) → Passes w v held mid first → Passes v u mid held' second
    → Passes w u held held' (first ++ second)
passes_then w v u held mid held' first second (sent, wrote, split) (sent', wrote', split') = (
  sent ++ sent',
  Appends-trans w v u sent sent' wrote wrote',
  sym (append_assoc held first second) ∙ ap (λ l. l ++ second) split ∙ append_assoc sent mid second ∙ ap (λ l. sent ++ l) split' ∙ sym (append_assoc sent sent' held'),
)

-- ---- a front is written

pub front_of_more : (written written' : Option (List ℕ)) (octets more : List ℕ) → AppendsFront written written' octets → AppendsFront written written' (octets ++ more)
front_of_more written written' octets more (taken, rest, split, wrote) =
    (taken, rest ++ more, ap (λ l. l ++ more) split ∙ append_assoc taken rest more, wrote)

pub front_behind : (w v u : Option (List ℕ)) (held mid first second : List ℕ) → Passes w v held mid first → AppendsFront v u (mid ++ second)
    → AppendsFront w u (held ++ (first ++ second))
front_behind w v u held mid first second (sent, wrote, split) (taken, rest, split', wrote') = (
  sent ++ taken,
  rest,
  sym (append_assoc held first second) ∙ ap (λ l. l ++ second) split ∙ append_assoc sent mid second ∙ ap (λ l. sent ++ l) split' ∙ sym (append_assoc sent taken rest),
  Appends-trans w v u sent taken wrote wrote',
)
