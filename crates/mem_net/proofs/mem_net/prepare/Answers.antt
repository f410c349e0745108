use Rattle.mem_net.proofs.All.{◌≡◌, ◌++◌, ◌∷◌, [], refl, sym, ap, ◌∙◌, arith, length, take, slice_set, LinkState, arrivals, new_links, sound_rises, read_at, sound_take, sends_arrived, place_made, links_arrive, links_send}
use Rattle.link_trait.specs.declared.act.Act.TheVariants as act
use Rattle.mem_net.proofs.mem_net.prepare.Goals as goal

pub find-requires : goal.find-requires
find-requires c = rw (c.deref.ensures.value, c.requires.numbers) (sound_rises (take c.args.done c.args.acts.now) (sound_take c.args.done c.args.acts.now c.requires.sound))

pub unreachable-requires : goal.unreachable-requires
unreachable-requires c =
    let at = read_at c.args.acts.now c.args.acts.now c.args.done c.index-acts-done.result (act.Octets c.in-Octets.conn c.in-Octets.octets) refl c.requires.within c.index-acts-done.is c.in-Octets.is in
    let come = sends_arrived c.args.acts.now c.args.done c.in-Octets.conn.0 c.in-Octets.octets c.requires.sound at in
    let numbers : c.deref.result.now ≡ arrivals (take c.args.done c.args.acts.now) = c.deref.ensures.value ∙ c.requires.numbers in
    let none = rw numbers at c.in_default-find.ensures.none in
    cc

pub index_mut-link-requires : goal.index_mut-link-requires
index_mut-link-requires c =
    let numbers : c.deref.result.now ≡ arrivals (take c.args.done c.args.acts.now) = c.deref.ensures.value ∙ c.requires.numbers in
    let place = rw numbers at c.in-Some.ensures.some in
    let within = place_made (take c.args.done c.args.acts.now) c.in-Some.place c.in-Octets.conn.0 place in
    let long = ap length c.requires.links in
    let ok = c.args.links.now.ok in
    omega arith

pub returns-in_ok-push-in-Arrive-2-clause-links : goal.returns-in_ok-push-in-Arrive-2-clause-links
returns-in_ok-push-in-Arrive-2-clause-links c =
    let at = read_at c.args.acts.now c.args.acts.now c.args.done c.index-acts-done.result (act.Arrive c.in-Arrive.conn c.in-Arrive.credit) refl c.requires.within c.index-acts-done.is c.in-Arrive.is in
    c.in_ok-push-in-Arrive-2.ensures.items ∙ ap (λ l. l ++ c.new.result ∷ []) c.requires.links ∙ ap (λ l. new_links (take c.args.done c.args.acts.now) ++ l ∷ []) c.new.ensures
    ∙ sym (links_arrive c.args.acts.now c.args.done c.in-Arrive.conn.0 c.in-Arrive.credit c.requires.sound at)

pub returns-in_ok-sends-in-Octets-clause-links : goal.returns-in_ok-sends-in-Octets-clause-links
returns-in_ok-sends-in-Octets-clause-links c =
    let at = read_at c.args.acts.now c.args.acts.now c.args.done c.index-acts-done.result (act.Octets c.in-Octets.conn c.in-Octets.octets) refl c.requires.within c.index-acts-done.is c.in-Octets.is in
    let numbers : c.deref.result.now ≡ arrivals (take c.args.done c.args.acts.now) = c.deref.ensures.value ∙ c.requires.numbers in
    let place = rw numbers at c.in-Some.ensures.some in
    let old : LinkState = c.index_mut-link.result.now in
    let link = rw c.requires.links at c.index_mut-link.ensures.value in
    let sent : c.sends.new.self ≡ record old { coming = old.coming ++ c.in-Octets.octets } = c.in_ok-sends-in-Octets.ensures.sends ∙ ap (λ os. record old { coming = old.coming ++ os }) c.octets.ensures in
    ap (λ l. slice_set l c.in-Some.place c.sends.new.self) c.requires.links ∙ ap (slice_set (new_links (take c.args.done c.args.acts.now)) c.in-Some.place) sent
    ∙ sym (links_send c.args.acts.now c.args.done c.in-Octets.conn.0 c.in-Some.place c.in-Octets.octets old c.requires.sound at place link)
