use Rattle.mem_net.proofs.All.{◌≡◌, ◌<◌, ◌∙◌, ap, arith, length, take, take-length, arrivals, new_links, starts}
use Rattle.mem_net.proofs.mem_net.MemNet.new.Goals as goal

pub invariant_of-result : goal.invariant_of-result
invariant_of-result c =
    let acts = c.args.schedule in
    let same : length c.acts-done-end.result.now ≡ length acts = ap length c.acts-done-end.ensures in
    let few : length acts < 18446744073709551616 = omega arith in
    let test = c.acts-test.false in
    let end = c.acts.auto.done-end in
    let done : c.acts.done ≡ length acts = omega arith in
    let all : take c.acts.done acts ≡ acts = ap (λ n. take n acts) done ∙ take-length acts in
    let numbers : c.acts.numbers.items ≡ arrivals acts = c.acts.invariant.0 ∙ ap arrivals all in
    let links : c.acts.links.items ≡ new_links acts = c.acts.invariant.1 ∙ ap new_links all in
    rw (numbers, links) (starts acts few c.requires)
