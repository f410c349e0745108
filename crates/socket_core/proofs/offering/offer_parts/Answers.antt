use Rattle.socket_core.proofs.All.{rules, refl, ◌≡◌, ◌≢◌, ◌<◌, ◌≤◌, ◌+◌, ℕ, List, Option, Some, None, [], length, sym, ap, ◌∙◌, subst, arith, Offers, OffersParts, parts_back, parts_first, parts_both, parts_failed, parts_failed_last, none_is}
use Rattle.socket_core.proofs.offering.offer_parts.Goals as goal
use Rattle.socket_core.proofs.offering.offer_parts.Goals.{then-count-front-via-then-count-front, then-count-front-via-else-count-front+then-is_empty-2}

pub returns-then-is_empty : goal.returns-then-is_empty
returns-then-is_empty g c =
    let none : length c.args.front.now ≡ 0 = search rules in
    record { parts = parts_back c.offer.result c.args.conn.0 c.args.front.now c.args.back.now _ _ _ _ (none_is c.args.front.now none) c.offer.ensures.offers }

pub returns-in_err-count : goal.returns-in_err-count
returns-in_err-count g c =
    let failed : c.from_residual.result ≡ None = search rules in
    record {
      parts = subst (λ (z : Option ℕ). OffersParts z c.args.conn.0 c.args.front.now c.args.back.now (g.N.Net.state c.args.out.now.net) (g.N.Net.state c.offer-2.new.out.net) (g.W.Watch.told c.args.out.now.watch) (g.W.Watch.told c.offer-2.new.out.watch)) (sym failed)
          (parts_failed c.args.conn.0 c.args.front.now c.args.back.now _ _ _ _ c.in_err-count.ensures.offers);
    }

pub returns-then-count-front : goal.returns-then-count-front
returns-then-count-front g c =
    elim c.then-count-front.branch [
      | then-count-front-via-then-count-front w ↦ record { parts = parts_first c.args.conn.0 c.in_ok-count.count c.args.front.now c.args.back.now _ _ _ _ (λ _. let less = w.if-count-front in search rules) c.in_ok-count.ensures.offers }
      | then-count-front-via-else-count-front+then-is_empty-2 w ↦
          let none : length c.args.back.now ≡ 0 = (let empty = w.if-is_empty-2 in let is = w.is_empty-else-count-front in search rules) in
          record { parts = parts_first c.args.conn.0 c.in_ok-count.count c.args.front.now c.args.back.now _ _ _ _ (λ some. absurd (some (none_is c.args.back.now none))) c.in_ok-count.ensures.offers }
    ]

pub returns-in_err-more : goal.returns-in_err-more
returns-in_err-more g c =
    let within : c.in_ok-count.count ≤ length c.args.front.now = c.in_ok-count.ensures.offers.0.within in
    let all : c.in_ok-count.count ≡ length c.args.front.now = search rules in
    let first : Offers (Some (length c.args.front.now)) c.args.conn.0 c.args.front.now (g.N.Net.state c.args.out.now.net) (g.N.Net.state c.offer-2.new.out.net) (g.W.Watch.told c.args.out.now.watch) (g.W.Watch.told c.offer-2.new.out.watch) =
    subst (λ (z : ℕ). Offers (Some z) c.args.conn.0 c.args.front.now (g.N.Net.state c.args.out.now.net) (g.N.Net.state c.offer-2.new.out.net) (g.W.Watch.told c.args.out.now.watch) (g.W.Watch.told c.offer-2.new.out.watch)) all c.in_ok-count.ensures.offers in
    let failed : c.from_residual-in_err-more.result ≡ None = search rules in
    record {
      parts = subst (λ (z : Option ℕ). OffersParts z c.args.conn.0 c.args.front.now c.args.back.now (g.N.Net.state c.args.out.now.net) (g.N.Net.state c.offer-3.new.out.net) (g.W.Watch.told c.args.out.now.watch) (g.W.Watch.told c.offer-3.new.out.watch)) (sym failed)
          (parts_failed_last c.args.conn.0 c.args.front.now c.args.back.now _ _ _ _ _ _ first c.in_err-more.ensures.offers);
    }

pub returns : goal.returns
returns g c =
    let within : c.in_ok-count.count ≤ length c.args.front.now = c.in_ok-count.ensures.offers.0.within in
    let all : c.in_ok-count.count ≡ length c.args.front.now = search rules in
    let first : Offers (Some (length c.args.front.now)) c.args.conn.0 c.args.front.now (g.N.Net.state c.args.out.now.net) (g.N.Net.state c.offer-2.new.out.net) (g.W.Watch.told c.args.out.now.watch) (g.W.Watch.told c.offer-2.new.out.watch) =
    subst (λ (z : ℕ). Offers (Some z) c.args.conn.0 c.args.front.now (g.N.Net.state c.args.out.now.net) (g.N.Net.state c.offer-2.new.out.net) (g.W.Watch.told c.args.out.now.watch) (g.W.Watch.told c.offer-2.new.out.watch)) all c.in_ok-count.ensures.offers in
    record {
      parts = subst (λ (z : ℕ). OffersParts (Some (z + c.in_ok-more.more)) c.args.conn.0 c.args.front.now c.args.back.now (g.N.Net.state c.args.out.now.net) (g.N.Net.state c.offer-3.new.out.net) (g.W.Watch.told c.args.out.now.watch) (g.W.Watch.told c.offer-3.new.out.watch)) (sym all)
          (parts_both c.args.conn.0 c.in_ok-more.more c.args.front.now c.args.back.now _ _ _ _ _ _ first c.in_ok-more.ensures.offers);
    }
