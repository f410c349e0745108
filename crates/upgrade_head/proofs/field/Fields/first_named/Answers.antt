use Rattle.upgrade_head.proofs.All.{◌≡◌, ℕ, List, false, length, subst, sym, ◌∙◌, arith, str_eq_ignore_ascii_case, All-rest, IsHeaderWithin, header_bytes, one_more}
use Rattle.upgrade_head.proofs.field.Fields.first_named.Goals as goal

pub fields-preserved : goal.fields-preserved
fields-preserved c =
    let name = c.args.name.now in
    let head = c.args.self.head.now in
    let cut = c.in-Some.ensures.cases in
    let other = subst (λ (xs : List ℕ). str_eq_ignore_ascii_case xs name ≡ false) c.of.ensures (sym c.is_same.ensures ∙ c.if-is_same.false) in
    record {
      within = All-rest (IsHeaderWithin (length head)) _ _ c.fields.rest.now cut.0 c.fields.invariant.within;
      same = c.fields.invariant.same ∙ one_more name (header_bytes head) _ _ c.fields.rest.now cut.0 other;
      fewer = omega (arith, cut.1, c.fields.invariant.fewer);
    }
